-- Readers that go by the pieces that they take and the next one: the words by which each rule of the grammar is said once more.
use Rattle.std.proofs.Common.{refl, ℕ, Bool, true, false, cond, List, [], ◌∷◌, length, Option, Some}
use Rattle.sql_ast.specs.declared.expressions.Expr.{Expr}
use Rattle.sql_ast.specs.declared.signs.Sign.{Sign}
use Rattle.sql_ast.specs.declared.signs.Sign.TheVariants as sign
use Rattle.sql_ast.specs.declared.words.Keyword.{Keyword}
use Rattle.sql_ast.specs.declared.pieces.Piece.{Piece}
use Rattle.sql_grammar.specs.Expressions.{any}
use Rattle.sql_grammar.specs.Pieces.{is_named, is_sign, is_word, literal_of, string_of, whole_of}
use Rattle.sql_grammar.specs.Reading.{Reader, ◌>>=◌, ◌<$>◌, begins, comma, eat, eat_keyword, eat_word, expect, expect_keyword, expect_word, list, literal, name, one, optional_name, pure, seen, sees, sees_name, sees_word, skip, stop, string, whole}
use Rattle.sql_laws.proofs.Local as local
use Rattle.sql_laws.proofs.Local.{Local, Short, chain_from_local, link_local, link_takes, one_local, stays, takes}
use Rattle.sql_laws.proofs.LocalRules as rules

pub record IsLocal (A : Type 0) (reader : Reader A) : Type 0 where
  pub runs : Local A reader

pub bind : {A B : Type 0} {reader : Reader A} {next : A → Reader B} → IsLocal A reader → ((x : A) → IsLocal B (next x)) → IsLocal B (reader >>= next)
bind {A} {B} {reader} {next} first goes = record { runs = local.after A B reader next first.runs (λ x. (goes x).runs) }

pub gives : {A : Type 0} {x : A} → IsLocal A (pure x)
gives {A} {x} = record { runs = stays A x }

pub halts : {A : Type 0} → IsLocal A stop
halts {A} = record { runs = local.stops A }

pub skips : IsLocal (Unit {0}) skip
skips = record { runs = takes (Unit {0}) tt }

pub chosen : {A : Type 0} {one_ two : Reader A} (b : Bool) → IsLocal A one_ → IsLocal A two → IsLocal A (cond b one_ two)
chosen true is other = is
chosen false is other = other

pub eats : (s : Sign) → IsLocal Bool (eat s)
eats s = record { runs = rules.eat_local s }

pub expects : (s : Sign) → IsLocal (Unit {0}) (expect s)
expects s = record { runs = rules.expect_local s }

pub eats_keyword : (w : Keyword) → IsLocal Bool (eat_keyword w)
eats_keyword w = record { runs = rules.eat_keyword_local w }

pub expects_keyword : (w : Keyword) → IsLocal (Unit {0}) (expect_keyword w)
expects_keyword w = record { runs = rules.expect_keyword_local w }

pub eats_word : (n : List ℕ) → IsLocal Bool (eat_word n)
unfolding sees_word
eats_word n = record { runs = local.eats Bool (is_word n) true false }

pub expects_word : (n : List ℕ) → IsLocal (Unit {0}) (expect_word n)
unfolding sees_word
expects_word n = record { runs = local.wants (Unit {0}) (is_word n) tt }

pub views : {A : Type 0} (view : Piece → Option A) → IsLocal A (one view)
views {A} view = record { runs = one_local A view }

pub name_one : IsLocal (List ℕ) name
name_one = record { runs = rules.name_local }

pub whole_one : IsLocal ℕ whole
unfolding whole
whole_one = views whole_of

pub string_one : IsLocal (List ℕ) string
unfolding string
string_one = views string_of

pub literal_one : IsLocal _ literal
unfolding literal
literal_one = views literal_of

pub mapped : {A B : Type 0} {reader : Reader A} (f : A → B) → IsLocal A reader → IsLocal B (f <$> reader)
mapped f is = bind is (λ x. gives)

-- by the next piece
pub ahead : {A X : Type 0} (view : Piece → Option X) (reader : Option X → Reader A) → ((o : Option X) → IsLocal A (reader o)) → IsLocal A (λ ts. reader (seen view ts) ts)
ahead {A} {X} view reader each = record { runs = local.ahead A (Option X) (seen view) reader (λ t ts us. refl) (λ o. (each o).runs) }

pub by_first : {A : Type 0} {one_ two : Reader A} (test : Piece → Bool) → IsLocal A one_ → IsLocal A two → IsLocal A (λ ts. cond (begins test ts) (one_ ts) (two ts))
by_first {A} {one_} {two} test is other =
    record { runs = local.ahead A Bool (begins test) (λ b ts. cond b (one_ ts) (two ts)) (λ t ts us. refl) (elim [ true ↦ is.runs | false ↦ other.runs ]) }

pub perhaps_name : IsLocal (Option (List ℕ)) optional_name
unfolding optional_name sees_name
perhaps_name = by_first is_named (mapped (λ x. Some x) name_one) gives

pub any_one : IsLocal Expr any
unfolding any
any_one = record { runs = rules.expression_local 65 }

pub listed : {A : Type 0} {item : Reader A} → IsLocal A item → IsLocal (List A) (list item)
unfolding list sees
listed {A} {item} is =
    bind is (λ x. record { runs = chain_from_local A (comma item) (link_local A (is_sign sign.Comma) item is.runs) (link_takes A (is_sign sign.Comma) item is.runs) refl (x ∷ []) })

pub short : {A : Type 0} {reader : Reader A} → IsLocal A reader → (ts : List Piece) → Short A (length ts) (reader ts)
short {A} {reader} is ts = local.short A reader is.runs ts
