-- Readers that give what a test asks, of pieces that a text gives, and leave such pieces: the words by which each rule of the grammar is said once more.
use Rattle.std.proofs.Common.{◌≡◌, ◌∙◌, sym, ap, refl, ℕ, zero, suc, Bool, true, false, cond, List, [], ◌∷◌, ◌++◌, length, drop, Option, Some, None, Ok, Err, arith}
use Rattle.std.specs.Prelude.{◌-◌, ◌^◌}
use Rattle.std.specs.List.{list_all}
use Rattle.std.proofs.lemmas.Bool.{and_from, and_parts, false≢true, le-leb, leb-true}
use Rattle.std.proofs.lemmas.List.Folds.{list_all-append}
use Rattle.sql_ast.specs.declared.expressions.Expr.{Expr}
use Rattle.sql_ast.specs.declared.places.Last.TheVariants.{Operand, Other, UnaryMinus}
use Rattle.sql_ast.specs.declared.signs.Sign.{Sign}
use Rattle.sql_ast.specs.declared.signs.Sign.TheVariants as sign
use Rattle.sql_ast.specs.declared.words.Keyword.{Keyword}
use Rattle.sql_ast.specs.declared.words.Keyword.TheVariants as word
use Rattle.sql_ast.specs.declared.pieces.Piece.{Piece}
use Rattle.sql_ast.specs.declared.pieces.Piece.TheVariants as piece
use Rattle.sql_grammar.specs.Pieces.{is_keyword, is_sign, is_word, name_of, same_sign, string_of, whole_of}
use Rattle.sql_grammar.specs.Expressions.{any, expression}
use Rattle.sql_grammar.specs.Reading.{Outcome, Reader, ◌>>=◌, ◌<$>◌, and_then, behind, chain_from, eat, eat_keyword, eat_word, expect, expect_keyword, expect_word, list, name, one, optional_name, pure, seen, sees, sees_keyword, sees_name, sees_word, stop, string, taken, whole}
use Rattle.tuple_codec.specs.Texts.{is_utf8}
use Rattle.sql_laws.specs.Spelling.{is_tree, mark}
use Rattle.sql_laws.proofs.Sound.{Gives as GivesTree, expression_sound}
use Rattle.sql_laws.proofs.Growth.{IsTree}
use Rattle.sql_laws.specs.Written.{after_piece, are_given, is_given, is_name, is_written}
use Rattle.sql_laws.proofs.Given.{Gave, operand}
use Rattle.sql_laws.proofs.GivenTests.{expression_given}
use Rattle.sql_laws.proofs.WrittenNodes.{IsWritten}
use Rattle.sql_laws.specs.Sound.{is_expr, is_filled, is_perhaps}

-- pieces that a text gives, where an operand may begin; behind each piece but a minus they may be read so
abbrev pub Fine : List Piece → Type 0
Fine ts = are_given Other ts ≡ true

widens : (ts : List Piece) → Fine ts → are_given UnaryMinus ts ≡ true
widens [] fine = refl
widens (piece.Whole value ∷ ts) fine =
    let parts = and_parts (is_given Other (piece.Whole value)) (are_given Operand ts) fine in
    and_from (is_given UnaryMinus (piece.Whole value)) (are_given Operand ts) (le-leb value (2 ^ 63) (omega (arith, leb-true value (2 ^ 63 - 1) parts.0))) parts.1
widens (piece.Sign sign.Minus ∷ ts) fine = fine
widens (t ∷ ts) fine = fine

pub loosens : (ts : List Piece) → are_given Operand ts ≡ true → Fine ts
loosens [] fine = refl
loosens (piece.Sign sign.Minus ∷ ts) fine = widens ts fine
loosens (t ∷ ts) fine = fine

abbrev pub IsMinus : Piece → Type 0
IsMinus t = t ≡ mark sign.Minus

pub behind_piece : (t : Piece) (ts : List Piece) → Fine (t ∷ ts) → (IsMinus t → ⊥) → Fine ts
behind_piece (piece.Sign sign.Minus) ts fine not = absurd (not refl)
behind_piece (piece.Sign sign.CloseParenthesis) ts fine not = loosens ts fine
behind_piece (piece.Sign s) ts fine not = fine
behind_piece (piece.Keyword word.True) ts fine not = loosens ts fine
behind_piece (piece.Keyword word.False) ts fine not = loosens ts fine
behind_piece (piece.Keyword word.Null) ts fine not = loosens ts fine
behind_piece (piece.Keyword w) ts fine not = fine
behind_piece t ts fine not = loosens ts (and_parts (is_given Other t) (are_given Operand ts) fine).1

abbrev pub Gives : (A : Type 0) → (A → Bool) → Outcome A → Type 0
Gives A test (Ok read) = (test read.0 ≡ true) × Fine read.1
Gives A test (Err left) = Unit {0}

-- what is read passes the test, and what is left is fine
pub record Sound (A : Type 0) (test : A → Bool) (reader : Reader A) : Type 0 where
  pub runs : (ts : List Piece) → Fine ts → Gives A test (reader ts)

abbrev pub anything : {A : Type 0} → A → Bool
anything x = true

gives_next : (A B : Type 0) (test : A → Bool) (then_ : B → Bool) (o : Outcome A) (next : A → Reader B) → Gives A test o → ((x : A) → test x ≡ true → Sound B then_ (next x)) → Gives B then_ (and_then o next)
gives_next A B test then_ (Ok read) next gave goes = (goes read.0 gave.0).runs read.1 gave.1
gives_next A B test then_ (Err left) next gave goes = tt

pub bind : {A B : Type 0} {test : A → Bool} {then_ : B → Bool} {reader : Reader A} {next : A → Reader B} → Sound A test reader → ((x : A) → test x ≡ true → Sound B then_ (next x)) → Sound B then_ (reader >>= next)
bind {A} {B} {test} {then_} {reader} {next} sound goes = record { runs = λ ts fine. gives_next A B test then_ (reader ts) next (sound.runs ts fine) goes }

pub gives : {A : Type 0} {test : A → Bool} {x : A} → test x ≡ true → Sound A test (pure x)
gives is = record { runs = λ ts fine. (is, fine) }

pub chosen : {A : Type 0} {test : A → Bool} {one_ two : Reader A} (b : Bool) → Sound A test one_ → Sound A test two → Sound A test (cond b one_ two)
chosen true is other = is
chosen false is other = other

-- ---- signs and words

is_minus_false : (s : Sign) (t : Piece) → is_sign s (mark sign.Minus) ≡ false → is_sign s t ≡ true → IsMinus t → ⊥
is_minus_false s t other is minus = false≢true (sym other ∙ ap (is_sign s) (sym minus) ∙ is)

is_keyword_false : (w : Keyword) (t : Piece) → is_keyword w t ≡ true → IsMinus t → ⊥
is_keyword_false w t is minus = false≢true (ap (is_keyword w) (sym minus) ∙ is)

pub is_word_false : (n : List ℕ) (t : Piece) → is_word n t ≡ true → IsMinus t → ⊥
is_word_false n t is minus = false≢true (ap (is_word n) (sym minus) ∙ is)

-- a reader of the next piece by a test that no minus passes
module _ (test : Piece → Bool) (not_minus : (t : Piece) → test t ≡ true → IsMinus t → ⊥) where
  goes_by : (t : Piece) (ts : List Piece) → Fine (t ∷ ts) → Gives Bool anything (cond (test t) (Ok (true, ts)) (Ok (false, t ∷ ts)))
  goes_by t ts fine =
      elim (test t) as (λ b. test t ≡ b → Gives Bool anything (cond b (Ok (true, ts)) (Ok (false, t ∷ ts)))) [
        | true ↦ λ is. (refl, behind_piece t ts fine (not_minus t is))
        | false ↦ λ is. (refl, fine)
      ] refl

  wants_by : (t : Piece) (ts : List Piece) → Fine (t ∷ ts) → Gives (Unit {0}) anything (cond (test t) (Ok (tt, ts)) (Err (length (t ∷ ts))))
  wants_by t ts fine =
      elim (test t) as (λ b. test t ≡ b → Gives (Unit {0}) anything (cond b (Ok (tt, ts)) (Err (length (t ∷ ts))))) [
        | true ↦ λ is. (refl, behind_piece t ts fine (not_minus t is))
        | false ↦ λ is. tt
      ] refl

module _ (s : Sign) (other : is_sign s (mark sign.Minus) ≡ false) where
  eats_at : (ts : List Piece) → Fine ts → Gives Bool anything (eat s ts)
  unfolding sees
  eats_at [] fine = (refl, fine)
  eats_at (t ∷ ts) fine = goes_by (is_sign s) (λ u is. is_minus_false s u other is) t ts fine

  pub eats : Sound Bool anything (eat s)
  eats = record { runs = eats_at }

  expects_at : (ts : List Piece) → Fine ts → Gives (Unit {0}) anything (expect s ts)
  unfolding sees
  expects_at [] fine = tt
  expects_at (t ∷ ts) fine = wants_by (is_sign s) (λ u is. is_minus_false s u other is) t ts fine

  pub expects : Sound (Unit {0}) anything (expect s)
  expects = record { runs = expects_at }

module _ (w : Keyword) where
  eats_keyword_at : (ts : List Piece) → Fine ts → Gives Bool anything (eat_keyword w ts)
  unfolding sees_keyword
  eats_keyword_at [] fine = (refl, fine)
  eats_keyword_at (t ∷ ts) fine = goes_by (is_keyword w) (is_keyword_false w) t ts fine

  pub eats_keyword : Sound Bool anything (eat_keyword w)
  eats_keyword = record { runs = eats_keyword_at }

  expects_keyword_at : (ts : List Piece) → Fine ts → Gives (Unit {0}) anything (expect_keyword w ts)
  unfolding sees_keyword
  expects_keyword_at [] fine = tt
  expects_keyword_at (t ∷ ts) fine = wants_by (is_keyword w) (is_keyword_false w) t ts fine

  pub expects_keyword : Sound (Unit {0}) anything (expect_keyword w)
  expects_keyword = record { runs = expects_keyword_at }

module _ (n : List ℕ) where
  eats_word_at : (ts : List Piece) → Fine ts → Gives Bool anything (eat_word n ts)
  unfolding sees_word
  eats_word_at [] fine = (refl, fine)
  eats_word_at (t ∷ ts) fine = goes_by (is_word n) (is_word_false n) t ts fine

  pub eats_word : Sound Bool anything (eat_word n)
  eats_word = record { runs = eats_word_at }

  expects_word_at : (ts : List Piece) → Fine ts → Gives (Unit {0}) anything (expect_word n ts)
  unfolding sees_word
  expects_word_at [] fine = tt
  expects_word_at (t ∷ ts) fine = wants_by (is_word n) (is_word_false n) t ts fine

  pub expects_word : Sound (Unit {0}) anything (expect_word n)
  expects_word = record { runs = expects_word_at }

-- ---- the next piece by a view

is_given_first : (t : Piece) (ts : List Piece) → Fine (t ∷ ts) → is_given Other t ≡ true
is_given_first t ts fine = (and_parts (is_given Other t) (are_given (after_piece t Other) ts) fine).0

pub views : {A : Type 0} {test : A → Bool} (view : Piece → Option A) → ((t : Piece) (x : A) → is_given Other t ≡ true → view t ≡ Some x → (test x ≡ true) × (IsMinus t → ⊥)) → Sound A test (one view)
views {A} {test} view such = record { runs = runs_by }
  where
    at : (t : Piece) (ts : List Piece) (o : Option A) → Fine (t ∷ ts) → view t ≡ o → Gives A test (taken o (t ∷ ts))
    at t ts None fine is = tt
    at t ts (Some x) fine is = let found = such t x (is_given_first t ts fine) is in (found.0, behind_piece t ts fine found.1)

    runs_by : (ts : List Piece) → Fine ts → Gives A test (one view ts)
    runs_by [] fine = tt
    runs_by (t ∷ ts) fine = at t ts (view t) fine refl

name_such : (t : Piece) (n : List ℕ) → is_given Other t ≡ true → name_of t ≡ Some n → (is_name n ≡ true) × (IsMinus t → ⊥)
name_such (piece.Word m) n given is = (ap is_name (sym (some_is m n is)) ∙ given, λ minus. cc)
  where
    some_is : (m n : List ℕ) → Path (Option (List ℕ)) (Some m) (Some n) → m ≡ n
    some_is m n e = cc
name_such (piece.Quoted m) n given is = let same : m ≡ n = cc in (ap is_name (sym same) ∙ given, λ minus. cc)
name_such t n given is = absurd (cc)

pub names_one : Sound (List ℕ) is_name name
unfolding name
names_one = views name_of name_such

whole_such : (t : Piece) (n : ℕ) → is_given Other t ≡ true → whole_of t ≡ Some n → (anything n ≡ true) × (IsMinus t → ⊥)
whole_such (piece.Whole value) n given is = (refl, λ minus. cc)
whole_such t n given is = absurd (cc)

pub wholes_one : Sound ℕ anything whole
unfolding whole
wholes_one = views whole_of whole_such

string_such : (t : Piece) (n : List ℕ) → is_given Other t ≡ true → string_of t ≡ Some n → (is_utf8 n ≡ true) × (IsMinus t → ⊥)
string_such (piece.Text m) n given is = let same : m ≡ n = cc in (ap is_utf8 (sym same) ∙ given, λ minus. cc)
string_such t n given is = absurd (cc)

pub strings_one : Sound (List ℕ) is_utf8 string
unfolding string
strings_one = views string_of string_such

-- by a test on the pieces, whatever they are
pub by_pieces : {A : Type 0} {test : A → Bool} {one_ two : Reader A} (sees_ : List Piece → Bool) → Sound A test one_ → Sound A test two → Sound A test (λ ts. cond (sees_ ts) (one_ ts) (two ts))
by_pieces {A} {test} {one_} {two} sees_ is other = record { runs = λ ts fine. at (sees_ ts) ts fine }
  where
    at : (b : Bool) (ts : List Piece) → Fine ts → Gives A test (cond b (one_ ts) (two ts))
    at true ts fine = is.runs ts fine
    at false ts fine = other.runs ts fine

pub some : {A : Type 0} {test : A → Bool} {reader : Reader A} → Sound A test reader → Sound (Option A) (is_perhaps test) ((λ x. Some x) <$> reader)
some sound = bind sound (λ x is. gives is)

pub perhaps_named : Sound (Option (List ℕ)) (is_perhaps is_name) optional_name
unfolding optional_name
perhaps_named = by_pieces sees_name (some names_one) (gives refl)

-- ---- expressions

pub expressions : (depth : ℕ) → Sound Expr is_expr (expression depth)
expressions depth = record { runs = λ ts fine. at (expression depth ts) (expression_sound depth ts) (expression_given depth ts fine) }
  where
    at : (o : Outcome Expr) → GivesTree Expr IsTree o → Gave Expr IsWritten operand o → Gives Expr is_expr o
    at (Ok read) tree gave = (and_from (is_tree read.0) (is_written read.0) tree gave.0, loosens read.1 gave.1)
    at (Err left) tree gave = tt

pub any_sound : Sound Expr is_expr any
unfolding any
any_sound = expressions 65

-- ---- lists

pub all_added : {A : Type 0} (test : A → Bool) (xs : List A) (x : A) → list_all test xs ≡ true → test x ≡ true → list_all test (xs ++ x ∷ []) ≡ true
all_added test xs x all is = list_all-append test xs (x ∷ []) ∙ rw (all, is) refl

pub filled_added : {A : Type 0} (test : A → Bool) (xs : List A) (x : A) → is_filled test xs ≡ true → test x ≡ true → is_filled test (xs ++ x ∷ []) ≡ true
filled_added test [] x all is = absurd (cc)
filled_added test (y ∷ ys) x all is = all_added test (y ∷ ys) x all is

pub behind_sound : {A : Type 0} {test : A → Bool} {lead : Reader Bool} {item : Reader A} → Sound Bool anything lead → Sound A test item → Sound (Option A) (is_perhaps test) (behind lead item)
behind_sound leads is = bind leads (λ b u. chosen b (some is) (gives refl))

module _ {A : Type 0} {test : A → Bool} {link : Reader (Option A)} (sound : Sound (Option A) (is_perhaps test) link) where
  chain_from_sound : (n : ℕ) (found : List A) → is_filled test found ≡ true → Sound (List A) (is_filled test) (chain_from link n found)
  unfolding chain_from
  chain_from_sound zero found all = gives all
  chain_from_sound (suc n) found all = bind sound (elim [ None ↦ λ is. gives all | Some x ↦ λ is. chain_from_sound n (found ++ x ∷ []) (filled_added test found x all is) ])

pub list_sound : {A : Type 0} {test : A → Bool} {item : Reader A} → Sound A test item → Sound (List A) (is_filled test) (list item)
unfolding list same_sign
list_sound {A} {test} {item} is = bind is (λ x such. record {
  runs = λ ts fine. (chain_from_sound (behind_sound (eats sign.Comma refl) is) (length ts) (x ∷ []) (and_from (test x) true such refl)).runs ts fine;
})

-- ---- what is ahead

pub ahead : {A B : Type 0} {such : A → Bool} {test : B → Bool} (view : Piece → Option A) → ((t : Piece) (x : A) → view t ≡ Some x → (such x ≡ true) × (IsMinus t → ⊥))
    → (by_ : Option A → Reader B) → ((x : A) → such x ≡ true → (ts : List Piece) → Fine (drop 1 ts) → Gives B test (by_ (Some x) ts)) → Sound B test (by_ None)
    → Sound B test (λ ts. by_ (seen view ts) ts)
ahead {A} {B} {such} {test} view views_ by_ goes none = record { runs = runs_by }
  where
    at : (t : Piece) (ts : List Piece) (o : Option A) → Fine (t ∷ ts) → view t ≡ o → Gives B test (by_ o (t ∷ ts))
    at t ts None fine is = none.runs (t ∷ ts) fine
    at t ts (Some x) fine is = let found = views_ t x is in goes x found.0 (t ∷ ts) (behind_piece t ts fine found.1)

    runs_by : (ts : List Piece) → Fine ts → Gives B test (by_ (seen view ts) ts)
    runs_by [] fine = none.runs [] fine
    runs_by (t ∷ ts) fine = at t ts (view t) fine refl

pub weaken : {A : Type 0} {test then_ : A → Bool} {reader : Reader A} → ((x : A) → test x ≡ true → then_ x ≡ true) → Sound A test reader → Sound A then_ reader
weaken {A} {test} {then_} {reader} leads sound = record { runs = λ ts fine. at (reader ts) (sound.runs ts fine) }
  where
    at : (o : Outcome A) → Gives A test o → Gives A then_ o
    at (Ok read) gave = (leads read.0 gave.0, gave.1)
    at (Err left) gave = tt

pub filled_all : {A : Type 0} (test : A → Bool) (xs : List A) → is_filled test xs ≡ true → list_all test xs ≡ true
filled_all test [] all = absurd (cc)
filled_all test (x ∷ xs) all = all

pub stops : {A : Type 0} {test : A → Bool} → Sound A test stop
stops = record { runs = λ ts fine. tt }
