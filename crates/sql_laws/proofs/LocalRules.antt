-- Each rule goes by the pieces that it takes and the next one. (A call shows by two pieces; but a function's word is taken as a name if it isn't called.)
use Rattle.std.proofs.Common.{◌≡◌, ◌∙◌, sym, ap, refl, subst, ℕ, zero, suc, true, false, Bool, cond, List, [], ◌∷◌, ◌++◌, length, drop, Option, Some, None, Ok, Err, inl, inr, arith}
use Rattle.std.proofs.lemmas.List.{append_assoc, length-append}
use Rattle.sql_ast.specs.declared.expressions.Expr.{Expr}
use Rattle.sql_ast.specs.declared.expressions.Expr.TheVariants as e
use Rattle.sql_ast.specs.declared.expressions.Literal.{Literal}
use Rattle.sql_ast.specs.declared.expressions.Term.{Term}
use Rattle.sql_ast.specs.declared.signs.Sign.{Sign}
use Rattle.sql_ast.specs.declared.signs.Sign.TheVariants as sign
use Rattle.sql_ast.specs.declared.words.Keyword.{Keyword}
use Rattle.sql_ast.specs.declared.words.Keyword.TheVariants as word
use Rattle.sql_grammar.specs.declared.heads.Function.{Function}
use Rattle.sql_grammar.specs.declared.heads.Function.TheVariants as function
use Rattle.sql_grammar.specs.declared.heads.Test.{Test}
use Rattle.sql_grammar.specs.declared.heads.Test.TheVariants as test
use Rattle.sql_ast.specs.declared.pieces.Piece.{Piece}
use Rattle.sql_ast.specs.declared.pieces.Piece.TheVariants as piece
use Rattle.sql_grammar.specs.Pieces.{function_of, is_keyword, is_sign, name_of, same_sign, term_of}
use Rattle.sql_grammar.specs.Reading.{Outcome, Reader, and_then, pure, eat, eat_keyword, expect, expect_keyword, skip, sees, sees_keyword, name, list, chain, comma}
use Rattle.sql_grammar.specs.Expressions.{column, branch, null_test, called, called_by, literal_ahead, test_ahead, term_ahead, enclosed, count, call, call_of, other_atom, literal_or_other, plain_atom, atom_by, atom, unary, factor, product, term_by, term, sum, listed, limits, negated_by, negated, tested_by, tested, comparison, negation, conjunct, conjunction, disjunct, disjunction, chained, expression}
use Rattle.sql_laws.specs.GrammarLaws.{StopsForGood}
use Rattle.sql_laws.specs.Spelling.{mark}
use Rattle.sql_laws.proofs.Local.{Alike, Local, Short, Takes, past, after, stays, stops, takes, ahead, eats, wants, one_local, short, shorter, shorter_still, alike_of_short, short_after, some_takes, link_local, link_takes, chain_from_local, chain_local}
use Rattle.sql_laws.proofs.Rungs.{not_called}

pub eat_local : (s : Sign) → Local Bool (eat s)
unfolding sees
eat_local s = eats Bool (is_sign s) true false

pub eat_keyword_local : (w : Keyword) → Local Bool (eat_keyword w)
unfolding sees_keyword
eat_keyword_local w = eats Bool (is_keyword w) true false

pub expect_local : (s : Sign) → Local (Unit {0}) (expect s)
unfolding sees
expect_local s = wants (Unit {0}) (is_sign s) tt

pub expect_keyword_local : (w : Keyword) → Local (Unit {0}) (expect_keyword w)
unfolding sees_keyword
expect_keyword_local w = wants (Unit {0}) (is_keyword w) tt

skip_local : Local (Unit {0}) skip
skip_local = takes (Unit {0}) tt

pub name_local : Local (List ℕ) name
unfolding name
name_local = one_local (List ℕ) name_of

-- what a name goes on with
abbrev behind_name : List ℕ → Reader Expr
behind_name first = λ ts. and_then (eat sign.Point ts) (λ qualified. cond qualified (λ us. and_then (name us) (λ second. pure (e.Qualified first second))) (pure (e.Name first)))

behind_name_local : (first : List ℕ) → Local Expr (behind_name first)
behind_name_local first =
    after Bool Expr (eat sign.Point) _ (eat_local sign.Point)
    (elim [ true ↦ after (List ℕ) Expr name _ name_local (λ second. stays Expr (e.Qualified first second)) | false ↦ stays Expr (e.Name first) ])

column_local : Local Expr column
unfolding column
column_local = after (List ℕ) Expr name behind_name name_local behind_name_local

branch_local : Local Expr branch
unfolding branch
branch_local = after (Unit {0}) Expr (expect sign.CloseParenthesis) _ (expect_local sign.CloseParenthesis) (λ u. stays Expr e.ActiveBranch)

null_test_local : (a : Expr) → Local Expr (null_test a)
unfolding null_test
null_test_local a =
    after Bool Expr (eat_keyword word.Not) _ (eat_keyword_local word.Not)
    (λ negated. after (Unit {0}) Expr (expect_keyword word.Null) _ (expect_keyword_local word.Null) (λ u. stays Expr (cond negated (e.IsNotNull a) (e.IsNull a))))

pub mapped : (A B : Type 0) (f : A → B) (reader : Reader A) → Local A reader → Local B (λ ts. and_then (reader ts) (λ x. pure (f x)))
mapped A B f reader is = after A B reader (λ x. pure (f x)) is (λ x. stays B (f x))

pub behind_skip : (A : Type 0) (reader : Reader A) → Local A reader → Local A (λ ts. reader (drop 1 ts))
behind_skip A reader is = after (Unit {0}) A skip (λ u. reader) skip_local (λ u. is)

module _ (inner : Reader Expr) (local : Local Expr inner) where
  enclosed_local : Local Expr (enclosed inner)
  unfolding enclosed
  enclosed_local = after Expr Expr inner _ local (λ x. after (Unit {0}) Expr (expect sign.CloseParenthesis) _ (expect_local sign.CloseParenthesis) (λ u. stays Expr x))

  count_local : Local Expr (count inner)
  unfolding count
  count_local =
      after Bool Expr (eat sign.Star) _ (eat_local sign.Star)
      (elim [ true ↦ after (Unit {0}) Expr (expect sign.CloseParenthesis) _ (expect_local sign.CloseParenthesis) (λ u. stays Expr e.CountAll) | false ↦ mapped Expr Expr e.Count (enclosed inner) enclosed_local ])

  call_of_local : (f : Function) → Local Expr (call_of inner f)
  call_of_local function.Count = count_local
  call_of_local function.Sum = mapped Expr Expr e.Sum (enclosed inner) enclosed_local
  call_of_local function.Min = mapped Expr Expr e.Min (enclosed inner) enclosed_local
  call_of_local function.Max = mapped Expr Expr e.Max (enclosed inner) enclosed_local
  call_of_local function.ActiveBranch = branch_local

  call_local : (f : Function) → Local Expr (call inner f)
  unfolding call
  call_local f = behind_skip Expr (λ ts. call_of inner f (drop 1 ts)) (behind_skip Expr (call_of inner f) (call_of_local f))

  other_atom_local : Local Expr (other_atom inner)
  unfolding other_atom
  other_atom_local =
      after Bool Expr (eat sign.OpenParenthesis) _ (eat_local sign.OpenParenthesis) (elim [
        | true ↦ enclosed_local
        | false ↦ after Bool Expr (eat sign.AtAt) _ (eat_local sign.AtAt) (elim [ true ↦ after (List ℕ) Expr name _ name_local (λ n. stays Expr (e.Variable n)) | false ↦ column_local ])
      ])

  literal_or_other_local : (x : Option Literal) → Local Expr (literal_or_other inner x)
  literal_or_other_local (Some x) = takes Expr (e.Literal x)
  literal_or_other_local None = other_atom_local

  plain_atom_local : Local Expr (plain_atom inner)
  unfolding plain_atom literal_ahead
  plain_atom_local = ahead Expr (Option Literal) literal_ahead (literal_or_other inner) (λ t ts us. refl) literal_or_other_local

  atom_by_local : (f : Option Function) → Local Expr (atom_by inner f)
  atom_by_local (Some f) = call_local f
  atom_by_local None = plain_atom_local

  -- a word is taken, as a function or as a name
  word_taken : (w : List ℕ) (ts : List Piece) (f : Option Function) → Short Expr (length ts) (atom_by inner f (piece.Word w ∷ ts))
  unfolding plain_atom literal_ahead other_atom column name sees same_sign call
  word_taken w ts (Some f) =
      shorter_still Expr (length (drop 1 ts)) (length ts) (call_of inner f (drop 1 ts)) (shorter ts) (short Expr (call_of inner f) (call_of_local f) (drop 1 ts))
  word_taken w ts None = short Expr (behind_name w) (behind_name_local w) ts

  -- a piece that isn't called
  uncalled : (t : Piece) (behind other : List Piece) → function_of t ≡ None → Alike Expr (t ∷ []) behind other (atom inner (t ∷ behind)) (atom inner (t ∷ other))
  unfolding atom
  uncalled t behind other none =
      subst (λ f. Alike Expr (t ∷ []) behind other (atom_by inner f (t ∷ behind)) (atom inner (t ∷ other))) (sym (not_called t behind none))
      (subst (λ f. Alike Expr (t ∷ []) behind other (plain_atom inner (t ∷ behind)) (atom_by inner f (t ∷ other))) (sym (not_called t other none))
      (plain_atom_local (t ∷ []) behind other))

  atom_local : Local Expr (atom inner)
  unfolding atom called
  atom_local [] behind other =
      past Expr [] behind behind other other (atom inner behind) (atom_by inner (called behind) other) (atom inner other) (omega arith) (atom_by_local (called behind) [] behind other)
  atom_local (piece.Word w ∷ []) behind other =
      alike_of_short Expr (piece.Word w ∷ []) behind other (atom inner (piece.Word w ∷ behind)) (atom inner (piece.Word w ∷ other)) (word_taken w behind (called (piece.Word w ∷ behind)))
  atom_local (t ∷ []) behind other = uncalled t behind other refl
  atom_local (t ∷ u ∷ shared) behind other = atom_by_local (called_by t (u ∷ [])) (t ∷ u ∷ shared) behind other

  unary_local : Local Expr (unary inner)
  unfolding unary
  unary_local = after Bool Expr (eat sign.Minus) _ (eat_local sign.Minus) (elim [ true ↦ mapped Expr Expr e.Negate (atom inner) atom_local | false ↦ atom_local ])

  -- the first operand and a chain of others
  behind_first : (A : Type 0) (f : Expr → List A → Expr) (first : Reader Expr) (link : Reader (Option A)) → Local Expr first → Local (List A) (chain link)
      → Local Expr (λ ts. and_then (first ts) (λ x us. and_then (chain link us) (λ xs. pure (f x xs))))
  behind_first A f first link one_ others = after Expr Expr first _ one_ (λ x. after (List A) Expr (chain link) _ others (λ xs. stays Expr (f x xs)))

  factors_local : Local (List Expr) (chain (factor inner))
  unfolding sees
  factors_local = chain_local Expr (factor inner) (link_local Expr (is_sign sign.Star) (unary inner) unary_local) (link_takes Expr (is_sign sign.Star) (unary inner) unary_local) refl

  product_local : Local Expr (product inner)
  unfolding product
  product_local = behind_first Expr (chained e.Factors) (unary inner) (factor inner) unary_local factors_local

  term_by_local : (t : Option Term) → Local (Option (Term × Expr)) (term_by inner t)
  term_by_local (Some t) =
      behind_skip (Option (Term × Expr)) (λ ts. and_then (product inner ts) (λ x. pure (Some (t, x)))) (mapped Expr (Option (Term × Expr)) (λ x. Some (t, x)) (product inner) product_local)
  term_by_local None = stays (Option (Term × Expr)) None

  term_local : Local (Option (Term × Expr)) (term inner)
  unfolding term term_ahead
  term_local = ahead (Option (Term × Expr)) (Option Term) term_ahead (term_by inner) (λ t ts us. refl) term_by_local

  term_takes : (ts : List Piece) → Takes (Term × Expr) (length ts) (term inner ts)
  unfolding term term_ahead
  term_takes [] = tt
  term_takes (t ∷ ts) = found (term_of t)
    where
      found : (s : Option Term) → Takes (Term × Expr) (suc (length ts)) (term_by inner s (t ∷ ts))
      found (Some s) = some_takes Expr (Term × Expr) (λ x. (s, x)) (length ts) (product inner ts) (short Expr (product inner) product_local ts)
      found None = tt

  no_term : term inner [] ≡ Ok (None, [])
  unfolding term term_ahead
  no_term = refl

  terms_local : Local (List (Term × Expr)) (chain (term inner))
  terms_local = chain_local (Term × Expr) (term inner) term_local term_takes no_term

  sum_local : Local Expr (sum inner)
  unfolding sum
  sum_local = behind_first (Term × Expr) (chained e.Terms) (product inner) (term inner) product_local terms_local

  list_local : Local (List Expr) (list inner)
  unfolding list sees
  list_local =
      after Expr (List Expr) inner _ local
      (λ x. chain_from_local Expr (comma inner) (link_local Expr (is_sign sign.Comma) inner local) (link_takes Expr (is_sign sign.Comma) inner local) refl (x ∷ []))

  listed_local : Local (List Expr) (listed inner)
  unfolding listed
  listed_local =
      after (Unit {0}) (List Expr) (expect sign.OpenParenthesis) _ (expect_local sign.OpenParenthesis) (λ u.
      after (List Expr) (List Expr) (list inner) _ list_local (λ xs.
      after (Unit {0}) (List Expr) (expect sign.CloseParenthesis) _ (expect_local sign.CloseParenthesis) (λ v. stays (List Expr) xs)))

  limits_local : Local (Expr × Expr) (limits inner)
  unfolding limits
  limits_local =
      after Expr (Expr × Expr) (sum inner) _ sum_local (λ low.
      after (Unit {0}) (Expr × Expr) (expect_keyword word.And) _ (expect_keyword_local word.And) (λ u.
      after Expr (Expr × Expr) (sum inner) _ sum_local (λ high. stays (Expr × Expr) (low, high))))

  in_list : (f : List Expr → Expr) → Local Expr (λ ts. and_then (listed inner (drop 1 ts)) (λ xs. pure (f xs)))
  in_list f = behind_skip Expr (λ ts. and_then (listed inner ts) (λ xs. pure (f xs))) (mapped (List Expr) Expr f (listed inner) listed_local)

  in_limits : (f : Expr × Expr → Expr) → Local Expr (λ ts. and_then (limits inner (drop 1 ts)) (λ ends. pure (f ends)))
  in_limits f = behind_skip Expr (λ ts. and_then (limits inner ts) (λ ends. pure (f ends))) (mapped (Expr × Expr) Expr f (limits inner) limits_local)

  module _ (a : Expr) where
    negated_by_local : (t : Test) → Local Expr (negated_by inner a t)
    negated_by_local test.In = in_list (e.NotIn a)
    negated_by_local test.Between = in_limits (λ ends. e.NotBetween a ends.0 ends.1)
    negated_by_local _ = stops Expr

    negated_local : Local Expr (negated inner a)
    unfolding negated test_ahead
    negated_local = ahead Expr Test test_ahead (negated_by inner a) (λ t ts us. refl) negated_by_local

    tested_by_local : (t : Test) → Local Expr (tested_by inner a t)
    tested_by_local (test.Compare operator) = behind_skip Expr (λ ts. and_then (sum inner ts) (λ b. pure (e.Compare a operator b))) (mapped Expr Expr (e.Compare a operator) (sum inner) sum_local)
    tested_by_local test.Is = behind_skip Expr (null_test a) (null_test_local a)
    tested_by_local test.Not = behind_skip Expr (negated inner a) negated_local
    tested_by_local test.In = in_list (e.In a)
    tested_by_local test.Between = in_limits (λ ends. e.Between a ends.0 ends.1)
    tested_by_local test.Absent = stays Expr a

    tested_local : Local Expr (tested inner a)
    unfolding tested test_ahead
    tested_local = ahead Expr Test test_ahead (tested_by inner a) (λ t ts us. refl) tested_by_local

  comparison_local : Local Expr (comparison inner)
  unfolding comparison
  comparison_local = after Expr Expr (sum inner) (tested inner) sum_local tested_local

  negation_local : Local Expr (negation inner)
  unfolding negation
  negation_local = after Bool Expr (eat_keyword word.Not) _ (eat_keyword_local word.Not) (elim [ true ↦ mapped Expr Expr e.Not (comparison inner) comparison_local | false ↦ comparison_local ])

  conjuncts_local : Local (List Expr) (chain (conjunct inner))
  unfolding sees_keyword
  conjuncts_local = chain_local Expr (conjunct inner) (link_local Expr (is_keyword word.And) (negation inner) negation_local) (link_takes Expr (is_keyword word.And) (negation inner) negation_local) refl

  conjunction_local : Local Expr (conjunction inner)
  unfolding conjunction
  conjunction_local = behind_first Expr (chained e.And) (negation inner) (conjunct inner) negation_local conjuncts_local

  disjuncts_local : Local (List Expr) (chain (disjunct inner))
  unfolding sees_keyword
  disjuncts_local =
      chain_local Expr (disjunct inner) (link_local Expr (is_keyword word.Or) (conjunction inner) conjunction_local) (link_takes Expr (is_keyword word.Or) (conjunction inner) conjunction_local) refl

  disjunction_local : Local Expr (disjunction inner)
  unfolding disjunction
  disjunction_local = behind_first Expr (chained e.Or) (conjunction inner) (disjunct inner) conjunction_local disjuncts_local

  -- Pieces that an atom takes, whatever follows, and that begin with no minus and no NOT: each rule takes them.
  module _ (front : List Piece) (taken_all : (ts : List Piece) → Short Expr (length ts) (atom inner (front ++ ts))) (no_minus : (ts : List Piece) → sees sign.Minus (front ++ ts) ≡ false)
      (no_not : (ts : List Piece) → sees_keyword word.Not (front ++ ts) ≡ false) where
    unary_takes : (ts : List Piece) → Short Expr (length ts) (unary inner (front ++ ts))
    unfolding unary
    unary_takes ts =
        subst (λ b. Short Expr (length ts) (and_then {A = Bool} {B = Expr} (cond b (Ok (true, drop 1 (front ++ ts))) (Ok (false, front ++ ts))) (λ minus. cond minus (λ us. and_then (atom inner us) (λ x. pure (e.Negate x))) (atom inner))))
        (sym (no_minus ts)) (taken_all ts)

    product_takes : (ts : List Piece) → Short Expr (length ts) (product inner (front ++ ts))
    unfolding product
    product_takes ts =
        short_after Expr Expr (length ts) (unary inner (front ++ ts)) (λ x us. and_then (chain (factor inner) us) (λ xs. pure (chained e.Factors x xs))) (unary_takes ts)
        (λ x. after (List Expr) Expr (chain (factor inner)) _ factors_local (λ xs. stays Expr (chained e.Factors x xs)))

    sum_takes : (ts : List Piece) → Short Expr (length ts) (sum inner (front ++ ts))
    unfolding sum
    sum_takes ts =
        short_after Expr Expr (length ts) (product inner (front ++ ts)) (λ x us. and_then (chain (term inner) us) (λ xs. pure (chained e.Terms x xs))) (product_takes ts)
        (λ x. after (List (Term × Expr)) Expr (chain (term inner)) _ terms_local (λ xs. stays Expr (chained e.Terms x xs)))

    comparison_takes : (ts : List Piece) → Short Expr (length ts) (comparison inner (front ++ ts))
    unfolding comparison
    comparison_takes ts = short_after Expr Expr (length ts) (sum inner (front ++ ts)) (tested inner) (sum_takes ts) tested_local

    negation_takes : (ts : List Piece) → Short Expr (length ts) (negation inner (front ++ ts))
    unfolding negation
    negation_takes ts =
        subst (λ b. Short Expr (length ts) (and_then {A = Bool} {B = Expr} (cond b (Ok (true, drop 1 (front ++ ts))) (Ok (false, front ++ ts))) (λ is_not. cond is_not (λ us. and_then (comparison inner us) (λ x. pure (e.Not x))) (comparison inner))))
        (sym (no_not ts)) (comparison_takes ts)

    conjunction_takes : (ts : List Piece) → Short Expr (length ts) (conjunction inner (front ++ ts))
    unfolding conjunction
    conjunction_takes ts =
        short_after Expr Expr (length ts) (negation inner (front ++ ts)) (λ x us. and_then (chain (conjunct inner) us) (λ xs. pure (chained e.And x xs))) (negation_takes ts)
        (λ x. after (List Expr) Expr (chain (conjunct inner)) _ conjuncts_local (λ xs. stays Expr (chained e.And x xs)))

    disjunction_takes : (ts : List Piece) → Short Expr (length ts) (disjunction inner (front ++ ts))
    unfolding disjunction
    disjunction_takes ts =
        short_after Expr Expr (length ts) (conjunction inner (front ++ ts)) (λ x us. and_then (chain (disjunct inner) us) (λ xs. pure (chained e.Or x xs))) (conjunction_takes ts)
        (λ x. after (List Expr) Expr (chain (disjunct inner)) _ disjuncts_local (λ xs. stays Expr (chained e.Or x xs)))

  -- a name, and a name before a point
  quoted_taken : (n : List ℕ) (ts : List Piece) → Short Expr (length ts) (atom inner (piece.Quoted n ∷ ts))
  unfolding atom called plain_atom literal_ahead other_atom column name sees same_sign
  quoted_taken n ts =
      subst (λ f. Short Expr (length ts) (atom_by inner f (piece.Quoted n ∷ ts))) (sym (not_called (piece.Quoted n) ts refl)) (short Expr (behind_name n) (behind_name_local n) ts)

  second_name : (first : List ℕ) (ts : List Piece) → Short Expr (length ts) (behind_name first (mark sign.Point ∷ ts))
  unfolding sees same_sign
  second_name first ts = short Expr (λ us. and_then (name us) (λ second. pure (e.Qualified first second))) (after (List ℕ) Expr name _ name_local (λ second. stays Expr (e.Qualified first second))) ts

  word_point_taken : (n : List ℕ) (ts : List Piece) → Short Expr (length ts) (atom inner (piece.Word n ∷ mark sign.Point ∷ ts))
  unfolding atom called plain_atom literal_ahead other_atom column name sees same_sign
  word_point_taken n ts = second_name n ts

  quoted_point_taken : (n : List ℕ) (ts : List Piece) → Short Expr (length ts) (atom inner (piece.Quoted n ∷ mark sign.Point ∷ ts))
  unfolding atom called plain_atom literal_ahead other_atom column name sees same_sign
  quoted_point_taken n ts = second_name n ts

pub expression_local : (depth : ℕ) → Local Expr (expression depth)
unfolding expression
expression_local zero = stops Expr
expression_local (suc depth) = disjunction_local (expression depth) (expression_local depth)

-- a name is taken by any expression, and so is a name before a point
module _ (depth : ℕ) where
  pub word_takes : (n : List ℕ) (ts : List Piece) → Short Expr (length ts) (expression (suc depth) (piece.Word n ∷ ts))
  unfolding expression atom sees sees_keyword same_sign
  word_takes n = disjunction_takes (expression depth) (expression_local depth) (piece.Word n ∷ []) (λ ts. word_taken (expression depth) (expression_local depth) n ts (called (piece.Word n ∷ ts))) (λ ts. refl) (λ ts. refl)

  pub quoted_takes : (n : List ℕ) (ts : List Piece) → Short Expr (length ts) (expression (suc depth) (piece.Quoted n ∷ ts))
  unfolding expression sees sees_keyword same_sign
  quoted_takes n = disjunction_takes (expression depth) (expression_local depth) (piece.Quoted n ∷ []) (quoted_taken (expression depth) (expression_local depth) n) (λ ts. refl) (λ ts. refl)

  pub word_point_takes : (n : List ℕ) (ts : List Piece) → Short Expr (length ts) (expression (suc depth) (piece.Word n ∷ mark sign.Point ∷ ts))
  unfolding expression sees sees_keyword same_sign
  word_point_takes n =
      disjunction_takes (expression depth) (expression_local depth) (piece.Word n ∷ mark sign.Point ∷ []) (word_point_taken (expression depth) (expression_local depth) n) (λ ts. refl) (λ ts. refl)

  pub quoted_point_takes : (n : List ℕ) (ts : List Piece) → Short Expr (length ts) (expression (suc depth) (piece.Quoted n ∷ mark sign.Point ∷ ts))
  unfolding expression sees sees_keyword same_sign
  quoted_point_takes n =
      disjunction_takes (expression depth) (expression_local depth) (piece.Quoted n ∷ mark sign.Point ∷ []) (quoted_point_taken (expression depth) (expression_local depth) n) (λ ts. refl) (λ ts. refl)

-- two runs that are alike stop alike behind one piece
same_stop : (shared behind other : List Piece) (o two : Outcome Expr) → Alike Expr shared behind other o two → o ≡ Err (suc (length behind)) → two ≡ Err (suc (length other))
same_stop shared behind other (Ok read) two alike is = absurd (cc)
same_stop shared behind other (Err n) two (inl w) is =
    let at : n ≡ suc (length behind) = cc in
    let one_ : length (w.0 ++ other) ≡ suc (length other) = omega (arith, w.2, length-append w.0 behind, length-append w.0 other) in
    w.3 ∙ ap (λ m. Err m) one_
same_stop shared behind other (Err n) two (inr few) is =
    let at : n ≡ suc (length behind) = cc in
    absurd (omega arith)

pub stops_for_good : StopsForGood
stops_for_good depth front t behind other is =
    let shared = front ++ t ∷ [] in
    ap (expression depth) (sym (append_assoc front (t ∷ []) other))
    ∙ same_stop shared behind other (expression depth (shared ++ behind)) (expression depth (shared ++ other)) (expression_local depth shared behind other)
    (ap (expression depth) (append_assoc front (t ∷ []) behind) ∙ is)
