-- Whatever is read of pieces that a text gives is written: chains, tests and whole expressions.
use Rattle.std.proofs.Common.{◌≡◌, refl, subst, ℕ, zero, suc, true, false, Bool, cond, List, [], ◌∷◌, ◌++◌, length, drop, Option, Some, None, Ok, Err}
use Rattle.std.specs.List.{AllByRecursion}
use Rattle.std.proofs.lemmas.Bool.{and_parts}
use Rattle.sql_ast.specs.declared.expressions.Expr.{Expr}
use Rattle.sql_ast.specs.declared.expressions.Expr.TheVariants as e
use Rattle.sql_ast.specs.declared.expressions.Literal.TheVariants as literal
use Rattle.sql_ast.specs.declared.expressions.Term.{Term}
use Rattle.sql_ast.specs.declared.expressions.Term.TheVariants as sum_term
use Rattle.sql_ast.specs.declared.places.Last.{Last}
use Rattle.sql_ast.specs.declared.places.Last.TheVariants.{Operand, Other, UnaryMinus}
use Rattle.sql_ast.specs.declared.signs.Sign.{Sign}
use Rattle.sql_ast.specs.declared.signs.Sign.TheVariants as sign
use Rattle.sql_ast.specs.declared.words.Keyword.{Keyword}
use Rattle.sql_ast.specs.declared.words.Keyword.TheVariants as word
use Rattle.sql_grammar.specs.declared.heads.Function.{Function}
use Rattle.sql_grammar.specs.declared.heads.Function.TheVariants as function
use Rattle.sql_grammar.specs.declared.heads.Test.{Test}
use Rattle.sql_grammar.specs.declared.heads.Test.TheVariants as test
use Rattle.sql_ast.specs.declared.pieces.Piece.{Piece}
use Rattle.sql_ast.specs.declared.pieces.Piece.TheVariants as piece
use Rattle.sql_grammar.specs.Pieces.{function_of, is_sign}
use Rattle.sql_grammar.specs.Reading.{Outcome, Reader, and_then, behind, chain, chain_from, comma, eat, eat_keyword, expect, expect_keyword, linked, list, name}
use Rattle.sql_grammar.specs.Expressions.{atom, atom_by, branch, call, call_of, called, chained, column, comparison, conjunct, conjunction, count, disjunct, disjunction, enclosed, expression, factor, limits, listed, literal_ahead, negated, negated_by, negation, null_test, other_atom, plain_atom, product, sum, term, term_ahead, test_ahead, tested, tested_by, unary}
use Rattle.sql_laws.specs.CanonicalLaws.{ReadsWritten}
use Rattle.sql_laws.specs.Written.{after_piece, are_given, is_given, is_name}
use Rattle.sql_laws.proofs.WrittenNodes.{IsWritten, IsWrittenBehind, and_written, between_written, branch_written, compare_written, count_all_written, count_written, easier, factors_written, in_written, is_not_null_written, is_null_written, literal_written, max_written, min_written, name_written, negate_written, not_between_written, not_in_written, not_written, or_written, qualified_written, sum_written, terms_are_written, variable_written}
use Rattle.sql_laws.proofs.Given.{Gave, From, AnyOf, operand, after, rest_given, is_open, is_close, is_comma, is_point, is_star, is_minus, is_at_at, is_and, is_or, is_not, is_null, behind_sign, eats, expects, eats_word, expects_word, name_given}

-- chains, from behind an operand

abbrev Perhaps : (A : Type 0) → (A → Type 0) → Option A → Type 0
Perhaps A P None = Unit {0}
Perhaps A P (Some x) = P x

module _ (A : Type 0) (P : A → Type 0) where
  pushed : (xs : List A) (x : A) → AllByRecursion P xs → P x → AllByRecursion P (xs ++ x ∷ [])
  pushed [] x all is = (is, tt)
  pushed (y ∷ ys) x all is = (all.0, pushed ys x all.1 is)

  module _ (link : Reader (Option A)) (reads : From Operand (Option A) (Perhaps A P) operand link) where
    chain_from_given : (n : ℕ) (found : List A) → AllByRecursion P found → From Operand (List A) (AllByRecursion P) operand (chain_from link n found)
    unfolding chain_from
    chain_from_given zero found all ts given = (all, given)
    chain_from_given (suc n) found all ts given =
        after (Option A) (List A) (Perhaps A P) operand (AllByRecursion P) operand (link ts) (linked (chain_from link n) found) (reads ts given)
        (elim [ None ↦ λ is us more. (all, more) | Some x ↦ λ is us more. chain_from_given n (found ++ x ∷ []) (pushed found x all is) us more ])

    chain_given : From Operand (List A) (AllByRecursion P) operand (chain link)
    unfolding chain
    chain_given ts given = chain_from_given (length ts) [] tt ts given

-- behind a unary minus, or where an operand begins
abbrev start : Bool → Last
start true = UnaryMinus
start false = Other

-- how a test leads on
abbrev Leads : Test → Last → List Piece → Type 0
Leads test.Absent last ts = are_given last ts ≡ true
Leads _ last ts = are_given Other (drop 1 ts) ≡ true

leads : (last : Last) (ts : List Piece) → are_given last ts ≡ true → Leads (test_ahead ts) last ts
unfolding test_ahead
leads last [] given = refl
leads last (piece.Sign sign.Equal ∷ ts) given = given
leads last (piece.Sign sign.NotEqual ∷ ts) given = given
leads last (piece.Sign sign.Less ∷ ts) given = given
leads last (piece.Sign sign.AtMost ∷ ts) given = given
leads last (piece.Sign sign.Greater ∷ ts) given = given
leads last (piece.Sign sign.AtLeast ∷ ts) given = given
leads last (piece.Keyword word.Is ∷ ts) given = given
leads last (piece.Keyword word.Not ∷ ts) given = given
leads last (piece.Keyword word.In ∷ ts) given = given
leads last (piece.Keyword word.Between ∷ ts) given = given
leads last (t ∷ ts) given = given

abbrev pub Reads : Reader Expr → Type 0
Reads reader = From Other Expr IsWritten operand reader

module _ (inner : Reader Expr) (reads : Reads inner) where
  link_given : (lead : Reader Bool) (item : Reader Expr) → From Operand Bool (AnyOf Bool) (λ b. cond b Other Operand) lead → Reads item
      → From Operand (Option Expr) (Perhaps Expr IsWritten) operand (behind lead item)
  link_given lead item leads_on is ts given =
      after Bool (Option Expr) (AnyOf Bool) (λ b. cond b Other Operand) (Perhaps Expr IsWritten) operand (lead ts) _ (leads_on ts given) (elim [
        | true ↦ λ u us more. after Expr (Option Expr) IsWritten operand (Perhaps Expr IsWritten) operand (item us) _ (is us more) (λ x written vs last. (written, last))
        | false ↦ λ u us more. (tt, more)
      ])

  enclosed_given : Reads (enclosed inner)
  unfolding enclosed
  enclosed_given ts given =
      after Expr Expr IsWritten operand IsWritten operand (inner ts) _ (reads ts given) (λ x written us more.
      after (Unit {0}) Expr (AnyOf (Unit {0})) operand IsWritten operand (expect sign.CloseParenthesis us) _ (expects Operand sign.CloseParenthesis is_close us more) (λ u v vs last. (written, last)))

  count_given : Reads (count inner)
  unfolding count
  count_given ts given =
      after Bool Expr (AnyOf Bool) (λ b. cond b Other Other) IsWritten operand (eat sign.Star ts) _ (eats Other sign.Star is_star ts given) (elim [
        | true ↦ λ u us more.
            after (Unit {0}) Expr (AnyOf (Unit {0})) operand IsWritten operand (expect sign.CloseParenthesis us) _ (expects Other sign.CloseParenthesis is_close us more) (λ v w vs last. (count_all_written, last))
        | false ↦ λ u us more. after Expr Expr IsWritten operand IsWritten operand (enclosed inner us) _ (enclosed_given us more) (λ x written vs last. (count_written x written, last))
      ])

  branch_given : Reads branch
  unfolding branch
  branch_given ts given =
      after (Unit {0}) Expr (AnyOf (Unit {0})) operand IsWritten operand (expect sign.CloseParenthesis ts) _ (expects Other sign.CloseParenthesis is_close ts given) (λ u v us last. (branch_written, last))

  of_enclosed : (node : Expr → Expr) → ((a : Expr) → IsWritten a → IsWritten (node a)) → (ts : List Piece) → are_given Other ts ≡ true
      → Gave Expr IsWritten operand (and_then (enclosed inner ts) (λ x us. Ok (node x, us)))
  of_enclosed node grows ts given = after Expr Expr IsWritten operand IsWritten operand (enclosed inner ts) _ (enclosed_given ts given) (λ x written us last. (grows x written, last))

  call_of_given : (f : Function) → Reads (call_of inner f)
  call_of_given function.Count = count_given
  call_of_given function.Sum = of_enclosed (λ x. e.Sum x) sum_written
  call_of_given function.Min = of_enclosed (λ x. e.Min x) min_written
  call_of_given function.Max = of_enclosed (λ x. e.Max x) max_written
  call_of_given function.ActiveBranch = branch_given

  called_given : (last : Last) (ts : List Piece) (f : Function) → are_given last ts ≡ true → called ts ≡ Some f → are_given Other (drop 1 (drop 1 ts)) ≡ true
  unfolding called
  called_given last [] f given is = refl
  called_given last (t ∷ []) f given is = refl
  called_given last (t ∷ u ∷ ts) f given is =
      elim (is_sign sign.OpenParenthesis u) as (λ b. is_sign sign.OpenParenthesis u ≡ b → cond b (function_of t) None ≡ Some f → are_given Other ts ≡ true) [
        | true ↦ λ opening found. behind_sign (after_piece t last) sign.OpenParenthesis is_open u ts (rest_given last t (u ∷ ts) given) opening
        | false ↦ λ other found. absurd (cc)
      ] refl is

  column_given : (last : Last) → From last Expr IsWritten operand column
  unfolding column
  column_given last ts given =
      after (List ℕ) Expr (λ n. is_name n ≡ true) operand IsWritten operand (name ts) _ (name_given last ts given) (λ first one us more.
      after Bool Expr (AnyOf Bool) (λ b. cond b Other Operand) IsWritten operand (eat sign.Point us) _ (eats Operand sign.Point is_point us more) (elim [
        | true ↦ λ u vs next. after (List ℕ) Expr (λ n. is_name n ≡ true) operand IsWritten operand (name vs) _ (name_given Other vs next) (λ second two ws end. (qualified_written first second one two, end))
        | false ↦ λ u vs next. (name_written first one, next)
      ]))

  other_atom_given : (last : Last) → From last Expr IsWritten operand (other_atom inner)
  unfolding other_atom
  other_atom_given last ts given =
      after Bool Expr (AnyOf Bool) (λ b. cond b Other last) IsWritten operand (eat sign.OpenParenthesis ts) _ (eats last sign.OpenParenthesis is_open ts given) (elim [
        | true ↦ λ u us more. enclosed_given us more
        | false ↦ λ u us more.
            after Bool Expr (AnyOf Bool) (λ b. cond b Other last) IsWritten operand (eat sign.AtAt us) _ (eats last sign.AtAt is_at_at us more) (elim [
              | true ↦ λ v vs next. after (List ℕ) Expr (λ n. is_name n ≡ true) operand IsWritten operand (name vs) _ (name_given Other vs next) (λ n one ws end. (variable_written n one, end))
              | false ↦ λ v vs next. column_given last vs next
            ])
      ])

  eased : (minus : Bool) (o : Outcome Expr) → Gave Expr IsWritten operand o → Gave Expr (IsWrittenBehind minus) operand o
  eased minus (Ok read) gave = (easier read.0 gave.0 minus, gave.1)
  eased minus (Err left) gave = tt

  plain_given : (minus : Bool) → From (start minus) Expr (IsWrittenBehind minus) operand (plain_atom inner)
  unfolding plain_atom literal_ahead
  plain_given minus [] given = eased minus (other_atom inner []) (other_atom_given (start minus) [] given)
  plain_given true (piece.Whole value ∷ ts) given = let parts = and_parts (is_given UnaryMinus (piece.Whole value)) (are_given Operand ts) given in (literal_written true (literal.Whole value) parts.0, parts.1)
  plain_given false (piece.Whole value ∷ ts) given = let parts = and_parts (is_given Other (piece.Whole value)) (are_given Operand ts) given in (literal_written false (literal.Whole value) parts.0, parts.1)
  plain_given minus (piece.Decimal value places ∷ ts) given =
      let parts = and_parts (is_given (start minus) (piece.Decimal value places)) (are_given Operand ts) given in (literal_written minus (literal.Decimal value places) parts.0, parts.1)
  plain_given minus (piece.Text value ∷ ts) given =
      let parts = and_parts (is_given (start minus) (piece.Text value)) (are_given Operand ts) given in (literal_written minus (literal.Text value) parts.0, parts.1)
  plain_given minus (piece.Bytes value ∷ ts) given =
      let parts = and_parts (is_given (start minus) (piece.Bytes value)) (are_given Operand ts) given in (literal_written minus (literal.Bytes value) parts.0, parts.1)
  plain_given minus (piece.Keyword word.True ∷ ts) given = (literal_written minus (literal.Bool true) refl, given)
  plain_given minus (piece.Keyword word.False ∷ ts) given = (literal_written minus (literal.Bool false) refl, given)
  plain_given minus (piece.Keyword word.Null ∷ ts) given = (literal_written minus literal.Null refl, given)
  plain_given minus (t ∷ ts) given = eased minus (other_atom inner (t ∷ ts)) (other_atom_given (start minus) (t ∷ ts) given)

  atom_by_given : (minus : Bool) (ts : List Piece) → are_given (start minus) ts ≡ true → (f : Option Function) → called ts ≡ f → Gave Expr (IsWrittenBehind minus) operand (atom_by inner f ts)
  unfolding call
  atom_by_given minus ts given None is = plain_given minus ts given
  atom_by_given minus ts given (Some f) is = eased minus (call_of inner f (drop 1 (drop 1 ts))) (call_of_given f (drop 1 (drop 1 ts)) (called_given (start minus) ts f given is))

  atom_given : (minus : Bool) → From (start minus) Expr (IsWrittenBehind minus) operand (atom inner)
  unfolding atom
  atom_given minus ts given = atom_by_given minus ts given (called ts) refl

  unary_given : Reads (unary inner)
  unfolding unary
  unary_given ts given =
      after Bool Expr (AnyOf Bool) (λ b. cond b UnaryMinus Other) IsWritten operand (eat sign.Minus ts) _ (eats Other sign.Minus is_minus ts given) (elim [
        | true ↦ λ u us more. after Expr Expr (IsWrittenBehind true) operand IsWritten operand (atom inner us) _ (atom_given true us more) (λ x written vs last. (negate_written x written, last))
        | false ↦ λ u us more. atom_given false us more
      ])

  chained_written : (A : Type 0) (P : A → Type 0) (node : Expr → List A → Expr) → ((a : Expr) (x : A) (xs : List A) → IsWritten a → AllByRecursion P (x ∷ xs) → IsWritten (node a (x ∷ xs)))
      → (a : Expr) (xs : List A) → IsWritten a → AllByRecursion P xs → IsWritten (chained node a xs)
  chained_written A P node grows a [] one all = one
  chained_written A P node grows a (x ∷ xs) one all = grows a x xs one all

  product_given : Reads (product inner)
  unfolding product
  product_given ts given =
      after Expr Expr IsWritten operand IsWritten operand (unary inner ts) _ (unary_given ts given) (λ a one us more.
      after (List Expr) Expr (AllByRecursion IsWritten) operand IsWritten operand (chain (factor inner) us) _
      (chain_given Expr IsWritten (factor inner) (link_given (eat sign.Star) (unary inner) (eats Operand sign.Star is_star) unary_given) us more)
      (λ xs all vs last. (chained_written Expr IsWritten e.Factors factors_written a xs one all, last)))

  abbrev TermWritten : Term × Expr → Type 0
  TermWritten x = IsWritten x.1

  one_term : (t : Term) (ts : List Piece) → are_given Other ts ≡ true → Gave (Option (Term × Expr)) (Perhaps (Term × Expr) TermWritten) operand (and_then (product inner ts) (λ x us. Ok (Some (t, x), us)))
  one_term t ts given = after Expr (Option (Term × Expr)) IsWritten operand (Perhaps (Term × Expr) TermWritten) operand (product inner ts) _ (product_given ts given) (λ x written us last. (written, last))

  term_given : From Operand (Option (Term × Expr)) (Perhaps (Term × Expr) TermWritten) operand (term inner)
  unfolding term term_ahead
  term_given [] given = (tt, refl)
  term_given (piece.Sign sign.Plus ∷ ts) given = one_term sum_term.Plus ts given
  term_given (piece.Sign sign.Minus ∷ ts) given = one_term sum_term.Minus ts given
  term_given (t ∷ ts) given = (tt, given)

  sum_given : Reads (sum inner)
  unfolding sum
  sum_given ts given =
      after Expr Expr IsWritten operand IsWritten operand (product inner ts) _ (product_given ts given) (λ a one us more.
      after (List (Term × Expr)) Expr (AllByRecursion TermWritten) operand IsWritten operand (chain (term inner) us) _
      (chain_given (Term × Expr) TermWritten (term inner) term_given us more)
      (λ xs all vs last. (chained_written (Term × Expr) TermWritten e.Terms terms_are_written a xs one all, last)))

  list_given : From Other (List Expr) (AllByRecursion IsWritten) operand (list inner)
  unfolding list
  list_given ts given =
      after Expr (List Expr) IsWritten operand (AllByRecursion IsWritten) operand (inner ts) _ (reads ts given) (λ x written us more.
      chain_from_given Expr IsWritten (comma inner) (link_given (eat sign.Comma) inner (eats Operand sign.Comma is_comma) reads) (length us) (x ∷ []) (written, tt) us more)

  listed_given : From Other (List Expr) (AllByRecursion IsWritten) operand (listed inner)
  unfolding listed
  listed_given ts given =
      after (Unit {0}) (List Expr) (AnyOf (Unit {0})) (λ u. Other) (AllByRecursion IsWritten) operand (expect sign.OpenParenthesis ts) _ (expects Other sign.OpenParenthesis is_open ts given) (λ u v us more.
      after (List Expr) (List Expr) (AllByRecursion IsWritten) operand (AllByRecursion IsWritten) operand (list inner us) _ (list_given us more) (λ xs all vs next.
      after (Unit {0}) (List Expr) (AnyOf (Unit {0})) operand (AllByRecursion IsWritten) operand (expect sign.CloseParenthesis vs) _ (expects Operand sign.CloseParenthesis is_close vs next) (λ w z ws last. (all, last))))

  abbrev BothWritten : Expr × Expr → Type 0
  BothWritten ends = IsWritten ends.0 × IsWritten ends.1

  limits_given : From Other (Expr × Expr) BothWritten operand (limits inner)
  unfolding limits
  limits_given ts given =
      after Expr (Expr × Expr) IsWritten operand BothWritten operand (sum inner ts) _ (sum_given ts given) (λ low one us more.
      after (Unit {0}) (Expr × Expr) (AnyOf (Unit {0})) (λ u. Other) BothWritten operand (expect_keyword word.And us) _ (expects_word Operand word.And is_and us more) (λ u v vs next.
      after Expr (Expr × Expr) IsWritten operand BothWritten operand (sum inner vs) _ (sum_given vs next) (λ high two ws last. ((one, two), last))))

  module _ (a : Expr) (one : IsWritten a) where
    in_list : (node : Expr → List Expr → Expr) → ((b : Expr) (xs : List Expr) → IsWritten b → AllByRecursion IsWritten xs → IsWritten (node b xs)) → (ts : List Piece) → are_given Other ts ≡ true
        → Gave Expr IsWritten operand (and_then (listed inner ts) (λ xs us. Ok (node a xs, us)))
    in_list node grows ts given = after (List Expr) Expr (AllByRecursion IsWritten) operand IsWritten operand (listed inner ts) _ (listed_given ts given) (λ xs all us last. (grows a xs one all, last))

    in_limits : (node : Expr → Expr → Expr → Expr) → ((b low high : Expr) → IsWritten b → IsWritten low → IsWritten high → IsWritten (node b low high)) → (ts : List Piece) → are_given Other ts ≡ true
        → Gave Expr IsWritten operand (and_then (limits inner ts) (λ ends us. Ok (node a ends.0 ends.1, us)))
    in_limits node grows ts given =
        after (Expr × Expr) Expr BothWritten operand IsWritten operand (limits inner ts) _ (limits_given ts given) (λ ends both us last. (grows a ends.0 ends.1 one both.0 both.1, last))

    negated_by_given : (t : Test) (ts : List Piece) → Leads t Other ts → Gave Expr IsWritten operand (negated_by inner a t ts)
    negated_by_given test.In ts given = in_list e.NotIn not_in_written (drop 1 ts) given
    negated_by_given test.Between ts given = in_limits e.NotBetween not_between_written (drop 1 ts) given
    negated_by_given _ ts given = tt

    negated_given : Reads (negated inner a)
    unfolding negated
    negated_given ts given = negated_by_given (test_ahead ts) ts (leads Other ts given)

    null_test_given : Reads (null_test a)
    unfolding null_test
    null_test_given ts given =
        after Bool Expr (AnyOf Bool) (λ b. cond b Other Other) IsWritten operand (eat_keyword word.Not ts) _ (eats_word Other word.Not is_not ts given) (elim [
          | true ↦ λ u us more.
              after (Unit {0}) Expr (AnyOf (Unit {0})) operand IsWritten operand (expect_keyword word.Null us) _ (expects_word Other word.Null is_null us more) (λ v w vs last. (is_not_null_written a one, last))
          | false ↦ λ u us more.
              after (Unit {0}) Expr (AnyOf (Unit {0})) operand IsWritten operand (expect_keyword word.Null us) _ (expects_word Other word.Null is_null us more) (λ v w vs last. (is_null_written a one, last))
        ])

    tested_by_given : (t : Test) (ts : List Piece) → Leads t Operand ts → Gave Expr IsWritten operand (tested_by inner a t ts)
    tested_by_given (test.Compare o) ts given =
        after Expr Expr IsWritten operand IsWritten operand (sum inner (drop 1 ts)) _ (sum_given (drop 1 ts) given) (λ b two us last. (compare_written a o b one two, last))
    tested_by_given test.Is ts given = null_test_given (drop 1 ts) given
    tested_by_given test.Not ts given = negated_given (drop 1 ts) given
    tested_by_given test.In ts given = in_list e.In in_written (drop 1 ts) given
    tested_by_given test.Between ts given = in_limits e.Between between_written (drop 1 ts) given
    tested_by_given test.Absent ts given = (one, given)

    tested_given : From Operand Expr IsWritten operand (tested inner a)
    unfolding tested
    tested_given ts given = tested_by_given (test_ahead ts) ts (leads Operand ts given)

  comparison_given : Reads (comparison inner)
  unfolding comparison
  comparison_given ts given = after Expr Expr IsWritten operand IsWritten operand (sum inner ts) (tested inner) (sum_given ts given) tested_given

  negation_given : Reads (negation inner)
  unfolding negation
  negation_given ts given =
      after Bool Expr (AnyOf Bool) (λ b. cond b Other Other) IsWritten operand (eat_keyword word.Not ts) _ (eats_word Other word.Not is_not ts given) (elim [
        | true ↦ λ u us more. after Expr Expr IsWritten operand IsWritten operand (comparison inner us) _ (comparison_given us more) (λ x written vs last. (not_written x written, last))
        | false ↦ λ u us more. comparison_given us more
      ])

  conjunction_given : Reads (conjunction inner)
  unfolding conjunction
  conjunction_given ts given =
      after Expr Expr IsWritten operand IsWritten operand (negation inner ts) _ (negation_given ts given) (λ a one us more.
      after (List Expr) Expr (AllByRecursion IsWritten) operand IsWritten operand (chain (conjunct inner) us) _
      (chain_given Expr IsWritten (conjunct inner) (link_given (eat_keyword word.And) (negation inner) (eats_word Operand word.And is_and) negation_given) us more)
      (λ xs all vs last. (chained_written Expr IsWritten e.And and_written a xs one all, last)))

  disjunction_given : Reads (disjunction inner)
  unfolding disjunction
  disjunction_given ts given =
      after Expr Expr IsWritten operand IsWritten operand (conjunction inner ts) _ (conjunction_given ts given) (λ a one us more.
      after (List Expr) Expr (AllByRecursion IsWritten) operand IsWritten operand (chain (disjunct inner) us) _
      (chain_given Expr IsWritten (disjunct inner) (link_given (eat_keyword word.Or) (conjunction inner) (eats_word Operand word.Or is_or) conjunction_given) us more)
      (λ xs all vs last. (chained_written Expr IsWritten e.Or or_written a xs one all, last)))

pub expression_given : (depth : ℕ) → Reads (expression depth)
unfolding expression
expression_given zero ts given = tt
expression_given (suc depth) ts given = disjunction_given (expression depth) (expression_given depth) ts given

pub reads_written : ReadsWritten
reads_written depth pieces rest x given is = (subst (Gave Expr IsWritten operand) is (expression_given depth pieces given)).0
