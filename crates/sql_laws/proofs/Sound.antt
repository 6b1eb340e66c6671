-- Whatever a rule reads is a tree.
use Rattle.std.proofs.Common.{subst, ℕ, zero, suc, true, false, Bool, cond, List, [], ◌∷◌, ◌++◌, length, drop, Option, Some, None, Ok, Err}
use Rattle.std.specs.List.{AllByRecursion}
use Rattle.sql_ast.specs.declared.expressions.Expr.{Expr}
use Rattle.sql_ast.specs.declared.expressions.Expr.TheVariants as e
use Rattle.sql_ast.specs.declared.expressions.Literal.{Literal}
use Rattle.sql_ast.specs.declared.expressions.Term.{Term}
use Rattle.sql_ast.specs.declared.signs.Sign.TheVariants as sign
use Rattle.sql_ast.specs.declared.words.Keyword.TheVariants as word
use Rattle.sql_grammar.specs.declared.heads.Function.{Function}
use Rattle.sql_grammar.specs.declared.heads.Function.TheVariants as function
use Rattle.sql_grammar.specs.declared.heads.Test.{Test}
use Rattle.sql_grammar.specs.declared.heads.Test.TheVariants as test
use Rattle.sql_ast.specs.declared.pieces.Piece.{Piece}
use Rattle.sql_grammar.specs.Reading.{Outcome, Reader, and_then, eat, eat_keyword, expect, expect_keyword, name, list, linked, chain, chain_from, comma, behind}
use Rattle.sql_grammar.specs.Expressions.{column, branch, null_test, called, literal_ahead, test_ahead, term_ahead, enclosed, count, call, call_of, other_atom, literal_or_other, plain_atom, atom_by, atom, unary, factor, product, term_by, term, sum, listed, limits, negated_by, negated, tested_by, tested, comparison, negation, conjunct, conjunction, disjunct, disjunction, chained, expression}
use Rattle.sql_laws.specs.GrammarLaws.{ReadsTrees}
use Rattle.sql_laws.proofs.Growth.{IsTree, or_tree, and_tree, not_tree, compare_tree, is_null_tree, is_not_null_tree, in_tree, not_in_tree, between_tree, not_between_tree, terms_tree, factors_tree, negate_tree, literal_tree, name_tree, qualified_tree, count_all_tree, count_tree, sum_tree, min_tree, max_tree, active_branch_tree, variable_tree}

-- what was read is such, where anything was
abbrev pub Gives : (A : Type 0) → (A → Type 0) → Outcome A → Type 0
Gives A P (Ok read) = P read.0
Gives A P (Err left) = Unit {0}

abbrev pub Sound : (A : Type 0) → (A → Type 0) → Reader A → Type 0
Sound A P reader = (ts : List Piece) → Gives A P (reader ts)

abbrev pub Any : (A : Type 0) → A → Type 0
Any A x = Unit {0}

abbrev pub Maybe : (A : Type 0) → (A → Type 0) → Option A → Type 0
Maybe A P None = Unit {0}
Maybe A P (Some x) = P x

gives_any : (A : Type 0) (o : Outcome A) → Gives A (Any A) o
gives_any A (Ok read) = tt
gives_any A (Err left) = tt

after : (A B : Type 0) (P : A → Type 0) (Q : B → Type 0) (o : Outcome A) (next : A → Reader B) → Gives A P o → ((x : A) → P x → Sound B Q (next x)) → Gives B Q (and_then o next)
after A B P Q (Ok read) next is goes = goes read.0 is read.1
after A B P Q (Err left) next is goes = tt

-- after something that doesn't matter
after_any : (A B : Type 0) (Q : B → Type 0) (o : Outcome A) (next : A → Reader B) → ((x : A) → Sound B Q (next x)) → Gives B Q (and_then o next)
after_any A B Q o next goes = after A B (Any A) Q o next (gives_any A o) (λ x is. goes x)

chosen : (B : Type 0) (Q : B → Type 0) (b : Bool) (one two : Reader B) → Sound B Q one → Sound B Q two → Sound B Q (cond b one two)
chosen B Q true one two sound other = sound
chosen B Q false one two sound other = other

module _ (A : Type 0) (P : A → Type 0) where
  pushed : (xs : List A) (x : A) → AllByRecursion P xs → P x → AllByRecursion P (xs ++ x ∷ [])
  pushed [] x all is = (is, tt)
  pushed (y ∷ ys) x all is = (all.0, pushed ys x all.1 is)

  -- the list that a chain goes on with, and what is kept of it
  module _ (Kept : List A → Type 0) (keeps : (xs : List A) (x : A) → Kept xs → P x → Kept (xs ++ x ∷ [])) (link : Reader (Option A)) (sound : Sound (Option A) (Maybe A P) link) where
    chain_from_sound : (n : ℕ) (found : List A) → Kept found → Sound (List A) Kept (chain_from link n found)
    unfolding chain_from
    chain_from_sound zero found kept ts = kept
    chain_from_sound (suc n) found kept ts =
        after (Option A) (List A) (Maybe A P) Kept (link ts) (linked (chain_from link n) found) (sound ts)
        (elim [ None ↦ λ is us. kept | Some x ↦ λ is us. chain_from_sound n (found ++ x ∷ []) (keeps found x kept is) us ])

  chain_sound : (link : Reader (Option A)) → Sound (Option A) (Maybe A P) link → Sound (List A) (AllByRecursion P) (chain link)
  unfolding chain
  chain_sound link sound ts = chain_from_sound (AllByRecursion P) pushed link sound (length ts) [] tt ts

-- a list that isn't empty
abbrev pub Listed : List Expr → Type 0
Listed [] = ⊥
Listed (x ∷ xs) = AllByRecursion IsTree (x ∷ xs)

listed_more : (xs : List Expr) (x : Expr) → Listed xs → IsTree x → Listed (xs ++ x ∷ [])
listed_more [] x all is = absurd all
listed_more (y ∷ ys) x all is = pushed Expr IsTree (y ∷ ys) x all is

module _ (inner : Reader Expr) (sound : Sound Expr IsTree inner) where
  link_sound : (lead : Reader Bool) (item : Reader Expr) → Sound Expr IsTree item → Sound (Option Expr) (Maybe Expr IsTree) (behind lead item)
  link_sound lead item is ts =
      after_any Bool (Option Expr) (Maybe Expr IsTree) (lead ts) _ (elim [ true ↦ λ us. after Expr (Option Expr) IsTree (Maybe Expr IsTree) (item us) _ (is us) (λ x tree vs. tree) | false ↦ λ us. tt ])

  enclosed_sound : Sound Expr IsTree (enclosed inner)
  unfolding enclosed
  enclosed_sound ts = after Expr Expr IsTree IsTree (inner ts) _ (sound ts) (λ x tree us. after_any (Unit {0}) Expr IsTree (expect sign.CloseParenthesis us) _ (λ u vs. tree))

  count_sound : Sound Expr IsTree (count inner)
  unfolding count
  count_sound ts =
      after_any Bool Expr IsTree (eat sign.Star ts) _ (elim [
        | true ↦ λ us. after_any (Unit {0}) Expr IsTree (expect sign.CloseParenthesis us) _ (λ u vs. count_all_tree)
        | false ↦ λ us. after Expr Expr IsTree IsTree (enclosed inner us) _ (enclosed_sound us) (λ x tree vs. count_tree x tree)
      ])

  branch_sound : Sound Expr IsTree branch
  unfolding branch
  branch_sound ts = after_any (Unit {0}) Expr IsTree (expect sign.CloseParenthesis ts) _ (λ u us. active_branch_tree)

  call_of_sound : (f : Function) → Sound Expr IsTree (call_of inner f)
  call_of_sound function.Count = count_sound
  call_of_sound function.Sum = λ ts. after Expr Expr IsTree IsTree (enclosed inner ts) _ (enclosed_sound ts) (λ x tree us. sum_tree x tree)
  call_of_sound function.Min = λ ts. after Expr Expr IsTree IsTree (enclosed inner ts) _ (enclosed_sound ts) (λ x tree us. min_tree x tree)
  call_of_sound function.Max = λ ts. after Expr Expr IsTree IsTree (enclosed inner ts) _ (enclosed_sound ts) (λ x tree us. max_tree x tree)
  call_of_sound function.ActiveBranch = branch_sound

  call_sound : (f : Function) → Sound Expr IsTree (call inner f)
  unfolding call
  call_sound f ts = call_of_sound f (drop 1 (drop 1 ts))

  column_sound : Sound Expr IsTree column
  unfolding column
  column_sound ts =
      after_any (List ℕ) Expr IsTree (name ts) _ (λ first us. after_any Bool Expr IsTree (eat sign.Point us) _ (elim [
        | true ↦ λ vs. after_any (List ℕ) Expr IsTree (name vs) _ (λ second ws. qualified_tree first second)
        | false ↦ λ vs. name_tree first
      ]))

  other_atom_sound : Sound Expr IsTree (other_atom inner)
  unfolding other_atom
  other_atom_sound ts =
      after_any Bool Expr IsTree (eat sign.OpenParenthesis ts) _ (elim [
        | true ↦ enclosed_sound
        | false ↦ λ us. after_any Bool Expr IsTree (eat sign.AtAt us) _ (elim [
          | true ↦ λ vs. after_any (List ℕ) Expr IsTree (name vs) _ (λ n ws. variable_tree n)
          | false ↦ column_sound
        ])
      ])

  literal_or_other_sound : (found : Option Literal) → Sound Expr IsTree (literal_or_other inner found)
  literal_or_other_sound (Some x) = λ ts. literal_tree x
  literal_or_other_sound None = other_atom_sound

  plain_atom_sound : Sound Expr IsTree (plain_atom inner)
  unfolding plain_atom
  plain_atom_sound ts = literal_or_other_sound (literal_ahead ts) ts

  atom_by_sound : (f : Option Function) → Sound Expr IsTree (atom_by inner f)
  atom_by_sound (Some f) = call_sound f
  atom_by_sound None = plain_atom_sound

  atom_sound : Sound Expr IsTree (atom inner)
  unfolding atom
  atom_sound ts = atom_by_sound (called ts) ts

  unary_sound : Sound Expr IsTree (unary inner)
  unfolding unary
  unary_sound ts =
      after_any Bool Expr IsTree (eat sign.Minus ts) _ (elim [
        | true ↦ λ us. after Expr Expr IsTree IsTree (atom inner us) _ (atom_sound us) (λ x tree vs. negate_tree x tree)
        | false ↦ atom_sound
      ])

  -- a chain that holds more than its first operand
  chained_tree : (A : Type 0) (P : A → Type 0) (node : Expr → List A → Expr) → ((a : Expr) (x : A) (xs : List A) → IsTree a → AllByRecursion P (x ∷ xs) → IsTree (node a (x ∷ xs)))
      → (a : Expr) (xs : List A) → IsTree a → AllByRecursion P xs → IsTree (chained node a xs)
  chained_tree A P node grows a [] tree all = tree
  chained_tree A P node grows a (x ∷ xs) tree all = grows a x xs tree all

  product_sound : Sound Expr IsTree (product inner)
  unfolding product
  product_sound ts =
      after Expr Expr IsTree IsTree (unary inner ts) _ (unary_sound ts) (λ a tree us.
      after (List Expr) Expr (AllByRecursion IsTree) IsTree (chain (factor inner) us) _ (chain_sound Expr IsTree (factor inner) (link_sound (eat sign.Star) (unary inner) unary_sound) us)
      (λ xs all vs. chained_tree Expr IsTree e.Factors factors_tree a xs tree all))

  term_by_sound : (t : Option Term) → Sound (Option (Term × Expr)) (Maybe (Term × Expr) (λ x. IsTree x.1)) (term_by inner t)
  term_by_sound (Some t) = λ ts. after Expr (Option (Term × Expr)) IsTree (Maybe (Term × Expr) (λ x. IsTree x.1)) (product inner (drop 1 ts)) _ (product_sound (drop 1 ts)) (λ x tree us. tree)
  term_by_sound None = λ ts. tt

  term_sound : Sound (Option (Term × Expr)) (Maybe (Term × Expr) (λ x. IsTree x.1)) (term inner)
  unfolding term
  term_sound ts = term_by_sound (term_ahead ts) ts

  sum_sound : Sound Expr IsTree (sum inner)
  unfolding sum
  sum_sound ts =
      after Expr Expr IsTree IsTree (product inner ts) _ (product_sound ts) (λ a tree us.
      after (List (Term × Expr)) Expr (AllByRecursion (λ x. IsTree x.1)) IsTree (chain (term inner) us) _ (chain_sound (Term × Expr) (λ x. IsTree x.1) (term inner) term_sound us)
      (λ xs all vs. chained_tree (Term × Expr) (λ x. IsTree x.1) e.Terms terms_tree a xs tree all))

  list_sound : Sound (List Expr) Listed (list inner)
  unfolding list
  list_sound ts =
      after Expr (List Expr) IsTree Listed (inner ts) _ (sound ts)
      (λ x tree us. chain_from_sound Expr IsTree Listed listed_more (comma inner) (link_sound (eat sign.Comma) inner sound) (length us) (x ∷ []) (tree, tt) us)

  listed_sound : Sound (List Expr) Listed (listed inner)
  unfolding listed
  listed_sound ts =
      after_any (Unit {0}) (List Expr) Listed (expect sign.OpenParenthesis ts) _ (λ u us.
      after (List Expr) (List Expr) Listed Listed (list inner us) _ (list_sound us) (λ xs all vs.
      after_any (Unit {0}) (List Expr) Listed (expect sign.CloseParenthesis vs) _ (λ w ws. all)))

  limits_sound : Sound (Expr × Expr) (λ ends. IsTree ends.0 × IsTree ends.1) (limits inner)
  unfolding limits
  limits_sound ts =
      let Both : Expr × Expr → Type 0 = λ ends. IsTree ends.0 × IsTree ends.1 in
      after Expr (Expr × Expr) IsTree Both (sum inner ts) _ (sum_sound ts) (λ low tree us.
      after_any (Unit {0}) (Expr × Expr) Both (expect_keyword word.And us) _ (λ u vs.
      after Expr (Expr × Expr) IsTree Both (sum inner vs) _ (sum_sound vs) (λ high other ws. (tree, other))))

  of_list : (node : Expr → List Expr → Expr) → ((a x : Expr) (xs : List Expr) → IsTree a → AllByRecursion IsTree (x ∷ xs) → IsTree (node a (x ∷ xs)))
      → (a : Expr) (xs : List Expr) → IsTree a → Listed xs → IsTree (node a xs)
  of_list node grows a [] tree all = absurd all
  of_list node grows a (x ∷ xs) tree all = grows a x xs tree all

  module _ (a : Expr) (tree : IsTree a) where
    in_list : (node : Expr → List Expr → Expr) → ((a x : Expr) (xs : List Expr) → IsTree a → AllByRecursion IsTree (x ∷ xs) → IsTree (node a (x ∷ xs)))
        → (ts : List Piece) → Gives Expr IsTree (and_then (listed inner ts) (λ xs us. Ok (node a xs, us)))
    in_list node grows ts = after (List Expr) Expr Listed IsTree (listed inner ts) _ (listed_sound ts) (λ xs all us. of_list node grows a xs tree all)

    in_limits : (node : Expr → Expr → Expr → Expr) → ((a low high : Expr) → IsTree a → IsTree low → IsTree high → IsTree (node a low high))
        → (ts : List Piece) → Gives Expr IsTree (and_then (limits inner ts) (λ ends us. Ok (node a ends.0 ends.1, us)))
    in_limits node grows ts =
        after (Expr × Expr) Expr (λ ends. IsTree ends.0 × IsTree ends.1) IsTree (limits inner ts) _ (limits_sound ts) (λ ends trees us. grows a ends.0 ends.1 tree trees.0 trees.1)

    negated_by_sound : (t : Test) → Sound Expr IsTree (negated_by inner a t)
    negated_by_sound test.In = λ ts. in_list e.NotIn not_in_tree (drop 1 ts)
    negated_by_sound test.Between = λ ts. in_limits e.NotBetween not_between_tree (drop 1 ts)
    negated_by_sound _ = λ ts. tt

    negated_sound : Sound Expr IsTree (negated inner a)
    unfolding negated
    negated_sound ts = negated_by_sound (test_ahead ts) ts

    null_test_sound : Sound Expr IsTree (null_test a)
    unfolding null_test
    null_test_sound ts =
        after_any Bool Expr IsTree (eat_keyword word.Not ts) _ (elim [
          | true ↦ λ us. after_any (Unit {0}) Expr IsTree (expect_keyword word.Null us) _ (λ u vs. is_not_null_tree a tree)
          | false ↦ λ us. after_any (Unit {0}) Expr IsTree (expect_keyword word.Null us) _ (λ u vs. is_null_tree a tree)
        ])

    tested_by_sound : (t : Test) → Sound Expr IsTree (tested_by inner a t)
    tested_by_sound (test.Compare operator) = λ ts. after Expr Expr IsTree IsTree (sum inner (drop 1 ts)) _ (sum_sound (drop 1 ts)) (λ b other us. compare_tree a operator b tree other)
    tested_by_sound test.Is = λ ts. null_test_sound (drop 1 ts)
    tested_by_sound test.Not = λ ts. negated_sound (drop 1 ts)
    tested_by_sound test.In = λ ts. in_list e.In in_tree (drop 1 ts)
    tested_by_sound test.Between = λ ts. in_limits e.Between between_tree (drop 1 ts)
    tested_by_sound test.Absent = λ ts. tree

    tested_sound : Sound Expr IsTree (tested inner a)
    unfolding tested
    tested_sound ts = tested_by_sound (test_ahead ts) ts

  comparison_sound : Sound Expr IsTree (comparison inner)
  unfolding comparison
  comparison_sound ts = after Expr Expr IsTree IsTree (sum inner ts) (tested inner) (sum_sound ts) tested_sound

  negation_sound : Sound Expr IsTree (negation inner)
  unfolding negation
  negation_sound ts =
      after_any Bool Expr IsTree (eat_keyword word.Not ts) _ (elim [
        | true ↦ λ us. after Expr Expr IsTree IsTree (comparison inner us) _ (comparison_sound us) (λ x tree vs. not_tree x tree)
        | false ↦ comparison_sound
      ])

  conjunction_sound : Sound Expr IsTree (conjunction inner)
  unfolding conjunction
  conjunction_sound ts =
      after Expr Expr IsTree IsTree (negation inner ts) _ (negation_sound ts) (λ a tree us.
      after (List Expr) Expr (AllByRecursion IsTree) IsTree (chain (conjunct inner) us) _ (chain_sound Expr IsTree (conjunct inner) (link_sound (eat_keyword word.And) (negation inner) negation_sound) us)
      (λ xs all vs. chained_tree Expr IsTree e.And and_tree a xs tree all))

  disjunction_sound : Sound Expr IsTree (disjunction inner)
  unfolding disjunction
  disjunction_sound ts =
      after Expr Expr IsTree IsTree (conjunction inner ts) _ (conjunction_sound ts) (λ a tree us.
      after (List Expr) Expr (AllByRecursion IsTree) IsTree (chain (disjunct inner) us) _ (chain_sound Expr IsTree (disjunct inner) (link_sound (eat_keyword word.Or) (conjunction inner) conjunction_sound) us)
      (λ xs all vs. chained_tree Expr IsTree e.Or or_tree a xs tree all))

pub expression_sound : (depth : ℕ) → Sound Expr IsTree (expression depth)
unfolding expression
expression_sound zero ts = tt
expression_sound (suc depth) ts = disjunction_sound (expression depth) (expression_sound depth) ts

pub reads_trees : ReadsTrees
reads_trees depth pieces rest x is = subst (Gives Expr IsTree) is (expression_sound depth pieces)
