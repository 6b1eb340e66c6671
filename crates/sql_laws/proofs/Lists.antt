-- The lists of a node: the operands of a chain, and the elements behind IN.
use Rattle.std.proofs.Common.{◌≡◌, ◌∙◌, ap, refl, true, false, List, [], ◌∷◌, ◌++◌, length, map, Some, None, Ok, arith}
use Rattle.std.specs.List.{AllByRecursion}
use Rattle.std.proofs.lemmas.List.{append_assoc}
use Rattle.sql_ast.specs.declared.expressions.Expr.{Expr}
use Rattle.sql_ast.specs.declared.expressions.Term.{Term}
use Rattle.sql_ast.specs.declared.expressions.Term.TheVariants as sum_term
use Rattle.sql_ast.specs.declared.signs.Sign.TheVariants as sign
use Rattle.sql_ast.specs.declared.words.Keyword.TheVariants as word
use Rattle.sql_ast.specs.declared.pieces.Piece.{Piece}
use Rattle.sql_grammar.specs.Pieces.{same_sign, same_keyword}
use Rattle.sql_grammar.specs.Reading.{Reader, sees, sees_keyword, chain, comma, list}
use Rattle.sql_grammar.specs.Expressions.{factor, term, conjunct, disjunct, listed, term_ahead, test_ahead}
use Rattle.sql_laws.specs.Spelling.{spelled, enclosed, each, led, led_term, separated, mark, key, ends_expression}
use Rattle.sql_laws.proofs.Chains.{Links, chain_from_reads, chain_reads, each_long, good_each}
use Rattle.sql_laws.proofs.Ends.{EndsComparison, EndsConjunction, EndsAll}
use Rattle.sql_laws.proofs.Operands.{IsRead, operand_unary, operand_product, operand_negation, operand_conjunction}

pub all_from : (A : Type 0) (P Q : A → Type 0) → ((x : A) → P x → Q x) → (xs : List A) → AllByRecursion P xs → AllByRecursion Q xs
all_from A P Q from [] all = tt
all_from A P Q from (x ∷ xs) all = (from x all.0, all_from A P Q from xs all.1)

module _ (inner : Reader Expr) (rest : List Piece) where
  pub factors : sees sign.Star rest ≡ false → (xs : List Expr) → AllByRecursion (IsRead inner) xs
      → chain (factor inner) (each (led (mark sign.Star)) (map spelled xs) ++ rest) ≡ Ok (xs, rest)
  unfolding sees same_sign
  factors star xs all =
      chain_reads Expr (List Piece) (factor inner) (led (mark sign.Star)) spelled (λ more. Unit {0}) rest (rw star refl) tt (λ b more. tt) (λ b. omega arith) xs
      (all_from Expr (IsRead inner) (Links Expr (List Piece) (factor inner) (led (mark sign.Star)) spelled (λ more. Unit {0}))
      (λ x read more good. rw (operand_unary inner x read more) refl) xs all)

  term_read : (x : Term × Expr) → IsRead inner x.1 → (more : List Piece) → sees sign.Star more ≡ false
      → term inner (led_term (x.0, spelled x.1) ++ more) ≡ Ok (Some x, more)
  unfolding term term_ahead
  term_read x read more star =
      elim x.0 as (λ t. term inner (led_term (t, spelled x.1) ++ more) ≡ Ok (Some (t, x.1), more)) [
        | sum_term.Plus ↦ rw (operand_product inner x.1 read more star) refl
        | sum_term.Minus ↦ rw (operand_product inner x.1 read more star) refl
      ]

  pub no_star : (b : Term × List Piece) (more : List Piece) → sees sign.Star (led_term b ++ more) ≡ false
  unfolding sees same_sign
  no_star b more = elim b.0 as (λ t. sees sign.Star (led_term (t, b.1) ++ more) ≡ false) [ sum_term.Plus ↦ refl | sum_term.Minus ↦ refl ]

  pub terms : sees sign.Star rest ≡ false → term_ahead rest ≡ None → (xs : List (Term × Expr)) → AllByRecursion (λ x. IsRead inner x.1) xs
      → chain (term inner) (each led_term (map (λ x. (x.0, spelled x.1)) xs) ++ rest) ≡ Ok (xs, rest)
  unfolding term
  terms star none xs all =
      let Good : List Piece → Type 0 = λ more. sees sign.Star more ≡ false in
      chain_reads (Term × Expr) (Term × List Piece) (term inner) led_term (λ x. (x.0, spelled x.1)) Good rest (rw none refl) star no_star (λ b. omega arith) xs
      (all_from (Term × Expr) (λ x. IsRead inner x.1) (Links (Term × Expr) (Term × List Piece) (term inner) led_term (λ x. (x.0, spelled x.1)) Good) term_read xs all)

  pub conjuncts : EndsConjunction rest → (xs : List Expr) → AllByRecursion (IsRead inner) xs
      → chain (conjunct inner) (each (led (key word.And)) (map spelled xs) ++ rest) ≡ Ok (xs, rest)
  unfolding sees sees_keyword same_keyword term_ahead test_ahead
  conjuncts ends xs all =
      chain_reads Expr (List Piece) (conjunct inner) (led (key word.And)) spelled EndsComparison rest (rw ends.conjunct refl) ends.comparison
      (λ b more. record { star = refl; term = refl; test = refl }) (λ b. omega arith) xs
      (all_from Expr (IsRead inner) (Links Expr (List Piece) (conjunct inner) (led (key word.And)) spelled EndsComparison)
      (λ x read more good. rw (operand_negation inner x read more good) refl) xs all)

  pub disjuncts : EndsAll rest → (xs : List Expr) → AllByRecursion (IsRead inner) xs
      → chain (disjunct inner) (each (led (key word.Or)) (map spelled xs) ++ rest) ≡ Ok (xs, rest)
  unfolding sees sees_keyword same_keyword term_ahead test_ahead
  disjuncts ends xs all =
      chain_reads Expr (List Piece) (disjunct inner) (led (key word.Or)) spelled EndsConjunction rest (rw ends.disjunct refl)
      (record { comparison = ends.comparison; conjunct = ends.conjunct })
      (λ b more. record { comparison = record { star = refl; term = refl; test = refl }; conjunct = refl }) (λ b. omega arith) xs
      (all_from Expr (IsRead inner) (Links Expr (List Piece) (disjunct inner) (led (key word.Or)) spelled EndsConjunction)
      (λ x read more good. rw (operand_conjunction inner x read more good.comparison good.conjunct) refl) xs all)

  -- the elements of a list, and the parenthesis behind them
  elements : (x : Expr) (xs : List Expr) → AllByRecursion (IsRead inner) (x ∷ xs)
      → list inner (separated (map spelled (x ∷ xs)) ++ mark sign.CloseParenthesis ∷ rest) ≡ Ok (x ∷ xs, mark sign.CloseParenthesis ∷ rest)
  unfolding list sees same_sign
  elements x xs all =
      let spell = λ (y : List Piece). mark sign.Comma ∷ y in
      let Ends : List Piece → Type 0 = λ ts. ends_expression ts ≡ true in
      let after = mark sign.CloseParenthesis ∷ rest in
      let mid = each spell (map spelled xs) ++ after in
      let links = all_from Expr (IsRead inner) (Links Expr (List Piece) (comma inner) spell spelled Ends) (λ y read more good. rw (read more good) refl) xs all.1 in
      let others = chain_from_reads Expr (List Piece) (comma inner) spell spelled Ends after refl refl (λ b more. refl) xs links (length mid) (x ∷ [])
      (each_long Expr (List Piece) (comma inner) spell spelled Ends after refl refl (λ b more. refl) (λ b. omega arith) xs) in
      let first = all.0 mid (good_each Expr (List Piece) (comma inner) spell spelled Ends after refl refl (λ b more. refl) xs) in
      ap (list inner) (append_assoc (spelled x) (each spell (map spelled xs)) after) ∙ rw first others

  pub listed_read : (x : Expr) (xs : List Expr) → AllByRecursion (IsRead inner) (x ∷ xs)
      → listed inner (enclosed (separated (map spelled (x ∷ xs))) ++ rest) ≡ Ok (x ∷ xs, rest)
  unfolding listed sees same_sign
  listed_read x xs all = rw (append_assoc (separated (map spelled (x ∷ xs))) (mark sign.CloseParenthesis ∷ []) rest, elements x xs all) refl
