-- One lemma a variant: its spelling is read as it, where its parts are.
use Rattle.std.proofs.Common.{◌≡◌, ◌∙◌, ap, refl, ℕ, true, false, List, [], ◌∷◌, ◌++◌, map, Some, None, Ok, codes}
use Rattle.std.specs.List.{AllByRecursion}
use Rattle.std.proofs.lemmas.List.{append_assoc}
use Rattle.sql_ast.specs.declared.expressions.Comparison.{Comparison}
use Rattle.sql_ast.specs.declared.expressions.Comparison.TheVariants as operator
use Rattle.sql_ast.specs.declared.expressions.Expr.{Expr}
use Rattle.sql_ast.specs.declared.expressions.Expr.TheOpen.{Expr-F}
use Rattle.sql_ast.specs.declared.expressions.Expr.TheVariants as e
use Rattle.sql_ast.specs.declared.expressions.Literal.{Literal}
use Rattle.sql_ast.specs.declared.expressions.Literal.TheVariants as literal
use Rattle.sql_ast.specs.declared.expressions.Term.{Term}
use Rattle.sql_ast.specs.declared.signs.Sign.TheVariants as sign
use Rattle.sql_ast.specs.declared.words.Keyword.TheVariants as word
use Rattle.sql_grammar.specs.declared.heads.Test.TheVariants as test
use Rattle.sql_ast.specs.declared.pieces.Piece.{Piece}
use Rattle.sql_ast.specs.declared.pieces.Piece.TheVariants as piece
use Rattle.sql_grammar.specs.Pieces.{same_sign, same_keyword, function_of, literal_of, is_sign, is_keyword}
use Rattle.sql_grammar.specs.Reading.{Reader, sees, sees_keyword, name}
use Rattle.sql_grammar.specs.Expressions.{atom, atom_by, plain_atom, other_atom, literal_ahead, column, call, called, count, branch, disjunction, tested, negated, null_test, limits, term_ahead, test_ahead}
use Rattle.sql_laws.specs.Spelling.{spell, spelled, enclosed, each, led, led_term, separated, literal_piece, comparison_sign, mark, key}
use Rattle.sql_laws.proofs.Ends.{EndsAll}
use Rattle.sql_laws.proofs.Lists.{factors, no_star, terms, conjuncts, disjuncts, listed_read}
use Rattle.sql_laws.proofs.Operands.{IsRead, closed, operand_atom, operand_unary, operand_product, operand_sum, operand_comparison, operand_negation, operand_conjunction}
use Rattle.sql_laws.proofs.Rungs.{not_called, negative_of_atom, product_of_unaries, sum_of_products, comparison_of_sum, negated_comparison, conjunction_of_negations, disjunction_of_conjunctions}
use Rattle.sql_laws.proofs.Wholes.{whole_of_conjunction, whole_of_negation, whole_of_comparison, whole_of_sum, whole_of_product, whole_of_unary, whole_of_atom}

-- what a comparison's sign is taken for
pub comparison_ahead : (o : Comparison) (ts : List Piece) → test_ahead (mark (comparison_sign o) ∷ ts) ≡ test.Compare o
unfolding test_ahead
comparison_ahead operator.Equal ts = refl
comparison_ahead operator.NotEqual ts = refl
comparison_ahead operator.Less ts = refl
comparison_ahead operator.AtMost ts = refl
comparison_ahead operator.Greater ts = refl
comparison_ahead operator.AtLeast ts = refl

pub no_star_ahead : (o : Comparison) (ts : List Piece) → sees sign.Star (mark (comparison_sign o) ∷ ts) ≡ false
unfolding sees same_sign
no_star_ahead operator.Equal ts = refl
no_star_ahead operator.NotEqual ts = refl
no_star_ahead operator.Less ts = refl
no_star_ahead operator.AtMost ts = refl
no_star_ahead operator.Greater ts = refl
no_star_ahead operator.AtLeast ts = refl

pub no_term_ahead : (o : Comparison) (ts : List Piece) → term_ahead (mark (comparison_sign o) ∷ ts) ≡ None
unfolding term_ahead
no_term_ahead operator.Equal ts = refl
no_term_ahead operator.NotEqual ts = refl
no_term_ahead operator.Less ts = refl
no_term_ahead operator.AtMost ts = refl
no_term_ahead operator.Greater ts = refl
no_term_ahead operator.AtLeast ts = refl

module _ (inner : Reader Expr) (rest : List Piece) (ends : EndsAll rest) where
  -- that the spelling of a layer is read as a tree
  abbrev pub ReadAs : Expr-F (List Piece) → Expr → Type 0
  ReadAs layer x = disjunction inner (spell layer ++ rest) ≡ Ok (x, rest)

  pub or_read : (a : Expr) (x : Expr) (xs : List Expr) → IsRead inner a → AllByRecursion (IsRead inner) (x ∷ xs) → ReadAs (Expr-F.Or (spelled a) (map spelled (x ∷ xs))) (e.Or a (x ∷ xs))
  unfolding sees sees_keyword same_keyword term_ahead test_ahead
  or_read a x xs read all =
      let mid = each (led (key word.Or)) (map spelled (x ∷ xs)) ++ rest in
      ap (disjunction inner) (append_assoc (enclosed (spelled a)) (each (led (key word.Or)) (map spelled (x ∷ xs))) rest)
      ∙ disjunction_of_conjunctions inner a (x ∷ xs) (enclosed (spelled a) ++ mid) mid rest
      (operand_conjunction inner a read mid (record { star = refl; term = refl; test = refl }) refl) (disjuncts inner rest ends (x ∷ xs) all)

  pub and_read : (a : Expr) (x : Expr) (xs : List Expr) → IsRead inner a → AllByRecursion (IsRead inner) (x ∷ xs) → ReadAs (Expr-F.And (spelled a) (map spelled (x ∷ xs))) (e.And a (x ∷ xs))
  unfolding sees sees_keyword same_keyword term_ahead test_ahead
  and_read a x xs read all =
      let mid = each (led (key word.And)) (map spelled (x ∷ xs)) ++ rest in
      ap (disjunction inner) (append_assoc (enclosed (spelled a)) (each (led (key word.And)) (map spelled (x ∷ xs))) rest)
      ∙ whole_of_conjunction inner rest ends (e.And a (x ∷ xs)) (enclosed (spelled a) ++ mid)
      (conjunction_of_negations inner a (x ∷ xs) (enclosed (spelled a) ++ mid) mid rest
      (operand_negation inner a read mid (record { star = refl; term = refl; test = refl })) (conjuncts inner rest (record { comparison = ends.comparison; conjunct = ends.conjunct }) (x ∷ xs) all))

  pub factors_read : (a : Expr) (x : Expr) (xs : List Expr) → IsRead inner a → AllByRecursion (IsRead inner) (x ∷ xs) → ReadAs (Expr-F.Factors (spelled a) (map spelled (x ∷ xs))) (e.Factors a (x ∷ xs))
  unfolding sees_keyword
  factors_read a x xs read all =
      let mid = each (led (mark sign.Star)) (map spelled (x ∷ xs)) ++ rest in
      ap (disjunction inner) (append_assoc (enclosed (spelled a)) (each (led (mark sign.Star)) (map spelled (x ∷ xs))) rest)
      ∙ whole_of_product inner rest ends (e.Factors a (x ∷ xs)) (enclosed (spelled a) ++ mid) refl
      (product_of_unaries inner a (x ∷ xs) (enclosed (spelled a) ++ mid) mid rest (operand_unary inner a read mid) (factors inner rest ends.comparison.star (x ∷ xs) all))

  pub terms_read : (a : Expr) (x : Term × Expr) (xs : List (Term × Expr)) → IsRead inner a → AllByRecursion (λ y. IsRead inner y.1) (x ∷ xs)
      → ReadAs (Expr-F.Terms (spelled a) (map (λ y. (y.0, spelled y.1)) (x ∷ xs))) (e.Terms a (x ∷ xs))
  unfolding sees_keyword sees same_sign
  terms_read a x xs read all =
      let spelling = each led_term (map (λ (y : Term × Expr). (y.0, spelled y.1)) (x ∷ xs)) in
      let mid = spelling ++ rest in
      let star : sees sign.Star mid ≡ false = no_star inner rest (x.0, spelled x.1) [] in
      ap (disjunction inner) (append_assoc (enclosed (spelled a)) spelling rest)
      ∙ whole_of_sum inner rest ends (e.Terms a (x ∷ xs)) (enclosed (spelled a) ++ mid) refl
      (sum_of_products inner a (x ∷ xs) (enclosed (spelled a) ++ mid) mid rest (operand_product inner a read mid star) (terms inner rest ends.comparison.star ends.comparison.term (x ∷ xs) all))

  -- a comparison, from its first sum and what is tested of it
  tested_read : (a x : Expr) (spelling : List Piece) → IsRead inner a → sees sign.Star (spelling ++ rest) ≡ false → term_ahead (spelling ++ rest) ≡ None
      → tested inner a (spelling ++ rest) ≡ Ok (x, rest) → disjunction inner ((enclosed (spelled a) ++ spelling) ++ rest) ≡ Ok (x, rest)
  unfolding sees_keyword
  tested_read a x spelling read star none is =
      ap (disjunction inner) (append_assoc (enclosed (spelled a)) spelling rest)
      ∙ whole_of_comparison inner rest ends x (enclosed (spelled a) ++ (spelling ++ rest)) refl
      (comparison_of_sum inner a x (enclosed (spelled a) ++ (spelling ++ rest)) (spelling ++ rest) rest (operand_sum inner a read (spelling ++ rest) star none) is)

  pub compare_read : (a : Expr) (o : Comparison) (b : Expr) → IsRead inner a → IsRead inner b → ReadAs (Expr-F.Compare (spelled a) o (spelled b)) (e.Compare a o b)
  unfolding tested
  compare_read a o b read_a read_b =
      let mid = enclosed (spelled b) ++ rest in
      tested_read a (e.Compare a o b) (led (mark (comparison_sign o)) (spelled b)) read_a (no_star_ahead o mid) (no_term_ahead o mid)
      (rw (comparison_ahead o mid, operand_sum inner b read_b rest ends.comparison.star ends.comparison.term) refl)

  pub is_null_read : (a : Expr) → IsRead inner a → ReadAs (Expr-F.IsNull (spelled a)) (e.IsNull a)
  unfolding tested null_test test_ahead term_ahead sees sees_keyword same_sign same_keyword
  is_null_read a read = tested_read a (e.IsNull a) (key word.Is ∷ key word.Null ∷ []) read refl refl refl

  pub is_not_null_read : (a : Expr) → IsRead inner a → ReadAs (Expr-F.IsNotNull (spelled a)) (e.IsNotNull a)
  unfolding tested null_test test_ahead term_ahead sees sees_keyword same_sign same_keyword
  is_not_null_read a read = tested_read a (e.IsNotNull a) (key word.Is ∷ key word.Not ∷ key word.Null ∷ []) read refl refl refl

  pub in_read : (a : Expr) (x : Expr) (xs : List Expr) → IsRead inner a → AllByRecursion (IsRead inner) (x ∷ xs) → ReadAs (Expr-F.In (spelled a) (map spelled (x ∷ xs))) (e.In a (x ∷ xs))
  unfolding tested test_ahead term_ahead sees
  in_read a x xs read all =
      tested_read a (e.In a (x ∷ xs)) (led (key word.In) (separated (map spelled (x ∷ xs)))) read refl refl (rw (listed_read inner rest x xs all) refl)

  pub not_in_read : (a : Expr) (x : Expr) (xs : List Expr) → IsRead inner a → AllByRecursion (IsRead inner) (x ∷ xs) → ReadAs (Expr-F.NotIn (spelled a) (map spelled (x ∷ xs))) (e.NotIn a (x ∷ xs))
  unfolding tested negated test_ahead term_ahead sees
  not_in_read a x xs read all =
      tested_read a (e.NotIn a (x ∷ xs)) (key word.Not ∷ led (key word.In) (separated (map spelled (x ∷ xs)))) read refl refl (rw (listed_read inner rest x xs all) refl)

  limits_read : (low high : Expr) → IsRead inner low → IsRead inner high
      → limits inner ((enclosed (spelled low) ++ led (key word.And) (spelled high)) ++ rest) ≡ Ok ((low, high), rest)
  unfolding limits sees sees_keyword same_keyword term_ahead
  limits_read low high read_low read_high =
      let mid = enclosed (spelled high) ++ rest in
      ap (limits inner) (append_assoc (enclosed (spelled low)) (led (key word.And) (spelled high)) rest)
      ∙ rw (operand_sum inner low read_low (key word.And ∷ mid) refl refl, operand_sum inner high read_high rest ends.comparison.star ends.comparison.term) refl

  pub between_read : (a low high : Expr) → IsRead inner a → IsRead inner low → IsRead inner high
      → ReadAs (Expr-F.Between (spelled a) (spelled low) (spelled high)) (e.Between a low high)
  unfolding tested test_ahead term_ahead sees
  between_read a low high read read_low read_high =
      tested_read a (e.Between a low high) (led (key word.Between) (spelled low) ++ led (key word.And) (spelled high)) read refl refl (rw (limits_read low high read_low read_high) refl)

  pub not_between_read : (a low high : Expr) → IsRead inner a → IsRead inner low → IsRead inner high
      → ReadAs (Expr-F.NotBetween (spelled a) (spelled low) (spelled high)) (e.NotBetween a low high)
  unfolding tested negated test_ahead term_ahead sees
  not_between_read a low high read read_low read_high =
      tested_read a (e.NotBetween a low high) (key word.Not ∷ (led (key word.Between) (spelled low) ++ led (key word.And) (spelled high))) read refl refl
      (rw (limits_read low high read_low read_high) refl)

  pub not_read : (a : Expr) → IsRead inner a → ReadAs (Expr-F.Not (spelled a)) (e.Not a)
  not_read a read =
      whole_of_negation inner rest ends (e.Not a) (led (key word.Not) (spelled a) ++ rest)
      (negated_comparison inner a (enclosed (spelled a) ++ rest) rest (operand_comparison inner a read rest ends.comparison))

  pub negate_read : (a : Expr) → IsRead inner a → ReadAs (Expr-F.Negate (spelled a)) (e.Negate a)
  unfolding sees_keyword
  negate_read a read =
      whole_of_unary inner rest ends (e.Negate a) (led (mark sign.Minus) (spelled a) ++ rest) refl
      (negative_of_atom inner a (enclosed (spelled a) ++ rest) rest (operand_atom inner a read rest))

  -- an atom
  atom_read : (x : Expr) (t : Piece) (ts : List Piece) → is_sign sign.Minus t ≡ false → is_keyword word.Not t ≡ false → atom inner (t ∷ ts ++ rest) ≡ Ok (x, rest)
      → disjunction inner (t ∷ ts ++ rest) ≡ Ok (x, rest)
  unfolding sees sees_keyword
  atom_read x t ts other positive is = whole_of_atom inner rest ends x (t ∷ ts ++ rest) positive other is

  -- one that isn't a call
  plain_read : (x : Expr) (t : Piece) (ts : List Piece) → is_sign sign.Minus t ≡ false → is_keyword word.Not t ≡ false → function_of t ≡ None
      → plain_atom inner (t ∷ ts ++ rest) ≡ Ok (x, rest) → disjunction inner (t ∷ ts ++ rest) ≡ Ok (x, rest)
  unfolding atom
  plain_read x t ts other positive uncalled is =
      atom_read x t ts other positive (ap (λ f. atom_by inner f (t ∷ ts ++ rest)) (not_called t (ts ++ rest) uncalled) ∙ is)

  literal_atom : (x : Literal) → is_sign sign.Minus (literal_piece x) ≡ false → is_keyword word.Not (literal_piece x) ≡ false → function_of (literal_piece x) ≡ None
      → literal_of (literal_piece x) ≡ Some x → ReadAs (Expr-F.Literal x) (e.Literal x)
  unfolding plain_atom literal_ahead
  literal_atom x other positive uncalled is = plain_read (e.Literal x) (literal_piece x) [] other positive uncalled (rw is refl)

  pub literal_read : (x : Literal) → ReadAs (Expr-F.Literal x) (e.Literal x)
  unfolding same_keyword
  literal_read (literal.Whole value) = literal_atom (literal.Whole value) refl refl refl refl
  literal_read (literal.Decimal value places) = literal_atom (literal.Decimal value places) refl refl refl refl
  literal_read (literal.Text value) = literal_atom (literal.Text value) refl refl refl refl
  literal_read (literal.Bytes value) = literal_atom (literal.Bytes value) refl refl refl refl
  literal_read (literal.Bool true) = literal_atom (literal.Bool true) refl refl refl refl
  literal_read (literal.Bool false) = literal_atom (literal.Bool false) refl refl refl refl
  literal_read literal.Null = literal_atom literal.Null refl refl refl refl

  pub name_read : (n : List ℕ) → ReadAs (Expr-F.Name n) (e.Name n)
  unfolding plain_atom literal_ahead other_atom column name sees same_sign
  name_read n = plain_read (e.Name n) (piece.Quoted n) [] refl refl refl (rw ends.point refl)

  pub qualified_read : (source n : List ℕ) → ReadAs (Expr-F.Qualified source n) (e.Qualified source n)
  unfolding plain_atom literal_ahead other_atom column name sees same_sign
  qualified_read source n = plain_read (e.Qualified source n) (piece.Quoted source) (mark sign.Point ∷ piece.Quoted n ∷ []) refl refl refl refl

  pub variable_read : (n : List ℕ) → ReadAs (Expr-F.Variable n) (e.Variable n)
  unfolding plain_atom literal_ahead other_atom name sees same_sign
  variable_read n = plain_read (e.Variable n) (mark sign.AtAt) (piece.Quoted n ∷ []) refl refl refl refl

  pub count_all_read : ReadAs Expr-F.CountAll e.CountAll
  unfolding atom called call count sees same_sign
  count_all_read = atom_read e.CountAll (piece.Word (codes "count")) (enclosed (mark sign.Star ∷ [])) refl refl refl

  pub active_branch_read : ReadAs Expr-F.ActiveBranch e.ActiveBranch
  unfolding atom called call branch sees same_sign
  active_branch_read = atom_read e.ActiveBranch (piece.Word (codes "active_branch")) (enclosed []) refl refl refl

  pub count_read : (a : Expr) → IsRead inner a → sees sign.Star ((spelled a ++ mark sign.CloseParenthesis ∷ []) ++ rest) ≡ false → ReadAs (Expr-F.Count (spelled a)) (e.Count a)
  unfolding atom called call count same_sign
  count_read a read other = atom_read (e.Count a) (piece.Word (codes "count")) (enclosed (spelled a)) refl refl (rw (other, closed inner a read rest) refl)

  pub sum_read : (a : Expr) → IsRead inner a → ReadAs (Expr-F.Sum (spelled a)) (e.Sum a)
  unfolding atom called call same_sign
  sum_read a read = atom_read (e.Sum a) (piece.Word (codes "sum")) (enclosed (spelled a)) refl refl (rw (closed inner a read rest) refl)

  pub min_read : (a : Expr) → IsRead inner a → ReadAs (Expr-F.Min (spelled a)) (e.Min a)
  unfolding atom called call same_sign
  min_read a read = atom_read (e.Min a) (piece.Word (codes "min")) (enclosed (spelled a)) refl refl (rw (closed inner a read rest) refl)

  pub max_read : (a : Expr) → IsRead inner a → ReadAs (Expr-F.Max (spelled a)) (e.Max a)
  unfolding atom called call same_sign
  max_read a read = atom_read (e.Max a) (piece.Word (codes "max")) (enclosed (spelled a)) refl refl (rw (closed inner a read rest) refl)
