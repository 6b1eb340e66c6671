-- What each node is worth, from what its parts are.
use Rattle.std.proofs.Common.{◌≡◌, ◌∙◌, sym, ap, ℕ, List, None, Some, map, not}
use Rattle.std.specs.Prelude.{slice_index_or}
use Rattle.sql_ast.specs.declared.expressions.Comparison.{Comparison}
use Rattle.sql_ast.specs.declared.expressions.Term.{Term}
use Rattle.tuple_codec.specs.Rows.{Cells}
use Rattle.tuple_codec.specs.declared.values.Value.{Value}
use Rattle.tuple_codec.specs.declared.values.Value.TheVariants as cell
use Rattle.sql_values.specs.declared.kinds.Kind.{Kind}
use Rattle.sql_values.specs.Numbers.{negated, times}
use Rattle.sql_values.specs.Worths.{Truth, is_unknown, worth_of}
use Rattle.expr_eval.specs.declared.bound.BoundNode.{BoundNode, fold-roll-BoundNode, roll-BoundNode}
use Rattle.expr_eval.specs.declared.bound.BoundNode.TheOpen.{BoundNode-F}
use Rattle.expr_eval.specs.declared.bound.BoundNode.TheVariants as n
use Rattle.expr_eval.specs.declared.bound.BoundNode.TheVariants.{rolls-Or, rolls-And, rolls-Not, rolls-Compare, rolls-IsNull, rolls-IsNotNull, rolls-In, rolls-Between, rolls-Terms, rolls-Factors, rolls-Negate, rolls-Constant, rolls-MinusOnly, rolls-OutOfRange, rolls-Column}
use Rattle.expr_eval.specs.Valuing.{Worthy, among, between, chained, comparison, conjunction, disjunction, negation, one, step, total, two, worth}

-- from the node as it is rolled up
rolled : (row : Cells) (y : BoundNode-F BoundNode) (a : BoundNode) → roll-BoundNode y ≡ a → worth row a ≡ worth row (roll-BoundNode y)
rolled row y a is = ap (worth row) (sym is)

pub worth_or : (row : Cells) (a : BoundNode) (xs : List BoundNode) → worth row (n.Or a xs) ≡ chained disjunction (worth row a) (map (worth row) xs)
worth_or row a xs = rolled row _ (n.Or a xs) (rolls-Or a xs) ∙ fold-roll-BoundNode Worthy (step row) _

pub worth_and : (row : Cells) (a : BoundNode) (xs : List BoundNode) → worth row (n.And a xs) ≡ chained conjunction (worth row a) (map (worth row) xs)
worth_and row a xs = rolled row _ (n.And a xs) (rolls-And a xs) ∙ fold-roll-BoundNode Worthy (step row) _

pub worth_not : (row : Cells) (a : BoundNode) → worth row (n.Not a) ≡ one negation (worth row a)
worth_not row a = rolled row (BoundNode-F.Not a) (n.Not a) (rolls-Not a) ∙ fold-roll-BoundNode Worthy (step row) (BoundNode-F.Not a)

pub worth_compare : (row : Cells) (a : BoundNode) (operator : Comparison) (b : BoundNode) → worth row (n.Compare a operator b) ≡ two (comparison operator) (worth row a) (worth row b)
worth_compare row a operator b = rolled row (BoundNode-F.Compare a operator b) (n.Compare a operator b) (rolls-Compare a operator b) ∙ fold-roll-BoundNode Worthy (step row) (BoundNode-F.Compare a operator b)

pub worth_is_null : (row : Cells) (a : BoundNode) → worth row (n.IsNull a) ≡ one (λ x. Some (Truth (is_unknown x))) (worth row a)
worth_is_null row a = rolled row (BoundNode-F.IsNull a) (n.IsNull a) (rolls-IsNull a) ∙ fold-roll-BoundNode Worthy (step row) (BoundNode-F.IsNull a)

pub worth_is_not_null : (row : Cells) (a : BoundNode) → worth row (n.IsNotNull a) ≡ one (λ x. Some (Truth (not (is_unknown x)))) (worth row a)
worth_is_not_null row a = rolled row (BoundNode-F.IsNotNull a) (n.IsNotNull a) (rolls-IsNotNull a) ∙ fold-roll-BoundNode Worthy (step row) (BoundNode-F.IsNotNull a)

pub worth_in : (row : Cells) (a : BoundNode) (xs : List BoundNode) → worth row (n.In a xs) ≡ one (among (map (worth row) xs)) (worth row a)
worth_in row a xs = rolled row _ (n.In a xs) (rolls-In a xs) ∙ fold-roll-BoundNode Worthy (step row) _

pub worth_between : (row : Cells) (a low high : BoundNode) → worth row (n.Between a low high) ≡ between (worth row a) (worth row low) (worth row high)
worth_between row a low high = rolled row (BoundNode-F.Between a low high) (n.Between a low high) (rolls-Between a low high) ∙ fold-roll-BoundNode Worthy (step row) (BoundNode-F.Between a low high)

pub worth_terms : (row : Cells) (a : BoundNode) (xs : List (Term × BoundNode)) → worth row (n.Terms a xs) ≡ total (worth row a) (map (λ x. (x.0, worth row x.1)) xs)
worth_terms row a xs = rolled row _ (n.Terms a xs) (rolls-Terms a xs) ∙ fold-roll-BoundNode Worthy (step row) _

pub worth_factors : (row : Cells) (a : BoundNode) (xs : List BoundNode) → worth row (n.Factors a xs) ≡ chained times (worth row a) (map (worth row) xs)
worth_factors row a xs = rolled row _ (n.Factors a xs) (rolls-Factors a xs) ∙ fold-roll-BoundNode Worthy (step row) _

pub worth_negate : (row : Cells) (a : BoundNode) → worth row (n.Negate a) ≡ one negated (worth row a)
worth_negate row a = rolled row (BoundNode-F.Negate a) (n.Negate a) (rolls-Negate a) ∙ fold-roll-BoundNode Worthy (step row) (BoundNode-F.Negate a)

pub worth_constant : (row : Cells) (kind : Kind) (value : Value) → worth row (n.Constant kind value) ≡ Some (worth_of kind value)
worth_constant row kind value = rolled row (BoundNode-F.Constant kind value) (n.Constant kind value) (rolls-Constant kind value) ∙ fold-roll-BoundNode Worthy (step row) (BoundNode-F.Constant kind value)

pub worth_minus_only : (row : Cells) → worth row n.MinusOnly ≡ None
worth_minus_only row = rolled row BoundNode-F.MinusOnly n.MinusOnly rolls-MinusOnly ∙ fold-roll-BoundNode Worthy (step row) BoundNode-F.MinusOnly

pub worth_out_of_range : (row : Cells) → worth row n.OutOfRange ≡ None
worth_out_of_range row = rolled row BoundNode-F.OutOfRange n.OutOfRange rolls-OutOfRange ∙ fold-roll-BoundNode Worthy (step row) BoundNode-F.OutOfRange

pub worth_column : (row : Cells) (kind : Kind) (place : ℕ) → worth row (n.Column kind place) ≡ Some (worth_of kind (slice_index_or row place cell.Null))
worth_column row kind place = rolled row (BoundNode-F.Column kind place) (n.Column kind place) (rolls-Column kind place) ∙ fold-roll-BoundNode Worthy (step row) (BoundNode-F.Column kind place)
