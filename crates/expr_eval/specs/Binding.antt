-- The kinds of an expression and the places of its names, or the first refusal.
use Rattle.std.specs.Prelude.{◌≡◌, ℕ, Bool, List, [], ◌∷◌, ◌++◌, Option, None, Some, Result, Ok, Err, ◌-◌, ◌^◌, ◌==◌, ◌&&◌, fold, nat_lt, pos, negsuc, slice_get, if◌then◌else◌}
use Rattle.std.specs.Option.{option_map_or}
use Rattle.sql_ast.specs.declared.expressions.Comparison.{Comparison}
use Rattle.sql_ast.specs.declared.expressions.Expr.{Expr, fold-Expr}
use Rattle.sql_ast.specs.declared.expressions.Expr.TheOpen.{Expr-F}
use Rattle.sql_ast.specs.declared.expressions.Term.{Term}
use Rattle.sql_ast.specs.declared.expressions.Literal.{Literal}
use Rattle.sql_ast.specs.declared.expressions.Literal.TheVariants as literal
use Rattle.tuple_codec.specs.declared.values.Value.TheVariants as cell
use Rattle.sql_values.specs.declared.kinds.Kind.{Kind}
use Rattle.sql_values.specs.declared.kinds.Kind.TheVariants as kind
use Rattle.sql_values.specs.Kinds.{is_bool, are_comparable, sum_kind, product_kind, negative_kind, kind_of, decimal}
use Rattle.expr_eval.specs.declared.bound.BoundNode.{BoundNode, out-BoundNode}
use Rattle.expr_eval.specs.declared.bound.BoundNode.TheOpen.{BoundNode-F}
use Rattle.expr_eval.specs.declared.bound.BoundNode.TheVariants as node
use Rattle.expr_eval.specs.declared.bound.BoundExpr.{BoundExpr}
use Rattle.expr_eval.specs.declared.binding.Meeting.{Meeting}
use Rattle.expr_eval.specs.declared.binding.Meeting.TheVariants as meeting
use Rattle.expr_eval.specs.declared.bound.Chain.{Chain}
use Rattle.expr_eval.specs.declared.bound.Sum.{Sum}
use Rattle.expr_eval.specs.declared.bound.Ends.{Ends}
use Rattle.expr_eval.specs.declared.faults.BindFault.{BindFault}
use Rattle.expr_eval.specs.declared.faults.BindFault.TheVariants.{Memory, Refused}
use Rattle.expr_eval.specs.declared.scopes.ScopeColumn.{ScopeColumn}
use Rattle.expr_eval.specs.Scopes.{place_named, place_qualified}

-- an expression with its kind, or a refusal's number
abbrev pub Outcome : Type 0 → Type 0
Outcome A = Result A ℕ

-- the first refusal comes first
abbrev pub and_then : {A B : Type 0} → Outcome A → (A → Outcome B) → Outcome B
and_then (Ok x) f = f x
and_then (Err number) f = Err number

abbrev pub mismatch : {A : Type 0} → Outcome A
mismatch = Err 9001

abbrev pub typed : Option Kind → BoundNode → Outcome BoundExpr
typed (Some kind) made = Ok (record { kind = kind; node = made })
typed None made = mismatch

abbrev pub truth_if : Bool → BoundNode → Outcome BoundExpr
truth_if fitting made = if fitting then Ok (record { kind = kind.Bool; node = made }) else mismatch

abbrev pub bound_not : BoundExpr → Outcome BoundExpr
bound_not a = truth_if (is_bool a.kind) (node.Not a.node)

abbrev pub bound_is_null : BoundExpr → Outcome BoundExpr
bound_is_null a = Ok (record { kind = kind.Bool; node = node.IsNull a.node })

abbrev pub bound_is_not_null : BoundExpr → Outcome BoundExpr
bound_is_not_null a = Ok (record { kind = kind.Bool; node = node.IsNotNull a.node })

abbrev pub bound_compare : Comparison → BoundExpr → BoundExpr → Outcome BoundExpr
bound_compare op a b = truth_if (are_comparable a.kind b.kind) (node.Compare a.node op b.node)

-- a minus brings the literal 2^63 into range
abbrev pub minus_of : BoundNode-F BoundNode → BoundNode → BoundNode
minus_of BoundNode-F.MinusOnly operand = node.Constant kind.Int (cell.Int (negsuc (2 ^ 63 - 1)))
minus_of opened operand = node.Negate operand

abbrev pub bound_negate : BoundExpr → Outcome BoundExpr
bound_negate a = typed (negative_kind a.kind) (minus_of (out-BoundNode a.node) a.node)

-- an operation right after its last operand
abbrev pub two : {A B C : Type 0} → (A → B → Outcome C) → Outcome A → Outcome B → Outcome C
two f a b = and_then a (λ x. and_then b (f x))

-- AND and OR take truth values
abbrev pub logic_kind : Kind → Kind → Option Kind
logic_kind a b = if is_bool a && is_bool b then Some kind.Bool else None

-- a value that goes on being compared
abbrev pub compared_kind : Kind → Kind → Option Kind
compared_kind value element = if are_comparable value element then Some value else None

abbrev pub chain_kind : Meeting → Kind → Kind → Option Kind
chain_kind meeting.Logic = logic_kind
chain_kind meeting.Product = product_kind
chain_kind meeting.Comparison = compared_kind

-- a chain without others is its first operand
abbrev pub opened_chain : BoundExpr → Chain
opened_chain first = record { kind = first.kind; first = first.node; rest = [] }

abbrev pub longer_if : Option Kind → Chain → BoundNode → Outcome Chain
longer_if (Some kind) chain operand = Ok (record { kind = kind; first = chain.first; rest = chain.rest ++ operand ∷ [] })
longer_if None chain operand = mismatch

-- one more operand, judged with those before it
abbrev pub extended : (Kind → Kind → Option Kind) → Chain → BoundExpr → Outcome Chain
extended meet chain operand = longer_if (meet chain.kind operand.kind) chain operand.node

-- each operand is judged as soon as it is bound
abbrev pub bound_chain : (Kind → Kind → Option Kind) → List (Outcome BoundExpr) → BoundExpr → Outcome Chain
bound_chain meet rest first = fold (two (extended meet)) (Ok (opened_chain first)) rest

abbrev pub or_node : Chain → Outcome BoundExpr
or_node chain = Ok (record { kind = chain.kind; node = node.Or chain.first chain.rest })

abbrev pub and_node : Chain → Outcome BoundExpr
and_node chain = Ok (record { kind = chain.kind; node = node.And chain.first chain.rest })

abbrev pub factors_node : Chain → Outcome BoundExpr
factors_node chain = Ok (record { kind = chain.kind; node = node.Factors chain.first chain.rest })

abbrev pub in_node : Chain → Outcome BoundExpr
in_node chain = Ok (record { kind = kind.Bool; node = node.In chain.first chain.rest })

-- each element is compared with the value
abbrev pub bound_in : List (Outcome BoundExpr) → BoundExpr → Outcome BoundExpr
bound_in elements value = and_then (bound_chain compared_kind elements value) in_node

abbrev pub opened_sum : BoundExpr → Sum
opened_sum first = record { kind = first.kind; first = first.node; rest = [] }

abbrev pub longer_sum_if : Option Kind → Sum → Term × BoundNode → Outcome Sum
longer_sum_if (Some kind) sum operand = Ok (record { kind = kind; first = sum.first; rest = sum.rest ++ operand ∷ [] })
longer_sum_if None sum operand = mismatch

abbrev pub longer_sum : Term → Sum → BoundExpr → Outcome Sum
longer_sum term sum operand = longer_sum_if (sum_kind sum.kind operand.kind) sum (term, operand.node)

abbrev pub lengthened : Outcome Sum → Term × Outcome BoundExpr → Outcome Sum
lengthened sum x = two (longer_sum x.0) sum x.1

abbrev pub bound_sum : List (Term × Outcome BoundExpr) → BoundExpr → Outcome Sum
bound_sum rest first = fold lengthened (Ok (opened_sum first)) rest

abbrev pub terms_node : Sum → Outcome BoundExpr
terms_node sum = Ok (record { kind = sum.kind; node = node.Terms sum.first sum.rest })

abbrev pub low_end : BoundExpr → BoundExpr → Outcome Ends
low_end value low = if are_comparable value.kind low.kind then Ok (record { kind = value.kind; value = value.node; low = low.node }) else mismatch

abbrev pub high_end : Ends → BoundExpr → Outcome BoundExpr
high_end ends high = truth_if (are_comparable ends.kind high.kind) (node.Between ends.value ends.low high.node)

abbrev pub bound_between : Outcome BoundExpr → Outcome BoundExpr → BoundExpr → Outcome BoundExpr
bound_between low high value = and_then (and_then low (low_end value)) (λ ends. and_then high (high_end ends))

-- a whole literal is at most 2^63 - 1, but for 2^63 under a minus
abbrev pub whole_node : ℕ → BoundNode
whole_node n = if nat_lt n (2 ^ 63) then node.Constant kind.Int (cell.Int (pos n)) else (if n == 2 ^ 63 then node.MinusOnly else node.OutOfRange)

abbrev pub decimal_node : Kind → ℕ → BoundNode
decimal_node kind n = if nat_lt n (10 ^ 18) then node.Constant kind (cell.Decimal (pos n)) else node.OutOfRange

abbrev pub decimal_typed : Option Kind → ℕ → Outcome BoundExpr
decimal_typed (Some kind) n = Ok (record { kind = kind; node = decimal_node kind n })
decimal_typed None n = mismatch

abbrev pub bound_literal : Literal → Outcome BoundExpr
bound_literal (literal.Whole n) = Ok (record { kind = kind.Int; node = whole_node n })
bound_literal (literal.Decimal n scale) = decimal_typed (decimal scale) n
bound_literal (literal.Text text) = Ok (record { kind = kind.Text; node = node.Constant kind.Text (cell.Text text) })
bound_literal (literal.Bytes bytes) = Ok (record { kind = kind.Bytes; node = node.Constant kind.Bytes (cell.Bytes bytes) })
bound_literal (literal.Bool b) = Ok (record { kind = kind.Bool; node = node.Constant kind.Bool (cell.Bool b) })
bound_literal literal.Null = Ok (record { kind = kind.Null; node = node.Constant kind.Null cell.Null })

abbrev pub column_typed : Option Kind → ℕ → Outcome BoundExpr
column_typed (Some kind) place = Ok (record { kind = kind; node = node.Column kind place })
column_typed None place = mismatch

abbrev pub column_at : List ScopeColumn → ℕ → Outcome BoundExpr
column_at scope place = option_map_or (λ column. column_typed (kind_of column.kind) place) (slice_get scope place) (Err 1054)

abbrev pub bound_column : List ScopeColumn → Option ℕ → Outcome BoundExpr
bound_column scope (Some place) = column_at scope place
bound_column scope None = Err 1054

-- what an expression is bound to, given what its parts are
abbrev pub step : List ScopeColumn → Expr-F (Outcome BoundExpr) → Outcome BoundExpr
step scope (Expr-F.Or first rest) = and_then (and_then first (bound_chain logic_kind rest)) or_node
step scope (Expr-F.And first rest) = and_then (and_then first (bound_chain logic_kind rest)) and_node
step scope (Expr-F.Not a) = and_then a bound_not
step scope (Expr-F.Compare a op b) = two (bound_compare op) a b
step scope (Expr-F.IsNull a) = and_then a bound_is_null
step scope (Expr-F.IsNotNull a) = and_then a bound_is_not_null
step scope (Expr-F.In value elements) = and_then value (bound_in elements)
step scope (Expr-F.NotIn value elements) = and_then (and_then value (bound_in elements)) bound_not
step scope (Expr-F.Between value low high) = and_then value (bound_between low high)
step scope (Expr-F.NotBetween value low high) = and_then (and_then value (bound_between low high)) bound_not
step scope (Expr-F.Terms first rest) = and_then (and_then first (bound_sum rest)) terms_node
step scope (Expr-F.Factors first rest) = and_then (and_then first (bound_chain product_kind rest)) factors_node
step scope (Expr-F.Negate a) = and_then a bound_negate
step scope (Expr-F.Literal given) = bound_literal given
step scope (Expr-F.Name name) = bound_column scope (place_named name scope)
step scope (Expr-F.Qualified source name) = bound_column scope (place_qualified source name scope)
-- what has no value on a row
step scope Expr-F.CountAll = Err 9013
step scope (Expr-F.Count a) = Err 9013
step scope (Expr-F.Sum a) = Err 9013
step scope (Expr-F.Min a) = Err 9013
step scope (Expr-F.Max a) = Err 9013
step scope Expr-F.ActiveBranch = Err 9013
step scope (Expr-F.Variable name) = Err 9013

abbrev pub bound : List ScopeColumn → Expr → Outcome BoundExpr
bound scope expr = fold-Expr (Outcome BoundExpr) (step scope) expr

-- ON, WHERE and CHECK are truth values
abbrev pub if_truth : BoundExpr → Outcome BoundExpr
if_truth b = if is_bool b.kind then Ok b else mismatch

abbrev pub bound_condition : List ScopeColumn → Expr → Outcome BoundExpr
bound_condition scope expr = and_then (bound scope expr) if_truth

-- what binding answers: want of memory is the one answer that isn't given here
abbrev pub Gives : {A : Type 0} → Result A BindFault → Outcome A → Type 0
Gives (Ok x) outcome = outcome ≡ Ok x
Gives (Err Memory) outcome = Unit {0}
Gives (Err (Refused number)) outcome = outcome ≡ Err number
