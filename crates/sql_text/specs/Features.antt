-- What an expression shows at a node of its tree, and anywhere in it.
use Rattle.std.specs.Prelude.{ℕ, Bool, true, false, ◌||◌, List, [], ◌∷◌, length, map, nat_lt, not, codes}
use Rattle.std.specs.Str.{bytes_eq}
use Rattle.std.specs.List.{list_any}
use Rattle.sql_ast.specs.Limits.{most_name_bytes}
use Rattle.sql_ast.specs.declared.expressions.Expr.{Expr, fold-Expr}
use Rattle.sql_ast.specs.declared.expressions.Expr.TheOpen.{Expr-F}
use Rattle.sql_text.specs.declared.features.Feature.{Feature}
use Rattle.sql_text.specs.declared.features.Feature.TheVariants as feature

-- what a node's parts gave, in the order of the text
abbrev pub parts : {A : Type 0} → Expr-F A → List A
parts (Expr-F.Or a list) = a ∷ list
parts (Expr-F.And a list) = a ∷ list
parts (Expr-F.Not a) = a ∷ []
parts (Expr-F.Compare a op b) = a ∷ b ∷ []
parts (Expr-F.IsNull a) = a ∷ []
parts (Expr-F.IsNotNull a) = a ∷ []
parts (Expr-F.In a list) = a ∷ list
parts (Expr-F.NotIn a list) = a ∷ list
parts (Expr-F.Between a low high) = a ∷ low ∷ high ∷ []
parts (Expr-F.NotBetween a low high) = a ∷ low ∷ high ∷ []
parts (Expr-F.Terms a terms) = a ∷ map (λ term. term.1) terms
parts (Expr-F.Factors a list) = a ∷ list
parts (Expr-F.Negate a) = a ∷ []
parts (Expr-F.Count a) = a ∷ []
parts (Expr-F.Sum a) = a ∷ []
parts (Expr-F.Min a) = a ∷ []
parts (Expr-F.Max a) = a ∷ []
parts node = []

-- a name of more bytes than a name may have
abbrev pub is_long : List ℕ → Bool
is_long name = nat_lt most_name_bytes (length name)

abbrev pub is_variable : List ℕ → Bool
is_variable name = list_any (bytes_eq name) (codes "autocommit" ∷ codes "dolt_allow_commit_conflicts" ∷ codes "dolt_force_transaction_commit" ∷ [])

abbrev pub is_aggregate : {A : Type 0} → Expr-F A → Bool
is_aggregate Expr-F.CountAll = true
is_aggregate (Expr-F.Count a) = true
is_aggregate (Expr-F.Sum a) = true
is_aggregate (Expr-F.Min a) = true
is_aggregate (Expr-F.Max a) = true
is_aggregate node = false

abbrev pub is_session_word : {A : Type 0} → Expr-F A → Bool
is_session_word Expr-F.ActiveBranch = true
is_session_word (Expr-F.Variable name) = true
is_session_word node = false

abbrev pub has_long_name : {A : Type 0} → Expr-F A → Bool
has_long_name (Expr-F.Name name) = is_long name
has_long_name (Expr-F.Qualified source name) = is_long source || is_long name
has_long_name (Expr-F.Variable name) = is_long name
has_long_name node = false

abbrev pub is_other_variable : {A : Type 0} → Expr-F A → Bool
is_other_variable (Expr-F.Variable name) = not (is_variable name)
is_other_variable node = false

-- a node is or has this itself
abbrev pub shows : {A : Type 0} → Feature → Expr-F A → Bool
shows feature.Aggregate node = is_aggregate node
shows feature.SessionWord node = is_session_word node
shows feature.LongName node = has_long_name node
shows feature.OtherVariable node = is_other_variable node

-- one of these is true
abbrev pub any_of : List Bool → Bool
any_of answers = list_any (λ answer. answer) answers

abbrev pub step : Feature → Expr-F Bool → Bool
step wanted node = shows wanted node || any_of (parts node)

-- the expression's own node shows this, or some part of it
abbrev pub has : Feature → Expr → Bool
has wanted expr = fold-Expr Bool (step wanted) expr
