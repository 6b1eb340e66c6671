-- What a key of ORDER BY orders by.
use Rattle.std.specs.Prelude.{ℕ, ◌&&◌, ◌-◌, List, Option, Some, None, is_some, nat_le, slice_get, if◌then◌else◌}
use Rattle.std.specs.List.{position}
use Rattle.sql_ast.specs.declared.expressions.Expr.{Expr, out-Expr}
use Rattle.sql_ast.specs.declared.expressions.Expr.TheOpen.{Expr-F}
use Rattle.sql_ast.specs.declared.expressions.Literal.{Literal}
use Rattle.sql_ast.specs.declared.expressions.Literal.TheVariants as literal
use Rattle.sql_ast.specs.declared.selects.SelectItem.{SelectItem}
use Rattle.sql_text.specs.SelectNames.{expression_of, is_item_named}
use Rattle.sql_text.specs.declared.order_keys.Key.{Key}
use Rattle.sql_text.specs.declared.order_keys.Key.TheVariants.{AtItem, OverSources}

-- the item of this number, counted from 1, where it is an expression
abbrev pub numbered : List SelectItem → ℕ → Option Key
numbered list n = if nat_le 1 n && is_some (expression_of (slice_get list (n - 1))) then Some (AtItem (n - 1)) else None

abbrev pub item_or_sources : Option ℕ → Key
item_or_sources (Some place) = AtItem place
item_or_sources None = OverSources

abbrev pub literal_key : List SelectItem → Literal → Option Key
literal_key list (literal.Whole n) = numbered list n
literal_key list value = Some OverSources

abbrev pub key_at : List SelectItem → Expr-F Expr → Option Key
key_at list (Expr-F.Literal value) = literal_key list value
key_at list (Expr-F.Name name) = Some (item_or_sources (position (is_item_named name) list))
key_at list node = Some OverSources

-- a whole literal is an item's number, and no key where it is the number of none; a name that an item has is the first such
-- item; any other key is an expression over the sources
abbrev pub key_of : List SelectItem → Expr → Option Key
key_of list expr = key_at list (out-Expr expr)
