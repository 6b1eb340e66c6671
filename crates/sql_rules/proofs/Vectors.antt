-- The definitions, computed on worked examples.
use Rattle.std.proofs.Common.{◌≡◌, refl, codes, List, [], ◌∷◌, Some, None, ℕ, true, false, map}
use Rattle.std.specs.Fmt.{digits}
use Rattle.sql_ast.specs.declared.expressions.Expr.{Expr}
use Rattle.sql_ast.specs.declared.expressions.Expr.TheVariants as e
use Rattle.sql_ast.specs.declared.expressions.Literal.TheVariants as literal
use Rattle.sql_ast.specs.declared.tables.Attribute.TheVariants as attribute
use Rattle.sql_ast.specs.declared.tables.Element.{Element}
use Rattle.sql_ast.specs.declared.tables.Element.TheVariants as element
use Rattle.sql_ast.specs.declared.tables.TypeName.TheVariants as type
use Rattle.sql_rules.specs.Constraints.{made_names}
use Rattle.sql_rules.specs.Tables.{elements_outside, has_one_key}
use Rattle.sql_rules.specs.declared.constraints.Sort.TheVariants as sort

abbrev one : Expr
one = e.Literal (literal.Whole 1)

-- `id INT PRIMARY KEY`
abbrev id : Element
id = element.Column (record { name = codes "id"; kind = type.Int; attributes = attribute.PrimaryKey ∷ [] })

abbrev key : List ℕ → Element
key name = element.PrimaryKey (name ∷ [])

abbrev check : Element
check = element.Check None (e.IsNotNull (e.Name (codes "id")))

keys : map has_one_key ([] ∷ (id ∷ []) ∷ (id ∷ key (codes "id") ∷ []) ∷ []) ≡ false ∷ true ∷ false ∷ []
keys = refl

-- one name for an index and a check
shared_name : elements_outside (id ∷ element.Index (codes "c") (codes "id" ∷ []) ∷ element.Check (Some (codes "c")) one ∷ []) ≡ true
shared_name = refl

-- given names are passed over
made : made_names (codes "t") (check ∷ element.Index (codes "t_chk_1") (codes "id" ∷ []) ∷ check ∷ id ∷ []) sort.Check
    ≡ codes "t_chk_2" ∷ codes "t_chk_3" ∷ []
unfolding digits
made = refl
