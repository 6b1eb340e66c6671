-- The names that are made for constraints without one: `T_uq_N`, `T_chk_N` and `T_fk_N` for the table T.
use Rattle.std.specs.Prelude.{ℕ, Bool, true, false, ◌+◌, List, [], ◌∷◌, ◌++◌, Option, Some, None, take, length, not, codes, zero, suc}
use Rattle.std.specs.List.{count_by, filter, sum_by}
use Rattle.std.specs.Fmt.{decimal}
use Rattle.sql_ast.specs.declared.tables.Attribute.{Attribute}
use Rattle.sql_ast.specs.declared.tables.Attribute.TheVariants as attribute
use Rattle.sql_ast.specs.declared.tables.Element.{Element}
use Rattle.sql_ast.specs.declared.tables.Element.TheVariants as element
use Rattle.sql_rules.specs.Names.{are_long}
use Rattle.sql_rules.specs.Tables.{given_name, has_named}
use Rattle.sql_rules.specs.declared.constraints.Sort.{Sort}
use Rattle.sql_rules.specs.declared.constraints.Sort.TheVariants as sort

abbrev pub is_unique_mark : Attribute → Bool
is_unique_mark attribute.Unique = true
is_unique_mark other = false

abbrev pub one_if_none : Option (List ℕ) → ℕ
one_if_none (Some name) = 0
one_if_none None = 1

-- how many constraints of this sort stand without a name in an element; a column's UNIQUE is one
abbrev pub unnamed_in : Sort → Element → ℕ
unnamed_in sort.Unique (element.Column column) = count_by is_unique_mark column.attributes
unnamed_in sort.Unique (element.Unique name columns) = one_if_none name
unnamed_in sort.Check (element.Check name condition) = one_if_none name
unnamed_in sort.ForeignKey (element.ForeignKey key) = one_if_none key.name
unnamed_in sort other = 0

abbrev pub unnamed : Sort → List Element → ℕ
unnamed sort elements = sum_by (unnamed_in sort) elements

abbrev pub word_of : Sort → List ℕ
word_of sort.Unique = codes "_uq_"
word_of sort.Check = codes "_chk_"
word_of sort.ForeignKey = codes "_fk_"

abbrev pub made_name : List ℕ → Sort → ℕ → List ℕ
made_name table sort n = table ++ word_of sort ++ decimal n

-- so many names, from this number on
abbrev pub names_from : List ℕ → Sort → ℕ → ℕ → List (List ℕ)
names_from table sort n zero = []
names_from table sort n (suc more) = made_name table sort n ∷ names_from table sort (n + 1) more

abbrev pub is_free : List Element → List ℕ → Bool
is_free elements name = not (has_named given_name elements name)

-- the first names from 1 that no constraint is given, one for each constraint without a name; among so many numbers
-- as there are constraints of the sort and elements, there are enough
abbrev pub made_names : List ℕ → List Element → Sort → List (List ℕ)
made_names table elements sort =
    take (unnamed sort elements) (filter (is_free elements) (names_from table sort 1 (unnamed sort elements + length elements)))

-- a name that is made is longer than a name may be
abbrev pub makes_long : List ℕ → List Element → Sort → Bool
makes_long table elements sort = are_long (made_names table elements sort)
