-- The names of the indexes, checks and foreign keys that CREATE makes are names, and differ.
use Rattle.std.proofs.Common.{◌≡◌, ◌<◌, ◌≤◌, ◌⊎◌, inl, inr, refl, sym, ap, ◌∙◌, ℕ, suc, ◌+◌, ◌^◌, Bool, true, false, true≢false, List, [], ◌∷◌, ◌++◌, filter, map, length, Option, Some, None, arith, bytes_eq}
use Rattle.std.specs.List.{AllByRecursion, count_by, flat_map, list_all}
use Rattle.std.proofs.lemmas.Bool.{and_parts, not-true, not_from_false, or_parts}
use Rattle.std.proofs.lemmas.List.{length-append, length-map, map-append}
use Rattle.std.proofs.lemmas.List.Folds.{list_all-append}
use Rattle.std.proofs.lemmas.List.Sums.{length-filter, sum_by-cons}
use Rattle.tuple_codec.specs.Texts.{is_utf8}
use Rattle.schema_model.specs.Limits.{is_short_name}
use Rattle.schema_model.specs.Schemas.{are_distinct, is_name}
use Rattle.schema_model.specs.declared.schemas.CheckDef.{CheckDef}
use Rattle.schema_model.specs.declared.schemas.Column.{Column}
use Rattle.schema_model.specs.declared.schemas.ForeignKey.{ForeignKey}
use Rattle.schema_model.specs.declared.schemas.IndexDef.{IndexDef}
use Rattle.sql_ast.specs.declared.tables.Attribute.{Attribute}
use Rattle.sql_ast.specs.declared.tables.Element.{Element}
use Rattle.sql_ast.specs.declared.tables.Element.TheVariants as element
use Rattle.sql_rules.specs.Constraints.{is_free, is_unique_mark, made_names, one_if_none, unnamed, unnamed_in}
use Rattle.sql_rules.specs.Names.{in_given}
use Rattle.sql_rules.specs.Tables.{given_name, has_named, repeats_given}
use Rattle.sql_rules.specs.declared.constraints.Sort.{Sort}
use Rattle.sql_rules.specs.declared.constraints.Sort.TheVariants as sort
use Rattle.plain_schemas.specs.Made.{checks_named, foreign_named, index_on, indexes_in, indexes_named, marked_indexes, name_for}
use Rattle.plain_schemas.specs.declared.naming.IndexPart.{IndexPart}
use Rattle.sql_laws.specs.SoundLaws.{IfGiven}
use Rattle.plain_writes.proofs.RowOrderLemmas.{both_so, neither_so}
use Rattle.keep_laws.proofs.CreateColumns.{IsGood}
use Rattle.keep_laws.proofs.NameLists.{apart_given, given_utf8, has_given, made_are, named, named_apart, named_are, unlike}

-- ---- which names each sort of constraint is given

abbrev pub picked : Sort → Element → List (Option (List ℕ))
picked sort.Unique e = map (λ (part : IndexPart). part.name) (indexes_in e)
picked sort.Check (element.Check name condition) = name ∷ []
picked sort.ForeignKey (element.ForeignKey key) = key.name ∷ []
picked kind other = []

abbrev pub picks : Sort → List Element → List (Option (List ℕ))
picks kind es = flat_map (picked kind) es

abbrev is_none : Option (List ℕ) → Bool
is_none None = true
is_none (Some name) = false

marks_none : (name : List ℕ) (marks : List Attribute) → list_all is_none (map (λ (part : IndexPart). part.name) (map (λ mark. index_on name) marks)) ≡ true
marks_none name [] = refl
marks_none name (mark ∷ marks) = marks_none name marks

-- an element gives a sort its own name, or none
picks_own : (kind : Sort) (e : Element) → (list_all is_none (picked kind e) ≡ true) ⊎ (picked kind e ≡ given_name e ∷ [])
picks_own sort.Unique (element.Column column) = inl (marks_none column.name (filter is_unique_mark column.attributes))
picks_own sort.Unique (element.PrimaryKey names) = inl refl
picks_own sort.Unique (element.Unique name names) = inr refl
picks_own sort.Unique (element.Index name names) = inr refl
picks_own sort.Unique (element.Check name condition) = inl refl
picks_own sort.Unique (element.ForeignKey key) = inl refl
picks_own sort.Check (element.Column column) = inl refl
picks_own sort.Check (element.PrimaryKey names) = inl refl
picks_own sort.Check (element.Unique name names) = inl refl
picks_own sort.Check (element.Index name names) = inl refl
picks_own sort.Check (element.Check name condition) = inr refl
picks_own sort.Check (element.ForeignKey key) = inl refl
picks_own sort.ForeignKey (element.Column column) = inl refl
picks_own sort.ForeignKey (element.PrimaryKey names) = inl refl
picks_own sort.ForeignKey (element.Unique name names) = inl refl
picks_own sort.ForeignKey (element.Index name names) = inl refl
picks_own sort.ForeignKey (element.Check name condition) = inl refl
picks_own sort.ForeignKey (element.ForeignKey key) = inr refl

none_has : (wanted : List ℕ) (os rest : List (Option (List ℕ))) → list_all is_none os ≡ true → has_given wanted (os ++ rest) ≡ has_given wanted rest
none_has wanted [] rest h = refl
none_has wanted (None ∷ os) rest h = none_has wanted os rest h
none_has wanted (Some name ∷ os) rest h = absurd (true≢false (sym h))

none_apart : (os rest : List (Option (List ℕ))) → list_all is_none os ≡ true → apart_given (os ++ rest) ≡ apart_given rest
none_apart [] rest h = refl
none_apart (None ∷ os) rest h = none_apart os rest h
none_apart (Some name ∷ os) rest h = absurd (true≢false (sym h))

none_utf8 : (os : List (Option (List ℕ))) → list_all is_none os ≡ true → list_all given_utf8 os ≡ true
none_utf8 [] h = refl
none_utf8 (None ∷ os) h = none_utf8 os h
none_utf8 (Some name ∷ os) h = absurd (true≢false (sym h))

-- what no element is given, none of a sort is given
unpicked : (kind : Sort) (es : List Element) (wanted : List ℕ) → has_named given_name es wanted ≡ false → has_given wanted (picks kind es) ≡ false
unpicked kind [] wanted h = refl
unpicked kind (e ∷ es) wanted h =
    let parts = or_parts (in_given (bytes_eq wanted) (given_name e)) (has_named given_name es wanted) h in
    let rest = unpicked kind es wanted parts.1 in
    elim (picks_own kind e) as (λ o. has_given wanted (picked kind e ++ picks kind es) ≡ false) [
      | inl none ↦ none_has wanted (picked kind e) (picks kind es) none ∙ rest
      | inr own ↦ ap (λ l. has_given wanted (l ++ picks kind es)) own ∙ neither_so parts.0 rest
    ]

apart_one : (kind : Sort) (es : List Element) (o : Option (List ℕ)) → in_given (has_named given_name es) o ≡ false → apart_given (picks kind es) ≡ true → apart_given (o ∷ picks kind es) ≡ true
apart_one kind es None h rest = rest
apart_one kind es (Some name) h rest = both_so (not_from_false _ (unpicked kind es name h)) rest

picks_apart : (kind : Sort) (es : List Element) → repeats_given given_name es ≡ false → apart_given (picks kind es) ≡ true
picks_apart kind [] h = refl
picks_apart kind (e ∷ es) h =
    let parts = or_parts (in_given (has_named given_name es) (given_name e)) (repeats_given given_name es) h in
    let rest = picks_apart kind es parts.1 in
    elim (picks_own kind e) as (λ o. apart_given (picked kind e ++ picks kind es) ≡ true) [
      | inl none ↦ none_apart (picked kind e) (picks kind es) none ∙ rest
      | inr own ↦ ap (λ l. apart_given (l ++ picks kind es)) own ∙ apart_one kind es (given_name e) parts.0 rest
    ]

if_given : (o : Option (List ℕ)) → IfGiven o → given_utf8 o ≡ true
if_given None h = refl
if_given (Some name) h = h.0

own_utf8 : (all : List Element) (e : Element) → IsGood all e → given_utf8 (given_name e) ≡ true
own_utf8 all (element.Column column) good = refl
own_utf8 all (element.PrimaryKey names) good = refl
own_utf8 all (element.Unique name names) good = if_given name good.kept
own_utf8 all (element.Index name names) good = let kept = good.kept in kept.0
own_utf8 all (element.Check name condition) good = let kept = good.kept in if_given name kept.0
own_utf8 all (element.ForeignKey key) good = let kept = good.kept in if_given key.name kept.0

picks_utf8 : (kind : Sort) (all es : List Element) → AllByRecursion (IsGood all) es → list_all given_utf8 (picks kind es) ≡ true
picks_utf8 kind all [] good = refl
picks_utf8 kind all (e ∷ es) good =
    let rest = picks_utf8 kind all es good.1 in
    list_all-append given_utf8 (picked kind e) (picks kind es)
    ∙ both_so (elim (picks_own kind e) as (λ o. list_all given_utf8 (picked kind e) ≡ true) [
      | inl none ↦ none_utf8 (picked kind e) none
      | inr own ↦ ap (list_all given_utf8) own ∙ both_so (own_utf8 all e good.0) refl
    ]) rest

all_unlike : (kind : Sort) (es : List Element) (made : List (List ℕ)) → list_all (is_free es) made ≡ true → list_all (unlike (picks kind es)) made ≡ true
all_unlike kind es [] h = refl
all_unlike kind es (name ∷ made) h =
    let parts = and_parts (is_free es name) (list_all (is_free es) made) h in
    both_so (not_from_false _ (unpicked kind es name (not-true _ parts.0))) (all_unlike kind es made parts.1)

-- names of a sort's constraints, as they come out
abbrev pub names_of : List ℕ → List Element → Sort → List (List ℕ)
names_of table elements kind = named (made_names table elements kind) (picks kind elements)

pub record AreNames (names : List (List ℕ)) : Type 0 where
  pub are : list_all is_name names ≡ true
  pub apart : are_distinct bytes_eq names ≡ true

pub names_are : (table : List ℕ) (elements : List Element) (kind : Sort) → is_utf8 table ≡ true → unnamed kind elements + length elements < 2 ^ 32 → repeats_given given_name elements ≡ false
    → AllByRecursion (IsGood elements) elements → list_all is_short_name (names_of table elements kind) ≡ true → AreNames (names_of table elements kind)
names_are table elements kind text few once good short =
    let made = made_are table elements kind text few in
    let own = made_names table elements kind in
    record {
      are = named_are own (picks kind elements) made.utf8 (picks_utf8 kind elements elements good) short;
      apart = named_apart own (picks kind elements) made.apart (picks_apart kind elements once) (all_unlike kind elements own made.free) short;
    }

-- ---- the constraints have these names

pub index_names : (columns : List Column) (made : List (List ℕ)) (parts : List IndexPart)
    → map (λ (index : IndexDef). index.name) (indexes_named columns made parts) ≡ named made (map (λ (part : IndexPart). part.name) parts)
index_names columns made [] = refl
index_names columns made (part ∷ parts) = ap (λ names. (name_for made part.name).0 ∷ names) (index_names columns (name_for made part.name).1 parts)

pub index_picks : (es : List Element) → map (λ (part : IndexPart). part.name) (flat_map indexes_in es) ≡ picks sort.Unique es
index_picks [] = refl
index_picks (e ∷ es) = map-append (λ (part : IndexPart). part.name) (indexes_in e) (flat_map indexes_in es) ∙ ap (λ l. picked sort.Unique e ++ l) (index_picks es)

pub check_names : (made : List (List ℕ)) (es : List Element) → map (λ (check : CheckDef). check.name) (checks_named made es) ≡ named made (picks sort.Check es)
check_names made [] = refl
check_names made (element.Column column ∷ es) = check_names made es
check_names made (element.PrimaryKey names ∷ es) = check_names made es
check_names made (element.Unique name names ∷ es) = check_names made es
check_names made (element.Index name names ∷ es) = check_names made es
check_names made (element.Check name condition ∷ es) = ap (λ names. (name_for made name).0 ∷ names) (check_names (name_for made name).1 es)
check_names made (element.ForeignKey key ∷ es) = check_names made es

pub foreign_names : (columns : List Column) (made : List (List ℕ)) (es : List Element) → map (λ (foreign : ForeignKey). foreign.name) (foreign_named columns made es) ≡ named made (picks sort.ForeignKey es)
foreign_names columns made [] = refl
foreign_names columns made (element.Column column ∷ es) = foreign_names columns made es
foreign_names columns made (element.PrimaryKey names ∷ es) = foreign_names columns made es
foreign_names columns made (element.Unique name names ∷ es) = foreign_names columns made es
foreign_names columns made (element.Index name names ∷ es) = foreign_names columns made es
foreign_names columns made (element.Check name condition ∷ es) = foreign_names columns made es
foreign_names columns made (element.ForeignKey key ∷ es) = ap (λ names. (name_for made key.name).0 ∷ names) (foreign_names columns (name_for made key.name).1 es)

-- ---- how many there are

pub named_length : (made : List (List ℕ)) (os : List (Option (List ℕ))) → length (named made os) ≡ length os
named_length made [] = refl
named_length made (o ∷ os) = ap suc (named_length (name_for made o).1 os)

at_most_one : (o : Option (List ℕ)) → one_if_none o ≤ 1
at_most_one None = omega arith
at_most_one (Some name) = omega arith

marks_length : (name : List ℕ) (attributes : List Attribute) → length (map (λ (part : IndexPart). part.name) (marked_indexes name attributes)) ≡ count_by is_unique_mark attributes
marks_length name attributes =
    length-map (marked_indexes name attributes) (λ (part : IndexPart). part.name) ∙ length-map (filter is_unique_mark attributes) (λ mark. index_on name) ∙ length-filter is_unique_mark attributes

unnamed_one : (kind : Sort) (e : Element) → unnamed_in kind e ≤ length (picked kind e)
unnamed_one sort.Unique (element.Column column) = let same = marks_length column.name column.attributes in omega (arith, same)
unnamed_one sort.Unique (element.PrimaryKey names) = omega arith
unnamed_one sort.Unique (element.Unique name names) = at_most_one name
unnamed_one sort.Unique (element.Index name names) = omega arith
unnamed_one sort.Unique (element.Check name condition) = omega arith
unnamed_one sort.Unique (element.ForeignKey key) = omega arith
unnamed_one sort.Check (element.Column column) = omega arith
unnamed_one sort.Check (element.PrimaryKey names) = omega arith
unnamed_one sort.Check (element.Unique name names) = omega arith
unnamed_one sort.Check (element.Index name names) = omega arith
unnamed_one sort.Check (element.Check name condition) = at_most_one name
unnamed_one sort.Check (element.ForeignKey key) = omega arith
unnamed_one sort.ForeignKey (element.Column column) = omega arith
unnamed_one sort.ForeignKey (element.PrimaryKey names) = omega arith
unnamed_one sort.ForeignKey (element.Unique name names) = omega arith
unnamed_one sort.ForeignKey (element.Index name names) = omega arith
unnamed_one sort.ForeignKey (element.Check name condition) = omega arith
unnamed_one sort.ForeignKey (element.ForeignKey key) = at_most_one key.name

pub unnamed_few : (kind : Sort) (es : List Element) → unnamed kind es ≤ length (picks kind es)
unnamed_few kind [] = let none : unnamed kind [] ≡ 0 = refl in omega (arith, none)
unnamed_few kind (e ∷ es) =
    let sum : unnamed kind (e ∷ es) ≡ unnamed_in kind e + unnamed kind es = sum_by-cons (unnamed_in kind) e es in
    let whole : length (picks kind (e ∷ es)) ≡ length (picked kind e) + length (picks kind es) = length-append (picked kind e) (picks kind es) in
    let first = unnamed_one kind e in
    let rest = unnamed_few kind es in
    omega (arith, sum, whole, first, rest)
