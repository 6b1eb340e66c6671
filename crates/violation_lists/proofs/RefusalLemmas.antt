-- A refusal is told by schemas and rows alone, and a database that stays as it is brings none.
use Rattle.std.proofs.Common.{◌≡◌, refl, sym, ap, ◌∙◌, ℕ, ◌==◌, true, false, cond, not, ◌&&◌, ◌||◌, List, [], ◌∷◌, ◌++◌, map, filter, append_assoc, Option, Some, None}
use Rattle.std.specs.Cmp.{tied_itself}
use Rattle.std.specs.List.{enumerate_from, find, flat_map, list_any}
use Rattle.std.specs.Option.{option_map, option_map_or}
use Rattle.std.specs.Ordering.{is_eq, ordering_then}
use Rattle.std.specs.declared.cmp.Ordering.TheVariants.{Equal}
use Rattle.std.proofs.lemmas.Cmp.{nat_cmp_total, nat_list_cmp_total}
use Rattle.std.proofs.lemmas.List.Folds.{flat_map-map}
use Rattle.tuple_codec.proofs.ByteLemmas.{bytes_itself}
use Rattle.tuple_codec.proofs.Truths.{or_late as or_right}
use Rattle.tuple_codec.specs.Rows.{Cells, same_cells}
use Rattle.tuple_codec.proofs.Orders.{cells_told, key_cmp_total}
use Rattle.schema_model.specs.declared.schemas.ForeignKey.{ForeignKey}
use Rattle.schema_model.specs.declared.schemas.Schema.{Schema}
use Rattle.schema_model.specs.PlainTables.{NamedTable, PlainDatabase, PlainTable, Violation, violation_cmp}
use Rattle.plain_sql.specs.Lists.{in_order}
use Rattle.plain_writes.specs.Violations.{Checks, Found, breaks_foreign, broken, first_of, first_violation, found_in, had_in, is_called, keys_of_parent, number_of, of_check, of_column, of_foreign, of_index, same_violation, table_in, violations, violations_in}
use Rattle.violation_lists.specs.Scanning.{bare, bare_named, bare_table}

-- ---- schemas and rows alone

found_bare : (name : List ℕ) (database : PlainDatabase) → table_in (bare database) name ≡ option_map bare_table (table_in database name)
found_bare name [] = refl
found_bare name (named ∷ database) =
    elim (is_called name named) as (λ b. option_map (λ (one : NamedTable). one.table) (cond b (Some (bare_named named)) (find (is_called name) (bare database)))
    ≡ option_map bare_table (option_map (λ (one : NamedTable). one.table) (cond b (Some named) (find (is_called name) database)))) [
      | true ↦ refl
      | false ↦ found_bare name database
    ]

-- what looks at a table's schema and rows alone finds the same
module _ {A : Type 0} (f : PlainTable → A) (none : A) (same : (table : PlainTable) → f (bare_table table) ≡ f table) where
  of_found : (found : Option PlainTable) → option_map_or f (option_map bare_table found) none ≡ option_map_or f found none
  of_found None = refl
  of_found (Some table) = same table

  pub by_table : (database : PlainDatabase) (name : List ℕ) → option_map_or f (table_in (bare database) name) none ≡ option_map_or f (table_in database name) none
  by_table database name = ap (λ found. option_map_or f found none) (found_bare name database) ∙ of_found (table_in database name)

foreign_bare : (database : PlainDatabase) (schema : Schema) (rows : List Cells) (foreign : ForeignKey) → of_foreign (bare database) schema rows foreign ≡ of_foreign database schema rows foreign
foreign_bare database schema rows foreign =
    ap (λ keys. broken schema rows 1 foreign.name (breaks_foreign keys foreign.columns)) (by_table (keys_of_parent schema foreign) [] (λ table. refl) database foreign.parent)

module _ (checks : Checks) where
  listed_bare : (database : PlainDatabase) (name : List ℕ) (schema : Schema) (rows : List Cells) → violations_in checks (bare database) name schema rows ≡ violations_in checks database name schema rows
  listed_bare database name schema rows =
      ap (λ (f : ForeignKey → List Violation). in_order violation_cmp (flat_map f schema.foreign ++ flat_map (of_index schema rows) schema.indexes ++ flat_map (of_check checks name schema rows) schema.checks
      ++ flat_map (of_column schema rows) (enumerate_from 0 schema.columns))) (λ i foreign. foreign_bare database schema rows foreign i)

  named_bare : (database : PlainDatabase) (named : NamedTable) → found_in checks (bare database) (bare_named named) ≡ found_in checks database named
  named_bare database named =
      ap (map (λ violation. record { table = named.name; violation = violation })) (listed_bare database named.name named.table.schema named.table.rows)

  pub violations_bare : (database : PlainDatabase) → violations checks (bare database) ≡ violations checks database
  violations_bare database =
      flat_map-map (found_in checks (bare database)) bare_named database
      ∙ ap (λ (f : NamedTable → List Found). flat_map f database) (λ i named. named_bare database named i)

  number_bare : (old : PlainDatabase) (found : Found) → number_of (bare old) found ≡ number_of old found
  number_bare old found =
      ap (λ b. cond (found.violation.kind == 2) 1062 (cond (found.violation.kind == 3) 3819 (cond (found.violation.kind == 4) 1048 (cond b 1451 1452))))
      (by_table (had_in found.violation) false (λ table. refl) old found.table)

  pub refusal_told : (old new : PlainDatabase) → first_violation checks (bare old) (bare new) ≡ first_violation checks old new
  refusal_told old new = λ i. first_of (map (λ found. number_bare old found i) (filter (λ one. not (list_any (same_violation one) (violations_bare old i))) (violations_bare new i)))

-- ---- nothing is new beside itself

cmp_itself : (found : Violation) → violation_cmp found found ≡ Equal
cmp_itself found = λ i. ordering_then (tied_itself nat_cmp_total found.kind i) (ordering_then (tied_itself nat_list_cmp_total found.constraint i) (tied_itself key_cmp_total found.key i))

pub cells_itself : (cells : Cells) → same_cells cells cells ≡ true
cells_itself cells = (cells_told cells cells).1 refl

pub same_itself : (found : Found) → same_violation found found ≡ true
same_itself found = λ i. bytes_itself found.table i && is_eq (cmp_itself found.violation i) && cells_itself found.violation.row i

stands_there : (front : List Found) (one : Found) (rest : List Found) → list_any (same_violation one) (front ++ one ∷ rest) ≡ true
stands_there [] one rest = ap (λ b. b || list_any (same_violation one) rest) (same_itself one)
stands_there (other ∷ front) one rest = or_right (same_violation one other) (stands_there front one rest)

none_new : (front found : List Found) → filter (λ one. not (list_any (same_violation one) (front ++ found))) found ≡ []
none_new front [] = refl
none_new front (one ∷ found) =
    ap (λ b. cond (not b) (one ∷ filter (λ x. not (list_any (same_violation x) (front ++ one ∷ found))) found) (filter (λ x. not (list_any (same_violation x) (front ++ one ∷ found))) found)) (stands_there front one found)
    ∙ ap (λ l. filter (λ x. not (list_any (same_violation x) l)) found) (sym (append_assoc front (one ∷ []) found))
    ∙ none_new (front ++ one ∷ []) found

pub nothing_new : (checks : Checks) (database : PlainDatabase) → first_violation checks database database ≡ None
nothing_new checks database = ap (λ l. first_of (map (number_of database) l)) (none_new [] (violations checks database))
