-- Tables that stand, and their counts.
use Rattle.std.proofs.Common.{◌≡◌, ◌<◌, ◌^◌, refl, sym, ap, ◌∙◌, subst, ℕ, List, [], ◌∷◌, ◌++◌, length, map, append_assoc}
use Rattle.std.specs.List.{flat_map}
use Rattle.std.proofs.lemmas.List.{length-map}
use Rattle.chunk_store.specs.Chunks.{Chunks}
use Rattle.chunk_store.specs.Standing.{IsTree}
use Rattle.plain_sql.specs.declared.sources.Known.{Known}
use Rattle.schema_model.specs.PlainTables as contents
use Rattle.schema_model.specs.PlainTables.{PlainDatabase, PlainTable, conflict_item, conflict_items, violation_item, violation_items}
use Rattle.schema_model.specs.declared.schemas.Schema.{Schema}
use Rattle.table_root.specs.Standing.{IsTableAt, IsTableOf, TablesStand, TableValuesStand, table_of_lists}
use Rattle.table_root.specs.Tables.{HasTable, IsTableFound}
use Rattle.table_root.specs.declared.records.StoredTable.{StoredTable}
use Rattle.tuple_codec.specs.Nodes.{Item}
use Rattle.tuple_codec.specs.Rows.{Cells}
use Rattle.system_tables.specs.Entries.{HasTableAt, count_in, counted_row, counted_rows, counts_of, counts_shown, entries_of, known_list, list_shown, rows_of, violation_entry, conflict_entry}
use Rattle.system_tables.specs.declared.entries.ListEntry.{ListEntry}
use Rattle.system_tables.specs.declared.entries.Listed.{Listed}
use Rattle.system_tables.specs.declared.entries.Listed.TheVariants as listed
use Rattle.plain_sessions.specs.SystemTables.{conflict_row, count_row, violation_row}

module _ (address : List ℕ → List ℕ) (chunks : Chunks) (k : List ℕ) where
  pub found_at : TablesStand → HasTableAt address chunks k → HasTable chunks k
  found_at stand has = (table_of_lists address has.0, stand.found address chunks k has.0 has.1)

  pub read_at : TableValuesStand → (contents : PlainTable) → IsTableAt address chunks k contents → (table : StoredTable) → IsTableFound chunks k table → IsTableOf address chunks table contents
  read_at values contents at table found = values.read address chunks k contents table at found

-- ---- counts

module _ (address : List ℕ → List ℕ) (chunks : Chunks) (table : StoredTable) (contents : PlainTable) (of : IsTableOf address chunks table contents) where
  pub conflict_tree : IsTree address chunks table.conflicts.0 (conflict_items contents)
  conflict_tree = subst (λ (k : List ℕ). IsTree address chunks k (conflict_items contents)) (sym (ap (λ (t : StoredTable). t.conflicts.0) of.value)) (let trees = of.trees in trees.conflicts)

  pub violation_tree : IsTree address chunks table.violations.0 (violation_items contents)
  violation_tree = subst (λ (k : List ℕ). IsTree address chunks k (violation_items contents)) (sym (ap (λ (t : StoredTable). t.violations.0) of.value)) (let trees = of.trees in trees.violations)

  pub few_in : (n : ℕ) (items : List Item) (k : List ℕ) → IsTree address chunks k items → n ≡ length items → n < 2 ^ 63
  few_in n items k tree is = subst (λ m. m < 2 ^ 63) (sym is) (let rows = tree.are_rows in rows.few)

  pub conflicts_counted : (n : ℕ) → n ≡ length (conflict_items contents) → n ≡ count_in listed.Conflicts contents
  conflicts_counted n is = is ∙ length-map contents.conflicts (conflict_item contents.schema)

  pub violations_counted : (n : ℕ) → n ≡ length (violation_items contents) → n ≡ count_in listed.Violations contents
  violations_counted n is = is ∙ length-map contents.violations (violation_item contents.schema)

row_counted : {A : Type 0} (name : List ℕ) (entries : List A) → counted_row name (length entries) ≡ count_row name entries
row_counted name [] = refl
row_counted name (entry ∷ entries) = refl

rows_counted : (which : Listed) (database : PlainDatabase) → counts_of which (counted_rows which database) ≡ counts_shown which database
rows_counted listed.Conflicts database = ap (counts_of listed.Conflicts) (each database)
  where
    each : (database : PlainDatabase) → counted_rows listed.Conflicts database ≡ flat_map (λ named. count_row named.name named.table.conflicts) database
    each [] = refl
    each (named ∷ database) = λ i. row_counted named.name named.table.conflicts i ++ each database i
rows_counted listed.Violations database = ap (counts_of listed.Violations) (each database)
  where
    each : (database : PlainDatabase) → counted_rows listed.Violations database ≡ flat_map (λ named. count_row named.name named.table.violations) database
    each [] = refl
    each (named ∷ database) = λ i. row_counted named.name named.table.violations i ++ each database i

pub counts_are : (which : Listed) (database : PlainDatabase) (none rows : List Cells) (known : Known) → none ≡ [] → rows ≡ none ++ counted_rows which database → known ≡ counts_of which rows
    → known ≡ counts_shown which database
counts_are which database none rows known empty are is = is ∙ ap (counts_of which) (are ∙ ap (λ (l : List Cells). l ++ counted_rows which database) empty) ∙ rows_counted which database

-- one table's count, and those of the others
pub count_more : (which : Listed) (old mid new : List Cells) (named : contents.NamedTable) (others database : PlainDatabase) (name : List ℕ) (n : ℕ) → database ≡ named ∷ others → name ≡ named.name
    → n ≡ count_in which named.table → mid ≡ old ++ counted_row name n → new ≡ mid ++ counted_rows which others → new ≡ old ++ counted_rows which database
count_more which old mid new named others database name n both called counts first more =
    more
    ∙ ap (λ (l : List Cells). l ++ counted_rows which others) first
    ∙ append_assoc old (counted_row name n) (counted_rows which others)
    ∙ (λ i. old ++ (counted_row (called i) (counts i) ++ counted_rows which others))
    ∙ ap (λ d. old ++ counted_rows which d) (sym both)

-- ---- lists

conflicts_shown : (schema : Schema) (conflicts : List contents.Conflict) → rows_of (map (conflict_entry schema) conflicts) ≡ map (conflict_row schema) conflicts
conflicts_shown schema [] = refl
conflicts_shown schema (conflict ∷ conflicts) = ap (λ (l : List Cells). conflict_row schema conflict ∷ l) (conflicts_shown schema conflicts)

violations_shown : (schema : Schema) (violations : List contents.Violation) → rows_of (map (violation_entry schema) violations) ≡ map violation_row violations
violations_shown schema [] = refl
violations_shown schema (violation ∷ violations) = ap (λ (l : List Cells). violation_row violation ∷ l) (violations_shown schema violations)

whole_list : (which : Listed) (name : List ℕ) (table : PlainTable) → known_list which name table.schema (entries_of which table) ≡ list_shown which (record { name = name; table = table })
whole_list listed.Conflicts name table =
    ap (λ (rows : List Cells). record (known_list listed.Conflicts name table.schema []) { rows = rows }) (conflicts_shown table.schema table.conflicts)
whole_list listed.Violations name table =
    ap (λ (rows : List Cells). record (known_list listed.Violations name table.schema []) { rows = rows }) (violations_shown table.schema table.violations)

pub list_is : (which : Listed) (name : List ℕ) (address : List ℕ → List ℕ) (chunks : Chunks) (table : StoredTable) (contents : PlainTable) → IsTableOf address chunks table contents → (entries : List ListEntry)
    → entries ≡ entries_of which contents → (known : Known) → known ≡ known_list which name table.schema entries → known ≡ list_shown which (record { name = name; table = contents })
list_is which name address chunks table contents of entries are known is =
    is
    ∙ ap (λ (l : List ListEntry). known_list which name table.schema l) are
    ∙ ap (λ (t : StoredTable). known_list which name t.schema (entries_of which contents)) of.value
    ∙ whole_list which name contents
