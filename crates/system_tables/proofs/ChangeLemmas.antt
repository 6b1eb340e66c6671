-- A table differs exactly where its address does.
use Rattle.std.proofs.Common.{◌≡◌, refl, sym, ap, ◌∙◌, ℕ, true, false, Bool, List, [], ◌∷◌, ◌++◌, codes, bytes_eq, Option, Some, None}
use Rattle.std.specs.Prelude.{if◌then◌else◌}
use Rattle.std.specs.List.{AllByRecursion, find, flat_map}
use Rattle.std.specs.Option.{option_map}
use Rattle.std.specs.Cmp.Lexicographic.{bytes_decides}
use Rattle.chunk_store.specs.Chunks.{Chunks}
use Rattle.table_root.specs.Kept.{IsKeptAt}
use Rattle.schema_merge.specs.KeyByKey.{all_keys}
use Rattle.schema_merge.specs.RootMerge.{names_of}
use Rattle.plain_sessions.specs.Sessions.{Transaction, own_root}
use Rattle.plain_sessions.specs.SystemTables as plain
use Rattle.plain_sessions.specs.SystemTables.{change_of, row_if, status_row, status_rows}
use Rattle.plain_writes.specs.Violations.{is_called, table_in}
use Rattle.schema_model.specs.PlainTables as contents
use Rattle.schema_model.specs.PlainTables.{PlainDatabase, PlainTable}
use Rattle.schema_model.specs.Sameness.{is_same_table}
use Rattle.schema_model.specs.WrittenForms.{table_address}
use Rattle.schema_model.proofs.SizeLemmas.{few_tables as few_kept}
use Rattle.table_root.specs.Databases.{HasDatabase, IsDatabaseFound}
use Rattle.table_root.specs.Standing.{DatabasesStand, IsTableAt, TablesStand, named_tables}
use Rattle.table_root.specs.declared.records.TableEntry.{TableEntry}
use Rattle.tuple_codec.specs.Edits.{order}
use Rattle.tuple_codec.specs.Rows.{AreTold, Cells}
use Rattle.tuple_codec.specs.declared.addresses.Address.{Address}
use Rattle.system_tables.specs.Changes.{AreStates, address_in, all_changed_rows, change_at, changed_row, changed_rows, names_in}

module _ (address : List ℕ → List ℕ) (chunks : Chunks) where
  -- ---- databases that are read

  pub kept_found : DatabasesStand → (k : List ℕ) (database : PlainDatabase) → IsKeptAt address chunks k database → HasDatabase chunks k
  kept_found laws k database kept = (named_tables address database, laws.found address chunks k database kept.stands (few_kept database kept.within))

  pub kept_same : DatabasesStand → (k : List ℕ) (database : PlainDatabase) → IsKeptAt address chunks k database → (tables : List TableEntry) → IsDatabaseFound chunks k tables
      → tables ≡ named_tables address database
  kept_same laws k database kept tables found = laws.same address chunks k database tables kept.stands (few_kept database kept.within) found

  -- ---- a table of a name, in its place or absent

  abbrev StandsPerhaps : Option Address → Option PlainTable → Type 0
  StandsPerhaps None None = Unit {0}
  StandsPerhaps (Some k) (Some table) = IsTableAt address chunks k.0 table
  StandsPerhaps k table = ⊥

  abbrev AreTables : PlainDatabase → Type 0
  AreTables database = AllByRecursion (λ (named : contents.NamedTable). IsTableAt address chunks (table_address address named.table) named.table) database

  found_perhaps : (name : List ℕ) (database : PlainDatabase) → AreTables database → StandsPerhaps (address_in name (named_tables address database)) (table_in database name)
  found_perhaps name [] stand = tt
  found_perhaps name (named ∷ database) stand = by (bytes_eq named.name name) (found_perhaps name database stand.1)
    where
      by : (b : Bool) → StandsPerhaps (address_in name (named_tables address database)) (table_in database name)
          → StandsPerhaps (if b then Some (record { 0 = table_address address named.table }) else address_in name (named_tables address database))
          (option_map (λ (other : contents.NamedTable). other.table) (if b then Some named else find (is_called name) database))
      by true rest = stand.0
      by false rest = rest

  -- two tests that tell the same
  same_truth : (a b : Bool) → (a ≡ true → b ≡ true) → (b ≡ true → a ≡ true) → a ≡ b
  same_truth true b there back = sym (there refl)
  same_truth false true there back = back refl
  same_truth false false there back = refl

  abbrev unless_same : Bool → Option (List ℕ)
  unless_same same = if same then None else Some (codes "modified")

  module _ (laws : TablesStand) (told : AreTold is_same_table) where
    change_same : (k l : Option Address) (old new : Option PlainTable) → StandsPerhaps k old → StandsPerhaps l new → change_at k l ≡ change_of old new
    change_same None None None None one two = refl
    change_same None (Some l) None (Some new) one two = refl
    change_same (Some k) None (Some old) None one two = refl
    change_same (Some k) (Some l) (Some old) (Some new) one two =
        let exactly = laws.exactly address chunks k.0 l.0 old new one two in
        ap unless_same
        (same_truth (bytes_eq k.0 l.0) (is_same_table old new) (λ e. (told old new).1 (exactly.0 ((bytes_decides k.0 l.0).0 e)))
        (λ e. (bytes_decides k.0 l.0).1 (exactly.1 ((told old new).0 e))))
    change_same None l (Some old) new one two = absurd one
    change_same (Some k) l None new one two = absurd one
    change_same None None None (Some new) one two = absurd two
    change_same None (Some l) None None one two = absurd two
    change_same (Some k) None (Some old) (Some new) one two = absurd two
    change_same (Some k) (Some l) (Some old) None one two = absurd two

    row_same : (staged : Bool) (old new : PlainDatabase) → AreTables old → AreTables new → (name : List ℕ)
        → changed_row staged (named_tables address old) (named_tables address new) name ≡ status_row staged old new name
    row_same staged old new one two name =
        ap (row_if name staged)
        (change_same (address_in name (named_tables address old)) (address_in name (named_tables address new)) (table_in old name) (table_in new name)
        (found_perhaps name old one) (found_perhaps name new two))

    names_same : (database : PlainDatabase) → names_in (named_tables address database) ≡ names_of database
    names_same [] = refl
    names_same (named ∷ database) = ap (λ (names : List (List ℕ)). named.name ∷ names) (names_same database)

    module _ (t : Transaction) (head : AreTables (own_root t)) (staged : AreTables t.own.staged) (working : AreTables t.own.working) where
      abbrev old_tables : List TableEntry
      old_tables = named_tables address (own_root t)

      abbrev staged_tables : List TableEntry
      staged_tables = named_tables address t.own.staged

      abbrev own_tables : List TableEntry
      own_tables = named_tables address t.own.working

      both_same : (name : List ℕ) → changed_rows old_tables staged_tables own_tables name ≡ status_rows t name
      both_same name =
          let first = row_same true (own_root t) t.own.staged head staged name in
          let second = row_same false t.own.staged t.own.working staged working name in
          λ i. first i ++ second i

      each_same : (names : List (List ℕ)) → all_changed_rows old_tables staged_tables own_tables names ≡ flat_map (status_rows t) names
      each_same [] = refl
      each_same (name ∷ names) = λ i. both_same name i ++ each_same names i

      all_names_same : all_keys order (names_in old_tables) (names_in staged_tables) (names_in own_tables) ≡ all_keys order (names_of (own_root t)) (names_of t.own.staged) (names_of t.own.working)
      all_names_same = λ i. all_keys order (names_same (own_root t) i) (names_same t.own.staged i) (names_same t.own.working i)

      rows_same : all_changed_rows old_tables staged_tables own_tables (all_keys order (names_in old_tables) (names_in staged_tables) (names_in own_tables)) ≡ (plain.status t).rows
      rows_same = ap (all_changed_rows old_tables staged_tables own_tables) all_names_same ∙ each_same (all_keys order (names_of (own_root t)) (names_of t.own.staged) (names_of t.own.working))

    -- what differs between tables that were read is what the status shows
    pub status_shown : (t : Transaction) (kh ks kw : List ℕ) → AreStates address chunks kh ks kw t → (head staged working : List TableEntry) (rows : List Cells) → head ≡ named_tables address (own_root t)
        → staged ≡ named_tables address t.own.staged → working ≡ named_tables address t.own.working
        → rows ≡ all_changed_rows head staged working (all_keys order (names_in head) (names_in staged) (names_in working)) → rows ≡ (plain.status t).rows
    status_shown t kh ks kw states head staged working rows h s w is =
        let one = states.head_stands in
        let two = states.staged_stands in
        let three = states.working_stands in
        is
        ∙ (λ i. all_changed_rows (h i) (s i) (w i) (all_keys order (names_in (h i)) (names_in (s i)) (names_in (w i))))
        ∙ rows_same t one.stands.tables two.stands.tables three.stands.tables
