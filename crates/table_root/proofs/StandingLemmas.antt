-- What is found where an address stands for a plain table or database, and that it stands for one.
use Rattle.std.proofs.Common.{◌≡◌, ℕ, suc, ◌^◌, ◌<◌, true, ltb, eq-eqb, List, [], ◌∷◌, ◌++◌, length, map, drop, Some, refl, sym, ap, subst, ◌∙◌, append_assoc}
use Rattle.std.specs.List.{AllByRecursion, flat_map, list_all}
use Rattle.std.specs.Ordering.{nat_cmp, is_lt}
use Rattle.std.specs.Cmp.Lexicographic.{slice_cmp}
use Rattle.std.proofs.lemmas.Bool.{and_parts, and_from}
use Rattle.tuple_codec.proofs.Options.{some_is}
use Rattle.tuple_codec.specs.Fields.{bytes_at, short, short_at}
use Rattle.tuple_codec.specs.Nodes.{Item}
use Rattle.tuple_codec.specs.Texts.{is_utf8}
use Rattle.tuple_codec.specs.Trees.{root}
use Rattle.tuple_codec.specs.declared.addresses.Address.{Address}
use Rattle.tuple_codec.proofs.FieldLemmas.{bytes_again}
use Rattle.schema_model.specs.PlainTables as plain
use Rattle.schema_model.specs.PlainTables.{NamedTable, PlainDatabase, PlainTable, conflict_items, index_items, rises, row_items, violation_items}
use Rattle.schema_model.specs.Schemas.{is_name}
use Rattle.schema_model.specs.Spellings as spelled
use Rattle.schema_model.specs.WrittenForms.{WrittenEntry, database_address, database_bytes, database_form, table_address, table_bytes, table_form}
use Rattle.schema_model.specs.WrittenForms as written
use Rattle.schema_model.specs.declared.schemas.IndexDef.{IndexDef}
use Rattle.chunk_store.specs.Chunks.{Chunks, Extends, IsHeld}
use Rattle.chunk_store.specs.Standing.{IsTree}
use Rattle.prolly_tree.specs.Standing.{Exactly}
use Rattle.prolly_tree.proofs.Growing.{there_later, tree_later}
use Rattle.prolly_tree.proofs.One.{one_tree}
use Rattle.prolly_tree.proofs.Standing.{trees_lead}
use Rattle.table_root.specs.Databases.{IsDatabaseFound, entry_of, fits_name, has_address, names_rise, written_database}
use Rattle.table_root.specs.Standing.{DatabasesStand, HasOwnTrees, HasTrees, IsDatabaseAt, IsTableAt, IsTableOf, IsUnindexedOf, TableValuesStand, TablesStand, named_tables, table_of_lists, without_indexes}
use Rattle.table_root.specs.Tables.{IsTableFound, is_address, written_table}
use Rattle.table_root.specs.declared.records.StoredTable as stored_tables
use Rattle.table_root.specs.declared.records.TableEntry as stored
use Rattle.table_root.proofs.FormLemmas.{databases_one}
use Rattle.table_root.proofs.ReadLemmas.{tables_one}
use Rattle.schema_model.proofs.PartLemmas.{short_again}
use Rattle.schema_model.proofs.SizeLemmas.{schemas_are_short}
use Rattle.schema_model.proofs.TellingLemmas.{items_tell}

abbrev named_as : List ℕ → PlainTable → NamedTable
named_as name table = record { name = name; table = table }

module _ (address : List ℕ → List ℕ) (chunks : Chunks) where
  -- a root has twenty bytes
  root_is : (rows : List Item) → IsTree address chunks (root address rows) rows → is_address (record { 0 = root address rows }) ≡ true
  root_is rows tree = eq-eqb (length (root address rows)) 20 (trees_lead address chunks (root address rows) rows tree).1.opens.stored.address

  abbrev index_root : PlainTable → IndexDef → Address
  index_root table index = record { 0 = root address (index_items table index) }

  index_roots : (table : PlainTable) (indexes : List IndexDef) → AllByRecursion (λ index. IsTree address chunks (root address (index_items table index)) (index_items table index)) indexes
      → list_all is_address (map (index_root table) indexes) ≡ true
  index_roots table [] h = refl
  index_roots table (index ∷ indexes) h = and_from (is_address (index_root table index)) _ (root_is (index_items table index) h.0) (index_roots table indexes h.1)

  index_bytes_are : (table : PlainTable) (indexes : List IndexDef) → map (λ (index : Address). index.0) (map (index_root table) indexes) ≡ map (λ index. root address (index_items table index)) indexes
  index_bytes_are table [] = refl
  index_bytes_are table (index ∷ indexes) = ap (λ (l : List (List ℕ)). root address (index_items table index) ∷ l) (index_bytes_are table indexes)

  count_is : (table : PlainTable) (indexes : List IndexDef) → length (map (index_root table) indexes) ≡ length indexes
  count_is table [] = refl
  count_is table (index ∷ indexes) = ap (λ (n : ℕ). suc n) (count_is table indexes)

  -- the bytes of the table with these roots are the plain table's
  bytes_are : (table : PlainTable) → written_table (table_of_lists address table) ≡ table_bytes address table
  bytes_are table =
      ap (λ (l : List (List ℕ)). table_form table.schema (root address (row_items table)) l (root address (conflict_items table)) (root address (violation_items table)))
      (index_bytes_are table table.schema.indexes)

  table_found : (k : List ℕ) (table : PlainTable) → IsTableAt address chunks k table → IsTableFound chunks k (table_of_lists address table)
  table_found k table stands = record {
    is_table = record {
      schema = stands.is_table.schema;
      size = schemas_are_short table.schema stands.is_table.schema;
      count = count_is table table.schema.indexes;
      roots = record {
        rows = root_is (row_items table) stands.trees.rows;
        indexes = index_roots table table.schema.indexes stands.trees.indexes;
        conflicts = root_is (conflict_items table) stands.trees.conflicts;
        violations = root_is (violation_items table) stands.trees.violations;
      };
    };
    held = ap chunks (sym stands.named) ∙ stands.there.0 ∙ ap (λ (l : List ℕ). Some l) (sym (bytes_are table));
  }

  table_stands : (k : List ℕ) (table : PlainTable) → plain.IsTable table → HasTrees address chunks table
      → IsHeld address chunks k (written_table (table_of_lists address table)) → length k ≡ 20 → IsTableAt address chunks k table
  table_stands k table is_table trees held twenty =
      let e = bytes_are table in
      let named : table_address address table ≡ k = ap address (sym e) ∙ held.named in
      record {
        is_table = is_table;
        named = named;
        there = (ap chunks named ∙ held.held ∙ ap (λ (l : List ℕ). Some l) e, ap (λ (l : List ℕ). length l) named ∙ twenty);
        trees = trees;
      }

  -- ---- databases

  abbrev stored_table : NamedTable → stored.TableEntry
  stored_table named = record { name = named.name; table = record { 0 = table_address address named.table } }

  entries_are : (database : PlainDatabase) → map entry_of (map stored_table database) ≡ map (written.entry_of address) database
  entries_are [] = refl
  entries_are (named ∷ database) = ap (λ (l : List WrittenEntry). written.entry_of address named ∷ l) (entries_are database)

  few_are : (database : PlainDatabase) → length (map stored_table database) ≡ length database
  few_are [] = refl
  few_are (named ∷ database) = ap (λ (n : ℕ). suc n) (few_are database)

  names_fit : (database : PlainDatabase) → list_all (λ named. is_name named.name) database ≡ true → list_all fits_name (map stored_table database) ≡ true
  names_fit [] h = refl
  names_fit (named ∷ database) h =
      let both = and_parts (is_name named.name) (list_all (λ other. is_name other.name) database) h in
      let name = and_parts (ltb (length named.name) 256) (is_utf8 named.name) both.0 in
      and_from (fits_name (stored_table named)) _ name.0 (names_fit database both.1)

  have_addresses : (database : PlainDatabase) → AllByRecursion (λ named. IsTableAt address chunks (table_address address named.table) named.table) database
      → list_all has_address (map stored_table database) ≡ true
  have_addresses [] h = refl
  have_addresses (named ∷ database) h =
      and_from (has_address (stored_table named)) _ (eq-eqb (length (table_address address named.table)) 20 h.0.there.1) (have_addresses database h.1)

  rise_too : (database : PlainDatabase) → rises (λ a b. slice_cmp nat_cmp a.name b.name) database ≡ true → names_rise (map stored_table database) ≡ true
  rise_too [] h = refl
  rise_too (named ∷ []) h = refl
  rise_too (named ∷ next ∷ database) h =
      let both = and_parts (is_lt (slice_cmp nat_cmp named.name next.name)) (rises (λ (a b : NamedTable). slice_cmp nat_cmp a.name b.name) (next ∷ database)) h in
      and_from (is_lt (slice_cmp nat_cmp named.name next.name)) _ both.0 (rise_too (next ∷ database) both.1)

  database_found : (k : List ℕ) (database : PlainDatabase) → IsDatabaseAt address chunks k database → length database < 2 ^ 16 → IsDatabaseFound chunks k (named_tables address database)
  database_found k database stands few = record {
    is_database = record {
      few = subst (λ (n : ℕ). n < 2 ^ 16) (sym (few_are database)) few;
      names = names_fit database stands.is_database.names;
      addresses = have_addresses database stands.tables;
      rise = rise_too database stands.is_database.rise;
    };
    held = ap chunks (sym stands.named) ∙ stands.there.0 ∙ ap (λ (l : List WrittenEntry). Some (database_form l)) (sym (entries_are database));
  }

  database_stands : (k : List ℕ) (database : PlainDatabase) → plain.IsDatabase database
      → AllByRecursion (λ named. IsTableAt address chunks (table_address address named.table) named.table) database
      → IsHeld address chunks k (written_database (named_tables address database)) → length k ≡ 20 → IsDatabaseAt address chunks k database
  database_stands k database is_database tables held twenty =
      let e : written_database (named_tables address database) ≡ database_bytes address database = ap (λ (l : List WrittenEntry). database_form l) (entries_are database) in
      let named : database_address address database ≡ k = ap address (sym e) ∙ held.named in
      record {
        is_database = is_database;
        named = named;
        there = (ap chunks named ∙ held.held ∙ ap (λ (l : List ℕ). Some l) e, ap (λ (l : List ℕ). length l) named ∙ twenty);
        tables = tables;
      }

-- ---- what stands, stands when more is found

module _ (address : List ℕ → List ℕ) (old new : Chunks) (more : Extends old new) where
  indexes_later : (table : PlainTable) (indexes : List IndexDef)
      → AllByRecursion (λ index. IsTree address old (root address (index_items table index)) (index_items table index)) indexes
      → AllByRecursion (λ index. IsTree address new (root address (index_items table index)) (index_items table index)) indexes
  indexes_later table [] h = tt
  indexes_later table (index ∷ indexes) h = (tree_later address old new more (root address (index_items table index)) (index_items table index) h.0, indexes_later table indexes h.1)

  trees_later : (table : PlainTable) → HasTrees address old table → HasTrees address new table
  trees_later table trees = record {
    rows = tree_later address old new more (root address (row_items table)) (row_items table) trees.rows;
    indexes = indexes_later table table.schema.indexes trees.indexes;
    conflicts = tree_later address old new more (root address (conflict_items table)) (conflict_items table) trees.conflicts;
    violations = tree_later address old new more (root address (violation_items table)) (violation_items table) trees.violations;
  }

  own_later : (table : PlainTable) → HasOwnTrees address old table → HasOwnTrees address new table
  own_later table trees = record {
    rows = tree_later address old new more (root address (row_items table)) (row_items table) trees.rows;
    conflicts = tree_later address old new more (root address (conflict_items table)) (conflict_items table) trees.conflicts;
    violations = tree_later address old new more (root address (violation_items table)) (violation_items table) trees.violations;
  }

  table_later : (k : List ℕ) (table : PlainTable) → IsTableAt address old k table → IsTableAt address new k table
  table_later k table h = record {
    is_table = h.is_table;
    named = h.named;
    there = there_later address old new more (table_bytes address table) h.there;
    trees = trees_later table h.trees;
  }

  tables_later : (database : PlainDatabase) → AllByRecursion (λ named. IsTableAt address old (table_address address named.table) named.table) database
      → AllByRecursion (λ named. IsTableAt address new (table_address address named.table) named.table) database
  tables_later [] h = tt
  tables_later (named ∷ database) h = (table_later (table_address address named.table) named.table h.0, tables_later database h.1)

  database_later : (k : List ℕ) (database : PlainDatabase) → IsDatabaseAt address old k database → IsDatabaseAt address new k database
  database_later k database h = record {
    is_database = h.is_database;
    named = h.named;
    there = there_later address old new more (database_bytes address database) h.there;
    tables = tables_later database h.tables;
  }

-- ---- one address, one thing

module _ (address : List ℕ → List ℕ) (chunks : Chunks) where
  -- lists with trees of one root are one
  by_root : (rows others : List Item) → IsTree address chunks (root address rows) rows → IsTree address chunks (root address others) others
      → root address rows ≡ root address others → rows ≡ others
  by_root rows others a b e = one_tree address chunks (root address others) rows others (subst (λ (k : List ℕ). IsTree address chunks k rows) e a) b

  own_trees : (table : PlainTable) → HasTrees address chunks table → HasOwnTrees address chunks table
  own_trees table trees = record { rows = trees.rows; conflicts = trees.conflicts; violations = trees.violations }

  same_lists : (table other : PlainTable) → plain.IsTable table → plain.IsTable other → HasOwnTrees address chunks table → HasOwnTrees address chunks other
      → without_indexes (table_of_lists address table) ≡ without_indexes (table_of_lists address other) → table ≡ other
  same_lists table other is_table is_other trees others e =
      items_tell.tables table other is_table is_other (ap (λ (t : stored_tables.StoredTable). t.schema) e)
      (by_root (row_items table) (row_items other) trees.rows others.rows (ap (λ (t : stored_tables.StoredTable). t.rows.0) e))
      (by_root (conflict_items table) (conflict_items other) trees.conflicts others.conflicts (ap (λ (t : stored_tables.StoredTable). t.conflicts.0) e))
      (by_root (violation_items table) (violation_items other) trees.violations others.violations (ap (λ (t : stored_tables.StoredTable). t.violations.0) e))

  unindexed_same : (t u : stored_tables.StoredTable) (table other : PlainTable) → IsUnindexedOf address chunks t table → IsUnindexedOf address chunks u other → Exactly (t ≡ u) (table ≡ other)
  unindexed_same t u table other a b = (
    λ same. same_lists table other a.is_table b.is_table a.trees b.trees (sym a.value ∙ same ∙ b.value),
    λ same. a.value ∙ ap (λ (x : PlainTable). without_indexes (table_of_lists address x)) same ∙ sym b.value,
  )

  values_same : (t u : stored_tables.StoredTable) (table other : PlainTable) → IsTableOf address chunks t table → IsTableOf address chunks u other → Exactly (t ≡ u) (table ≡ other)
  values_same t u table other a b = (
    λ same. same_lists table other a.is_table b.is_table (own_trees table a.trees) (own_trees other b.trees) (ap without_indexes (sym a.value ∙ same ∙ b.value)),
    λ same. a.value ∙ ap (table_of_lists address) same ∙ sym b.value,
  )

  one_table : spelled.HasOneSpelling → (k : List ℕ) (table other : PlainTable) → IsTableAt address chunks k table → IsTableAt address chunks k other → table ≡ other
  one_table one k table other a b =
      let found = table_found address chunks k table a in
      let others = table_found address chunks k other b in
      let same = tables_one one (table_of_lists address table) (table_of_lists address other) found.is_table others.is_table (some_is _ _ (sym found.held ∙ others.held)) in
      same_lists table other a.is_table b.is_table (own_trees table a.trees) (own_trees other b.trees) (ap without_indexes same)

  tables_same : spelled.HasOneSpelling → (k l : List ℕ) (table other : PlainTable) → IsTableAt address chunks k table → IsTableAt address chunks l other → Exactly (k ≡ l) (table ≡ other)
  tables_same one k l table other a b = (
    λ same. one_table one l table other (subst (λ (j : List ℕ). IsTableAt address chunks j table) same a) b,
    λ same. sym a.named ∙ ap (table_address address) same ∙ b.named,
  )

  -- a name behind its length, and an address, each with what follows
  name_one : (a b x y : List ℕ) → short a ++ x ≡ short b ++ y → (a ≡ b) × (x ≡ y)
  name_one a b x y e =
      let same = some_is (a, x) (b, y) (sym (short_again a x) ∙ ap short_at e ∙ short_again b y) in
      (ap (λ (p : List ℕ × List ℕ). p.0) same, ap (λ (p : List ℕ × List ℕ). p.1) same)

  address_one : (a b x y : List ℕ) → length a ≡ 20 → length b ≡ 20 → a ++ x ≡ b ++ y → (a ≡ b) × (x ≡ y)
  address_one a b x y m n e =
      let same = some_is (a, x) (b, y) (sym (bytes_again 20 a x m) ∙ ap (bytes_at 20) e ∙ bytes_again 20 b y n) in
      (ap (λ (p : List ℕ × List ℕ). p.0) same, ap (λ (p : List ℕ × List ℕ). p.1) same)

  entries_bytes : PlainDatabase → List ℕ
  entries_bytes database = flat_map (λ (entry : WrittenEntry). short entry.name ++ entry.address) (map (written.entry_of address) database)

  named_one : (a b : NamedTable) → a.name ≡ b.name → a.table ≡ b.table → a ≡ b
  named_one a b name table = ap (λ (x : List ℕ). named_as x a.table) name ∙ ap (named_as b.name) table

  entries_one : spelled.HasOneSpelling → (a b : PlainDatabase) → AllByRecursion (λ named. IsTableAt address chunks (table_address address named.table) named.table) a
      → AllByRecursion (λ named. IsTableAt address chunks (table_address address named.table) named.table) b → entries_bytes a ≡ entries_bytes b → a ≡ b
  unfolding entries_bytes
  entries_one one [] [] p q e = refl
  entries_one one [] (other ∷ others) p q e = absurd cc
  entries_one one (named ∷ more) [] p q e = absurd cc
  entries_one one (named ∷ more) (other ∷ others) p q e =
      let split = λ (n : NamedTable) (l : PlainDatabase). append_assoc (short n.name) (table_address address n.table) (entries_bytes l) in
      let first = name_one named.name other.name _ _ (sym (split named more) ∙ e ∙ split other others) in
      let second = address_one (table_address address named.table) (table_address address other.table) _ _ p.0.there.1 q.0.there.1 first.1 in
      let table = (tables_same one (table_address address named.table) (table_address address other.table) named.table other.table p.0 q.0).0 second.0 in
      ap (λ (n : NamedTable). n ∷ more) (named_one named other first.0 table) ∙ ap (λ (l : PlainDatabase). other ∷ l) (entries_one one more others p.1 q.1 second.1)

  one_database : spelled.HasOneSpelling → (k : List ℕ) (database other : PlainDatabase) → IsDatabaseAt address chunks k database → IsDatabaseAt address chunks k other → database ≡ other
  unfolding entries_bytes
  one_database one k database other a b =
      let bytes : database_bytes address database ≡ database_bytes address other =
      some_is _ _ (sym a.there.0 ∙ ap chunks (a.named ∙ sym b.named) ∙ b.there.0) in
      entries_one one database other a.tables b.tables (ap (drop 3) bytes)

  databases_same : spelled.HasOneSpelling → (k l : List ℕ) (database other : PlainDatabase) → IsDatabaseAt address chunks k database → IsDatabaseAt address chunks l other
      → Exactly (k ≡ l) (database ≡ other)
  databases_same one k l database other a b = (
    λ same. one_database one l database other (subst (λ (j : List ℕ). IsDatabaseAt address chunks j database) same a) b,
    λ same. sym a.named ∙ ap (database_address address) same ∙ b.named,
  )

pub tables_stand : spelled.HasOneSpelling → TablesStand
tables_stand one = record {
  found = table_found;
  same = λ address chunks k table read stands found.
      let there = table_found address chunks k table stands in
      tables_one one read (table_of_lists address table) found.is_table there.is_table (some_is _ _ (sym found.held ∙ there.held));
  stands = table_stands;
  later = λ address old new k table more. table_later address old new more k table;
  one = λ address chunks. one_table address chunks one;
  exactly = λ address chunks. tables_same address chunks one;
}

pub table_values_stand : spelled.HasOneSpelling → TableValuesStand
table_values_stand one = record {
  read = λ address chunks k contents table stands found.
      record { is_table = stands.is_table; trees = stands.trees; value = (tables_stand one).same address chunks k contents table stands found };
  put = λ address chunks k contents table is held twenty.
      table_stands address chunks k contents is.is_table is.trees (subst (λ (t : stored_tables.StoredTable). IsHeld address chunks k (written_table t)) is.value held) twenty;
  later = λ address old new contents table more is. record { is_table = is.is_table; trees = trees_later address old new more contents is.trees; value = is.value };
  exactly = values_same;
  unindexed_later = λ address old new contents table more is. record { is_table = is.is_table; trees = own_later address old new more contents is.trees; value = is.value };
  unindexed_exactly = unindexed_same;
}

pub databases_stand : spelled.HasOneSpelling → DatabasesStand
databases_stand one = record {
  found = database_found;
  same = λ address chunks k database read stands few found.
      let there = database_found address chunks k database stands few in
      databases_one read (named_tables address database) found.is_database there.is_database (some_is _ _ (sym found.held ∙ there.held));
  stands = database_stands;
  later = λ address old new k database more. database_later address old new more k database;
  one = λ address chunks. one_database address chunks one;
  exactly = λ address chunks. databases_same address chunks one;
}
