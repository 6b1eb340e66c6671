-- Databases as the lists of the names and addresses of their tables.
use Rattle.std.proofs.Common.{◌≡◌, refl, sym, ap, ◌∙◌, subst, ℕ, ◌<◌, ◌≤◌, ◌^◌, true, false, cond, ◌&&◌, ◌||◌, nat_le, nat_cmp, is_lt, List, [], ◌∷◌, ◌++◌, map, take, drop, length, bytes_eq, Option, Some, None, unwrap_or, suc, arith}
use Rattle.std.specs.Cmp.Lexicographic.{bytes_decides, slice_cmp}
use Rattle.std.specs.List.{AllByRecursion, find, list_all}
use Rattle.std.specs.Option.{option_map}
use Rattle.tuple_codec.specs.declared.addresses.Address.{Address}
use Rattle.schema_model.specs.Limits.{is_database_within_limits, is_named_within_limits, is_short_name, most_tables}
use Rattle.schema_model.specs.PlainTables as plain
use Rattle.schema_model.specs.PlainTables.{PlainDatabase, PlainTable, rises}
use Rattle.schema_model.specs.Schemas.{is_name}
use Rattle.schema_model.specs.WrittenForms.{table_address}
use Rattle.schema_model.proofs.SizeLemmas.{kept_few, short_names as short_in}
use Rattle.chunk_store.specs.Chunks.{Chunks, Extends}
use Rattle.table_root.specs.Databases.{has_short_name, names_rise as heads_rise}
use Rattle.table_root.specs.Standing.{AreThere, DatabasesStand, IsReadAt, IsTableAt, TablesStand, named_tables}
use Rattle.table_root.specs.declared.records.TableEntry.{TableEntry}
use Rattle.plain_writes.specs.Violations.{is_called, table_in}
use Rattle.plain_writes.specs.Writes.{replaced, replaced_in}
use Rattle.table_root.specs.Kept.{IsKeptAt}
use Rattle.plain_writes.proofs.DatabaseLemmas.{length_same, names_by, names_rise, tables_are}
use Rattle.plain_writes.proofs.RowOrderLemmas.{right_so, two}
use Rattle.violation_lists.specs.Scanning.{constrained_beside, has_constraints, has_constraints_beside, is_constrained}
use Rattle.sql_write.specs.Putting.{AreListed, AreListedAt, address_in, readdress, readdressed}

-- ---- a database that keeps the limits

pub few_read : (database : PlainDatabase) → length database ≤ most_tables → length database < 2 ^ 16
few_read database few = let most : length database ≤ 256 = few in omega (arith, most)

pub kept_short : (database : PlainDatabase) → is_database_within_limits database ≡ true → list_all (λ (named : plain.NamedTable). is_short_name named.name) database ≡ true
kept_short database h = short_in database (right_so (nat_le (length database) most_tables) (list_all is_named_within_limits database) h)

pub kept_read : (address : List ℕ → List ℕ) (chunks : Chunks) (k : List ℕ) (database : PlainDatabase) → IsKeptAt address chunks k database → IsReadAt address chunks k database
kept_read address chunks k database kept = record { stands = kept.stands; few = few_read database (kept_few database kept.within) }

pub kept_listed : (address : List ℕ → List ℕ) (chunks : Chunks) (k : List ℕ) (database : PlainDatabase) (tables : List TableEntry) → IsKeptAt address chunks k database
    → tables ≡ named_tables address database → AreListedAt address chunks k tables database
kept_listed address chunks k database tables kept is = record {
  at = kept_read address chunks k database kept;
  listed = record {
    is_database = kept.stands.is_database;
    few = kept_few database kept.within;
    short = kept_short database kept.within;
    stand = kept.stands.tables;
    listed = is;
  };
}

-- ---- the list of a database's tables

pub short_names : (address : List ℕ → List ℕ) (database : PlainDatabase) → list_all has_short_name (named_tables address database) ≡ list_all (λ (named : plain.NamedTable). is_short_name named.name) database
short_names address [] = refl
short_names address (named ∷ database) = ap (λ b. is_short_name named.name && b) (short_names address database)

pub rise_names : (address : List ℕ → List ℕ) (database : PlainDatabase) → heads_rise (named_tables address database) ≡ rises (λ (a b : plain.NamedTable). slice_cmp nat_cmp a.name b.name) database
rise_names address [] = refl
rise_names address (named ∷ []) = refl
rise_names address (named ∷ next ∷ database) = ap (λ b. is_lt (slice_cmp nat_cmp named.name next.name) && b) (rise_names address (next ∷ database))

pub stand_later : (address : List ℕ → List ℕ) (old new : Chunks) → Extends old new → TablesStand → (database : PlainDatabase)
    → AllByRecursion (λ named. IsTableAt address old (table_address address named.table) named.table) database
    → AllByRecursion (λ named. IsTableAt address new (table_address address named.table) named.table) database
stand_later address old new more laws [] h = tt
stand_later address old new more laws (named ∷ database) h =
    (laws.later address old new (table_address address named.table) named.table more h.0, stand_later address old new more laws database h.1)

pub listed_later : (address : List ℕ → List ℕ) (old new : Chunks) → Extends old new → TablesStand → (tables : List TableEntry) (database : PlainDatabase)
    → AreListed address old tables database → AreListed address new tables database
listed_later address old new more laws tables database are = record {
  is_database = are.is_database;
  few = are.few;
  short = are.short;
  stand = stand_later address old new more laws database are.stand;
  listed = are.listed;
}

-- ---- one table found

pub found_at : (address : List ℕ → List ℕ) (chunks : Chunks) (name : List ℕ) (k : Address) (database : PlainDatabase)
    → AllByRecursion (λ named. IsTableAt address chunks (table_address address named.table) named.table) database
    → address_in (named_tables address database) name ≡ Some k
    → (contents : PlainTable) × (table_in database name ≡ Some contents) × IsTableAt address chunks k.0 contents
found_at address chunks name k [] stand e = cc
found_at address chunks name k (named ∷ database) stand e = two (bytes_eq named.name name)
    (λ t.
    let same : Some (record { 0 = table_address address named.table }) ≡ Some k = sym (ap (λ b. cond b (Some (record { 0 = table_address address named.table })) (address_in (named_tables address database) name)) t) ∙ e in
    let at : table_address address named.table ≡ k.0 = ap (λ (o : Option Address). (unwrap_or o k).0) same in (
      named.table,
      ap (λ b. option_map (λ (n : plain.NamedTable). n.table) (cond b (Some named) (find (is_called name) database))) t,
      subst (λ (a : List ℕ). IsTableAt address chunks a named.table) at stand.0,
    ))
    (λ t.
    let more = found_at address chunks name k database stand.1 (sym (ap (λ b. cond b (Some (record { 0 = table_address address named.table })) (address_in (named_tables address database) name)) t) ∙ e) in (
      more.0,
      ap (λ b. option_map (λ (n : plain.NamedTable). n.table) (cond b (Some named) (find (is_called name) database))) t ∙ more.1,
      more.2,
    ))

pub absent : (address : List ℕ → List ℕ) (name : List ℕ) (database : PlainDatabase) → address_in (named_tables address database) name ≡ None → table_in database name ≡ None
absent address name [] e = refl
absent address name (named ∷ database) e = two (bytes_eq named.name name)
    (λ t. let some : Some (record { 0 = table_address address named.table }) ≡ None = sym (ap (λ b. cond b (Some (record { 0 = table_address address named.table })) (address_in (named_tables address database) name)) t) ∙ e in cc)
    (λ t.
    let more = absent address name database (sym (ap (λ b. cond b (Some (record { 0 = table_address address named.table })) (address_in (named_tables address database) name)) t) ∙ e) in
    ap (λ b. option_map (λ (n : plain.NamedTable). n.table) (cond b (Some named) (find (is_called name) database))) t ∙ more)

-- ---- one table replaced

one_readdressed : (address : List ℕ → List ℕ) (name : List ℕ) (contents : PlainTable) (named : plain.NamedTable)
    → readdress name (record { 0 = table_address address contents }) (record { name = named.name; table = record { 0 = table_address address named.table } })
    ≡ record { name = (replaced_in name contents named).name; table = record { 0 = table_address address (replaced_in name contents named).table } }
one_readdressed address name contents named = two (bytes_eq named.name name)
    (λ t.
    let same : named.name ≡ name = (bytes_decides named.name name).0 t in
    ap (λ b. cond b (record { name = named.name; table = record { 0 = table_address address contents } }) (record { name = named.name; table = record { 0 = table_address address named.table } })) t
    ∙ ap (λ n. record { name = n; table = record { 0 = table_address address contents } }) same
    ∙ sym (ap (λ b. record { name = (cond b (record { name = name; table = contents }) named).name; table = record { 0 = table_address address (cond b (record { name = name; table = contents }) named).table } }) t))
    (λ t.
    ap (λ b. cond b (record { name = named.name; table = record { 0 = table_address address contents } }) (record { name = named.name; table = record { 0 = table_address address named.table } })) t
    ∙ sym (ap (λ b. record { name = (cond b (record { name = name; table = contents }) named).name; table = record { 0 = table_address address (cond b (record { name = name; table = contents }) named).table } }) t))

pub all_readdressed : (address : List ℕ → List ℕ) (name : List ℕ) (contents : PlainTable) (database : PlainDatabase)
    → readdressed name (record { 0 = table_address address contents }) (named_tables address database) ≡ named_tables address (replaced name contents database)
all_readdressed address name contents [] = refl
all_readdressed address name contents (named ∷ database) = λ i. one_readdressed address name contents named i ∷ all_readdressed address name contents database i

pub listed_put : (address : List ℕ → List ℕ) (old new : Chunks) → Extends old new → TablesStand → (tables made : List TableEntry) (name : List ℕ) (database : PlainDatabase) (contents : PlainTable) (k : Address)
    → AreListed address old tables database → IsTableAt address new k.0 contents → made ≡ readdressed name k tables → AreListed address new made (replaced name contents database)
listed_put address old new more laws tables made name database contents k are at is = record {
  is_database = record {
    tables = tables_are plain.IsTable name contents database at.is_table are.is_database.tables;
    names = names_by is_name name contents database are.is_database.names;
    rise = names_rise name contents database are.is_database.rise;
  };
  few = subst (λ n. n ≤ most_tables) (sym (length_same name contents database)) are.few;
  short = names_by is_short_name name contents database are.short;
  stand = tables_are (λ (t : PlainTable). IsTableAt address new (table_address address t) t) name contents database
      (subst (λ (a : List ℕ). IsTableAt address new a contents) (sym at.named) at)
      (stand_later address old new more laws database are.stand);
  listed = is ∙ ap (readdressed name k) are.listed
      ∙ ap (λ (a : List ℕ). readdressed name (record { 0 = a }) (named_tables address database)) (sym at.named)
      ∙ all_readdressed address name contents database;
}

pub read_later : (address : List ℕ → List ℕ) (old new : Chunks) → Extends old new → DatabasesStand → (k : List ℕ) (database : PlainDatabase) → IsReadAt address old k database → IsReadAt address new k database
read_later address old new more laws k database read = record { stands = laws.later address old new k database more read.stands; few = read.few }

-- ---- what constrains a database

pub listed_there : (address : List ℕ → List ℕ) (chunks : Chunks) (tables read : List TableEntry) (database : PlainDatabase) → AreListed address chunks tables database
    → read ≡ tables → AreThere address chunks database read
listed_there address chunks tables read database are is = record { stand = are.stand; listed = is ∙ are.listed }

one_constrained : (name : List ℕ) (contents : PlainTable) (named : plain.NamedTable)
    → constrained_beside name contents.schema named.name named.table.schema ≡ is_constrained (replaced_in name contents named).table.schema
one_constrained name contents named = elim (bytes_eq named.name name) as (λ b. cond b (is_constrained contents.schema) (is_constrained named.table.schema)
    ≡ is_constrained (cond b (record { name = name; table = contents }) named).table.schema) [
      | true ↦ refl
      | false ↦ refl
    ]

-- a table put in place of another constrains by its own schema
pub constrained_replaced : (name : List ℕ) (contents : PlainTable) (database : PlainDatabase) → has_constraints_beside name contents.schema database ≡ has_constraints (replaced name contents database)
constrained_replaced name contents [] = refl
constrained_replaced name contents (named ∷ database) = λ i. one_constrained name contents named i || constrained_replaced name contents database i
