-- Tables and databases that stand are found, and have what they stand for.
use Rattle.std.proofs.Common.{◌≡◌, ◌≤◌, ◌-◌, refl, sym, ap, ◌∙◌, subst, ℕ, suc, Bool, true, false, cond, List, [], ◌∷◌, ◌++◌, length, map, filter, take, drop, slice_index_or}
use Rattle.tuple_codec.proofs.Arithmetic.{none_long, one_less}
use Rattle.tuple_codec.proofs.Lists.{take_whole as take_all}
use Rattle.schema_model.specs.PlainTables as plain
use Rattle.schema_model.specs.PlainTables.{PlainDatabase, PlainTable}
use Rattle.chunk_store.specs.Chunks.{Chunks}
use Rattle.table_root.specs.Databases.{IsDatabaseFound}
use Rattle.table_root.specs.Standing.{AreThere, DatabasesStand, IsReadAt, IsTableAt, IsTableOf, TableValuesStand, TablesStand, named_tables, table_of_lists}
use Rattle.table_root.specs.Tables.{IsTableFound}
use Rattle.table_root.specs.declared.records.StoredTable.{StoredTable}
use Rattle.table_root.specs.declared.records.TableEntry.{TableEntry}
use Rattle.schema_model.specs.WrittenForms.{table_address}
use Rattle.plain_sql.specs.declared.sources.Known.{Known}
use Rattle.sql_ast.specs.declared.selects.Query.{Query}
use Rattle.sql_select.specs.Seeks.{AddsServing, ServesQuery}
use Rattle.sql_select.specs.Sources.{known_table}

pub table_found : (address : List ℕ → List ℕ) (chunks : Chunks) (k : List ℕ) → TablesStand → (table : PlainTable) → IsTableAt address chunks k table → (read : StoredTable) × IsTableFound chunks k read
table_found address chunks k stand table at = (table_of_lists address table, stand.found address chunks k table at)

pub table_same : (address : List ℕ → List ℕ) (chunks : Chunks) (k : List ℕ) → TablesStand → (table : PlainTable) → IsTableAt address chunks k table → (read : StoredTable) → IsTableFound chunks k read
    → read ≡ table_of_lists address table
table_same address chunks k stand table at read found = stand.same address chunks k table read at found

pub table_of : (address : List ℕ → List ℕ) (chunks : Chunks) (k : List ℕ) → TableValuesStand → (table : PlainTable) → IsTableAt address chunks k table → (read : StoredTable) → IsTableFound chunks k read
    → IsTableOf address chunks read table
table_of address chunks k stand table at read found = stand.read address chunks k table read at found

pub database_found : (address : List ℕ → List ℕ) (chunks : Chunks) (k : List ℕ) → DatabasesStand → (database : PlainDatabase) → IsReadAt address chunks k database → (tables : List TableEntry) × IsDatabaseFound chunks k tables
database_found address chunks k stand database at = (named_tables address database, stand.found address chunks k database at.stands at.few)

pub database_there : (address : List ℕ → List ℕ) (chunks : Chunks) (k : List ℕ) → DatabasesStand → (database : PlainDatabase) → IsReadAt address chunks k database → (tables : List TableEntry) → IsDatabaseFound chunks k tables
    → AreThere address chunks database tables
database_there address chunks k stand database at tables found =
    let stands = at.stands in
    record { stand = stands.tables; listed = stand.same address chunks k database tables stands at.few found }

-- ---- the first table, and the others

abbrev entry_of : (List ℕ → List ℕ) → plain.NamedTable → TableEntry
entry_of address named = record { name = named.name; table = record { 0 = table_address address named.table } }

-- what the first of a list and the others are of
pub record Parts (address : List ℕ → List ℕ) (chunks : Chunks) (database : PlainDatabase) (first : TableEntry) (rest : List TableEntry) : Type 0 where
  pub named : plain.NamedTable
  pub others : PlainDatabase
  pub both : database ≡ named ∷ others
  pub name : first.name ≡ named.name
  pub at : IsTableAt address chunks first.table.0 named.table
  pub there : AreThere address chunks others rest

parted : (address : List ℕ → List ℕ) (chunks : Chunks) (named : plain.NamedTable) (others : PlainDatabase) (tables : List TableEntry) (first : TableEntry) → AreThere address chunks (named ∷ others) tables
    → first ≡ slice_index_or tables 0 first → Parts address chunks (named ∷ others) first (take (length tables - 1) (drop 1 tables))
parted address chunks named others tables first there is = record {
  named = named;
  others = others;
  both = refl;
  name = ap (λ (n : TableEntry). n.name) first_is;
  at = let stand = there.stand in subst (λ k. IsTableAt address chunks k named.table) (sym (ap (λ (n : TableEntry). n.table.0) first_is)) stand.0;
  there = let stand = there.stand in record { stand = stand.1; listed = ap (λ l. take (length l - 1) (drop 1 l)) there.listed ∙ rest_is };
}
  where
    first_is : first ≡ entry_of address named
    first_is = is ∙ ap (λ l. slice_index_or l 0 first) there.listed

    rest_is : take (length (entry_of address named ∷ named_tables address others) - 1) (named_tables address others) ≡ named_tables address others
    rest_is = ap (λ n. take n (named_tables address others)) (one_less (length (named_tables address others))) ∙ take_all (named_tables address others)

pub parts_of : (address : List ℕ → List ℕ) (chunks : Chunks) (database : PlainDatabase) (tables : List TableEntry) (first : TableEntry) → AreThere address chunks database tables
    → first ≡ slice_index_or tables 0 first → 1 ≤ length tables → Parts address chunks database first (take (length tables - 1) (drop 1 tables))
parts_of address chunks [] tables first there is long = absurd (none_long (length tables) long (ap length there.listed))
parts_of address chunks (named ∷ others) tables first there is long = parted address chunks named others tables first there is

-- ---- what is known of them

append_three : {A : Type 0} (xs : List A) (y : A) (zs : List A) → (xs ++ y ∷ []) ++ zs ≡ xs ++ y ∷ zs
append_three [] y zs = refl
append_three (x ∷ xs) y zs = ap (λ l. x ∷ l) (append_three xs y zs)

pub read_first : (query : Query) (p : plain.NamedTable → Bool) (known kept new : List Known) (k : Known) (named : plain.NamedTable) (others database : PlainDatabase) → database ≡ named ∷ others → p named ≡ true
    → AddsServing query kept new (map known_table (filter p others)) → kept ≡ known ++ k ∷ [] → ServesQuery query (known_table named) k → AddsServing query known new (map known_table (filter p database))
read_first query p known kept new k named others database both read more is serve =
    subst (λ d. AddsServing query known new (map known_table (filter p d))) (sym both)
    (subst (λ b. AddsServing query known new (map known_table (cond b (named ∷ filter p others) (filter p others)))) (sym read)
    (k ∷ more.0, more.1 ∙ ap (λ l. l ++ more.0) is ∙ append_three known k more.0, (serve, more.2)))

pub passed_over : (query : Query) (p : plain.NamedTable → Bool) (known kept new : List Known) (named : plain.NamedTable) (others database : PlainDatabase) → database ≡ named ∷ others → p named ≡ false
    → AddsServing query kept new (map known_table (filter p others)) → kept ≡ known → AddsServing query known new (map known_table (filter p database))
passed_over query p known kept new named others database both read more is =
    subst (λ d. AddsServing query known new (map known_table (filter p d))) (sym both)
    (subst (λ b. AddsServing query known new (map known_table (cond b (named ∷ filter p others) (filter p others)))) (sym read)
    (subst (λ l. AddsServing query l new (map known_table (filter p others))) is more))
