-- Tables that stand are found, and have what they stand for.
use Rattle.std.proofs.Common.{◌≡◌, ◌≤◌, ◌-◌, refl, sym, ap, ◌∙◌, subst, ℕ, suc, List, [], ◌∷◌, ◌++◌, append_assoc, length, map, take, drop, slice_index_or}
use Rattle.std.proofs.lemmas.List.{map-append}
use Rattle.tuple_codec.proofs.Arithmetic.{none_long, one_less}
use Rattle.tuple_codec.proofs.Lists.{take_whole as take_all}
use Rattle.schema_model.specs.PlainTables as plain
use Rattle.schema_model.specs.PlainTables.{PlainDatabase, PlainTable}
use Rattle.schema_model.specs.WrittenForms.{table_address}
use Rattle.chunk_store.specs.Chunks.{Chunks}
use Rattle.plain_writes.specs.Seen.{named_seen}
use Rattle.plain_writes.specs.declared.tables.NamedTable.{NamedTable}
use Rattle.table_root.specs.Standing.{AreThere, IsTableAt, IsTableOf, TablesStand, named_tables, table_of_lists}
use Rattle.table_root.specs.Tables.{IsTableFound}
use Rattle.table_root.specs.declared.records.StoredTable.{StoredTable}
use Rattle.table_root.specs.declared.records.TableEntry as entries
use Rattle.table_root.specs.Rows.{AreRowsAt}

module _ (address : List ℕ → List ℕ) (chunks : Chunks) (k : List ℕ) where
  pub table_found : TablesStand → (table : PlainTable) → IsTableAt address chunks k table → (read : StoredTable) × IsTableFound chunks k read
  table_found stand table at = (table_of_lists address table, stand.found address chunks k table at)

  pub table_same : TablesStand → (table : PlainTable) → IsTableAt address chunks k table → (read : StoredTable) → IsTableFound chunks k read → read ≡ table_of_lists address table
  table_same stand table at read found = stand.same address chunks k table read at found

  pub rows_there : TablesStand → (table : PlainTable) → IsTableAt address chunks k table → (read : StoredTable) → IsTableFound chunks k read → AreRowsAt address chunks read.rows.0 read.schema table.rows
  rows_there stand table at read found =
      let is = at.is_table in
      let trees = at.trees in
      subst (λ (t : StoredTable). AreRowsAt address chunks t.rows.0 t.schema table.rows) (sym (table_same stand table at read found)) (record { fit = is.rows; tree = trees.rows })

  pub table_of : TablesStand → (table : PlainTable) → IsTableAt address chunks k table → (read : StoredTable) → IsTableFound chunks k read → IsTableOf address chunks read table
  table_of stand table at read found = record { is_table = at.is_table; trees = at.trees; value = table_same stand table at read found }

-- ---- the first table, and the others

abbrev entry_of : (List ℕ → List ℕ) → plain.NamedTable → entries.TableEntry
entry_of address named = record { name = named.name; table = record { 0 = table_address address named.table } }

-- what the first of a list and the others are of
pub record Parts (address : List ℕ → List ℕ) (chunks : Chunks) (database : PlainDatabase) (first : entries.TableEntry) (rest : List entries.TableEntry) : Type 0 where
  pub named : plain.NamedTable
  pub others : PlainDatabase
  pub both : database ≡ named ∷ others
  pub name : first.name ≡ named.name
  pub at : IsTableAt address chunks first.table.0 named.table
  pub there : AreThere address chunks others rest

parted : (address : List ℕ → List ℕ) (chunks : Chunks) (named : plain.NamedTable) (others : PlainDatabase) (tables : List entries.TableEntry) (first : entries.TableEntry)
    → AreThere address chunks (named ∷ others) tables → first ≡ slice_index_or tables 0 first → Parts address chunks (named ∷ others) first (take (length tables - 1) (drop 1 tables))
parted address chunks named others tables first there is = record {
  named = named;
  others = others;
  both = refl;
  name = ap (λ (n : entries.TableEntry). n.name) first_is;
  at = let stand = there.stand in subst (λ k. IsTableAt address chunks k named.table) (sym (ap (λ (n : entries.TableEntry). n.table.0) first_is)) stand.0;
  there = let stand = there.stand in record { stand = stand.1; listed = ap (λ l. take (length l - 1) (drop 1 l)) there.listed ∙ rest_is };
}
  where
    first_is : first ≡ entry_of address named
    first_is = is ∙ ap (λ l. slice_index_or l 0 first) there.listed

    rest_is : take (length (entry_of address named ∷ named_tables address others) - 1) (named_tables address others) ≡ named_tables address others
    rest_is = ap (λ n. take n (named_tables address others)) (one_less (length (named_tables address others))) ∙ take_all (named_tables address others)

pub parts_of : (address : List ℕ → List ℕ) (chunks : Chunks) (database : PlainDatabase) (tables : List entries.TableEntry) (first : entries.TableEntry) → AreThere address chunks database tables
    → first ≡ slice_index_or tables 0 first → 1 ≤ length tables → Parts address chunks database first (take (length tables - 1) (drop 1 tables))
parts_of address chunks [] tables first there is long = absurd (none_long (length tables) long (ap length there.listed))
parts_of address chunks (named ∷ others) tables first there is long = parted address chunks named others tables first there is

pub there_none : (address : List ℕ → List ℕ) (chunks : Chunks) (database : PlainDatabase) (tables : List entries.TableEntry) → tables ≡ [] → AreThere address chunks database tables → database ≡ []
there_none address chunks [] tables is there = refl
there_none address chunks (named ∷ others) tables is there = absurd (nothing (sym is ∙ there.listed)) where
  nothing : [] ≡ named_tables address (named ∷ others) → ⊥
  nothing e = cc

-- ---- what is read of them

pub read_more : (f : plain.NamedTable → plain.NamedTable) (tables more new : List NamedTable) (one : NamedTable) (named : plain.NamedTable) (others database : PlainDatabase) → database ≡ named ∷ others
    → map named_seen new ≡ map named_seen more ++ map f others → more ≡ tables ++ one ∷ [] → named_seen one ≡ f named → map named_seen new ≡ map named_seen tables ++ map f database
read_more f tables more new one named others database both read is seen =
    read
    ∙ ap (λ l. map named_seen l ++ map f others) is
    ∙ ap (λ l. l ++ map f others) (map-append named_seen tables (one ∷ []))
    ∙ append_assoc (map named_seen tables) (named_seen one ∷ []) (map f others)
    ∙ ap (λ x. map named_seen tables ++ x ∷ map f others) seen
    ∙ sym (ap (λ d. map named_seen tables ++ map f d) both)
