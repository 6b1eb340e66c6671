-- Tables without conflicts, and the tables of a database after the call.
use Rattle.std.proofs.Common.{◌≡◌, refl, sym, ap, ◌∙◌, subst, ℕ, Bool, true, false, cond, ◌&&◌, List, [], ◌∷◌, ◌++◌, append_assoc, append-nil}
use Rattle.std.specs.List.{list_any}
use Rattle.std.proofs.lemmas.Bool.{and_parts, or_parts}
use Rattle.tuple_codec.specs.declared.addresses.Address.{Address}
use Rattle.schema_model.specs.Limits.{is_table_within_limits}
use Rattle.schema_model.specs.PlainTables as plain
use Rattle.schema_model.specs.PlainTables.{PlainDatabase, PlainTable}
use Rattle.chunk_store.specs.Chunks.{Chunks, Extends}
use Rattle.chunk_store.specs.Standing.{IsTree}
use Rattle.violation_lists.specs.Recording.{IsEntryOf, MayStand}
use Rattle.violation_lists.proofs.RecordLemmas.{there_later}
use Rattle.violation_lists.proofs.StandLemmas.{Parts}
use Rattle.table_root.specs.Standing.{AreThere, IsTableAt, IsTableOf, TableValuesStand, TablesStand}
use Rattle.table_root.specs.Tables.{IsTableFound}
use Rattle.table_root.specs.declared.records.StoredTable.{StoredTable}
use Rattle.table_root.specs.declared.records.TableEntry as entries
use Rattle.plain_sessions.specs.Merging.{breaks_index, database_after, is_meant, is_theirs, settled_table, table_after, takes_bad_row, their_rows}
use Rattle.root_merge.specs.Merging.{are_within}
use Rattle.sql_procedures.specs.declared.requests.Resolution.{Resolution}
use Rattle.sql_procedures.specs.declared.requests.Side.{Side}
use Rattle.sql_procedures.specs.declared.requests.Side.TheVariants as side
use Rattle.plain_writes.proofs.DatabaseLemmas.{limits_so}
use Rattle.merge_procs.specs.Resolving.{CanSettle, CanSettleEach, CanSettleNamed, CanTake, CanTakeSide, settled, takes_flawed, without_conflicts}
use Rattle.merge_procs.specs.declared.takings.Flaw.TheVariants as flaw

-- ---- one table

pub takes_so : (address : List ℕ → List ℕ) (chunks : Chunks) (table : StoredTable) (which : Side) (contents : PlainTable) → CanTakeSide address chunks table which contents → which ≡ side.Theirs
    → CanTake address chunks table contents
takes_so address chunks table which contents can e = record {
  stands = can.stands;
  within = can.within;
  short = sym (ap (λ (w : Side). is_theirs w && list_any (breaks_index contents.schema) (their_rows contents)) e) ∙ can.short;
}

pub bare_stands : (address : List ℕ → List ℕ) (chunks : Chunks) (table : StoredTable) (contents : PlainTable) (k : Address) → IsTableOf address chunks table contents → IsTree address chunks k.0 []
    → IsTableOf address chunks (record { schema = table.schema; rows = table.rows; indexes = table.indexes; conflicts = k; violations = table.violations }) (without_conflicts contents)
bare_stands address chunks table contents k stands tree =
    let is = stands.is_table in
    let trees = stands.trees in
    record {
      is_table = record {
        schema = is.schema;
        rows = is.rows;
        keys = is.keys;
        conflicts = refl;
        conflict_keys = refl;
        violations = is.violations;
        violation_keys = is.violation_keys;
      };
      trees = record {
        rows = trees.rows;
        indexes = trees.indexes;
        conflicts = subst (λ (r : List ℕ). IsTree address chunks r []) (sym tree.named) tree;
        violations = trees.violations;
      };
      value = λ i. record {
        schema = (stands.value i).schema;
        rows = (stands.value i).rows;
        indexes = (stands.value i).indexes;
        conflicts = record { 0 = sym tree.named i };
        violations = (stands.value i).violations;
      };
    }

-- a table that was read may take a side's rows
pub may_take : (address : List ℕ → List ℕ) (chunks : Chunks) → TableValuesStand → (k : List ℕ) (which : Side) (contents : PlainTable) (table : StoredTable) → CanSettle address chunks k which contents
    → IsTableFound chunks k table → CanTakeSide address chunks table which contents
may_take address chunks values k which contents table can found = record {
  stands = values.read address chunks k contents table can.at found;
  within = can.within;
  short = can.short;
}

-- and may be written once it has
pub may_keep : (address : List ℕ → List ℕ) (old new : Chunks) (k : List ℕ) (which : Side) (contents : PlainTable) (made : StoredTable) → CanSettle address old k which contents
    → IsTableOf address new made (settled which contents) → MayStand address new made (settled which contents)
may_keep address old new k which contents made can stands = record { stands = stands; limits = (limits_so contents can.within).0 }

-- ---- a table of a database

pub meant_so : (address : List ℕ → List ℕ) (chunks : Chunks) (entry : entries.TableEntry) (request : Resolution) (named : plain.NamedTable) (meant : Bool) → CanSettleNamed address chunks entry request named
    → meant ≡ is_meant request.tables entry.name → meant ≡ true → CanSettle address chunks entry.table.0 request.side named.table
meant_so address chunks entry request named meant can told holds =
    let is : is_meant request.tables named.name ≡ true = ap (is_meant request.tables) (sym can.name) ∙ sym told ∙ holds in
    record {
      at = can.at;
      within = can.within;
      short = and_true (is_theirs request.side) (is_meant request.tables named.name) (list_any (breaks_index named.table.schema) (their_rows named.table)) is can.short;
    }
  where
    and_true : (a b c : Bool) → b ≡ true → ((a && b) && c) ≡ false → (a && c) ≡ false
    and_true true b c e h = sym (ap (λ t. t && c) e) ∙ h
    and_true false b c e h = h

pub settled_after : (address : List ℕ → List ℕ) (chunks new : Chunks) (entry : entries.TableEntry) (request : Resolution) (named : plain.NamedTable) (meant : Bool) (k : List ℕ)
    → CanSettleNamed address chunks entry request named → meant ≡ is_meant request.tables entry.name → meant ≡ true
    → IsTableAt address new k (settled request.side named.table) → IsTableAt address new k (let after = table_after request named in after.table)
settled_after address chunks new entry request named meant k can told holds at =
    let is : is_meant request.tables named.name ≡ true = ap (is_meant request.tables) (sym can.name) ∙ sym told ∙ holds in
    subst (λ (t : plain.NamedTable). IsTableAt address new k t.table) (sym (ap (λ b. cond b (settled_table request named) named) is)) at

pub left_after : (address : List ℕ → List ℕ) (chunks : Chunks) (entry : entries.TableEntry) (request : Resolution) (named : plain.NamedTable) (meant : Bool)
    → CanSettleNamed address chunks entry request named → meant ≡ is_meant request.tables entry.name → meant ≡ false
    → IsTableAt address chunks entry.table.0 (let after = table_after request named in after.table)
left_after address chunks entry request named meant can told fails =
    let is : is_meant request.tables named.name ≡ false = ap (is_meant request.tables) (sym can.name) ∙ sym told ∙ fails in
    subst (λ (t : plain.NamedTable). IsTableAt address chunks entry.table.0 t.table) (sym (ap (λ b. cond b (settled_table request named) named) is)) can.at

pub same_name : (request : Resolution) (named : plain.NamedTable) → (table_after request named).name ≡ named.name
same_name request named = by (is_meant request.tables named.name) where
  by : (b : Bool) → (cond b (settled_table request named) named).name ≡ named.name
  by true = refl
  by false = refl

pub entry_after : (address : List ℕ → List ℕ) (old new : Chunks) (entry made : entries.TableEntry) (request : Resolution) (named : plain.NamedTable) → CanSettleNamed address old entry request named
    → made.name ≡ entry.name → IsTableAt address new made.table.0 (let after = table_after request named in after.table) → IsEntryOf address new made (table_after request named)
entry_after address old new entry made request named can name at = record { name = name ∙ can.name ∙ sym (same_name request named); at = at }

-- ---- the tables of a database

module _ (address : List ℕ → List ℕ) (old : Chunks) (tables rest : List entries.TableEntry) (request : Resolution) (database : PlainDatabase) (first : entries.TableEntry)
    (can : CanSettleEach address old tables request database) (parts : Parts address old database first rest) where
  abbrev named : plain.NamedTable
  named = parts.named

  abbrev others : PlainDatabase
  others = parts.others

  within : (is_table_within_limits named.table ≡ true) × (are_within others ≡ true)
  within = and_parts (is_table_within_limits named.table) (are_within others) (sym (ap are_within parts.both) ∙ can.within)

  short : (takes_flawed flaw.Long request named ≡ false) × (takes_bad_row breaks_index request others ≡ false)
  short = or_parts (takes_flawed flaw.Long request named) (takes_bad_row breaks_index request others) (sym (ap (takes_bad_row breaks_index request) parts.both) ∙ can.short)

  pub first_can : CanSettleNamed address old first request named
  first_can = record { name = parts.name; at = parts.at; within = within.0; short = short.0 }

  pub others_can : (new : Chunks) → Extends old new → TablesStand → CanSettleEach address new rest request others
  others_can new more laws = record { there = there_later address old new more laws others rest parts.there; within = within.1; short = short.1 }

  pub joined : (done : PlainDatabase) → (done ++ table_after request named ∷ []) ++ database_after request others ≡ done ++ database_after request database
  joined done = append_assoc done (table_after request named ∷ []) (database_after request others) ∙ ap (λ (d : PlainDatabase). done ++ database_after request d) (sym parts.both)

pub settled_none : (address : List ℕ → List ℕ) (chunks : Chunks) (request : Resolution) (done database : PlainDatabase) (made : List entries.TableEntry) → database ≡ [] → AreThere address chunks done made
    → AreThere address chunks (done ++ database_after request database) made
settled_none address chunks request done database made none there =
    subst (λ (d : PlainDatabase). AreThere address chunks d made) (sym (ap (λ (d : PlainDatabase). done ++ database_after request d) none ∙ append-nil done)) there
