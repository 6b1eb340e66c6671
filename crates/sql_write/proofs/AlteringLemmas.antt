-- Tables read, and put in place of others.
use Rattle.std.proofs.Common.{◌≡◌, ℕ, Bool, true, false, not, ◌==◌, List, [], ◌∷◌, length, cond, Option, Some, None, Result, Ok, Err, refl, sym, ap, ◌∙◌, subst}
use Rattle.std.specs.Prelude.{bytes_eq}
use Rattle.std.specs.List.{find}
use Rattle.std.specs.Option.{option_map}
use Rattle.std.specs.Result.{IsErr, IsErrAnd}
use Rattle.std.proofs.lemmas.List.{length-map}
use Rattle.std.proofs.lemmas.Result.{IfOk-at_ok}
use Rattle.tuple_codec.proofs.ByteLemmas.{bytes_itself as itself}
use Rattle.tuple_codec.specs.Rows.{Cells}
use Rattle.schema_model.specs.declared.schemas.Schema.{Schema}
use Rattle.schema_model.specs.Limits.{is_table_within_limits, is_within_limits}
use Rattle.schema_model.specs.PlainTables as plain
use Rattle.schema_model.specs.PlainTables.{IsTable, PlainDatabase, PlainTable, conflict_item, conflict_items, row_items, violation_item, violation_items}
use Rattle.schema_model.specs.Schemas.{is_empty}
use Rattle.sql_ast.specs.declared.statements.Alter.{Alter}
use Rattle.sql_ast.specs.declared.statements.Write.TheVariants as write
use Rattle.expr_eval.specs.Binding.{Outcome, and_then}
use Rattle.chunk_store.specs.Chunks.{Chunks, Extends}
use Rattle.chunk_store.specs.Clashes.{IsReason}
use Rattle.chunk_store.specs.declared.faults.PutFault.{PutFault}
use Rattle.chunk_store.specs.declared.faults.PutFault.TheVariants as put
use Rattle.chunk_store.specs.Standing.{IsTree}
use Rattle.table_root.specs.Rows.{AreRowsAt}
use Rattle.table_root.specs.Standing.{IsTableOf, TablesStand, named_tables}
use Rattle.table_root.specs.declared.records.StoredTable.{StoredTable}
use Rattle.table_root.specs.declared.records.TableEntry.{TableEntry}
use Rattle.plain_sql.specs.Lists.{each, or_refuse, unless}
use Rattle.plain_writes.specs.Violations.{Checks, is_called, table_in}
use Rattle.plain_writes.specs.Writes.{Effect, replaced}
use Rattle.plain_schemas.specs.Altered.{alter_effect, altered, change_of, is_open, schema_after, small_row_after, table_after}
use Rattle.plain_schemas.specs.declared.changing.ColumnChange.{ColumnChange}
use Rattle.plain_schemas.specs.Effects.{changed_to}
use Rattle.table_root.specs.Kept.{IsKeptAt}
use Rattle.index_keep.specs.Keeping.{table_of_rows}
use Rattle.plain_writes.specs.WriteLaws.{IsKept}
use Rattle.plain_writes.proofs.DatabaseLemmas.{found_kept}
use Rattle.keep_laws.specs.SchemaLaws.{SchemasKeep}
use Rattle.sql_laws.specs.Fit.{IsFit}
use Rattle.sql_write.specs.Altering.{CanRebuild}
use Rattle.sql_write.specs.Finding.{Finds}
use Rattle.sql_write.specs.Making.{Makes, of_put}
use Rattle.sql_write.specs.declared.faults.SqlFault.{SqlFault}
use Rattle.sql_write.specs.declared.finding.Found.{Found}
use Rattle.sql_write.specs.declared.writing.Written.{Written}
use Rattle.sql_write.proofs.TableLemmas.{kept_listed, stand_later}
use Rattle.plain_writes.proofs.OutcomeLemmas.{ok_same, then_so, unless_so}
use Rattle.sql_write.specs.Putting.{AreListed}
use Rattle.sql_write.specs.Skeletons.{SchemasSuffice, table_altered, with_altered}

module _ (address : List ℕ → List ℕ) (chunks : Chunks) (table : StoredTable) (contents : PlainTable) (stands : IsTableOf address chunks table contents) where
  pub schema_same : table.schema ≡ contents.schema
  schema_same = ap (λ (t : StoredTable). t.schema) stands.value

  pub rows_tree : IsTree address chunks table.rows.0 (row_items contents)
  rows_tree = subst (λ (k : List ℕ). IsTree address chunks k (row_items contents)) (sym (ap (λ (t : StoredTable). t.rows.0) stands.value)) stands.trees.rows

  pub conflicts_tree : IsTree address chunks table.conflicts.0 (conflict_items contents)
  conflicts_tree = subst (λ (k : List ℕ). IsTree address chunks k (conflict_items contents)) (sym (ap (λ (t : StoredTable). t.conflicts.0) stands.value)) stands.trees.conflicts

  pub violations_tree : IsTree address chunks table.violations.0 (violation_items contents)
  violations_tree = subst (λ (k : List ℕ). IsTree address chunks k (violation_items contents)) (sym (ap (λ (t : StoredTable). t.violations.0) stands.value)) stands.trees.violations

  pub rows_at : AreRowsAt address chunks table.rows.0 table.schema contents.rows
  rows_at = subst (λ (s : Schema). AreRowsAt address chunks table.rows.0 s contents.rows) (sym schema_same) (record { fit = stands.is_table.rows; tree = rows_tree })

-- ---- open

pub some_conflicts : (contents : PlainTable) (b : Bool) → b ≡ not (length (conflict_items contents) == 0) → b ≡ not (is_empty contents.conflicts)
some_conflicts contents b e = e ∙ ap (λ n. not (n == 0)) (length-map contents.conflicts (conflict_item contents.schema))

pub some_violations : (contents : PlainTable) (b : Bool) → b ≡ not (length (violation_items contents) == 0) → b ≡ not (is_empty contents.violations)
some_violations contents b e = e ∙ ap (λ n. not (n == 0)) (length-map contents.violations (violation_item contents.schema))

-- ---- the whole

pub altered_is : (checks : Checks) (before : PlainDatabase) (alter : Alter) (contents : PlainTable) (change : ColumnChange) → is_open contents ≡ false
    → change_of checks before alter.table contents.schema alter.action ≡ Ok change → table_altered checks before alter contents ≡ table_after contents change
altered_is checks before alter contents change closed e =
    ap (λ open_. unless open_ 9011 (and_then (change_of checks before alter.table contents.schema alter.action) (λ change. table_after contents change))) closed
    ∙ ap (λ (o : Outcome ColumnChange). and_then o (λ change. table_after contents change)) e

-- a table after a change has nothing open
bare_if : (schema : Schema) (rows : Outcome (List Cells)) (wrong : Bool) (t : PlainTable) → and_then rows (λ rows. unless wrong 9010 (Ok (table_of_rows schema rows))) ≡ Ok t → t ≡ table_of_rows t.schema t.rows
bare_if schema rows wrong t e =
    let one = then_so rows (λ rows. unless wrong 9010 (Ok (table_of_rows schema rows))) t e in
    let two_ = unless_so wrong 9010 (Ok (table_of_rows schema one.0)) t one.2 in
    let same : table_of_rows schema one.0 ≡ t = ok_same (Ok (table_of_rows schema one.0)) (table_of_rows schema one.0) t refl two_.1 in
    subst (λ (t : PlainTable). t ≡ table_of_rows t.schema t.rows) same refl

pub bare_after : (checks : Checks) (before : PlainDatabase) (alter : Alter) (table t : PlainTable) → table_altered checks before alter table ≡ Ok t → t ≡ table_of_rows t.schema t.rows
bare_after checks before alter table t e =
    let one = unless_so (is_open table) 9011 (and_then (change_of checks before alter.table table.schema alter.action) (λ change. table_after table change)) t e in
    let two_ = then_so (change_of checks before alter.table table.schema alter.action) (λ change. table_after table change) t one.1 in
    bare_if (schema_after two_.0 table.schema) (each (small_row_after (schema_after two_.0 table.schema) two_.0) table.rows) (not (is_within_limits (schema_after two_.0 table.schema))) t two_.2

replaced_found : (name : List ℕ) (t : PlainTable) (database : PlainDatabase) (old : PlainTable) → table_in database name ≡ Some old → table_in (replaced name t database) name ≡ Some t
replaced_found name t [] old e = absurd cc
replaced_found name t (named ∷ database) old e = by (bytes_eq named.name name) refl (λ later. replaced_found name t database old later) e where
  by : (b : Bool) → bytes_eq named.name name ≡ b → (table_in database name ≡ Some old → table_in (replaced name t database) name ≡ Some t) → option_map (λ (n : plain.NamedTable). n.table) (cond b (Some named) (find (is_called name) database)) ≡ Some old
      → option_map (λ (n : plain.NamedTable). n.table) (cond (bytes_eq (cond b (record { name = name; table = t }) named).name name) (Some (cond b (record { name = name; table = t }) named)) (find (is_called name) (replaced name t database))) ≡ Some t
  by true is more e = ap (λ b. option_map (λ (n : plain.NamedTable). n.table) (cond b (Some (record { name = name; table = t })) (find (is_called name) (replaced name t database)))) (itself name)
  by false is more e = ap (λ b. option_map (λ (n : plain.NamedTable). n.table) (cond b (Some named) (find (is_called name) (replaced name t database)))) is ∙ more e

pub alters : SchemasSuffice → (checks : Checks) (database : PlainDatabase) (alter : Alter) (table t : PlainTable) → table_in database alter.table ≡ Some table → table_altered checks database alter table ≡ Ok t
    → alter_effect checks database alter ≡ Ok (changed_to (replaced alter.table t database))
alters follow checks database alter table t found e =
    ap (λ (o : Option PlainTable). and_then (or_refuse 1146 o) (altered checks database alter)) found
    ∙ follow.alter checks database alter table
    ∙ ap (λ (o : Outcome PlainTable). and_then o (with_altered database alter.table)) e

pub may_rebuild : SchemasSuffice → SchemasKeep → (address : List ℕ → List ℕ) (chunks : Chunks) (k : List ℕ) (checks : Checks) (database : PlainDatabase) (alter : Alter) (tables : List TableEntry) (table t : PlainTable)
    → IsFit (write.Alter alter) → IsKeptAt address chunks k database → tables ≡ named_tables address database → table_in database alter.table ≡ Some table → table_altered checks database alter table ≡ Ok t
    → CanRebuild address chunks tables t.schema t.rows database
may_rebuild follow keep address chunks k checks database alter tables table t fit kept listed found e =
    let whole : IsKept database = record { is_database = kept.stands.is_database; within = kept.within } in
    let after : IsKept (replaced alter.table t database) = IfOk-at_ok (λ (effect : Effect). IsKept effect.database) (alters follow checks database alter table t found e) (keep.alters checks database alter whole fit) in
    let it = found_kept alter.table (replaced alter.table t database) t after (replaced_found alter.table t database table found) in
    let bare = bare_after checks database alter table t e in
    record {
      listed = (kept_listed address chunks k database tables kept listed).listed;
      is_table = subst (λ (x : PlainTable). IsTable x) bare it.is_table;
      within = subst (λ (x : PlainTable). is_table_within_limits x ≡ true) bare it.within;
    }

pub found_parts : (address : List ℕ → List ℕ) (chunks : Chunks) (k name : List ℕ) (database : PlainDatabase) (found : Found) (there : Option PlainTable) → Finds address chunks k name database (Ok found) there
    → (t : PlainTable) × (there ≡ Some t) × IsTableOf address chunks found.table t × (found.tables.items ≡ named_tables address database)
found_parts address chunks k name database found None h = absurd h
found_parts address chunks k name database found (Some t) h = (t, refl, h.stands, h.listed)

pub listed_later : (address : List ℕ → List ℕ) (old new : Chunks) → Extends old new → TablesStand → (tables : List TableEntry) (database : PlainDatabase) → AreListed address old tables database → AreListed address new tables database
listed_later address old new more laws tables database are = record {
  is_database = are.is_database;
  few = are.few;
  short = are.short;
  stand = stand_later address old new more laws database are.stand;
  listed = are.listed;
}

put_by : (address : List ℕ → List ℕ) (chunks : Chunks) (why : PutFault) (outcome : Outcome Effect) → IsReason address chunks why → Makes address chunks (Err (of_put why)) outcome
put_by address chunks put.Memory (Ok effect) h = tt
put_by address chunks put.Memory (Err number) h = tt
put_by address chunks (put.Collision clash) (Ok effect) h = h
put_by address chunks (put.Collision clash) (Err number) h = h

pub put_makes : (address : List ℕ → List ℕ) (chunks : Chunks) (result : Result Written SqlFault) (why : PutFault) (outcome : Outcome Effect) → IsReason address chunks why
    → IsErr result × IsErrAnd result (λ fault. fault ≡ of_put why) → Makes address chunks result outcome
put_makes address chunks (Ok written) why outcome reason h = absurd h.1
put_makes address chunks (Err fault) why outcome reason h = subst (λ (f : SqlFault). Makes address chunks (Err f) outcome) (sym h.1) (put_by address chunks why outcome reason)
