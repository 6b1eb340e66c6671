-- Which effects tell how many rows they wrote: those of INSERT, UPDATE and DELETE.
use Rattle.std.proofs.Common.{◌≡◌, refl, sym, ap, subst, ℕ, Bool, true, false, ◌||◌, not, nat_le, nat_lt, List, ◌++◌, length, map, Option, Some, None, Ok, Err, if◌then◌else◌}
use Rattle.std.specs.Option.{unwrap_or}
use Rattle.std.specs.List.{count_by, list_any}
use Rattle.expr_eval.specs.Binding.{Outcome, and_then}
use Rattle.schema_model.specs.Limits.{is_within_limits, most_rows, most_tables}
use Rattle.schema_model.specs.PlainTables.{PlainDatabase, PlainTable}
use Rattle.schema_model.specs.declared.schemas.Schema.{Schema}
use Rattle.sql_ast.specs.declared.statements.Alter.{Alter}
use Rattle.sql_ast.specs.declared.statements.Delete.{Delete}
use Rattle.sql_ast.specs.declared.statements.Insert.{Insert}
use Rattle.sql_ast.specs.declared.statements.Update.{Update}
use Rattle.sql_ast.specs.declared.statements.Write.{Write}
use Rattle.sql_ast.specs.declared.statements.Write.TheVariants as write
use Rattle.sql_ast.specs.declared.tables.CreateTable.{CreateTable}
use Rattle.sql_ast.specs.declared.tables.DropTable.{DropTable}
use Rattle.tuple_codec.specs.Rows.{Cells}
use Rattle.plain_sql.specs.Lists.{each, or_refuse, unless}
use Rattle.plain_writes.specs.Steps.{updated_by}
use Rattle.plain_writes.specs.Violations.{first_violation, own_scope, table_in}
use Rattle.plain_writes.specs.Writes.{Effect, Said, bound_assignment, by_key, deleted, effect_if, filled, inserted, new_row, places_named, replaced, rest_of, result_of, stays, tests_of, tuple_said, turned_small, updated, with_rows}
use Rattle.plain_writes.specs.declared.updating.Later.{Later}
use Rattle.plain_schemas.specs.Altered.{altered, change_of, is_open, table_after}
use Rattle.plain_schemas.specs.Effects.{changed_to, check_allowed, create_effect, drop_effect, foreign_allowed, if_within, is_child, is_there, judged, key_lists, with_table, without_table}
use Rattle.plain_schemas.specs.Lists.{all_allowed}
use Rattle.plain_schemas.specs.Made.{columns_made, schema_of}
use Rattle.plain_schemas.specs.Statements.{write_effect}
use Rattle.plain_writes.specs.CheckTexts.{checks}
use Rattle.plain_schemas.specs.declared.changing.ColumnChange.{ColumnChange}
use Rattle.plain_sessions.specs.Statements.{counted_or_done}
use Rattle.session_txn.specs.Writing.{written_reply}

abbrev IsCounted : Effect → Type 0
IsCounted made = made.count ≡ Some (unwrap_or made.count 0)

abbrev IsUncounted : Effect → Type 0
IsUncounted made = made.count ≡ None

-- what is made last is made of something
after : {A : Type 0} (P : Effect → Type 0) (x : Outcome A) (f : A → Outcome Effect) (made : Effect) → ((a : A) → f a ≡ Ok made → P made) → and_then x f ≡ Ok made → P made
after P (Ok a) f made h is = h a is
after P (Err number) f made h is = absurd (cc)

after_unless : (P : Effect → Type 0) (b : Bool) (number : ℕ) (x : Outcome Effect) (made : Effect) → (x ≡ Ok made → P made) → unless b number x ≡ Ok made → P made
after_unless P true number x made h is = absurd (cc)
after_unless P false number x made h is = h is

after_if : (P : Effect → Type 0) (b : Bool) (x y : Outcome Effect) (made : Effect) → (x ≡ Ok made → P made) → (y ≡ Ok made → P made) → (if b then x else y) ≡ Ok made → P made
after_if P true x y made hx hy is = hx is
after_if P false x y made hx hy is = hy is

same_made : (P : Effect → Type 0) (x made : Effect) → P x → ◌≡◌ {A = Outcome Effect} (Ok x) (Ok made) → P made
same_made P x made h is = let same : x ≡ made = cc in subst (λ (e : Effect). P e) same h

refused : (P : Effect → Type 0) (number : ℕ) (made : Effect) → ◌≡◌ {A = Outcome Effect} (Err number) (Ok made) → P made
refused P number made is = absurd (cc)

-- ---- INSERT, UPDATE and DELETE

counts_if : (found : Option ℕ) (large : Bool) (x made : Effect) → IsCounted x → effect_if found large x ≡ Ok made → IsCounted made
counts_if (Some number) large x made h is = absurd (cc)
counts_if None large x made h is = after_unless IsCounted large 9010 (Ok x) made (same_made IsCounted x made h) is

counts_filled : (old : PlainDatabase) (name : List ℕ) (table : PlainTable) (count : ℕ) (rows : List Cells) (made : Effect) → filled checks old name table count rows ≡ Ok made → IsCounted made
counts_filled old name table count rows made is =
    let x : Effect = record { database = replaced name (with_rows table rows) old; count = Some count } in
    counts_if (first_violation checks old x.database) (nat_lt most_rows (length rows)) x made refl is

counts_result : (old : PlainDatabase) (name : List ℕ) (table : PlainTable) (rows : List Cells) (count : ℕ) (made : Effect) → result_of checks old name table rows count ≡ Ok made → IsCounted made
counts_result old name table rows count made is = after IsCounted (by_key table.schema rows) (filled checks old name table count) made (λ all done. counts_filled old name table count all made done) is

-- what is left of an INSERT once its columns are placed, and once its tuples are read
abbrev once_said : PlainDatabase → Insert → PlainTable → List ℕ → List (List Said) → Outcome Effect
once_said database insert table places said =
    and_then (each (new_row table.schema places) said) (λ rows. result_of checks database insert.table table (table.rows ++ rows) (length rows))

abbrev once_placed : PlainDatabase → Insert → PlainTable → List ℕ → Outcome Effect
once_placed database insert table places = and_then (each (tuple_said table.schema places) insert.tuples) (once_said database insert table places)

counts_inserted : (database : PlainDatabase) (insert : Insert) (table : PlainTable) (made : Effect) → inserted checks database insert table ≡ Ok made → IsCounted made
counts_inserted database insert table made is =
    after IsCounted (places_named table.schema insert.columns) (once_placed database insert table) made
    (λ places placed. after IsCounted (each (tuple_said table.schema places) insert.tuples) (once_said database insert table places) made
    (λ said told. after IsCounted (each (new_row table.schema places) said) (λ rows. result_of checks database insert.table table (table.rows ++ rows) (length rows)) made
    (λ rows brought. counts_result database insert.table table (table.rows ++ rows) (length rows) made brought) told) placed) is

-- what is left of an UPDATE or a DELETE once the rows after it are there
abbrev once_turned : PlainDatabase → List ℕ → PlainTable → List Later → Outcome Effect
once_turned database name table rows = result_of checks database name table (map (λ one. one.row) rows) (count_by (λ one. one.is_new) rows)

abbrev once_chosen : PlainDatabase → List ℕ → PlainTable → List Later → Outcome Effect
once_chosen database name table rows = result_of checks database name table (rest_of rows) (count_by (λ one. one.is_new) rows)

counts_updated : (database : PlainDatabase) (update : Update) (table : PlainTable) (made : Effect) → updated checks database update table ≡ Ok made → IsCounted made
counts_updated database update table made is =
    let scope = own_scope update.table table.schema in
    after IsCounted (each (bound_assignment table.schema scope) update.assignments) (updated_by checks database update table scope) made
    (λ sets set. after IsCounted (tests_of scope update.filter) (λ tests. and_then (each (turned_small table.schema tests sets) table.rows) (once_turned database update.table table)) made
    (λ tests tested. after IsCounted (each (turned_small table.schema tests sets) table.rows) (once_turned database update.table table) made
    (λ rows turned. counts_result database update.table table (map (λ one. one.row) rows) (count_by (λ one. one.is_new) rows) made turned) tested) set) is

counts_deleted : (database : PlainDatabase) (delete : Delete) (table : PlainTable) (made : Effect) → deleted checks database delete table ≡ Ok made → IsCounted made
counts_deleted database delete table made is =
    after IsCounted (tests_of (own_scope delete.table table.schema) delete.filter) (λ tests. and_then (each (stays tests) table.rows) (once_chosen database delete.table table)) made
    (λ tests tested. after IsCounted (each (stays tests) table.rows) (once_chosen database delete.table table) made
    (λ rows turned. counts_result database delete.table table (rest_of rows) (count_by (λ one. one.is_new) rows) made turned) tested) is

-- ---- CREATE, DROP and ALTER

counts_within : (database : PlainDatabase) (name : List ℕ) (schema : Schema) (made : Effect) → if_within database name schema ≡ Ok made → IsUncounted made
counts_within database name schema made is =
    let x : Effect = changed_to (with_table database name schema) in
    after_unless IsUncounted (not (is_within_limits schema) || nat_le most_tables (length database)) 9010 (Ok x) made (same_made IsUncounted x made refl) is

counts_judged : (database : PlainDatabase) (create : CreateTable) (schema : Schema) (made : Effect) → judged database create schema ≡ Ok made → IsUncounted made
counts_judged database create schema made is =
    after IsUncounted (all_allowed (check_allowed (own_scope create.table schema)) create.elements)
    (λ checked. and_then (all_allowed (foreign_allowed database create.table schema.columns (key_lists schema)) create.elements) (λ referred. if_within database create.table schema)) made
    (λ checked done. after IsUncounted (all_allowed (foreign_allowed database create.table schema.columns (key_lists schema)) create.elements) (λ referred. if_within database create.table schema) made
    (λ referred within. counts_within database create.table schema made within) done) is

counts_created : (database : PlainDatabase) (create : CreateTable) (made : Effect) → create_effect database create ≡ Ok made → IsUncounted made
counts_created database create made is =
    let kept : Effect = changed_to database in
    let found : Outcome Effect = if create.if_not_exists then Ok kept else Err 1050 in
    let new : Outcome Effect = and_then (columns_made create.elements) (λ columns. judged database create (schema_of create columns)) in
    after_if IsUncounted (is_there database create.table) found new made
    (after_if IsUncounted create.if_not_exists (Ok kept) (Err 1050) made (same_made IsUncounted kept made refl) (refused IsUncounted 1050 made))
    (after IsUncounted (columns_made create.elements) (λ columns. judged database create (schema_of create columns)) made
    (λ columns listed. counts_judged database create (schema_of create columns) made listed)) is

counts_dropped : (database : PlainDatabase) (drop : DropTable) (made : Effect) → drop_effect database drop ≡ Ok made → IsUncounted made
counts_dropped database drop made is =
    let kept : Effect = changed_to database in
    let less : Effect = changed_to (without_table drop.table database) in
    let there : Outcome Effect = unless (list_any (is_child drop.table) database) 1451 (Ok less) in
    let absent : Outcome Effect = if drop.if_exists then Ok kept else Err 1146 in
    after_if IsUncounted (is_there database drop.table) there absent made
    (after_unless IsUncounted (list_any (is_child drop.table) database) 1451 (Ok less) made (same_made IsUncounted less made refl))
    (after_if IsUncounted drop.if_exists (Ok kept) (Err 1146) made (same_made IsUncounted kept made refl) (refused IsUncounted 1146 made)) is

abbrev once_changed : PlainDatabase → Alter → PlainTable → ColumnChange → Outcome Effect
once_changed database alter table change = and_then (table_after table change) (λ later. Ok (changed_to (replaced alter.table later database)))

counts_altered : (database : PlainDatabase) (alter : Alter) (table : PlainTable) (made : Effect) → altered checks database alter table ≡ Ok made → IsUncounted made
counts_altered database alter table made is =
    let change = change_of checks database alter.table table.schema alter.action in
    after_unless IsUncounted (is_open table) 9011 (and_then change (once_changed database alter table)) made
    (after IsUncounted change (once_changed database alter table) made
    (λ done chosen. after IsUncounted (table_after table done) (λ later. Ok (changed_to (replaced alter.table later database))) made
    (λ later altered_to. same_made IsUncounted (changed_to (replaced alter.table later database)) made refl altered_to) chosen)) is

-- ---- the reply

pub reply_told : (database : PlainDatabase) (write : Write) (made : Effect) → write_effect database write ≡ Ok made → counted_or_done made.count ≡ written_reply write (unwrap_or made.count 0)
unfolding write_effect
reply_told database (write.Create create) made is = ap counted_or_done (counts_created database create made is)
reply_told database (write.Drop drop) made is = ap counted_or_done (counts_dropped database drop made is)
reply_told database (write.Insert insert) made is = ap counted_or_done (after IsCounted (or_refuse 1146 (table_in database insert.table)) (inserted checks database insert) made (λ table there. counts_inserted database insert table made there) is)
reply_told database (write.Update update) made is = ap counted_or_done (after IsCounted (or_refuse 1146 (table_in database update.table)) (updated checks database update) made (λ table there. counts_updated database update table made there) is)
reply_told database (write.Delete delete) made is = ap counted_or_done (after IsCounted (or_refuse 1146 (table_in database delete.table)) (deleted checks database delete) made (λ table there. counts_deleted database delete table made there) is)
reply_told database (write.Alter alter) made is = ap counted_or_done (after IsUncounted (or_refuse 1146 (table_in database alter.table)) (altered checks database alter) made (λ table there. counts_altered database alter table made there) is)
