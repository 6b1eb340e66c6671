-- What an INSERT asks and gives, by the edits that put its rows.
use Rattle.std.proofs.Common.{◌≡◌, refl, sym, ap, ◌∙◌, subst, ℕ, ◌+◌, ◌<◌, ◌^◌, Bool, true, false, List, ◌++◌, length, map, Option, None, Some, Ok, Err, arith, length-append}
use Rattle.std.specs.List.{list_all}
use Rattle.std.proofs.lemmas.List.{length-map}
use Rattle.tuple_codec.proofs.Lists.{all_append}
use Rattle.tuple_codec.specs.Nodes.{Rise}
use Rattle.tuple_codec.specs.Rows.{Cells}
use Rattle.tuple_codec.specs.declared.edits.Edit.{Edit}
use Rattle.schema_model.specs.Limits.{is_row_within_limits}
use Rattle.schema_model.specs.PlainTables.{PlainDatabase, PlainTable, is_row, row_item, row_items}
use Rattle.schema_model.specs.Schemas.{is_schema}
use Rattle.schema_model.specs.declared.schemas.Schema.{Schema}
use Rattle.chunk_store.specs.Chunks.{Chunks}
use Rattle.chunk_store.specs.Standing.{IsTree}
use Rattle.table_root.specs.Standing.{IsTableOf}
use Rattle.table_root.specs.declared.records.StoredTable.{StoredTable}
use Rattle.table_root.specs.Rows.{RowItemsFollow}
use Rattle.index_keep.specs.Entries.{AreSorted}
use Rattle.sql_ast.specs.declared.statements.Insert.{Insert}
use Rattle.expr_eval.specs.Binding.{Outcome, and_then}
use Rattle.plain_sql.specs.Gives.{Gives}
use Rattle.plain_sql.specs.Lists.{each, in_order, repeats, unless}
use Rattle.plain_sql.specs.declared.faults.Refused.{Refused}
use Rattle.plain_sql.specs.declared.faults.Refused.TheVariants.{Memory, By}
use Rattle.plain_writes.specs.Violations.{Checks}
use Rattle.plain_writes.specs.Writes.{Effect, filled, inserted, keyed_cmp, new_row, places_named, result_of, tuple_said}
use Rattle.table_root.specs.Kept.{IsKeptAt}
use Rattle.plain_writes.proofs.DatabaseLemmas.{IsKeptTable, found_kept, limits_so, rows_good}
use Rattle.plain_writes.proofs.RowOrderLemmas.{in_order_all, in_order_length}
use Rattle.plain_writes.proofs.RowLemmas.{all_left, all_right}
use Rattle.plain_writes.specs.WriteLaws.{IsKept}
use Rattle.sql_write.specs.Finding.{Finds, IsFound}
use Rattle.sql_write.specs.Inserting.{MayInsert, edit_of, is_good, repeats_key, rows_said}
use Rattle.sql_write.specs.Making.{Makes, of_refused}
use Rattle.sql_write.specs.Putting.{CanFill}
use Rattle.sql_write.specs.declared.finding.Found.{Found}
use Rattle.sql_write.proofs.InsertLemmas.{edited_is, repeats_is, rising}
use Rattle.sql_write.proofs.TableLemmas.{kept_listed, kept_read}

-- ---- a table that was found

pub is_kept : (address : List ℕ → List ℕ) (chunks : Chunks) (k : List ℕ) (database : PlainDatabase) → IsKeptAt address chunks k database → IsKept database
is_kept address chunks k database kept = record { is_database = kept.stands.is_database; within = kept.within }

pub found_table : (address : List ℕ → List ℕ) (chunks : Chunks) (k name : List ℕ) (database : PlainDatabase) (contents : PlainTable) (found : Found)
    → IsFound address chunks k name database contents found → IsKeptTable contents
found_table address chunks k name database contents found is = found_kept name database contents (is_kept address chunks k database is.kept) is.named

pub rows_tree : (address : List ℕ → List ℕ) (chunks : Chunks) (table : StoredTable) (contents : PlainTable) → IsTableOf address chunks table contents → IsTree address chunks table.rows.0 (row_items contents)
rows_tree address chunks table contents of = subst (λ (k : List ℕ). IsTree address chunks k (row_items contents)) (sym (ap (λ (t : StoredTable). t.rows.0) of.value)) of.trees.rows

pub schema_same : (address : List ℕ → List ℕ) (chunks : Chunks) (table : StoredTable) (contents : PlainTable) → IsTableOf address chunks table contents → table.schema ≡ contents.schema
schema_same address chunks table contents of = ap (λ (t : StoredTable). t.schema) of.value

-- ---- by keys

pub by_key_refused : (checks : Checks) (old : PlainDatabase) (name : List ℕ) (table : PlainTable) (rows : List Cells) (count : ℕ) → repeats (keyed_cmp table.schema) rows ≡ true
    → result_of checks old name table rows count ≡ Err 1062
by_key_refused checks old name table rows count e =
    ap (λ (b : Bool). and_then (unless b 1062 (Ok (in_order (keyed_cmp table.schema) rows))) (filled checks old name table count)) e

pub by_key_filled : (checks : Checks) (old : PlainDatabase) (name : List ℕ) (table : PlainTable) (rows : List Cells) (count : ℕ) → repeats (keyed_cmp table.schema) rows ≡ false
    → result_of checks old name table rows count ≡ filled checks old name table count (in_order (keyed_cmp table.schema) rows)
by_key_filled checks old name table rows count e =
    ap (λ (b : Bool). and_then (unless b 1062 (Ok (in_order (keyed_cmp table.schema) rows))) (filled checks old name table count)) e

-- ---- rows that come

module _ (follow : RowItemsFollow) (address : List ℕ → List ℕ) (chunks : Chunks) (k name : List ℕ) (found : Found) (edits sorted : List Edit) (database : PlainDatabase) (contents : PlainTable) (rows : List Cells)
    (may : MayInsert address chunks k name found edits database contents rows) (are : AreSorted edits sorted) where
  abbrev schema : Schema
  schema = contents.schema

  abbrev all : List Cells
  all = in_order (keyed_cmp schema) (contents.rows ++ rows)

  kept_table : IsKeptTable contents
  kept_table = found_table address chunks k name database contents found may.found_is

  sorted_are : AreSorted (map (edit_of schema) rows) sorted
  sorted_are = subst (λ (l : List Edit). AreSorted l sorted) may.edits_are are

  old_fit : list_all (is_row schema) contents.rows ≡ true
  old_fit = let table = kept_table in table.is_table.rows

  new_fit : list_all (is_row schema) rows ≡ true
  new_fit = all_left (is_row schema) (is_row_within_limits schema) rows may.good

  valid : is_schema schema ≡ true
  valid = let table = kept_table in table.is_table.schema

  old_rise : Rise (row_items contents)
  old_rise = let tree = rows_tree address chunks found.table contents may.found_is.stands in tree.are_rows.rise

  pub repeats_are : repeats_key (row_items contents) sorted ≡ repeats (keyed_cmp schema) (contents.rows ++ rows)
  repeats_are = repeats_is follow schema valid contents.rows rows sorted old_fit old_rise new_fit sorted_are

  good_all : list_all (is_good schema) all ≡ true
  good_all = in_order_all (keyed_cmp schema) (is_good schema) (contents.rows ++ rows) (all_append (is_good schema) contents.rows rows (rows_good contents kept_table) may.good)

  count_all : length all ≡ length (row_items contents) + length edits
  count_all =
      let one = in_order_length (keyed_cmp schema) (contents.rows ++ rows) in
      let two_ = length-append contents.rows rows in
      let three = length-map contents.rows (row_item schema) in
      let four = ap (λ (l : List Edit). length l) may.edits_are ∙ length-map rows (edit_of schema) in
      omega (arith, one, two_, three, four)

  pub can_fill : (count : ℕ) → count ≡ length (row_items contents) + length edits → count < 2 ^ 63 → repeats (keyed_cmp schema) (contents.rows ++ rows) ≡ false
      → CanFill address chunks k found.tables.items found.table sorted count database contents all
  can_fill count is few once =
      let table = kept_table in
      let counted : count ≡ length all = is ∙ sym count_all in record {
        at = kept_read address chunks k database may.found_is.kept;
        put = record {
          listed = (kept_listed address chunks k database found.tables.items may.found_is.kept may.found_is.listed).listed;
          edit = record {
            stands = may.found_is.stands;
            rise = rising follow schema valid contents.rows rows sorted new_fit sorted_are once;
            items = edited_is follow schema valid contents.rows rows sorted old_fit old_rise new_fit sorted_are once;
            rows_of = record {
              valid = valid;
              fit = all_left (is_row schema) (is_row_within_limits schema) all good_all;
              limits = all_right (is_row schema) (is_row_within_limits schema) all good_all;
              few = subst (λ (n : ℕ). n < 2 ^ 63) counted few;
            };
          };
          limits = (limits_so contents table.within).0;
        };
        counted = counted;
      }

pub count_edits : (schema : Schema) (edits : List Edit) (rows : List Cells) → edits ≡ map (edit_of schema) rows → length edits ≡ length rows
count_edits schema edits rows e = ap (λ (l : List Edit). length l) e ∙ length-map rows (edit_of schema)

-- ---- what was found, and what an INSERT says

pub found_of : (address : List ℕ → List ℕ) (chunks : Chunks) (k name : List ℕ) (database : PlainDatabase) (found : Found) (there : Option PlainTable)
    → Finds address chunks k name database (Ok found) there → (contents : PlainTable) × (there ≡ Some contents) × IsFound address chunks k name database contents found
found_of address chunks k name database found (Some contents) is = (contents, refl, is)
found_of address chunks k name database found None is = absurd is

pub then_assoc : {A B C : Type 0} (o : Outcome A) (f : A → Outcome B) (g : B → Outcome C) → and_then (and_then o f) g ≡ and_then o (λ x. and_then (f x) g)
then_assoc (Ok x) f g = refl
then_assoc (Err number) f g = refl

pub then_same : {A B : Type 0} (o : Outcome A) (f g : A → Outcome B) → ((x : A) → f x ≡ g x) → and_then o f ≡ and_then o g
then_same (Ok x) f g same = same x
then_same (Err number) f g same = refl

pub inserted_is : (checks : Checks) (database : PlainDatabase) (insert : Insert) (table : PlainTable) → inserted checks database insert table
    ≡ and_then (rows_said table.schema insert) (λ rows. result_of checks database insert.table table (table.rows ++ rows) (length rows))
inserted_is checks database insert table =
    let last : List Cells → Outcome Effect = λ rows. result_of checks database insert.table table (table.rows ++ rows) (length rows) in
    sym (then_assoc (places_named table.schema insert.columns) (λ places. and_then (each (tuple_said table.schema places) insert.tuples) (λ said. each (new_row table.schema places) said)) last
    ∙ then_same (places_named table.schema insert.columns)
    (λ places. and_then (and_then (each (tuple_said table.schema places) insert.tuples) (λ said. each (new_row table.schema places) said)) last)
    (λ places. and_then (each (tuple_said table.schema places) insert.tuples) (λ said. and_then (each (new_row table.schema places) said) last))
    (λ places. then_assoc (each (tuple_said table.schema places) insert.tuples) (λ said. each (new_row table.schema places) said) last))

-- a refusal on the way is that of the whole
pub makes_refused : {A : Type 0} (address : List ℕ → List ℕ) (chunks : Chunks) (r : Refused) (o : Outcome A) (f : A → Outcome Effect) → Gives (Err r) o → Makes address chunks (Err (of_refused r)) (and_then o f)
makes_refused address chunks Memory o f gives = tt
makes_refused address chunks (By number) o f gives = ap (λ x. and_then x f) gives
