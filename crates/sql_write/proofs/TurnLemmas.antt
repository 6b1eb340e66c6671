-- The rows of a table after an UPDATE or a DELETE: rows of the table, within the limits, by rising key.
use Rattle.std.proofs.Common.{◌≡◌, refl, sym, ap, ◌∙◌, subst, ℕ, ◌+◌, ◌<◌, ◌≤◌, ◌^◌, true, ◌&&◌, nat_le, List, length, map, None, Ok, Err, arith}
use Rattle.std.specs.List.{AllByRecursion, count_by, list_all}
use Rattle.std.proofs.lemmas.Bool.{leb-true}
use Rattle.tuple_codec.specs.Edits.{EditsRiseAfter, edited}
use Rattle.tuple_codec.specs.Nodes.{Rise}
use Rattle.tuple_codec.specs.Rows.{Cells}
use Rattle.tuple_codec.specs.declared.edits.Edit.{Edit}
use Rattle.schema_model.specs.Limits.{is_conflict_within_limits, is_row_within_limits, is_table_within_limits, is_violation_within_limits, is_within_limits, most_rows}
use Rattle.schema_model.specs.PlainTables.{PlainDatabase, PlainTable, is_row, rises, row_item}
use Rattle.schema_model.specs.Schemas.{is_schema}
use Rattle.schema_model.specs.declared.schemas.Schema.{Schema}
use Rattle.sql_ast.specs.declared.statements.Delete.{Delete}
use Rattle.sql_ast.specs.declared.statements.Update.{Update}
use Rattle.chunk_store.specs.Chunks.{Chunks}
use Rattle.tuple_codec.specs.ByKey.{ChangesFollow}
use Rattle.expr_eval.specs.Binding.{Outcome, and_then}
use Rattle.plain_sql.specs.Answers.{Meaning}
use Rattle.plain_sql.specs.Gives.{Gives, GivesBy}
use Rattle.plain_sql.specs.Lists.{each}
use Rattle.plain_sql.specs.declared.faults.Refused.{Refused}
use Rattle.plain_sql.specs.declared.faults.Refused.TheVariants as refused
use Rattle.plain_writes.specs.Violations.{Checks, own_scope}
use Rattle.plain_writes.specs.Writes.{Assign, Effect, bound_assignment, by_key, deleted, filled, keyed_cmp, rest_of, stays, tests_of, turned_small, updated}
use Rattle.plain_writes.specs.declared.updating.Later.{Later}
use Rattle.table_root.specs.Standing.{IsTableOf}
use Rattle.table_root.specs.Rows.{AreRowsAt, RowItemsFollow}
use Rattle.table_root.specs.declared.records.StoredTable.{StoredTable}
use Rattle.plain_writes.proofs.DatabaseLemmas.{IsKeptTable, by_key_so, keyed_total, limits_so, rows_good}
use Rattle.plain_writes.proofs.RowOrderLemmas.{left_so, right_so, two}
use Rattle.plain_writes.proofs.OutcomeLemmas.{each_have, ok_same, then_so}
use Rattle.plain_writes.proofs.RowLemmas.{IsPlaced, all_left, all_rest, all_right, all_rows, assignment_placed, stay_all_good, turned_all_good}
use Rattle.sql_write.specs.Changes.{AreToTurn, Turning, change_of, change_with}
use Rattle.sql_write.specs.Differences.{row_edits}
use Rattle.sql_write.specs.Finding.{IsFound}
use Rattle.sql_write.specs.Inserting.{is_good}
use Rattle.sql_write.specs.Passing.{AreRead, sets_key}
use Rattle.sql_write.specs.Putting.{CanFill}
use Rattle.sql_write.specs.Turning.{RowsComeFirst, filling, rows_deleted, rows_deleted_by, rows_turned_by, rows_updated, rows_updated_by, turned_rows}
use Rattle.sql_write.specs.Updating.{HasSome, MayTurn}
use Rattle.sql_write.specs.Weaving.{Fate, after, before, come, gone}
use Rattle.sql_write.specs.declared.finding.Found.{Found}
use Rattle.sql_write.specs.declared.turning.Turned.{Turned}
use Rattle.sql_write.proofs.DifferenceLemmas.{edits_woven}
use Rattle.sql_write.proofs.PassingLemmas.{Splits, come_rises, deleted_among, gone_rises, turned_of, updated_among, whole_splits}
use Rattle.sql_write.proofs.PlaceLemmas.{found_table, rows_tree, schema_same, then_assoc, then_same}
use Rattle.sql_write.proofs.RiseLemmas.{are_leaves, items_rise}
use Rattle.sql_write.proofs.TableLemmas.{kept_listed, kept_read}
use Rattle.sql_write.proofs.WeavingLemmas.{as_many, come_all, gone_all, gone_few}

-- rows of the table, within the limits, by rising key
pub record AreGood (schema : Schema) (rows : List Cells) : Type 0 where
  pub good : list_all (is_good schema) rows ≡ true
  pub rise : rises (keyed_cmp schema) rows ≡ true

turned_good : (schema : Schema) (rows : List Cells) (count : ℕ) (turned : Turned) → turned_rows schema rows count ≡ Ok turned → list_all (is_good schema) rows ≡ true → AreGood schema turned.rows
turned_good schema rows count turned e good =
    let parts = then_so (by_key schema rows) (λ sorted. Ok (record { rows = sorted; count = count })) turned e in
    let is = by_key_so schema rows parts.0 parts.1 good in
    subst (λ (t : Turned). AreGood schema t.rows) (ok_same (Ok (record { rows = parts.0; count = count })) (record { rows = parts.0; count = count }) turned refl parts.2)
    (record { good = is.0; rise = is.1 })

pub updated_good : (schema : Schema) (rows : List Cells) (update : Update) (turned : Turned) → list_all (is_good schema) rows ≡ true → rows_updated schema rows update ≡ Ok turned → AreGood schema turned.rows
updated_good schema rows update turned good e =
    let scope = own_scope update.table schema in
    let sets = then_so (each (bound_assignment schema scope) update.assignments) (rows_updated_by schema rows update.filter scope) turned e in
    let tests = then_so (tests_of scope update.filter) (λ tests.
    and_then (each (turned_small schema tests sets.0) rows) (λ later.
    turned_rows schema (map (λ (one : Later). one.row) later) (count_by (λ (one : Later). one.is_new) later))) turned sets.2 in
    let later = then_so (each (turned_small schema tests.0 sets.0) rows) (λ later.
    turned_rows schema (map (λ (one : Later). one.row) later) (count_by (λ (one : Later). one.is_new) later)) turned tests.2 in
    let placed : AllByRecursion (IsPlaced schema) sets.0 = each_have (bound_assignment schema scope) (IsPlaced schema) (assignment_placed schema scope) update.assignments sets.0 sets.1 in
    turned_good schema (map (λ (one : Later). one.row) later.0) (count_by (λ (one : Later). one.is_new) later.0) turned later.2
    (all_rows schema later.0 (turned_all_good schema tests.0 sets.0 rows later.0 placed good later.1))

pub deleted_good : (schema : Schema) (rows : List Cells) (delete : Delete) (turned : Turned) → list_all (is_good schema) rows ≡ true → rows_deleted schema rows delete ≡ Ok turned → AreGood schema turned.rows
deleted_good schema rows delete turned good e =
    let tests = then_so (tests_of (own_scope delete.table schema) delete.filter) (λ tests.
    and_then (each (stays tests) rows) (λ later.
    turned_rows schema (rest_of later) (count_by (λ (one : Later). one.is_new) later))) turned e in
    let later = then_so (each (stays tests.0) rows) (λ later.
    turned_rows schema (rest_of later) (count_by (λ (one : Later). one.is_new) later)) turned tests.2 in
    turned_good schema (rest_of later.0) (count_by (λ (one : Later). one.is_new) later.0) turned later.2
    (all_rest schema later.0 (stay_all_good schema tests.0 rows later.0 good later.1))

-- ---- rows read

pub rows_at : (address : List ℕ → List ℕ) (chunks : Chunks) (table : StoredTable) (contents : PlainTable) → IsTableOf address chunks table contents → AreRowsAt address chunks table.rows.0 table.schema contents.rows
rows_at address chunks table contents of =
    subst (λ (s : Schema). AreRowsAt address chunks table.rows.0 s contents.rows) (sym (schema_same address chunks table contents of))
    (record { fit = of.is_table.rows; tree = rows_tree address chunks table contents of })

pub valid_schema : (address : List ℕ → List ℕ) (chunks : Chunks) (table : StoredTable) (contents : PlainTable) → IsTableOf address chunks table contents → is_schema table.schema ≡ true
valid_schema address chunks table contents of = ap is_schema (schema_same address chunks table contents of) ∙ of.is_table.schema

-- ---- what was read, among what wasn't

-- an UPDATE, once it is known what it asks and sets
abbrev changed_rows : Schema → List Cells → Turning → Outcome Turned
changed_rows schema rows turning = rows_turned_by schema rows turning.sets turning.tests

abbrev turning_of : List Assign → List Meaning → Outcome Turning
turning_of sets tests = Ok (record { sets = sets; tests = tests })

updated_steps : (schema : Schema) (rows : List Cells) (update : Update) → rows_updated schema rows update ≡ and_then (change_of schema update) (changed_rows schema rows)
updated_steps schema rows update =
    let scope = own_scope update.table schema in
    let bound_ = each (bound_assignment schema scope) update.assignments in
    then_same bound_ (rows_updated_by schema rows update.filter scope) (λ sets. and_then (change_with scope update.filter sets) (changed_rows schema rows))
    (λ sets. sym (then_assoc (tests_of scope update.filter) (turning_of sets) (changed_rows schema rows)))
    ∙ sym (then_assoc bound_ (change_with scope update.filter) (changed_rows schema rows))

module _ (schema : Schema) (all read : List Cells) (rise : rises (keyed_cmp schema) all ≡ true) where
  delete_parts : (delete : Delete) (tests : List Meaning) → tests_of (own_scope delete.table schema) delete.filter ≡ Ok tests → AreRead tests all read
      → Splits all read (rows_deleted schema all delete) (rows_deleted_by schema read tests)
  delete_parts delete tests tests_are are =
      subst (λ (o : Outcome (List Meaning)). Splits all read (and_then o (rows_deleted_by schema all)) (rows_deleted_by schema read tests)) (sym tests_are) (deleted_among schema tests all read are rise)

  turned_parts : (turning : Turning) → AreToTurn schema turning all read → Splits all read (changed_rows schema all turning) (changed_rows schema read turning)
  turned_parts turning are = two (sets_key schema turning.sets)
      (λ t. subst (λ (l : List Cells). Splits all l (changed_rows schema all turning) (changed_rows schema l turning)) (are.whole t) (whole_splits all (changed_rows schema all turning)))
      (λ t. updated_among schema turning.sets turning.tests all read are.passed rise t)

  update_parts : (update : Update) (turning : Turning) → change_of schema update ≡ Ok turning → AreToTurn schema turning all read
      → Splits all read (rows_updated schema all update) (changed_rows schema read turning)
  update_parts update turning turning_is are =
      subst (λ (o : Outcome Turned). Splits all read o (changed_rows schema read turning))
      (sym (updated_steps schema all update ∙ ap (λ (o : Outcome Turning). and_then o (changed_rows schema all)) turning_is)) (turned_parts turning are)

-- ---- rows put

few_rows : (table : PlainTable) → is_table_within_limits table ≡ true → length table.rows ≤ most_rows
few_rows table within =
    let violations = list_all (is_violation_within_limits table.schema) table.violations in
    let conflicts = list_all (is_conflict_within_limits table.schema) table.conflicts in
    let rows = list_all (is_row_within_limits table.schema) table.rows in
    let few = nat_le (length table.rows) most_rows in
    let four = left_so (is_within_limits table.schema && few && rows && conflicts) violations within in
    let three = left_so (is_within_limits table.schema && few && rows) conflicts four in
    let two_ = left_so (is_within_limits table.schema && few) rows three in
    leb-true (length table.rows) most_rows (right_so (is_within_limits table.schema) few two_)

module _ (address : List ℕ → List ℕ) (chunks : Chunks) (k name : List ℕ) (found : Found) (old : List Cells) (turned : Turned) (database : PlainDatabase) (contents : PlainTable) (rows : List Cells)
    (may : MayTurn address chunks k name found old turned database contents rows) where
  abbrev schema : Schema
  schema = found.table.schema

  same : schema ≡ contents.schema
  same = schema_same address chunks found.table contents may.found_is.stands

  kept_table : IsKeptTable contents
  kept_table = found_table address chunks k name database contents found may.found_is

  valid : is_schema schema ≡ true
  valid = valid_schema address chunks found.table contents may.found_is.stands

  abbrev fates : List Fate
  fates = may.woven.fates

  olds_fit : list_all (is_row schema) (before fates) ≡ true
  olds_fit =
      let of = may.found_is.stands in
      sym (ap (λ (l : List Cells). list_all (is_row schema) l) may.woven.all_are) ∙ ap (λ (s : Schema). list_all (is_row s) contents.rows) same ∙ of.is_table.rows

  olds_rise : rises (keyed_cmp schema) (before fates) ≡ true
  olds_rise =
      let of = may.found_is.stands in
      sym (ap (λ (l : List Cells). rises (keyed_cmp schema) l) may.woven.all_are) ∙ ap (λ (s : Schema). rises (keyed_cmp s) contents.rows) same ∙ of.is_table.keys

  news_fit : list_all (is_row schema) (after fates) ≡ true
  news_fit =
      sym (ap (λ (l : List Cells). list_all (is_row schema) l) may.woven.rows_are)
      ∙ ap (λ (s : Schema). list_all (is_row s) rows) same ∙ all_left (is_row contents.schema) (is_row_within_limits contents.schema) rows may.good

  news_rise : rises (keyed_cmp schema) (after fates) ≡ true
  news_rise = sym (ap (λ (l : List Cells). rises (keyed_cmp schema) l) may.woven.rows_are) ∙ ap (λ (s : Schema). rises (keyed_cmp s) rows) same ∙ may.rise

  pub old_fit : list_all (is_row schema) old ≡ true
  old_fit = ap (λ (l : List Cells). list_all (is_row schema) l) may.woven.old_are ∙ gone_all (is_row schema) fates olds_fit

  pub old_rise : rises (keyed_cmp schema) old ≡ true
  old_rise = ap (λ (l : List Cells). rises (keyed_cmp schema) l) may.woven.old_are ∙ gone_rises (keyed_cmp schema) (keyed_total schema) fates olds_rise

  pub new_fit : list_all (is_row schema) turned.rows ≡ true
  new_fit = ap (λ (l : List Cells). list_all (is_row schema) l) may.woven.new_are ∙ come_all (is_row schema) fates news_fit

  pub new_rise : rises (keyed_cmp schema) turned.rows ≡ true
  new_rise = ap (λ (l : List Cells). rises (keyed_cmp schema) l) may.woven.new_are ∙ come_rises (keyed_cmp schema) (keyed_total schema) fates news_rise

  -- how many all rows are, before and after, and those that were read, and those that came of them
  all_many : length contents.rows ≡ length (before fates)
  all_many = ap (λ (l : List Cells). length l) may.woven.all_are

  rows_many : length rows ≡ length (after fates)
  rows_many = ap (λ (l : List Cells). length l) may.woven.rows_are

  old_many : length old ≡ length (gone fates)
  old_many = ap (λ (l : List Cells). length l) may.woven.old_are

  new_many : length turned.rows ≡ length (come fates)
  new_many = ap (λ (l : List Cells). length l) may.woven.new_are

  pub has_some : HasSome address chunks found.table old contents
  has_some =
      let table = kept_table in
      let few = gone_few fates in record {
        stands = may.found_is.stands;
        some = omega (arith, all_many, old_many, few);
        few = few_rows contents table.within;
      }

  -- the edits of the rows that were read are those of all rows
  edits_all : RowItemsFollow → row_edits schema old turned.rows ≡ row_edits schema contents.rows rows
  edits_all follow =
      (λ i. row_edits schema (may.woven.old_are i) (may.woven.new_are i))
      ∙ edits_woven schema fates (items_rise follow schema (before fates) valid olds_fit olds_rise) (items_rise follow schema (after fates) valid news_fit news_rise)
      ∙ (λ i. row_edits schema (sym may.woven.all_are i) (sym may.woven.rows_are i))

  edited_all : RowItemsFollow → ChangesFollow → edited (map (row_item schema) contents.rows) (row_edits schema contents.rows rows) ≡ map (row_item schema) rows
  edited_all follow changes =
      changes.back (map (row_item schema) contents.rows) (map (row_item schema) rows)
      (subst (λ (l : List Cells). Rise (map (row_item schema) l)) (sym may.woven.all_are) (items_rise follow schema (before fates) valid olds_fit olds_rise))
      (subst (λ (l : List Cells). Rise (map (row_item schema) l)) (sym may.woven.rows_are) (items_rise follow schema (after fates) valid news_fit news_rise))
      (are_leaves schema contents.rows) (are_leaves schema rows)

  pub can_turn : RowItemsFollow → ChangesFollow → (edits : List Edit) (count : ℕ) → count + length old ≡ length contents.rows + length turned.rows → length turned.rows + 10000000 < 2 ^ 63
      → EditsRiseAfter None edits → edits ≡ row_edits schema old turned.rows
      → CanFill address chunks k found.tables.items found.table edits count database contents rows
  can_turn follow changes edits count counted few rise is =
      let table = kept_table in
      let all_is = is ∙ edits_all follow in
      let whole = ap (λ (l : List Edit). edited (map (row_item schema) contents.rows) l) all_is ∙ edited_all follow changes in
      let many = as_many fates in
      let few_old = gone_few fates in
      let most : length contents.rows ≤ 10000000 = few_rows contents table.within in record {
        at = kept_read address chunks k database may.found_is.kept;
        put = record {
          listed = (kept_listed address chunks k database found.tables.items may.found_is.kept may.found_is.listed).listed;
          edit = record {
            stands = may.found_is.stands;
            rise = rise;
            items = sym (subst (λ (s : Schema). edited (map (row_item s) contents.rows) edits ≡ map (row_item s) rows) same whole);
            rows_of = record {
              valid = table.is_table.schema;
              fit = all_left (is_row contents.schema) (is_row_within_limits contents.schema) rows may.good;
              limits = all_right (is_row contents.schema) (is_row_within_limits contents.schema) rows may.good;
              few = omega (arith, all_many, rows_many, old_many, new_many, many, few_old, most, few);
            };
          };
          limits = (limits_so contents table.within).0;
        };
        counted = omega (arith, all_many, rows_many, old_many, new_many, many, counted);
      }

-- ---- what a statement comes to

module _ (address : List ℕ → List ℕ) (chunks : Chunks) (k name : List ℕ) (found : Found) (old : List Cells) (database : PlainDatabase) (contents : PlainTable)
    (is : IsFound address chunks k name database contents found) where
  all_good : list_all (is_good contents.schema) contents.rows ≡ true
  all_good = rows_good contents (found_table address chunks k name database contents found is)

  all_rise : rises (keyed_cmp contents.schema) contents.rows ≡ true
  all_rise = let of = is.stands in of.is_table.keys

  may_turn : (turned : Turned) (whole part : Outcome Turned) (splits : Splits contents.rows old whole part) → part ≡ Ok turned → ((t : Turned) → whole ≡ Ok t → AreGood contents.schema t.rows)
      → MayTurn address chunks k name found old turned database contents splits.rows
  may_turn turned whole part splits e good =
      let are = good (record { rows = splits.rows; count = turned.count }) (splits.same ∙ ap (λ (o : Outcome Turned). and_then o (λ t. turned_of t.count splits.rows)) e) in record {
        found_is = is;
        woven = splits.woven turned e;
        good = are.good;
        rise = are.rise;
      }

  pub delete_said : (delete : Delete) (tests : List Meaning) → tests_of (own_scope delete.table found.table.schema) delete.filter ≡ Ok tests → AreRead tests contents.rows old
      → Splits contents.rows old (rows_deleted contents.schema contents.rows delete) (rows_deleted_by found.table.schema old tests)
  delete_said delete tests tests_are are =
      let same = schema_same address chunks found.table contents is.stands in
      let own = subst (λ (s : Schema). tests_of (own_scope delete.table s) delete.filter ≡ Ok tests) same tests_are in
      subst (λ (s : Schema). Splits contents.rows old (rows_deleted contents.schema contents.rows delete) (rows_deleted_by s old tests)) (sym same)
      (delete_parts contents.schema contents.rows old all_rise delete tests own are)

  pub may_delete : (turned : Turned) (delete : Delete) (part : Outcome Turned) (splits : Splits contents.rows old (rows_deleted contents.schema contents.rows delete) part) → part ≡ Ok turned
      → MayTurn address chunks k name found old turned database contents splits.rows
  may_delete turned delete part splits e = may_turn turned (rows_deleted contents.schema contents.rows delete) part splits e (λ t said. deleted_good contents.schema contents.rows delete t all_good said)

  pub update_said : (update : Update) (turning : Turning) → change_of found.table.schema update ≡ Ok turning → AreToTurn found.table.schema turning contents.rows old
      → Splits contents.rows old (rows_updated contents.schema contents.rows update) (rows_turned_by found.table.schema old turning.sets turning.tests)
  update_said update turning turning_is are =
      let same = schema_same address chunks found.table contents is.stands in
      subst (λ (s : Schema). Splits contents.rows old (rows_updated contents.schema contents.rows update) (rows_turned_by s old turning.sets turning.tests)) (sym same)
      (update_parts contents.schema contents.rows old all_rise update turning (subst (λ (s : Schema). change_of s update ≡ Ok turning) same turning_is)
      (subst (λ (s : Schema). AreToTurn s turning contents.rows old) same are))

  pub may_update : (turned : Turned) (update : Update) (part : Outcome Turned) (splits : Splits contents.rows old (rows_updated contents.schema contents.rows update) part) → part ≡ Ok turned
      → MayTurn address chunks k name found old turned database contents splits.rows
  may_update turned update part splits e = may_turn turned (rows_updated contents.schema contents.rows update) part splits e (λ t said. updated_good contents.schema contents.rows update t all_good said)

-- what comes of all rows, by what came of those that were read
abbrev pub filled_as : (checks : Checks) (database : PlainDatabase) (name : List ℕ) (table : PlainTable) → List Cells → Turned → Outcome Effect
filled_as checks database name table rows turned = filled checks database name table turned.count rows

splits_then : (all read : List Cells) (whole part : Outcome Turned) (splits : Splits all read whole part) (f : Turned → Outcome Effect)
    → and_then whole f ≡ and_then part (λ turned. f (record { rows = splits.rows; count = turned.count }))
splits_then all read whole part splits f =
    ap (λ (o : Outcome Turned). and_then o f) splits.same ∙ then_assoc part (λ turned. turned_of turned.count splits.rows) f

module _ (first : RowsComeFirst) (checks : Checks) (database : PlainDatabase) (table : PlainTable) (read : List Cells) where
  pub deleted_is : (delete : Delete) (part : Outcome Turned) (splits : Splits table.rows read (rows_deleted table.schema table.rows delete) part)
      → deleted checks database delete table ≡ and_then part (filled_as checks database delete.table table splits.rows)
  deleted_is delete part splits =
      first.delete checks database delete table ∙ splits_then table.rows read (rows_deleted table.schema table.rows delete) part splits (filling checks database delete.table table)

  pub updated_is : (update : Update) (part : Outcome Turned) (splits : Splits table.rows read (rows_updated table.schema table.rows update) part)
      → updated checks database update table ≡ and_then part (filled_as checks database update.table table splits.rows)
  updated_is update part splits =
      first.update checks database update table ∙ splits_then table.rows read (rows_updated table.schema table.rows update) part splits (filling checks database update.table table)

-- an UPDATE that is refused before any row is read
pub update_refused : (first : RowsComeFirst) (checks : Checks) (database : PlainDatabase) (table : PlainTable) (update : Update) (number : ℕ) → change_of table.schema update ≡ Err number
    → updated checks database update table ≡ Err number
update_refused first checks database table update number e =
    first.update checks database update table
    ∙ ap (λ (o : Outcome Turned). and_then o (filling checks database update.table table)) (updated_steps table.schema table.rows update ∙ ap (λ (o : Outcome Turning). and_then o (changed_rows table.schema table.rows)) e)

-- a DELETE that is refused before any row is read
pub delete_refused : (first : RowsComeFirst) (checks : Checks) (database : PlainDatabase) (table : PlainTable) (delete : Delete) (number : ℕ) → tests_of (own_scope delete.table table.schema) delete.filter ≡ Err number
    → deleted checks database delete table ≡ Err number
delete_refused first checks database table delete number e =
    first.delete checks database delete table
    ∙ ap (λ (o : Outcome (List Meaning)). and_then (and_then o (rows_deleted_by table.schema table.rows)) (filling checks database delete.table table)) e

pub gives_err : {A B : Type 0} (view : A → B) (why : Refused) (outcome : Outcome B) → GivesBy view (Err why) outcome → Gives (Err why) outcome
gives_err view refused.Memory outcome gives = tt
gives_err view (refused.By number) outcome gives = gives
