-- What each statement makes of the table.
use Rattle.std.proofs.Common.{◌≡◌, ◌∙◌, ◌+◌, ◌<◌, ◌≤◌, ◌==◌, ◌&&◌, ℕ, pos, refl, ap, ap₂, arith, cond, true, false, List, [], ◌∷◌, ◌++◌, map, filter, length, set, fold, count_by, Option, None, Some, Ok, codes, eqb-true, eq-eqb, le-ltb}
use Rattle.std.proofs.lemmas.List.{length-map}
use Rattle.tuple_codec.proofs.Truths.{two}
use Rattle.tuple_codec.specs.Rows.{Cells}
use Rattle.tuple_codec.specs.declared.values.Value.TheVariants as cell
use Rattle.schema_model.specs.PlainTables.{Violation, violation_cmp}
use Rattle.schema_model.specs.declared.schemas.Column.{Column}
use Rattle.sql_ast.specs.declared.statements.InsertCell.TheVariants as entry
use Rattle.sql_ast.specs.declared.statements.Write.TheVariants as write
use Rattle.sql_values.specs.declared.kinds.Kind.TheVariants as kind
use Rattle.expr_eval.specs.Binding.{Outcome, and_then}
use Rattle.plain_sql.specs.Lists.{each, in_order}
use Rattle.plain_sql.specs.Plans.{meaning}
use Rattle.plain_writes.specs.Violations.{Checks, Found, breaks_not_null, first_of, first_violation, numbers_of, violation, violations}
use Rattle.plain_writes.specs.Writes.{Assign, Effect, Said, Worth, assign_if, assigned, bound_assignment, by_key, effect_if, filled, if_changed, if_small_turned, insert_effect, new_row, result_of, row_after, tests_of, tuple_said, turned_if, turned_small, untouched, update_effect}
use Rattle.plain_writes.specs.declared.updating.Later.{Later}
use Rattle.plain_sessions.specs.Merging.{Answers}
use Rattle.plain_sessions.specs.Replies.{done}
use Rattle.plain_sessions.specs.Statements.{changed as changed_database, worked, write_worked}
use Rattle.plain_schemas.specs.Statements.{write_effect}
use Rattle.plain_writes.specs.CheckTexts.{checks}
use Rattle.workload.specs.declared.steps.Pair.{Pair}
use Rattle.load_laws.proofs.StatementCells.{chosen, condition_is, constant, given_number, kept_number, key_test, number_bound, rows_same, scope}
use Rattle.load_laws.proofs.StatementRows.{more_by_key, put_length, rising_by_key, rising_changed, rows_more}
use Rattle.load_laws.specs.Loaded.{big_int, load_schema, load_table, row}
use Rattle.load_laws.specs.Parts.{RowsAreChanged, RowsAreInserted, TablesAreMade}
use Rattle.load_laws.specs.Steps.{create, insert, number, table_name, update}
use Rattle.load_laws.specs.Tables.{ArePairRows, IsFree, IsSmall, changed, changed_one, changes, holding, is_other, put, rows_in, working}

-- ---- CREATE

table_made : (head : List ℕ) (found : Option (List Pair)) → write_worked (working head found) (write.Create create) ≡ Ok (Answers done (working head (Some (rows_in found))))
unfolding write_effect
table_made head None = refl
table_made head (Some pairs) = refl

pub tables_are_made : TablesAreMade
unfolding worked
tables_are_made session t head found own = ap (λ own. write_worked own (write.Create create)) own ∙ table_made head found

-- ---- the whole result

pub none_null : (pairs : List Pair) → filter (breaks_not_null 0) (map row pairs) ≡ []
none_null [] = refl
none_null (pair ∷ pairs) = none_null pairs

abbrev found_here : Violation → Found
found_here one = record { table = table_name; violation = one }

module _ (checks : Checks) where
  none_broken : (pairs : List Pair) → violations checks (holding (Some pairs)) ≡ []
  none_broken pairs = ap (λ (broken : List Cells). map found_here (in_order violation_cmp (map (violation load_schema 4 (codes "id")) broken ++ [])) ++ []) (none_null pairs)

  none_new : (old new : List Pair) → first_violation checks (holding (Some old)) (holding (Some new)) ≡ None
  none_new old new = ap₂ (λ before after. first_of (numbers_of (holding (Some old)) before after)) (none_broken old) (none_broken new)

  abbrev with_inserts : List Pair → ℕ → Effect
  with_inserts pairs count = record { database = holding (Some pairs); count = Some count }

  rows_filled : (old new : List Pair) (count : ℕ) → length new ≤ 4000 → filled checks (holding (Some old)) table_name (load_table old) count (map row new) ≡ Ok (with_inserts new count)
  rows_filled old new count few =
      ap₂ (λ broken large. effect_if broken large (with_inserts new count)) (none_new old new) (le-ltb 10000000 (length (map row new)) (let long = length-map new row in omega arith))

  rows_result : (old new kept : List Pair) (count : ℕ) → by_key load_schema (map row new) ≡ Ok (map row kept) → length kept ≤ 4000
      → result_of checks (holding (Some old)) table_name (load_table old) (map row new) count ≡ Ok (with_inserts kept count)
  rows_result old new kept count keyed few = ap (λ rows. and_then rows (filled checks (holding (Some old)) table_name (load_table old) count)) keyed ∙ rows_filled old kept count few

-- ---- UPDATE

abbrev value_column : Column
value_column = big_int (codes "v") false

abbrev assign : ℕ → Assign
assign n = record { place = 1; column = value_column; kind = kind.Int; meaning = meaning (constant n) }

assign_bound : (n : ℕ) → n < 10000000 → bound_assignment load_schema scope (record { column = codes "v"; value = number n }) ≡ Ok (assign n)
assign_bound n small = ap (λ found. and_then found (assign_if 1 value_column)) (number_bound scope n small)

row_assigned : (n : ℕ) (other : Pair) → n < 10000000 → row_after (assign n ∷ []) (row other) ≡ Ok (row (record { key = other.key; value = n }))
row_assigned n other small =
    ap (λ found. and_then found (λ value. and_then (assigned kind.Int value_column value) (λ kept. row_after [] (set (row other) 1 kept)))) (given_number (row other) n)
    ∙ ap (λ found. and_then found (λ kept. row_after [] (set (row other) 1 kept))) (kept_number (codes "v") false n small)

abbrev later : Pair → Pair → Later
later pair other = record { row = row (changed_one pair other); is_new = is_other pair other }

abbrev with_value : Pair → Pair → Pair
with_value pair other = record { key = other.key; value = pair.value }

abbrev limited : Outcome Later → Outcome Later
limited turned = and_then turned (if_small_turned load_schema)

-- a row of that key, with that value or another
row_chosen : (pair other : Pair) → IsSmall pair → other.key == pair.key ≡ true
    → limited (and_then (row_after (assign pair.value ∷ []) (row other)) (if_changed load_schema (assign pair.value ∷ []) (row other))) ≡ Ok (later pair other)
row_chosen pair other small same =
    ap (λ kept. limited (and_then kept (if_changed load_schema (assign pair.value ∷ []) (row other)))) (row_assigned pair.value other (let e = small.value_small in omega arith))
    ∙ ap (λ equal. limited (cond equal (Ok (untouched (row other))) (Ok (record { row = row (with_value pair other); is_new = true }))))
    (rows_same other (with_value pair other) ∙ ap (λ b. b && other.value == pair.value) (eq-eqb other.key other.key refl))
    ∙ two (other.value == pair.value)
    (λ e. rw (same, e) (ap₂ (λ k v. Ok (record { row = cell.Int (pos k) ∷ cell.Int (pos v) ∷ []; is_new = false })) (eqb-true other.key pair.key same) (eqb-true other.value pair.value e)))
    (λ e. rw (same, e) (ap (λ k. Ok (record { row = cell.Int (pos k) ∷ cell.Int (pos pair.value) ∷ []; is_new = true })) (eqb-true other.key pair.key same)))

row_turned : (pair other : Pair) → IsSmall pair → turned_small load_schema (meaning (key_test pair.key) ∷ []) (assign pair.value ∷ []) (row other) ≡ Ok (later pair other)
row_turned pair other small =
    ap (λ found. limited (and_then found (turned_if load_schema (assign pair.value ∷ []) (row other)))) (chosen pair.key other)
    ∙ two (other.key == pair.key)
    (λ same. ap (λ b. limited (turned_if load_schema (assign pair.value ∷ []) (row other) b)) same ∙ row_chosen pair other small same)
    (λ apart. ap (λ b. limited (turned_if load_schema (assign pair.value ∷ []) (row other) b)) apart ∙ rw apart refl)

rows_turned : (pair : Pair) (pairs : List Pair) → IsSmall pair
    → each (turned_small load_schema (meaning (key_test pair.key) ∷ []) (assign pair.value ∷ [])) (map row pairs) ≡ Ok (map (later pair) pairs)
rows_turned pair [] small = refl
rows_turned pair (other ∷ others) small =
    ap₂ (λ first more. and_then first (λ y. and_then more (λ ys. Ok (y ∷ ys)))) (row_turned pair other small) (rows_turned pair others small)

later_rows : (pair : Pair) (pairs : List Pair) → map (λ (one : Later). one.row) (map (later pair) pairs) ≡ map row (changed pair pairs)
later_rows pair [] = refl
later_rows pair (other ∷ others) = ap (λ rows. row (changed_one pair other) ∷ rows) (later_rows pair others)

new_from : (pair : Pair) (pairs : List Pair) (n : ℕ)
    → fold (λ (sum : ℕ) (one : Later). sum + cond one.is_new 1 0) n (map (later pair) pairs) ≡ fold (λ (sum : ℕ) (other : Pair). sum + cond (is_other pair other) 1 0) n pairs
new_from pair [] n = refl
new_from pair (other ∷ others) n = new_from pair others (n + cond (is_other pair other) 1 0)

later_new : (pair : Pair) (pairs : List Pair) → count_by (λ (one : Later). one.is_new) (map (later pair) pairs) ≡ changes pair pairs
later_new pair pairs = new_from pair pairs 0

sets_bound : (pair : Pair) → IsSmall pair → each (bound_assignment load_schema scope) (update pair).assignments ≡ Ok (assign pair.value ∷ [])
sets_bound pair small = ap (λ found. and_then found (λ one. Ok (one ∷ []))) (assign_bound pair.value (let e = small.value_small in omega arith))

tests_bound : (pair : Pair) → IsSmall pair → tests_of scope (update pair).filter ≡ Ok (meaning (key_test pair.key) ∷ [])
tests_bound pair small = ap (λ found. and_then found (λ one. Ok (one ∷ []))) (condition_is pair.key small.key_small)

abbrev turned_result : Checks → List Pair → List Later → Outcome Effect
turned_result checks pairs turned = result_of checks (holding (Some pairs)) table_name (load_table pairs) (map (λ one. one.row) turned) (count_by (λ one. one.is_new) turned)

rows_updated : (checks : Checks) (pair : Pair) (pairs : List Pair) → ArePairRows pairs → IsSmall pair
    → update_effect checks (holding (Some pairs)) (update pair) ≡ Ok (record { database = holding (Some (changed pair pairs)); count = Some (changes pair pairs) })
rows_updated checks pair pairs rows small =
    ap (λ sets. and_then sets (λ sets. and_then (tests_of scope (update pair).filter) (λ tests. and_then (each (turned_small load_schema tests sets) (map row pairs)) (turned_result checks pairs)))) (sets_bound pair small)
    ∙ ap (λ tests. and_then tests (λ tests. and_then (each (turned_small load_schema tests (assign pair.value ∷ [])) (map row pairs)) (turned_result checks pairs))) (tests_bound pair small)
    ∙ ap (λ turned. and_then turned (turned_result checks pairs)) (rows_turned pair pairs small)
    ∙ ap₂ (λ rows count. result_of checks (holding (Some pairs)) table_name (load_table pairs) rows count) (later_rows pair pairs) (later_new pair pairs)
    ∙ rows_result checks pairs (changed pair pairs) (changed pair pairs) (changes pair pairs) (rising_by_key (changed pair pairs) (rising_changed pair pairs rows.rising))
    (let long = length-map pairs (changed_one pair) in let few = rows.few in omega arith)

pub rows_are_changed : RowsAreChanged
unfolding worked write_effect
rows_are_changed session t head pair pairs own rows small =
    ap (λ own. write_worked own (write.Update (update pair))) own ∙ ap (changed_database (working head (Some pairs))) (rows_updated checks pair pairs rows small)

-- ---- INSERT

abbrev said : Pair → List Said
said pair = Worth kind.Int (meaning (constant pair.key)) ∷ Worth kind.Int (meaning (constant pair.value)) ∷ []

tuple_read : (pair : Pair) → IsSmall pair → tuple_said load_schema (0 ∷ 1 ∷ []) (entry.Value (number pair.key) ∷ entry.Value (number pair.value) ∷ []) ≡ Ok (said pair)
tuple_read pair small =
    let key : pair.key < 10000000 = small.key_small in
    let value : pair.value < 10000000 = let e = small.value_small in omega arith in
    rw (number_bound [] pair.key key, number_bound [] pair.value value) refl

row_made : (pair : Pair) → IsSmall pair → new_row load_schema (0 ∷ 1 ∷ []) (said pair) ≡ Ok (row pair)
row_made pair small =
    let key : pair.key < 10000000 = small.key_small in
    let value : pair.value < 10000000 = let e = small.value_small in omega arith in
    rw (given_number [] pair.key, given_number [] pair.value, kept_number (codes "id") true pair.key key, kept_number (codes "v") false pair.value value) refl

abbrev made_result : Checks → List Pair → List Cells → Outcome Effect
made_result checks pairs made = result_of checks (holding (Some pairs)) table_name (load_table pairs) (map row pairs ++ made) (length made)

row_inserted : (checks : Checks) (pair : Pair) (pairs : List Pair) → ArePairRows pairs → IsSmall pair → IsFree pair.key pairs → length pairs < 4000
    → insert_effect checks (holding (Some pairs)) (insert pair) ≡ Ok (record { database = holding (Some (put pair pairs)); count = Some 1 })
row_inserted checks pair pairs rows small free few =
    ap (λ read. and_then (and_then read (λ one. Ok (one ∷ []))) (λ told. and_then (each (new_row load_schema (0 ∷ 1 ∷ [])) told) (made_result checks pairs))) (tuple_read pair small)
    ∙ ap (λ made. and_then (and_then made (λ one. Ok (one ∷ []))) (made_result checks pairs)) (row_made pair small)
    ∙ ap (λ rows. result_of checks (holding (Some pairs)) table_name (load_table pairs) rows 1) (rows_more pairs pair)
    ∙ rows_result checks pairs (pairs ++ pair ∷ []) (put pair pairs) 1 (more_by_key pairs pair rows.rising free) (let long = put_length pair pairs in omega arith)

pub rows_are_inserted : RowsAreInserted
unfolding worked write_effect
rows_are_inserted session t head pair pairs own rows small free few =
    ap (λ own. write_worked own (write.Insert (insert pair))) own ∙ ap (changed_database (working head (Some pairs))) (row_inserted checks pair pairs rows small free few)
