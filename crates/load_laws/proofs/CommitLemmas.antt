-- What a COMMIT makes of the rows of two.
use Rattle.std.proofs.Common.{◌≡◌, ◌≤◌, ℕ, Bool, true, false, not, ◌&&◌, ◌||◌, List, [], ◌∷◌, ◌++◌, map, length, nat_le, codes, filter, Option, None, Some, Result, Ok, Err, refl, sym, ap, ◌∙◌, arith}
use Rattle.std.specs.Prelude.{bytes_eq, if◌then◌else◌}
use Rattle.std.specs.List.{list_all}
use Rattle.std.specs.Option.{option_map}
use Rattle.std.proofs.lemmas.Bool.{and_from, and_parts, cond-false, le-leb, not_from_true, or_from}
use Rattle.std.proofs.lemmas.List.{length-map}
use Rattle.tuple_codec.specs.RowRule.{same_option}
use Rattle.schema_model.specs.Limits.{is_database_within_limits, is_row_within_limits, is_table_within_limits, is_within_limits, most_rows}
use Rattle.schema_model.specs.PlainTables.{PlainDatabase, Violation, violation_cmp}
use Rattle.schema_model.specs.Sameness.{is_same_database, is_same_option, is_same_table}
use Rattle.expr_eval.specs.Binding.{and_then}
use Rattle.plain_sql.specs.Lists.{in_order}
use Rattle.schema_merge.specs.RootMerge.{MergedDatabase, SchemaConflict, either_table, or_by_rows, root3, step, unmerged}
use Rattle.schema_merge.specs.RootMerge as roots
use Rattle.plain_writes.specs.Violations.{breaks_not_null, violation, violations_in}
use Rattle.plain_writes.specs.CheckTexts.{checks}
use Rattle.plain_sessions.specs.CommitRule as rule
use Rattle.plain_sessions.specs.CommitRule.{both_merged, candidate, decide, is_unsettled, judged, recorded, without_conflicts}
use Rattle.plain_sessions.specs.Records.{BranchState, is_same_state}
use Rattle.workload.specs.declared.steps.Pair.{Pair}
use Rattle.load_laws.specs.Loaded.{load_schema, load_table, row}
use Rattle.load_laws.specs.Parts.{MeetsAt, MeetsPairs, RowsMeet}
use Rattle.load_laws.specs.Parts.MeetsAt.{OwnMoved, OwnStayed}
use Rattle.load_laws.specs.Steps.{table_name}
use Rattle.load_laws.specs.Tables.{holding, rows_in, value_at, working}
use Rattle.load_laws.proofs.CommitMerge.{AllMeet, same_tables, tables_meet}
use Rattle.load_laws.proofs.CommitRows.{same_pairs}
use Rattle.load_laws.proofs.StatementLemmas.{none_null}

-- ---- whole lists that are the same

all_meet : (start present : Option (List Pair)) (own result : List Pair) → MeetsPairs start present own result → AllMeet (rows_in start) (rows_in present) own result
all_meet start present own result m =
    record { start_up = m.start_rows.rising; present_up = m.present_rows.rising; own_up = m.own_rows.rising; result_up = m.result_rows.rising; meets = m.at_keys }

-- where the present rows are those of the start, the result is the own rows
own_is : (start present own result : List Pair) → AllMeet start present own result → present ≡ start → own ≡ result
own_is start present own result all same = same_pairs own result all.own_up all.result_up (λ key. by key (all.meets key)) where
  by : (key : ℕ) → MeetsAt key start present own result → value_at key own ≡ value_at key result
  by key (OwnMoved stays moves) = sym moves
  by key (OwnStayed stays moves) = stays ∙ ap (value_at key) (sym same) ∙ sym moves

-- where the own rows are those of the start, it is the present ones
present_is : (start present own result : List Pair) → AllMeet start present own result → own ≡ start → present ≡ result
present_is start present own result all same = same_pairs present result all.present_up all.result_up (λ key. by key (all.meets key)) where
  by : (key : ℕ) → MeetsAt key start present own result → value_at key present ≡ value_at key result
  by key (OwnMoved stays moves) = stays ∙ ap (value_at key) (sym same) ∙ sym moves
  by key (OwnStayed stays moves) = sym moves

-- where both are the same, it is those
both_are : (start present own result : List Pair) → AllMeet start present own result → present ≡ own → present ≡ result
both_are start present own result all same = same_pairs present result all.present_up all.result_up (λ key. by key (all.meets key)) where
  by : (key : ℕ) → MeetsAt key start present own result → value_at key present ≡ value_at key result
  by key (OwnMoved stays moves) = ap (value_at key) same ∙ sym moves
  by key (OwnStayed stays moves) = sym moves

-- ---- the merged table

same_as : (start : Option (List Pair)) (side : List Pair) → same_option is_same_table (Some (load_table side)) (option_map load_table start) ≡ true → side ≡ rows_in start
same_as None side e = absurd cc
same_as (Some start) side e = same_tables side start e

either_is : (start : Option (List Pair)) (present own result : List Pair) → AllMeet (rows_in start) present own result
    → either_table (option_map load_table start) (Some (load_table present)) (Some (load_table own)) ≡ Ok (unmerged (Some (load_table result)))
either_is start present own result all =
    by (same_option is_same_table (Some (load_table own)) (option_map load_table start)) refl
    (same_option is_same_table (Some (load_table present)) (option_map load_table start)) refl
    (is_same_table (load_table present) (load_table own)) refl where
      by : (a : Bool) → same_option is_same_table (Some (load_table own)) (option_map load_table start) ≡ a
          → (b : Bool) → same_option is_same_table (Some (load_table present)) (option_map load_table start) ≡ b
          → (c : Bool) → is_same_table (load_table present) (load_table own) ≡ c
          → or_by_rows (if a then Some (Some (load_table present)) else (if b then Some (Some (load_table own)) else (if c then Some (Some (load_table present)) else None)))
          (option_map load_table start) (Some (load_table present)) (Some (load_table own))
          ≡ Ok (unmerged (Some (load_table result)))
      by true e b f c g = ap (λ pairs. Ok (unmerged (Some (load_table pairs)))) (present_is (rows_in start) present own result all (same_as start own e))
      by false e true f c g = ap (λ pairs. Ok (unmerged (Some (load_table pairs)))) (own_is (rows_in start) present own result all (same_as start present f))
      by false e false f true g = ap (λ pairs. Ok (unmerged (Some (load_table pairs)))) (both_are (rows_in start) present own result all (same_tables present own g))
      by false e false f false g = ap roots.merged (tables_meet start present own result all)

abbrev whole : List Pair → MergedDatabase
whole pairs = record { database = holding (Some pairs); conflicts = 0 }

abbrev no_others : Result MergedDatabase SchemaConflict
no_others = Ok (record { database = []; conflicts = 0 })

root_is : (start present : Option (List Pair)) (own result : List Pair) → MeetsPairs start present own result → root3 (holding start) (holding present) (holding (Some own)) ≡ Ok (whole result)
unfolding root3
root_is None None own result m = ap (λ pairs. Ok (whole pairs)) (own_is [] [] own result (all_meet None None own result m) refl)
root_is None (Some present) own result m = ap (λ one. step table_name one no_others) (either_is None present own result (all_meet None (Some present) own result m))
root_is (Some start) None own result m = absurd (m.stays (λ e. absurd cc) refl)
root_is (Some start) (Some present) own result m = ap (λ one. step table_name one no_others) (either_is (Some start) present own result (all_meet (Some start) (Some present) own result m))

empty_root : root3 [] [] [] ≡ no_others
unfolding root3
empty_root = refl

-- ---- limits, and violations recorded anew

rows_within : (pairs : List Pair) → list_all (is_row_within_limits load_schema) (map row pairs) ≡ true
rows_within [] = refl
rows_within (pair ∷ pairs) = and_from (is_row_within_limits load_schema (row pair)) (list_all (is_row_within_limits load_schema) (map row pairs)) refl (rows_within pairs)

few_rows : (count : ℕ) → count ≤ 4000 → count ≤ 10000000
few_rows count few = omega (arith, few)

is_within : (pairs : List Pair) → length pairs ≤ 4000 → is_database_within_limits (holding (Some pairs)) ≡ true
is_within pairs few =
    let rows = map row pairs in
    let schema = is_within_limits load_schema in
    let number = nat_le (length rows) most_rows in
    let each = list_all (is_row_within_limits load_schema) rows in
    let count : length rows ≤ 4000 = omega (arith, few, length-map pairs row) in
    let table =
    and_from (schema && number && each && true) true
    (and_from (schema && number && each) true
    (and_from (schema && number) each (and_from schema number refl (le-leb (length rows) most_rows (few_rows (length rows) count))) (rows_within pairs)) refl) refl in
    and_from (is_table_within_limits (load_table pairs)) true table refl

none_broken : (database : PlainDatabase) (pairs : List Pair) → violations_in checks database table_name load_schema (map row pairs) ≡ []
none_broken database pairs = ap (λ rows. in_order violation_cmp (map (violation load_schema 4 (codes "id")) rows ++ [])) (none_null pairs)

abbrev with_these : List Pair → List Violation → PlainDatabase
with_these pairs found = record { name = table_name; table = record { schema = load_schema; rows = map row pairs; conflicts = []; violations = found } } ∷ []

recorded_is : (pairs : List Pair) → recorded (holding (Some pairs)) ≡ holding (Some pairs)
unfolding recorded
recorded_is pairs = ap (with_these pairs) (none_broken (holding (Some pairs)) pairs)

-- ---- the rule

settled : (head : List ℕ) (found : Option (List Pair)) → is_unsettled (working head found) ≡ false
settled head None = refl
settled head (Some pairs) = refl

abbrev state_with : List ℕ → PlainDatabase → BranchState
state_with head database = record { head = head; working = database; staged = []; merging = None }

both_is : (head : List ℕ) (present : Option (List Pair)) (pairs : List Pair) → length pairs ≤ 4000
    → both_merged (working head present) (holding (Some pairs)) [] ≡ Ok (working head (Some pairs))
both_is head present pairs few =
    cond-false (not (is_database_within_limits (holding (Some pairs)) && is_database_within_limits [])) (Err 9010) (Ok (state_with head (recorded (holding (Some pairs)))))
    (not_from_true (is_database_within_limits (holding (Some pairs)) && is_database_within_limits [])
    (and_from (is_database_within_limits (holding (Some pairs))) (is_database_within_limits []) (is_within pairs few) refl))
    ∙ ap (λ database. Ok (state_with head database)) (recorded_is pairs)

merged_is : (head : List ℕ) (start present : Option (List Pair)) (own result : List Pair) → MeetsPairs start present own result
    → rule.merged (working head start) (working head present) (working head (Some own)) ≡ Ok (working head (Some result))
merged_is head start present own result m =
    cond-false (is_unsettled (working head present) || is_unsettled (working head start) || is_unsettled (working head (Some own))) (Err 1213)
    (and_then (without_conflicts (root3 (holding start) (holding present) (holding (Some own)))) (λ database.
    and_then (without_conflicts (root3 [] [] [])) (λ staged. both_merged (working head present) database staged)))
    (or_from (is_unsettled (working head present) || is_unsettled (working head start)) (is_unsettled (working head (Some own)))
    (or_from (is_unsettled (working head present)) (is_unsettled (working head start)) (settled head present) (settled head start)) (settled head (Some own)))
    ∙ ap (λ root. and_then (without_conflicts root) (λ database.
    and_then (without_conflicts (root3 [] [] [])) (λ staged. both_merged (working head present) database staged))) (root_is start present own result m)
    ∙ ap (λ root. and_then (without_conflicts root) (λ staged. both_merged (working head present) (holding (Some result)) staged)) empty_root
    ∙ both_is head present result m.result_rows.few

same_held : (present start : Option (List Pair)) → is_same_database (holding present) (holding start) ≡ true → rows_in present ≡ rows_in start
unfolding is_same_database
same_held None None e = refl
same_held None (Some start) e = absurd cc
same_held (Some present) None e = absurd cc
same_held (Some present) (Some start) e =
    let one = and_parts (bytes_eq table_name table_name && is_same_table (load_table present) (load_table start)) true e in
    same_tables present start (and_parts (bytes_eq table_name table_name) (is_same_table (load_table present) (load_table start)) one.0).1

same_rows : (head : List ℕ) (present start : Option (List Pair)) → is_same_state (working head present) (working head start) ≡ true → rows_in present ≡ rows_in start
unfolding is_same_state
same_rows head present start e =
    let heads = bytes_eq head head in
    let databases = is_same_database (holding present) (holding start) in
    let staged = is_same_database [] [] in
    let first = and_parts (heads && databases && staged) (is_same_option bytes_eq None None) e in
    let second = and_parts (heads && databases) staged first.0 in
    same_held present start (and_parts heads databases second.0).1

candidate_is : (head : List ℕ) (start present : Option (List Pair)) (own result : List Pair) → MeetsPairs start present own result
    → candidate (working head start) (working head present) (working head (Some own)) ≡ Ok (working head (Some result))
candidate_is head start present own result m = by (is_same_state (working head present) (working head start)) refl where
  by : (b : Bool) → is_same_state (working head present) (working head start) ≡ b
      → (if b then Ok (working head (Some own)) else rule.merged (working head start) (working head present) (working head (Some own))) ≡ Ok (working head (Some result))
  by true e =
      ap (λ pairs. Ok (working head (Some pairs))) (own_is (rows_in start) (rows_in present) own result (all_meet start present own result m) (same_rows head present start e))
  by false e = merged_is head start present own result m

pub rows_meet : RowsMeet
unfolding decide
rows_meet head start present own result variables m = ap (λ made. and_then made (judged variables)) (candidate_is head start present own result m)
