-- The workload's table merged key by key, where at each key one side alone moved.
use Rattle.std.proofs.Common.{◌≡◌, ℕ, ◌==◌, pos, Bool, true, false, cond, ltb, ◌&&◌, List, [], ◌∷◌, map, Option, None, Some, Ok, refl, sym, ap, ◌∙◌, arith}
use Rattle.std.specs.Prelude.{if◌then◌else◌}
use Rattle.std.specs.Option.{option_map}
use Rattle.std.specs.Ordering.{nat_cmp, int_cmp, is_eq, match_ordering}
use Rattle.std.specs.Cmp.Lexicographic.{pointwise, pointwise_decides}
use Rattle.std.specs.declared.cmp.Ordering.{Ordering}
use Rattle.std.specs.declared.cmp.Ordering.TheVariants.{Less, Equal, Greater}
use Rattle.std.proofs.lemmas.Bool.{and_parts, eqb-false, eqb-true, ltb-false, ltb-true}
use Rattle.tuple_codec.proofs.Orderings.{then_equal}
use Rattle.tuple_codec.specs.RowRule.{or_by_cells, row3, same_option}
use Rattle.tuple_codec.specs.Rows.{Cells, key_cmp, same_cells}
use Rattle.tuple_codec.specs.declared.values.Value.TheVariants as cell
use Rattle.tuple_codec.proofs.Orders.{cells_told}
use Rattle.schema_model.specs.PlainTables.{Conflict, PlainTable, primary_key}
use Rattle.schema_model.specs.Sameness.{is_same_schema, is_same_table}
use Rattle.schema_merge.specs.Merging.{and_then, schema3}
use Rattle.schema_merge.specs.Parts.{moved_place}
use Rattle.schema_merge.specs.Projecting.{projected}
use Rattle.schema_merge.specs.KeyByKey.{all_keys, before, gathered, kept, key_among, keys_with}
use Rattle.schema_merge.specs.TableMerge.{Three, answer_at, conflict_at, conflict_if, keys_of, row_after, row_at, sides_at, table3, table_of, three_on}
use Rattle.table_merge.proofs.LookLemmas.{row3_kept}
use Rattle.workload.specs.declared.steps.Pair.{Pair}
use Rattle.load_laws.specs.Loaded.{load_schema, load_table, row}
use Rattle.load_laws.specs.Parts.{MeetsAt}
use Rattle.load_laws.specs.Parts.MeetsAt.{OwnMoved, OwnStayed}
use Rattle.load_laws.specs.Tables.{PairsRise, rows_in, value_at}
use Rattle.load_laws.proofs.CommitRows.{keys_of_three, pair_at, pair_keys, pairs_gathered}
use Rattle.load_laws.proofs.StatementCells.{is_eq_nat}

-- ---- keys as cells

abbrev cells_of : ℕ → Cells
cells_of key = cell.Int (pos key) ∷ []

int_nat : (a b : ℕ) → cond (ltb a b) Less (cond (ltb b a) Greater Equal) ≡ nat_cmp a b
int_nat a b = by (ltb a b) refl (ltb b a) refl (a == b) refl where
  by : (p : Bool) → ltb a b ≡ p → (q : Bool) → ltb b a ≡ q → (r : Bool) → (a == b) ≡ r → cond p Less (cond q Greater Equal) ≡ cond p Less (cond r Equal Greater)
  by true e q f r g = refl
  by false e true f true g = absurd (omega (arith, ltb-true b a f, eqb-true a b g))
  by false e true f false g = refl
  by false e false f true g = refl
  by false e false f false g = absurd (eqb-false a b g (omega (arith, ltb-false a b e, ltb-false b a f)))

cells_cmp : (a b : ℕ) → key_cmp (cells_of a) (cells_of b) ≡ nat_cmp a b
cells_cmp a b = then_equal (int_cmp (pos a) (pos b)) ∙ int_nat a b

same_key : (a b : ℕ) → same_cells (cells_of a) (cells_of b) ≡ (a == b)
same_key a b = ap is_eq (cells_cmp a b) ∙ is_eq_nat a b

keys_shown : (pairs : List Pair) → map (primary_key load_schema) (map row pairs) ≡ map cells_of (pair_keys pairs)
keys_shown [] = refl
keys_shown (pair ∷ pairs) = ap (λ keys. cells_of pair.key ∷ keys) (keys_shown pairs)

among_cells : (key : ℕ) (keys : List ℕ)
    → ((others : List ℕ) → keys_with key_cmp (map cells_of keys) (map cells_of others) ≡ map cells_of (keys_with nat_cmp keys others))
    → (others : List ℕ)
    → key_among key_cmp (cells_of key) (keys_with key_cmp (map cells_of keys)) (map cells_of others) ≡ map cells_of (key_among nat_cmp key (keys_with nat_cmp keys) others)
among_cells key keys go [] = ap (λ more. cells_of key ∷ more) (go [])
among_cells key keys go (other ∷ others) =
    ap (λ o. match_ordering o (cells_of other ∷ key_among key_cmp (cells_of key) (keys_with key_cmp (map cells_of keys)) (map cells_of others))
    (cells_of key ∷ keys_with key_cmp (map cells_of keys) (map cells_of others)) (cells_of key ∷ keys_with key_cmp (map cells_of keys) (map cells_of (other ∷ others))))
    (cells_cmp other key)
    ∙ by (nat_cmp other key) (among_cells key keys go others) where
      by : (o : Ordering)
          → key_among key_cmp (cells_of key) (keys_with key_cmp (map cells_of keys)) (map cells_of others) ≡ map cells_of (key_among nat_cmp key (keys_with nat_cmp keys) others)
          → match_ordering o (cells_of other ∷ key_among key_cmp (cells_of key) (keys_with key_cmp (map cells_of keys)) (map cells_of others))
          (cells_of key ∷ keys_with key_cmp (map cells_of keys) (map cells_of others)) (cells_of key ∷ keys_with key_cmp (map cells_of keys) (map cells_of (other ∷ others)))
          ≡ map cells_of (match_ordering o (other ∷ key_among nat_cmp key (keys_with nat_cmp keys) others) (key ∷ keys_with nat_cmp keys others) (key ∷ keys_with nat_cmp keys (other ∷ others)))
      by Less more = ap (λ found. cells_of other ∷ found) more
      by Equal more = ap (λ found. cells_of key ∷ found) (go others)
      by Greater more = ap (λ found. cells_of key ∷ found) (go (other ∷ others))

with_cells : (keys others : List ℕ) → keys_with key_cmp (map cells_of keys) (map cells_of others) ≡ map cells_of (keys_with nat_cmp keys others)
with_cells [] others = refl
with_cells (key ∷ keys) others = among_cells key keys (with_cells keys) others

-- ---- the three lists of rows

abbrev three : List Pair → List Pair → List Pair → Three
three start present own = record { base = map row start; ours = map row present; theirs = map row own }

all_cells : (start present own : List Pair) → keys_of load_schema (three start present own) ≡ map cells_of (keys_of_three start present own)
all_cells start present own =
    (λ i. all_keys key_cmp (keys_shown start i) (keys_shown present i) (keys_shown own i))
    ∙ ap (keys_with key_cmp (map cells_of (pair_keys start))) (with_cells (pair_keys present) (pair_keys own))
    ∙ with_cells (pair_keys start) (keys_with nat_cmp (pair_keys present) (pair_keys own))

projected_rows : (pairs : List Pair) → map (projected load_schema load_schema) (map row pairs) ≡ map row pairs
projected_rows [] = refl
projected_rows (pair ∷ pairs) = ap (λ rows. row pair ∷ rows) (projected_rows pairs)

three_is : (start : Option (List Pair)) (present own : List Pair)
    → three_on load_schema (option_map load_table start) (load_table present) (load_table own) ≡ three (rows_in start) present own
three_is None present own = λ i. record { base = []; ours = projected_rows present i; theirs = projected_rows own i }
three_is (Some start) present own = λ i. record { base = projected_rows start i; ours = projected_rows present i; theirs = projected_rows own i }

-- ---- the row of a key

abbrev row_if : ℕ → Option ℕ → Option Cells
row_if key found = option_map (λ value. row (record { key = key; value = value })) found

found_next : (key : ℕ) (pair : Pair) (pairs : List Pair) → row_at load_schema (cells_of key) (map row pairs) ≡ row_if key (value_at key pairs)
    → row_at load_schema (cells_of key) (map row (pair ∷ pairs)) ≡ row_if key (value_at key (pair ∷ pairs))
found_next key pair pairs more =
    ap (λ b. if b then Some (row pair) else row_at load_schema (cells_of key) (map row pairs)) (same_key pair.key key) ∙ by (pair.key == key) refl where
      by : (b : Bool) → (pair.key == key) ≡ b
          → (if b then Some (row pair) else row_at load_schema (cells_of key) (map row pairs)) ≡ row_if key (if b then Some pair.value else value_at key pairs)
      by true e = ap (λ k. Some (row (record { key = k; value = pair.value }))) (eqb-true pair.key key e)
      by false e = more

row_found : (key : ℕ) (pairs : List Pair) → row_at load_schema (cells_of key) (map row pairs) ≡ row_if key (value_at key pairs)
row_found key [] = refl
row_found key (pair ∷ pairs) = found_next key pair pairs (row_found key pairs)

row_pair : (key : ℕ) (found : Option ℕ) → row_if key found ≡ option_map row (option_map (λ value. record { key = key; value = value }) found)
row_pair key None = refl
row_pair key (Some value) = refl

-- ---- the row rule where one side stayed

same_itself : (side : Option Cells) → same_option same_cells side side ≡ true
same_itself None = refl
same_itself (Some cells) = (cells_told cells cells).1 refl

same_side : (a b : Option Cells) → same_option same_cells a b ≡ true → a ≡ b
same_side None None e = refl
same_side None (Some b) e = absurd cc
same_side (Some a) None e = absurd cc
same_side (Some a) (Some b) e = ap Some ((cells_told a b).0 e)

ours_stayed : (base theirs : Option Cells) → row3 base base theirs ≡ Some theirs
unfolding row3
ours_stayed base theirs =
    ap (λ b. or_by_cells (if same_option same_cells theirs base then Some base else (if b then Some theirs else (if same_option same_cells base theirs then Some base else None))) base base theirs)
    (same_itself base)
    ∙ by (same_option same_cells theirs base) refl where
      by : (t : Bool) → same_option same_cells theirs base ≡ t
          → or_by_cells (if t then Some base else (if true then Some theirs else (if same_option same_cells base theirs then Some base else None))) base base theirs ≡ Some theirs
      by true e = ap Some (sym (same_side theirs base e))
      by false e = refl

answer_is : (key : ℕ) (start present own result : List Pair) → MeetsAt key start present own result
    → answer_at load_schema (three start present own) (cells_of key) ≡ Some (row_if key (value_at key result))
answer_is key start present own result meets =
    (λ i. row3 (row_found key start i) (row_found key present i) (row_found key own i)) ∙ by meets where
      by : MeetsAt key start present own result
          → row3 (row_if key (value_at key start)) (row_if key (value_at key present)) (row_if key (value_at key own)) ≡ Some (row_if key (value_at key result))
      by (OwnMoved stays moves) =
          ap (λ found. row3 (row_if key (value_at key start)) (row_if key found) (row_if key (value_at key own))) stays
          ∙ ours_stayed (row_if key (value_at key start)) (row_if key (value_at key own))
          ∙ ap (λ found. Some (row_if key found)) (sym moves)
      by (OwnStayed stays moves) =
          ap (λ found. row3 (row_if key (value_at key start)) (row_if key (value_at key present)) (row_if key found)) stays
          ∙ row3_kept (row_if key (value_at key start)) (row_if key (value_at key present))
          ∙ ap (λ found. Some (row_if key found)) (sym moves)

-- ---- what is gathered

gathered_same : {K A : Type 0} (f g : K → Option A) → ((key : K) → f key ≡ g key) → (keys : List K) → gathered f keys ≡ gathered g keys
gathered_same f g e [] = refl
gathered_same f g e (key ∷ keys) = λ i. before (e key i) (gathered_same f g e keys i)

gathered_mapped : {J K A : Type 0} (f : K → Option A) (h : J → K) (keys : List J) → gathered f (map h keys) ≡ gathered (λ key. f (h key)) keys
gathered_mapped f h [] = refl
gathered_mapped f h (key ∷ keys) = ap (before (f (h key))) (gathered_mapped f h keys)

gathered_none : {K A : Type 0} (f : K → Option A) → ((key : K) → f key ≡ None) → (keys : List K) → gathered f keys ≡ []
gathered_none f e [] = refl
gathered_none f e (key ∷ keys) = λ i. before (e key i) (gathered_none f e keys i)

gathered_rows : (f : ℕ → Option Pair) (keys : List ℕ) → gathered (λ key. option_map row (f key)) keys ≡ map row (gathered f keys)
gathered_rows f [] = refl
gathered_rows f (key ∷ keys) = by (f key) (gathered_rows f keys) where
  by : (found : Option Pair) → gathered (λ key. option_map row (f key)) keys ≡ map row (gathered f keys)
      → before (option_map row found) (gathered (λ key. option_map row (f key)) keys) ≡ map row (before found (gathered f keys))
  by None more = more
  by (Some pair) more = ap (λ rows. row pair ∷ rows) more

-- ---- the merged table

-- lists that meet key by key
pub record AllMeet (start present own result : List Pair) : Type 0 where
  pub start_up : PairsRise start
  pub present_up : PairsRise present
  pub own_up : PairsRise own
  pub result_up : PairsRise result
  pub meets : (key : ℕ) → MeetsAt key start present own result

none_inside : (key : ℕ) (start present own result : List Pair) → MeetsAt key start present own result → value_at key present ≡ None → value_at key own ≡ None → value_at key result ≡ None
none_inside key start present own result (OwnMoved stays moves) one two = moves ∙ two
none_inside key start present own result (OwnStayed stays moves) one two = moves ∙ one

merged_rows : (start present own result : List Pair) → AllMeet start present own result
    → gathered (row_after load_schema (three start present own)) (keys_of load_schema (three start present own)) ≡ map row result
merged_rows start present own result all =
    let find = row_after load_schema (three start present own) in
    let keys = keys_of_three start present own in
    ap (gathered find) (all_cells start present own)
    ∙ gathered_mapped find cells_of keys
    ∙ gathered_same (λ key. find (cells_of key)) (λ key. option_map row (pair_at (λ k. value_at k result) key))
    (λ key. ap (kept (row_at load_schema (cells_of key) (map row present))) (answer_is key start present own result (all.meets key)) ∙ row_pair key (value_at key result)) keys
    ∙ gathered_rows (pair_at (λ k. value_at k result)) keys
    ∙ ap (map row) (pairs_gathered start present own result all.start_up all.present_up all.own_up all.result_up
    (λ key zero one two. none_inside key start present own result (all.meets key) one two))

no_conflicts : (start present own result : List Pair) → AllMeet start present own result
    → gathered (conflict_at load_schema (three start present own)) (keys_of load_schema (three start present own)) ≡ []
no_conflicts start present own result all =
    let find = conflict_at load_schema (three start present own) in
    let keys = keys_of_three start present own in
    ap (gathered find) (all_cells start present own)
    ∙ gathered_mapped find cells_of keys
    ∙ gathered_none (λ key. find (cells_of key))
    (λ key. ap (conflict_if (sides_at load_schema (three start present own) (cells_of key))) (answer_is key start present own result (all.meets key))) keys

abbrev made : List Cells → List Conflict → PlainTable
made rows conflicts = record { schema = load_schema; rows = rows; conflicts = conflicts; violations = [] }

table_is : (start present own result : List Pair) → AllMeet start present own result → table_of load_schema (three start present own) ≡ load_table result
table_is start present own result all =
    ap (λ rows. made rows (gathered (conflict_at load_schema (three start present own)) (keys_of load_schema (three start present own)))) (merged_rows start present own result all)
    ∙ ap (made (map row result)) (no_conflicts start present own result all)

schema_kept : (start : Option (List Pair)) → schema3 (option_map (λ table. table.schema) (option_map load_table start)) load_schema load_schema ≡ Ok load_schema
unfolding schema3 moved_place
schema_kept None = refl
schema_kept (Some start) = refl

pub tables_meet : (start : Option (List Pair)) (present own result : List Pair) → AllMeet (rows_in start) present own result
    → table3 (option_map load_table start) (load_table present) (load_table own) ≡ Ok (load_table result)
unfolding table3
tables_meet start present own result all =
    ap (λ schema. and_then schema (λ schema. Ok (table_of schema (three_on schema (option_map load_table start) (load_table present) (load_table own))))) (schema_kept start)
    ∙ ap (λ rows. Ok (table_of load_schema rows)) (three_is start present own)
    ∙ ap Ok (table_is (rows_in start) present own result all)

-- ---- tables that are the same

pair_of : Cells → Pair
pair_of (cell.Int (pos key) ∷ cell.Int (pos value) ∷ []) = record { key = key; value = value }
pair_of cells = record { key = 0; value = 0 }

shown_back : (pairs : List Pair) → map pair_of (map row pairs) ≡ pairs
unfolding pair_of
shown_back [] = refl
shown_back (pair ∷ pairs) = ap (λ more. pair ∷ more) (shown_back pairs)

pub same_tables : (a b : List Pair) → is_same_table (load_table a) (load_table b) ≡ true → a ≡ b
same_tables a b e =
    let first = and_parts (is_same_schema load_schema load_schema && pointwise same_cells (map row a) (map row b) && true) true e in
    let second = and_parts (is_same_schema load_schema load_schema && pointwise same_cells (map row a) (map row b)) true first.0 in
    let third = and_parts (is_same_schema load_schema load_schema) (pointwise same_cells (map row a) (map row b)) second.0 in
    sym (shown_back a) ∙ ap (map pair_of) ((pointwise_decides cells_told (map row a) (map row b)).0 third.1) ∙ shown_back b
