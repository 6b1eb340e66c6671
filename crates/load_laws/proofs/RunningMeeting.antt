-- What a session's COMMIT finds: rows of its own that the start hadn't, beside rows that others wrote since.
use Rattle.std.proofs.Common.{◌≡◌, ◌≢◌, refl, sym, ◌∙◌, subst, ℕ, ◌+◌, ◌*◌, ◌<◌, ◌≤◌, Bool, true, false, ◌&&◌, List, [], length, map, Option, Some, None, inl, inr, ◌⊎◌, arith, bytes_eq}
use Rattle.std.specs.Cmp.Lexicographic.{as_long, pointwise}
use Rattle.std.proofs.lemmas.List.{length-map}
use Rattle.std.proofs.lemmas.Bool.{cases_Bool, cases_lt}
use Rattle.tuple_codec.specs.Rows.{same_cells}
use Rattle.schema_model.specs.Sameness.{is_same_conflict, is_same_database, is_same_option, is_same_schema, is_same_violation}
use Rattle.plain_sessions.specs.Records.{is_same_state}
use Rattle.workload.specs.declared.steps.Pair.{Pair}
use Rattle.load_laws.specs.Batches.{IsOwn}
use Rattle.load_laws.specs.Loaded.{load_schema, row}
use Rattle.load_laws.specs.Parts.{MeetsAt, MeetsPairs, OwnMoved, OwnStayed}
use Rattle.load_laws.specs.Steps.{table_name}
use Rattle.load_laws.specs.Tables.{ArePairRows, IsFree, holding, rows_in, working}
use Rattle.load_laws.proofs.RunningRows.{AreBlocks, IsBlock, all_so, block_elsewhere, block_here, blocks_with, value_other, value_own, whole, whole_rows, with_block}

-- ---- at each key

-- a key that is none of this session's
outside : (key place : ℕ) (block : List Pair) → (key < 1000000 * place) ⊎ (1000000 * place + 1000000 ≤ key) → IsBlock place block → IsFree key block
outside key place block out is = all_so (IsOwn place) (λ (pair : Pair). pair.key ≢ key) (apart out) block is.own where
  apart : (key < 1000000 * place) ⊎ (1000000 * place + 1000000 ≤ key) → (pair : Pair) → IsOwn place pair → pair.key ≢ key
  apart (inl low) pair own = let from : 1000000 * place ≤ pair.key = own.from in omega arith
  apart (inr high) pair own = let to : pair.key < 1000000 * place + 1000000 = own.to in omega arith

key_side : (key place : ℕ) → ((1000000 * place ≤ key) × (key < 1000000 * place + 1000000)) ⊎ ((key < 1000000 * place) ⊎ (1000000 * place + 1000000 ≤ key))
key_side key place = by (cases_lt key (1000000 * place)) (cases_lt key (1000000 * place + 1000000)) where
  by : (key < 1000000 * place) ⊎ (1000000 * place ≤ key) → (key < 1000000 * place + 1000000) ⊎ (1000000 * place + 1000000 ≤ key)
      → ((1000000 * place ≤ key) × (key < 1000000 * place + 1000000)) ⊎ ((key < 1000000 * place) ⊎ (1000000 * place + 1000000 ≤ key))
  by (inl low) other = inr (inl low)
  by (inr least) (inl most) = inl (least, most)
  by (inr least) (inr high) = inr (inr high)

module _ (place : ℕ) (block : List Pair) (start present : ℕ → List Pair) (starts : AreBlocks start) (presents : AreBlocks present) (is : IsBlock place block) (same : present place ≡ start place) where
  own_key : (key : ℕ) → 1000000 * place ≤ key → key < 1000000 * place + 1000000
      → MeetsAt key (whole start 0 8) (whole present 0 8) (whole (with_block place block start) 0 8) (whole (with_block place block present) 0 8)
  own_key key least most =
      OwnMoved (value_own key place present start 0 8 presents starts same least most)
      (value_own key place (with_block place block present) (with_block place block start) 0 8 (blocks_with place block present is presents) (blocks_with place block start is starts)
      (block_here place block present ∙ sym (block_here place block start)) least most)

  other_key : (key : ℕ) → (key < 1000000 * place) ⊎ (1000000 * place + 1000000 ≤ key)
      → MeetsAt key (whole start 0 8) (whole present 0 8) (whole (with_block place block start) 0 8) (whole (with_block place block present) 0 8)
  other_key key out =
      OwnStayed
      (value_other key place (with_block place block start) start 0 8 (λ p apart. block_elsewhere place p block start apart)
      (subst (IsFree key) (sym (block_here place block start)) (outside key place block out is)) (outside key place (start place) out (starts place)))
      (value_other key place (with_block place block present) present 0 8 (λ p apart. block_elsewhere place p block present apart)
      (subst (IsFree key) (sym (block_here place block present)) (outside key place block out is)) (outside key place (present place) out (presents place)))

  at_key : (key : ℕ) → MeetsAt key (whole start 0 8) (whole present 0 8) (whole (with_block place block start) 0 8) (whole (with_block place block present) 0 8)
  at_key key = by (key_side key place) where
    by : ((1000000 * place ≤ key) × (key < 1000000 * place + 1000000)) ⊎ ((key < 1000000 * place) ⊎ (1000000 * place + 1000000 ≤ key))
        → MeetsAt key (whole start 0 8) (whole present 0 8) (whole (with_block place block start) 0 8) (whole (with_block place block present) 0 8)
    by (inl within) = own_key key within.0 within.1
    by (inr out) = other_key key out

  pub they_meet : (started found : Option (List Pair)) → rows_in started ≡ whole start 0 8 → rows_in found ≡ whole present 0 8 → (started ≢ None → found ≢ None)
      → MeetsPairs started found (whole (with_block place block start) 0 8) (whole (with_block place block present) 0 8)
  they_meet started found start_is present_is stays = record {
    stays = stays;
    start_rows = subst ArePairRows (sym start_is) (whole_rows start starts);
    present_rows = subst ArePairRows (sym present_is) (whole_rows present presents);
    own_rows = whole_rows (with_block place block start) (blocks_with place block start is starts);
    result_rows = whole_rows (with_block place block present) (blocks_with place block present is presents);
    at_keys = λ key.
        subst (λ rows. MeetsAt key rows (rows_in found) (whole (with_block place block start) 0 8) (whole (with_block place block present) 0 8)) (sym start_is)
        (subst (λ rows. MeetsAt key (whole start 0 8) rows (whole (with_block place block start) 0 8) (whole (with_block place block present) 0 8)) (sym present_is) (at_key key));
  }

-- ---- a session that wrote rows is changed

second_so : (a b c d : Bool) → (a && b && c && d) ≡ true → b ≡ true
second_so true true c d h = refl
second_so true false c d h = absurd (cc)
second_so false b c d h = absurd (cc)

rows_so : (name schema rows conflicts violations : Bool) → (name && (schema && rows && conflicts && violations) && true) ≡ true → rows ≡ true
rows_so true true true c v h = refl
rows_so true true false c v h = absurd (cc)
rows_so true false rows c v h = absurd (cc)
rows_so false schema rows c v h = absurd (cc)

same_length : (own : List Pair) (started : Option (List Pair)) → is_same_database (holding (Some own)) (holding started) ≡ true → length own ≡ length (rows_in started)
unfolding is_same_database
same_length own None h = absurd (cc)
same_length own (Some rows) h =
    sym (length-map own row)
    ∙ as_long same_cells (map row own) (map row rows)
    (rows_so (bytes_eq table_name table_name) (is_same_schema load_schema load_schema) (pointwise same_cells (map row own) (map row rows)) (pointwise is_same_conflict [] []) (pointwise is_same_violation [] []) h)
    ∙ length-map rows row

pub state_differs : (head : List ℕ) (own : List Pair) (started : Option (List Pair)) → length (rows_in started) < length own → is_same_state (working head (Some own)) (working head started) ≡ false
unfolding is_same_state
state_differs head own started more = by (cases_Bool (is_same_state (working head (Some own)) (working head started))) where
  by : (is_same_state (working head (Some own)) (working head started) ≡ true) ⊎ (is_same_state (working head (Some own)) (working head started) ≡ false)
      → is_same_state (working head (Some own)) (working head started) ≡ false
  by (inl same) =
      let as_many : length own ≡ length (rows_in started)
      = same_length own started (second_so (bytes_eq head head) (is_same_database (holding (Some own)) (holding started)) (is_same_database [] []) (is_same_option bytes_eq None None) same) in
      absurd (omega arith)
  by (inr differs) = differs
