-- Rows beside their keys are rows of a schema, and what is decided at a key is what their merge has there.
use Rattle.std.proofs.Common.{◌≡◌, ◌<◌, ◌≤◌, ◌+◌, ◌++◌, ◌&&◌, ℕ, suc, true, false, Bool, List, [], ◌∷◌, map, length, drop, get_or, Option, Some, None, Result, Ok, Err, refl, sym, ap, ◌∙◌, subst, arith, option_map, option_to_list}
use Rattle.std.specs.Prelude.{if◌then◌else◌}
use Rattle.std.specs.List.{list_all}
use Rattle.std.specs.Option.{option_map_or}
use Rattle.std.specs.Result.{IsErr, IsErrAnd}
use Rattle.std.proofs.Math.ListN.{drop_of_length-le}
use Rattle.std.proofs.Math.Seq.{drop-cons}
use Rattle.std.proofs.lemmas.List.{append-nil}
use Rattle.std.proofs.lemmas.Bool.{and_parts, and_from}
use Rattle.tuple_codec.proofs.Truths.{and_none as none_more}
use Rattle.tuple_codec.specs.Nodes.{Item}
use Rattle.tuple_codec.specs.RowRule.{row3}
use Rattle.tuple_codec.specs.Rows.{Cells, fits_all, key_cmp, same_cells}
use Rattle.schema_model.specs.Limits.{is_conflict_within_limits}
use Rattle.schema_model.specs.PlainTables.{Conflict, conflict_item, is_row, key_types, primary_key, row_item}
use Rattle.schema_model.specs.Schemas.{is_schema}
use Rattle.schema_model.specs.declared.schemas.Schema.{Schema}
use Rattle.schema_merge.specs.KeyByKey.{all_keys, before, gathered, kept, keys_with}
use Rattle.schema_merge.specs.TableMerge.{Three, answer_at, conflict_at, conflict_if, keys_of, row_after, row_at, sides_at, table_of}
use Rattle.table_merge.specs.Merging.{is_short_merged}
use Rattle.table_merge.specs.Rising.{IsAt, RiseFrom}
use Rattle.table_merge.specs.Walking.{AreKeyed, AreListsOf, DecidesRow, are_short, are_short_at, found, is_row_perhaps, keyed_rows, keys_in, conflicts_of, rows_in, three_in}
use Rattle.table_merge.specs.declared.faults.Stop.{Stop}
use Rattle.table_merge.specs.declared.faults.Stop.TheVariants as stop
use Rattle.table_merge.specs.declared.keyed.KeyedRow.{KeyedRow}
use Rattle.table_merge.specs.declared.walking.Lists.{Lists}
use Rattle.table_merge.proofs.MergeLemmas.{AreRows, AreThree, all_keys_fit, row_after_is, row_is_at}
use Rattle.table_merge.proofs.UnderwayLemmas.{Underway, begun, stepped_on, stopped}

-- ---- rows beside their keys

keys_of_keyed : (s : Schema) (rows : List Cells) → keys_in (keyed_rows s rows) ≡ map (primary_key s) rows
keys_of_keyed s [] = refl
keys_of_keyed s (row ∷ rows) = ap (λ (l : List Cells). primary_key s row ∷ l) (keys_of_keyed s rows)

rows_of_keyed : (s : Schema) (rows : List Cells) → rows_in (keyed_rows s rows) ≡ rows
rows_of_keyed s [] = refl
rows_of_keyed s (row ∷ rows) = ap (λ (l : List Cells). row ∷ l) (rows_of_keyed s rows)

found_keyed : (s : Schema) (key : Cells) (rows : List Cells) → found key (keyed_rows s rows) ≡ row_at s key rows
found_keyed s key [] = refl
found_keyed s key (row ∷ rows) = ap (λ (o : Option Cells). if same_cells (primary_key s row) key then Some row else o) (found_keyed s key rows)

-- these are rows of a schema beside their keys
pub record Stand (s : Schema) (rows : List KeyedRow) (plain : List Cells) : Type 0 where
  pub keyed : AreKeyed s rows
  pub are : rows_in rows ≡ plain

pub stand : (s : Schema) (rows : List KeyedRow) (plain : List Cells) → rows ≡ keyed_rows s plain → AreRows s plain → Stand s rows plain
stand s rows plain e are =
    let in_are : rows_in rows ≡ plain = ap rows_in e ∙ rows_of_keyed s plain in
    record {
      keyed = record {
        keyed = e ∙ ap (keyed_rows s) (sym in_are);
        fit = subst (λ (l : List Cells). list_all (is_row s) l ≡ true) (sym in_are) are.fit;
        rise = subst (RiseFrom None) (sym (ap keys_in e ∙ keys_of_keyed s plain)) are.rise;
      };
      are = in_are;
    }

keys_are : (s : Schema) (rows : List KeyedRow) → AreKeyed s rows → keys_in rows ≡ map (primary_key s) (rows_in rows)
keys_are s rows are = ap keys_in are.keyed ∙ keys_of_keyed s (rows_in rows)

found_is : (s : Schema) (key : Cells) (rows : List KeyedRow) → AreKeyed s rows → found key rows ≡ row_at s key (rows_in rows)
found_is s key rows are = ap (found key) are.keyed ∙ found_keyed s key (rows_in rows)

rows_of : (s : Schema) (rows : List KeyedRow) → AreKeyed s rows → AreRows s (rows_in rows)
rows_of s rows are = record { fit = are.fit; rise = subst (RiseFrom None) (keys_are s rows are) are.rise }

pub perhaps : (s : Schema) (key : Cells) (o : Option Cells) → IsAt s key o → is_row_perhaps s o ≡ true
perhaps s key None h = refl
perhaps s key (Some row) h = h.0

module _ (s : Schema) (base ours theirs : List KeyedRow) (bs : AreKeyed s base) (os : AreKeyed s ours) (ts : AreKeyed s theirs) where
  pub three_are : AreThree s (three_in base ours theirs)
  three_are = record { base = rows_of s base bs; ours = rows_of s ours os; theirs = rows_of s theirs ts }

  pub all_keys_are : all_keys key_cmp (keys_in base) (keys_in ours) (keys_in theirs) ≡ keys_of s (three_in base ours theirs)
  all_keys_are =
      ap (λ (l : List Cells). keys_with key_cmp l (keys_with key_cmp (keys_in ours) (keys_in theirs))) (keys_are s base bs)
      ∙ ap (λ (l : List Cells). keys_with key_cmp (map (primary_key s) (rows_in base)) (keys_with key_cmp l (keys_in theirs))) (keys_are s ours os)
      ∙ ap (λ (l : List Cells). keys_with key_cmp (map (primary_key s) (rows_in base)) (keys_with key_cmp (map (primary_key s) (rows_in ours)) l)) (keys_are s theirs ts)

  -- a clause on what is found is one on the rows at a key
  pub at_key : (P : Option Cells → Option Cells → Option Cells → Type 0) (key : Cells) (b o t : Option Cells) → b ≡ found key base → o ≡ found key ours → t ≡ found key theirs → P b o t
      → P (row_at s key (rows_in base)) (row_at s key (rows_in ours)) (row_at s key (rows_in theirs))
  at_key P key b o t e f g p =
      let fb = e ∙ found_is s key base bs in
      let fo = f ∙ found_is s key ours os in
      let ft = g ∙ found_is s key theirs ts in
      subst (λ (x : Option Cells). P (row_at s key (rows_in base)) (row_at s key (rows_in ours)) x) ft
      (subst (λ (x : Option Cells). P (row_at s key (rows_in base)) x t) fo (subst (λ (x : Option Cells). P x o t) fb p))

  pub base_fits : (key : Cells) (b : Option Cells) → b ≡ found key base → is_row_perhaps s b ≡ true
  base_fits key b e = ap (is_row_perhaps s) (e ∙ found_is s key base bs) ∙ perhaps s key _ (row_is_at s key (rows_in base) bs.fit)

  pub ours_fits : (key : Cells) (o : Option Cells) → o ≡ found key ours → is_row_perhaps s o ≡ true
  ours_fits key o e = ap (is_row_perhaps s) (e ∙ found_is s key ours os) ∙ perhaps s key _ (row_is_at s key (rows_in ours) os.fit)

  pub theirs_fits : (key : Cells) (t : Option Cells) → t ≡ found key theirs → is_row_perhaps s t ≡ true
  theirs_fits key t e = ap (is_row_perhaps s) (e ∙ found_is s key theirs ts) ∙ perhaps s key _ (row_is_at s key (rows_in theirs) ts.fit)

  pub merged_fits : (key : Cells) (b o t : Option Cells) → b ≡ found key base → o ≡ found key ours → t ≡ found key theirs → is_row_perhaps s (kept o (row3 b o t)) ≡ true
  merged_fits key b o t e f g =
      ap (λ (x : Option Cells). is_row_perhaps s (kept o (row3 x o t))) (e ∙ found_is s key base bs)
      ∙ ap (λ (x : Option Cells). is_row_perhaps s (kept x (row3 (row_at s key (rows_in base)) x t))) (f ∙ found_is s key ours os)
      ∙ ap (λ (x : Option Cells). is_row_perhaps s (kept (row_at s key (rows_in ours)) (row3 (row_at s key (rows_in base)) (row_at s key (rows_in ours)) x))) (g ∙ found_is s key theirs ts)
      ∙ perhaps s key _ (row_after_is s (three_in base ours theirs) three_are key)

-- ---- one more key

-- both lists are underway, and the keys that are left are keys
pub record Walked (s : Schema) (three : Three) (left : List Cells) (rows conflicts : List Item) : Type 0 where
  pub rows_are : Underway (row_after s three) (row_item s) (is_short_merged s) (keys_of s three) left rows
  pub conflicts_are : Underway (conflict_at s three) (conflict_item s) (is_conflict_within_limits s) (keys_of s three) left conflicts
  pub fit : list_all (fits_all (key_types s)) left ≡ true

next_is : (keys : List Cells) (at : ℕ) (key : Cells) → at < length keys → key ≡ get_or keys at key → drop at keys ≡ key ∷ drop (at + 1) keys
next_is keys at key within is =
    let one : suc at ≡ at + 1 = omega arith in
    drop-cons keys at key within ∙ ap (λ (k : Cells). k ∷ drop (suc at) keys) (sym is) ∙ ap (λ (n : ℕ). key ∷ drop n keys) one

module _ (s : Schema) (three : Three) (keys : List Cells) (at : ℕ) (key : Cells) (rows conflicts : List Item) (within : at < length keys) (is : key ≡ get_or keys at key)
    (walked : Walked s three (drop at keys) rows conflicts) where
  here : Walked s three (key ∷ drop (at + 1) keys) rows conflicts
  here = subst (λ (l : List Cells). Walked s three l rows conflicts) (next_is keys at key within is) walked

  pub key_fits : fits_all (key_types s) key ≡ true
  key_fits = let fit = here.fit in (and_parts (fits_all (key_types s) key) (list_all (fits_all (key_types s)) (drop (at + 1) keys)) fit).0

  pub walked_on : (row conflict : Option Item) (new_rows new_conflicts : List Item) → row ≡ option_map (row_item s) (row_after s three key) → conflict ≡ option_map (conflict_item s) (conflict_at s three key)
      → are_short_at s (row_after s three key) (conflict_at s three key) ≡ true → new_rows ≡ rows ++ option_to_list row → new_conflicts ≡ conflicts ++ option_to_list conflict
      → Walked s three (drop (at + 1) keys) new_rows new_conflicts
  walked_on row conflict new_rows new_conflicts r c short nr nc =
      let both = and_parts (option_map_or (is_short_merged s) (row_after s three key) true) (option_map_or (is_conflict_within_limits s) (conflict_at s three key) true) short in
      let fit = here.fit in
      record {
        rows_are = stepped_on (row_after s three) (row_item s) (is_short_merged s) (keys_of s three) key (drop (at + 1) keys) rows new_rows row here.rows_are r both.0 nr;
        conflicts_are = stepped_on (conflict_at s three) (conflict_item s) (is_conflict_within_limits s) (keys_of s three) key (drop (at + 1) keys) conflicts new_conflicts conflict here.conflicts_are c both.1 nc;
        fit = (and_parts (fits_all (key_types s) key) (list_all (fits_all (key_types s)) (drop (at + 1) keys)) fit).1;
      }

  pub walk_stops : are_short_at s (row_after s three key) (conflict_at s three key) ≡ false → are_short (table_of s three) ≡ false
  walk_stops long = by (option_map_or (is_short_merged s) (row_after s three key) true) refl where
    by : (b : Bool) → option_map_or (is_short_merged s) (row_after s three key) true ≡ b → are_short (table_of s three) ≡ false
    by false e =
        let none = stopped (row_after s three) (row_item s) (is_short_merged s) (keys_of s three) key (drop (at + 1) keys) rows here.rows_are e in
        ap (λ (b : Bool). b && list_all (is_conflict_within_limits s) (table_of s three).conflicts) none
    by true e =
        let long_conflict : option_map_or (is_conflict_within_limits s) (conflict_at s three key) true ≡ false =
        sym (ap (λ (b : Bool). b && option_map_or (is_conflict_within_limits s) (conflict_at s three key) true) e) ∙ long in
        let none = stopped (conflict_at s three) (conflict_item s) (is_conflict_within_limits s) (keys_of s three) key (drop (at + 1) keys) conflicts here.conflicts_are long_conflict in
        ap (λ (b : Bool). list_all (is_short_merged s) (table_of s three).rows && b) none ∙ none_more (list_all (is_short_merged s) (table_of s three).rows)

pub walk_begun : (s : Schema) (base ours theirs : List KeyedRow) (bs : AreKeyed s base) (os : AreKeyed s ours) (ts : AreKeyed s theirs) → is_schema s ≡ true → (keys : List Cells) (rows conflicts : List Item)
    → keys ≡ all_keys key_cmp (keys_in base) (keys_in ours) (keys_in theirs) → rows ≡ [] → conflicts ≡ [] → Walked s (three_in base ours theirs) keys rows conflicts
walk_begun s base ours theirs bs os ts is keys rows conflicts e r c =
    let three = three_in base ours theirs in
    let all = e ∙ all_keys_are s base ours theirs bs os ts in
    let fit = all_keys_fit s three is (three_are s base ours theirs bs os ts) in
    let begun_here : Walked s three (keys_of s three) [] [] = record {
      rows_are = begun (row_after s three) (row_item s) (is_short_merged s) (keys_of s three);
      conflicts_are = begun (conflict_at s three) (conflict_item s) (is_conflict_within_limits s) (keys_of s three);
      fit = fit;
    } in
    subst (λ (l : List Cells). Walked s three l rows conflicts) (sym all)
    (subst (λ (l : List Item). Walked s three (keys_of s three) l conflicts) (sym r) (subst (λ (l : List Item). Walked s three (keys_of s three) [] l) (sym c) begun_here))

-- ---- all keys walked

pub walked_all : (s : Schema) (three : Three) (keys : List Cells) (at : ℕ) (rows conflicts : List Item) → length keys ≤ at → Walked s three (drop at keys) rows conflicts
    → (rows ≡ map (row_item s) (table_of s three).rows) × (conflicts ≡ map (conflict_item s) (table_of s three).conflicts) × (are_short (table_of s three) ≡ true)
walked_all s three keys at rows conflicts past walked =
    let last = subst (λ (l : List Cells). Walked s three l rows conflicts) (drop_of_length-le keys past) walked in
    let r = last.rows_are in
    let c = last.conflicts_are in
    (sym (append-nil rows) ∙ r.items, sym (append-nil conflicts) ∙ c.items, and_from _ _ (sym r.short) (sym c.short))

-- ---- conflicts counted

-- so many conflicts were counted, and these keys are left
pub record Counting (s : Schema) (three : Three) (left : List Cells) (count : ℕ) : Type 0 where
  pub sum : count + length (gathered (conflict_at s three) left) ≡ length (table_of s three).conflicts

pub counting : (s : Schema) (three : Three) (keys : List Cells) → keys ≡ keys_of s three → Counting s three keys 0
counting s three keys e =
    let none : 0 + length (gathered (conflict_at s three) keys) ≡ length (gathered (conflict_at s three) keys) = omega arith in
    record { sum = none ∙ ap (λ (l : List Cells). length (gathered (conflict_at s three) l)) e }

counted_on : (conflict : Conflict) (answer : Option (Option Cells)) (count more : ℕ) (others : List Conflict) → more ≡ conflicts_of answer
    → (count + more) + length others ≡ count + length (before (conflict_if conflict answer) others)
counted_on conflict None count more others e = ap (λ (n : ℕ). (count + n) + length others) e ∙ sum_one count (length others) where
  sum_one : (a b : ℕ) → (a + 1) + b ≡ a + suc b
  sum_one a b = omega arith
counted_on conflict (Some merged) count more others e = ap (λ (n : ℕ). (count + n) + length others) e ∙ sum_none count (length others) where
  sum_none : (a b : ℕ) → (a + 0) + b ≡ a + b
  sum_none a b = omega arith

pub count_on : (s : Schema) (three : Three) (keys : List Cells) (at : ℕ) (key : Cells) (count more : ℕ) → at < length keys → key ≡ get_or keys at key → more ≡ conflicts_of (answer_at s three key)
    → Counting s three (drop at keys) count → Counting s three (drop (at + 1) keys) (count + more)
count_on s three keys at key count more within is e counting = record {
  sum = counted_on (sides_at s three key) (answer_at s three key) count more (gathered (conflict_at s three) (drop (at + 1) keys)) e
      ∙ ap (λ (l : List Cells). count + length (gathered (conflict_at s three) l)) (sym (next_is keys at key within is)) ∙ counting.sum;
}

-- ---- where a key's items passed a limit

stops : (s : Schema) (three : Three) (row : Option Cells) (conflict : Option Conflict) (cause : Stop) → DecidesRow (Err cause) s row conflict
    → (are_short_at s row conflict ≡ false → are_short (table_of s three) ≡ false) → AreListsOf (Err cause) (table_of s three)
stops s three row conflict stop.Memory h long = tt
stops s three row conflict stop.Limit h long = long h

pub one_at_most : (answer : Option (Option Cells)) → conflicts_of answer ≤ 1
one_at_most None = omega arith
one_at_most (Some merged) = omega arith

pub counted_all : (s : Schema) (three : Three) (keys : List Cells) (at count : ℕ) → length keys ≤ at → Counting s three (drop at keys) count → count ≡ length (table_of s three).conflicts
counted_all s three keys at count past counting =
    let last = subst (λ (l : List Cells). Counting s three l count) (drop_of_length-le keys past) counting in
    let none : count ≡ count + 0 = omega arith in
    none ∙ last.sum

pub stops_with : (s : Schema) (three : Three) (row : Option Cells) (conflict : Option Conflict) (result : Result Lists Stop) (cause : Stop) → DecidesRow (Err cause) s row conflict
    → (are_short_at s row conflict ≡ false → are_short (table_of s three) ≡ false) → IsErr result × IsErrAnd result (λ found. found ≡ cause) → AreListsOf result (table_of s three)
stops_with s three row conflict (Ok lists) cause h long e = absurd e.1
stops_with s three row conflict (Err found) cause h long e = subst (λ (one : Stop). AreListsOf (Err one) (table_of s three)) (sym e.1) (stops s three row conflict cause h long)
