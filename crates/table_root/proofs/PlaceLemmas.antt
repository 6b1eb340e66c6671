-- A row is put together again from the cells of its key and the others.
use Rattle.std.proofs.Common.{◌≡◌, ◌<◌, ◌+◌, ◌-◌, ◌++◌, append_assoc, ℕ, zero, suc, Bool, true, false, cond, not, eqb, ◌||◌, List, [], ◌∷◌, length, map, get_or, drop, Option, Some, None, refl, sym, ap, ◌∙◌, subst, arith}
use Rattle.std.specs.List.{position_or_len, slice_get}
use Rattle.std.specs.Option.{option_and_then, option_map}
use Rattle.std.proofs.lemmas.Bool.{eqb-true, lt-ltb, le-ltb}
use Rattle.std.proofs.lemmas.Option.{slice_get-map}
use Rattle.tuple_codec.specs.Rows.{Cells, key_of}
use Rattle.tuple_codec.specs.declared.values.Value.{Value}
use Rattle.tuple_codec.specs.declared.values.Value.TheVariants as cell
use Rattle.schema_model.specs.PlainTables.{is_keyed, unkeyed_from}
use Rattle.schema_model.proofs.TellingLemmas.{cell_in as head_at, cells_after as tail_at}
use Rattle.table_root.specs.Places.{cell_or_first, joined_from, keyed_cell, others_after}

-- ---- where a position stands in a key

abbrev place_of : List ℕ → ℕ → ℕ
place_of key place = position_or_len (λ other. eqb other place) key

pub record StandsAt (key : List ℕ) (place at : ℕ) : Type 0 where
  pub below : at < length key
  pub there : slice_get key at ≡ Some place

stands_next : (other : ℕ) (key : List ℕ) (place at next : ℕ) → next ≡ suc at → StandsAt key place at → StandsAt (other ∷ key) place next
stands_next other key place at next e stands = subst (StandsAt (other ∷ key) place) (sym e) (record { below = omega (arith, stands.below); there = stands.there })

keyed_place : (key : List ℕ) (place : ℕ) → is_keyed key place ≡ true → StandsAt key place (place_of key place)
keyed_place [] place h = absurd (cc)
keyed_place (other ∷ key) place h =
    elim (eqb other place) as (λ b. eqb other place ≡ b → (b || is_keyed key place) ≡ true → StandsAt (other ∷ key) place (cond (not b) (1 + place_of key place) 0)) [
      | true ↦ λ e k. record { below = omega arith; there = ap (λ (n : ℕ). Some n) (eqb-true other place e) }
      | false ↦ λ e k. stands_next other key place (place_of key place) (1 + place_of key place) (omega arith) (keyed_place key place k)
    ] refl h

unkeyed_place : (key : List ℕ) (place : ℕ) → is_keyed key place ≡ false → place_of key place ≡ length key
unkeyed_place [] place h = refl
unkeyed_place (other ∷ key) place h =
    elim (eqb other place) as (λ b. (b || is_keyed key place) ≡ false → cond (not b) (1 + place_of key place) 0 ≡ suc (length key)) [
      | true ↦ λ k. absurd (cc)
      | false ↦ λ k. let more = unkeyed_place key place k in omega (arith, more)
    ] h

-- ---- the cell of a position

keyed_found : (row : Cells) (key : List ℕ) (place : ℕ) → is_keyed key place ≡ true → keyed_cell key (key_of key row) place ≡ Some (get_or row place cell.Null)
keyed_found row key place h =
    let n = place_of key place in
    let stands = keyed_place key place h in
    let f : ℕ → Value = λ p. get_or row p cell.Null in
    ap (λ (b : Bool). option_and_then (λ at. slice_get (map f key) at) (cond b (Some n) None)) (lt-ltb n (length key) stands.below)
    ∙ slice_get-map f key n
    ∙ ap (λ (o : Option ℕ). option_map f o) stands.there

keyed_none : (cells : Cells) (key : List ℕ) (place : ℕ) → is_keyed key place ≡ false → keyed_cell key cells place ≡ None
keyed_none cells key place h =
    let n = place_of key place in
    let e : n ≡ length key = unkeyed_place key place h in
    ap (λ (b : Bool). option_and_then (λ at. slice_get cells at) (cond b (Some n) None)) (le-ltb n (length key) (omega (arith, e)))

-- ---- the row

joined_again : (key : List ℕ) (full : Cells) (place : ℕ) (row : Cells) → drop place full ≡ row
    → joined_from key (key_of key full) place (length row) (unkeyed_from key place row) ≡ row
joined_again key full place [] e = refl
joined_again key full place (value ∷ row) e =
    let cells = key_of key full in
    let others = unkeyed_from key (suc place) row in
    let more : joined_from key cells (suc place) (length row) others ≡ row = joined_again key full (suc place) row (tail_at full place value row e) in
    elim (is_keyed key place) as (λ b. is_keyed key place ≡ b
    → (cell_or_first (keyed_cell key cells place) (cond b others (value ∷ others))
    ∷ joined_from key cells (suc place) (length row) (others_after (keyed_cell key cells place) (cond b others (value ∷ others)))) ≡ value ∷ row) [
      | true ↦ λ k.
          let found : keyed_cell key cells place ≡ Some value = keyed_found full key place k ∙ ap (λ (v : Value). Some v) (head_at full place value row e) in
          subst (λ (o : Option Value). (cell_or_first o others ∷ joined_from key cells (suc place) (length row) (others_after o others)) ≡ value ∷ row) (sym found)
          (ap (λ (l : Cells). value ∷ l) more)
      | false ↦ λ k.
          subst (λ (o : Option Value). (cell_or_first o (value ∷ others) ∷ joined_from key cells (suc place) (length row) (others_after o (value ∷ others))) ≡ value ∷ row)
          (sym (keyed_none cells key place k)) (ap (λ (l : Cells). value ∷ l) more)
    ] refl

-- a row is put together from its own parts
pub joined_is : (key : List ℕ) (row : Cells) (count : ℕ) → length row ≡ count → joined_from key (key_of key row) 0 count (unkeyed_from key 0 row) ≡ row
joined_is key row count e = ap (λ (n : ℕ). joined_from key (key_of key row) 0 n (unkeyed_from key 0 row)) (sym e) ∙ joined_again key row 0 row refl

pub joined_at : (key other : List ℕ) (row cells rest : Cells) (count : ℕ) → other ≡ key → cells ≡ key_of key row → count ≡ length row → rest ≡ unkeyed_from key 0 row
    → joined_from other cells 0 count rest ≡ row
joined_at key other row cells rest count same is_key is_count is_rest =
    ap (λ (k : List ℕ). joined_from k cells 0 count rest) same ∙ ap (λ (l : Cells). joined_from key l 0 count rest) is_key
    ∙ ap (λ (l : Cells). joined_from key (key_of key row) 0 count l) is_rest ∙ joined_is key row count (sym is_count)

-- ---- putting a row together, cell after cell

pub joined_step : (key : List ℕ) (cells : Cells) (place count : ℕ) (done others all : Cells) → place < count
    → done ++ joined_from key cells place (count - place) others ≡ all
    → (done ++ cell_or_first (keyed_cell key cells place) others ∷ [])
    ++ joined_from key cells (place + 1) (count - (place + 1)) (others_after (keyed_cell key cells place) others) ≡ all
joined_step key cells place count done others all below e =
    let value = cell_or_first (keyed_cell key cells place) others in
    let rest = others_after (keyed_cell key cells place) others in
    let left = count - (place + 1) in
    let one : suc left ≡ count - place = omega arith in
    let next : place + 1 ≡ suc place = omega arith in
    append_assoc done (value ∷ []) (joined_from key cells (place + 1) left rest)
    ∙ ap (λ (n : ℕ). done ++ (value ∷ joined_from key cells n left rest)) next
    ∙ ap (λ (n : ℕ). done ++ joined_from key cells place n others) one ∙ e
