-- Positions of a side's columns as positions of merged columns.
use Rattle.std.proofs.Common.{◌≡◌, ℕ, Bool, true, false, ltb, ◌==◌, List, [], ◌∷◌, length, Option, Some, refl, sym, ap, ◌∙◌, not, slice_get}
use Rattle.std.specs.List.{list_all, list_any}
use Rattle.std.proofs.lemmas.Bool.{and_parts, and_from, lt-ltb, or_parts, or_from, not_from_false, eqb-true, eq-eqb}
use Rattle.std.proofs.lemmas.List.{length-map}
use Rattle.std.proofs.lemmas.Option.{slice_get_within}
use Rattle.tuple_codec.proofs.Truths.{not_true}
use Rattle.tuple_codec.proofs.Options.{some_is}
use Rattle.schema_model.specs.Schemas.{are_distinct, are_few, are_positions, is_empty}
use Rattle.schema_model.specs.declared.schemas.Column.{Column}
use Rattle.schema_model.specs.declared.schemas.Schema.{Schema}
use Rattle.schema_merge.specs.Parts.{find, moved_place, moved_places, place_of}
use Rattle.table_merge.proofs.NameLemmas.{false_true, found_get, find_named, get_place, named_apart}

abbrev pub named : List ℕ → List Column → Option Column
named name columns = find (λ part. part.name) name columns

-- a side's column at a position, and where that of its name stands among merged columns
pub record Moves (columns : List Column) (side : Schema) (place : ℕ) : Type 0 where
  pub old : Column
  pub at : slice_get side.columns place ≡ Some old
  pub new : Column
  pub new_name : new.name ≡ old.name
  pub moved_at : slice_get columns (moved_place columns side place) ≡ Some new
  pub new_found : named old.name columns ≡ Some new

abbrev pub AllMove : List Column → Schema → List ℕ → Type 0
AllMove columns side [] = Unit {0}
AllMove columns side (place ∷ places) = Moves columns side place × AllMove columns side places

pub moved_is : (columns : List Column) (side : Schema) (place : ℕ) (old new : Column) → named_apart columns ≡ true → slice_get side.columns place ≡ Some old
    → named old.name columns ≡ Some new → slice_get columns (moved_place columns side place) ≡ Some new
unfolding moved_place
moved_is columns side place old new apart at found =
    let i = found_get columns old.name new found in
    let name : new.name ≡ old.name = find_named (λ (c : Column). c.name) old.name columns new found in
    let put : place_of columns old.name ≡ Some i.0 = ap (place_of columns) (sym name) ∙ get_place columns i.0 new apart i.1 in
    rw at (rw put i.1)

-- it moves where the column of its name is found
pub moves : (columns : List Column) (side : Schema) (place : ℕ) (old new : Column) → named_apart columns ≡ true → slice_get side.columns place ≡ Some old
    → named old.name columns ≡ Some new → Moves columns side place
moves columns side place old new apart at found = record {
  old = old;
  at = at;
  new = new;
  new_name = find_named (λ (c : Column). c.name) old.name columns new found;
  moved_at = moved_is columns side place old new apart at found;
  new_found = found;
}

-- ---- positions stay positions

few_moved : (columns : List Column) (side : Schema) (places : List ℕ) → AllMove columns side places
    → list_all (λ position. ltb position (length columns)) (moved_places columns side places) ≡ true
few_moved columns side [] all = refl
few_moved columns side (place ∷ places) all =
    and_from _ _ (lt-ltb (moved_place columns side place) (length columns) (slice_get_within columns (moved_place columns side place) all.0.new all.0.moved_at)) (few_moved columns side places all.1)

-- positions of one name are one
one_place : (columns : List Column) (side : Schema) (place other : ℕ) → named_apart side.columns ≡ true → Moves columns side place → Moves columns side other
    → moved_place columns side place ≡ moved_place columns side other → place ≡ other
one_place columns side place other apart p q e =
    let new : p.new ≡ q.new = some_is p.new q.new (sym p.moved_at ∙ ap (slice_get columns) e ∙ q.moved_at) in
    let name : p.old.name ≡ q.old.name = sym p.new_name ∙ ap (λ (c : Column). c.name) new ∙ q.new_name in
    some_is place other (sym (get_place side.columns place p.old apart p.at) ∙ ap (place_of side.columns) name ∙ get_place side.columns other q.old apart q.at)

lacks_moved : (columns : List Column) (side : Schema) (place : ℕ) (places : List ℕ) → named_apart side.columns ≡ true → Moves columns side place → AllMove columns side places
    → list_any (λ other. place == other) places ≡ false → list_any (λ other. moved_place columns side place == other) (moved_places columns side places) ≡ false
lacks_moved columns side place [] apart p all h = refl
lacks_moved columns side place (other ∷ places) apart p all h =
    let lacks = or_parts (place == other) (list_any (λ other. place == other) places) h in
    or_from _ _ (differ (moved_place columns side place == moved_place columns side other) refl lacks.0) (lacks_moved columns side place places apart p all.1 lacks.1) where
      differ : (b : Bool) → (moved_place columns side place == moved_place columns side other) ≡ b → (place == other) ≡ false → b ≡ false
      differ true e apart_so = absurd (false_true (sym apart_so ∙ ap (λ (k : ℕ). place == k) (sym (one_place columns side place other apart p all.0 (eqb-true _ _ e))) ∙ eq-eqb place place refl))
      differ false e apart_so = refl

distinct_moved : (columns : List Column) (side : Schema) (places : List ℕ) → named_apart side.columns ≡ true → AllMove columns side places
    → are_distinct (λ a b. a == b) places ≡ true → are_distinct (λ a b. a == b) (moved_places columns side places) ≡ true
distinct_moved columns side [] apart all d = refl
distinct_moved columns side (place ∷ places) apart all d =
    let one = and_parts (not (list_any (λ other. place == other) places)) (are_distinct (λ a b. a == b) places) d in
    and_from _ _ (not_from_false _ (lacks_moved columns side place places apart all.0 all.1 (not_true _ one.0))) (distinct_moved columns side places apart all.1 one.1)

pub positions_moved : (columns : List Column) (side : Schema) (places : List ℕ) → named_apart side.columns ≡ true → AllMove columns side places
    → are_positions (length side.columns) places ≡ true → are_positions (length columns) (moved_places columns side places) ≡ true
positions_moved columns side places apart all h =
    let a = and_parts _ (are_distinct (λ a b. a == b) places) h in
    let b = and_parts _ (list_all (λ position. ltb position (length side.columns)) places) a.0 in
    let c = and_parts (are_few places) (not (is_empty places)) b.0 in
    let n = length-map places (moved_place columns side) in
    let few : are_few (moved_places columns side places) ≡ true = ap (λ (k : ℕ). ltb k 256) n ∙ c.0 in
    let some : not (is_empty (moved_places columns side places)) ≡ true = ap (λ (k : ℕ). not (k == 0)) n ∙ c.1 in
    and_from _ _ (and_from _ _ (and_from _ _ few some) (few_moved columns side places all)) (distinct_moved columns side places apart all a.1)
