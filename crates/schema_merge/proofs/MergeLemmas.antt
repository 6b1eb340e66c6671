-- Parts merged one name after another, and how many they are at most.
use Rattle.std.proofs.Common.{◌≡◌, ◌≤◌, ◌+◌, ℕ, suc, true, List, [], ◌∷◌, ◌++◌, length, Option, Some, None, refl, sym, ap, append_assoc, length-append, arith}
use Rattle.std.specs.Prelude.{Result, Ok, Err, map, is_some, not}
use Rattle.std.proofs.lemmas.List.{length-map}
use Rattle.std.proofs.lemmas.Bool.{and_parts, leb-true}
use Rattle.tuple_codec.proofs.Lists.{filter_few as fewer}
use Rattle.schema_model.specs.Limits.{is_within_limits}
use Rattle.schema_model.specs.declared.schemas.Column.{Column}
use Rattle.schema_model.specs.declared.schemas.Schema.{Schema}
use Rattle.schema_merge.specs.Parts.{PartKind, Sides, find}
use Rattle.schema_merge.specs.Merging.{merged_by, names3, others, part3, parts3, step, with_part, with_parts}

pub with_none : {P : Type 0} (r : Result (List P) (List ℕ)) → with_parts [] r ≡ r
with_none (Ok parts) = refl
with_none (Err name) = refl

pub with_more : {P : Type 0} (done : List P) (part : P) (r : Result (List P) (List ℕ)) → with_parts done (with_part part r) ≡ with_parts (done ++ part ∷ []) r
with_more done part (Ok parts) = ap Ok (sym (append_assoc done (part ∷ []) parts))
with_more done part (Err name) = refl

-- as many parts as names at most
AtMost : {P : Type 0} → ℕ → Result (List P) (List ℕ) → Type 0
AtMost most (Ok parts) = length parts ≤ most
AtMost most (Err name) = Unit {0}

one_more : {P : Type 0} (most : ℕ) (part : P) (r : Result (List P) (List ℕ)) → AtMost most r → AtMost (suc most) (with_part part r)
unfolding AtMost
one_more most part (Ok parts) e = omega (arith, e)
one_more most part (Err name) e = tt

weaker : {P : Type 0} (most : ℕ) (r : Result (List P) (List ℕ)) → AtMost most r → AtMost (suc most) r
unfolding AtMost
weaker most (Ok parts) e = omega (arith, e)
weaker most (Err name) e = tt

step_few : {P : Type 0} (most : ℕ) (name : List ℕ) (found : Option (Option P)) (r : Result (List P) (List ℕ)) → AtMost most r → AtMost (suc most) (step name found r)
unfolding AtMost
step_few most name None r e = tt
step_few most name (Some None) r e = weaker most r e
step_few most name (Some (Some part)) r e = one_more most part r e

merged_few : {P : Type 0} (part_of : List ℕ → Option (Option P)) (names : List (List ℕ)) → AtMost (length names) (merged_by part_of names)
unfolding AtMost
merged_few part_of [] = omega arith
merged_few part_of (name ∷ names) = step_few (length names) name (part_of name) (merged_by part_of names) (merged_few part_of names)

pub few_parts : {P : Type 0} (called : P → List ℕ) (kind : PartKind P) (all : Sides) (columns : List Column) (parts : List P) → parts3 called kind all columns ≡ Ok parts
    → length parts ≤ length (kind.parts all.ours) + length (kind.parts all.theirs)
unfolding AtMost
few_parts called kind all columns parts e =
    let some = merged_few (part3 called kind all columns) (names3 called (kind.parts all.ours) (kind.parts all.theirs)) in
    let few : length parts ≤ length (names3 called (kind.parts all.ours) (kind.parts all.theirs)) = rw e at some in
    let both = length-append (map called (kind.parts all.ours)) (map called (others called (kind.parts all.ours) (kind.parts all.theirs))) in
    let one = length-map (kind.parts all.ours) called in
    let two = length-map (others called (kind.parts all.ours) (kind.parts all.theirs)) called in
    let less = fewer (λ part. not (is_some (find called (called part) (kind.parts all.ours)))) (kind.parts all.theirs) in
    omega (arith, few, both, one, two, less)

pub few_columns : (schema : Schema) → is_within_limits schema ≡ true → length schema.columns ≤ 64
few_columns schema e =
    let a = (and_parts _ _ e).0 in
    let b = (and_parts _ _ a).0 in
    let c = (and_parts _ _ b).0 in
    let d = (and_parts _ _ c).0 in
    let f = (and_parts _ _ d).0 in
    let g = (and_parts _ _ f).0 in
    let h = (and_parts _ _ g).0 in
    leb-true (length schema.columns) 64 (and_parts _ _ h).0
