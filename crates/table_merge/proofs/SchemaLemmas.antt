-- Merged schemas are schemas.
use Rattle.std.proofs.Common.{◌≡◌, ◌⊎◌, inl, inr, ◌<◌, ◌≤◌, ℕ, zero, suc, Bool, true, false, ltb, List, [], ◌∷◌, length, Option, Some, None, Result, Ok, Err, refl, sym, ap, ◌∙◌, subst, option_map, option_and_then, bytes_eq, slice_get, arith}
use Rattle.std.specs.Prelude.{if◌then◌else◌}
use Rattle.std.specs.List.{list_all}
use Rattle.std.specs.Option.{option_map_or}
use Rattle.std.specs.Cmp.Lexicographic.{pointwise}
use Rattle.std.proofs.lemmas.Bool.{and_parts, leb-true, lt-ltb, ltb-true}
use Rattle.tuple_codec.proofs.Options.{some_is}
use Rattle.tuple_codec.specs.RowRule.{same_option, three_way}
use Rattle.tuple_codec.specs.Rows.{AreTold}
use Rattle.schema_model.specs.Limits.{is_within_limits}
use Rattle.schema_model.specs.Sameness.{is_same_column, is_same_option}
use Rattle.schema_model.specs.Schemas.{are_distinct, are_few, are_positions, is_check, is_column, is_foreign, is_index, is_key, is_not_null, is_schema}
use Rattle.schema_model.specs.declared.schemas.Column.{Column}
use Rattle.schema_model.specs.declared.schemas.IndexDef.{IndexDef}
use Rattle.schema_model.specs.declared.schemas.CheckDef.{CheckDef}
use Rattle.schema_model.specs.declared.schemas.ForeignKey.{ForeignKey}
use Rattle.schema_model.specs.declared.schemas.Schema.{Schema}
use Rattle.schema_merge.specs.Parts.{PartKind, Sides, covers_all, find, if_so, keeps, keeps_places, name_at, of_checks, of_columns, of_foreign, of_indexes, sides}
use Rattle.schema_merge.specs.Merging.{and_then, columns_at, keys_agree, over_columns, part3, parts3, same_pair, schema3, schema_of, stands, taken}
use Rattle.schema_merge.proofs.MergeLemmas.{few_parts as parts_length}
use Rattle.table_merge.proofs.NameLemmas.{find_all, find_named, named_apart}
use Rattle.table_merge.proofs.PartLemmas.{AreNamed, came, merged_all, merged_distinct, merged_find, merged_known, names_distinct, names_ours}
use Rattle.table_merge.proofs.PlaceLemmas.{AllMove, Moves, moves, named}

-- ---- what a merged schema is made of

pub record MadeOf (all : Sides) (merged : Schema) : Type 0 where
  pub columns : List Column
  pub columns_are : parts3 (λ part. part.name) of_columns all [] ≡ Ok columns
  pub agree : keys_agree all ≡ true
  pub indexes : List IndexDef
  pub indexes_are : parts3 (λ part. part.name) of_indexes all columns ≡ Ok indexes
  pub checks : List CheckDef
  pub checks_are : parts3 (λ part. part.name) of_checks all columns ≡ Ok checks
  pub foreign : List ForeignKey
  pub foreign_are : parts3 (λ part. part.name) of_foreign all columns ≡ Ok foreign
  pub is : schema_of all.ours columns indexes checks foreign ≡ merged

and_then_ok : {A B : Type 0} (r : Result A (List ℕ)) (go : A → Result B (List ℕ)) (y : B) → and_then r go ≡ Ok y → (x : A) × (r ≡ Ok x) × (go x ≡ Ok y)
and_then_ok (Err name) go y e = absurd (cc)
and_then_ok (Ok x) go y e = (x, refl, e)

if_ok : {A : Type 0} (b : Bool) (r : Result A (List ℕ)) (name : List ℕ) (y : A) → (if b then r else Err name) ≡ Ok y → (b ≡ true) × (r ≡ Ok y)
if_ok true r name y e = (refl, e)
if_ok false r name y e = absurd (cc)

schema_or : Schema → Result Schema (List ℕ) → Schema
schema_or d (Err name) = d
schema_or d (Ok s) = s

abbrev okay : Schema → Result Schema (List ℕ)
okay s = Ok s

schema_is : (x y : Schema) → okay x ≡ okay y → x ≡ y
unfolding schema_or
schema_is x y e = ap (schema_or x) e

pub made_of : (base : Option Schema) (ours theirs merged : Schema) → schema3 base ours theirs ≡ Ok merged → MadeOf (sides base ours theirs) merged
unfolding schema3
made_of base ours theirs merged e =
    let all = sides base ours theirs in
    let c = and_then_ok (parts3 (λ (part : Column). part.name) of_columns all []) (over_columns all) merged e in
    let k = if_ok _ _ _ merged c.2 in
    let i = and_then_ok (parts3 (λ (part : IndexDef). part.name) of_indexes all c.0) _ merged k.1 in
    let h = and_then_ok (parts3 (λ (part : CheckDef). part.name) of_checks all c.0) _ merged i.2 in
    let f = and_then_ok (parts3 (λ (part : ForeignKey). part.name) of_foreign all c.0) _ merged h.2 in
    record {
      columns = c.0;
      columns_are = c.1;
      agree = k.0;
      indexes = i.0;
      indexes_are = i.1;
      checks = h.0;
      checks_are = h.1;
      foreign = f.0;
      foreign_are = f.1;
      is = schema_is _ merged f.2;
    }

-- ---- what is used of a side

pub record IsForm (s : Schema) : Type 0 where
  pub columns : list_all is_column s.columns ≡ true
  pub apart : named_apart s.columns ≡ true
  pub positions : are_positions (length s.columns) s.key ≡ true
  pub not_null : list_all (λ position. is_not_null (slice_get s.columns position)) s.key ≡ true
  pub indexes : list_all (is_index (length s.columns)) s.indexes ≡ true
  pub indexes_apart : are_distinct (λ (a b : IndexDef). bytes_eq a.name b.name) s.indexes ≡ true
  pub checks : list_all is_check s.checks ≡ true
  pub checks_apart : are_distinct (λ (a b : CheckDef). bytes_eq a.name b.name) s.checks ≡ true
  pub foreign : list_all (is_foreign (length s.columns)) s.foreign ≡ true
  pub foreign_apart : are_distinct (λ (a b : ForeignKey). bytes_eq a.name b.name) s.foreign ≡ true

pub form_of : (s : Schema) → is_schema s ≡ true → IsForm s
form_of s h =
    let a = and_parts _ _ h in
    let b = and_parts _ _ a.0 in
    let c = and_parts _ _ b.0 in
    let d = and_parts _ (is_key s.columns s.key) c.0 in
    let columns = and_parts _ (named_apart s.columns) d.0 in
    let key = and_parts (are_positions (length s.columns) s.key) _ d.1 in
    let indexes = and_parts _ (are_distinct (λ (a b : IndexDef). bytes_eq a.name b.name) s.indexes) c.1 in
    let checks = and_parts _ (are_distinct (λ (a b : CheckDef). bytes_eq a.name b.name) s.checks) b.1 in
    let foreign = and_parts _ (are_distinct (λ (a b : ForeignKey). bytes_eq a.name b.name) s.foreign) a.1 in
    record {
      columns = (and_parts (are_few s.columns) _ columns.0).1;
      apart = columns.1;
      positions = key.0;
      not_null = key.1;
      indexes = (and_parts (are_few s.indexes) _ indexes.0).1;
      indexes_apart = indexes.1;
      checks = (and_parts (are_few s.checks) _ checks.0).1;
      checks_apart = checks.1;
      foreign = (and_parts (are_few s.foreign) _ foreign.0).1;
      foreign_apart = foreign.1;
    }

-- ---- parts of any kind

pub KeepsName : {P : Type 0} → (P → List ℕ) → PartKind P → Sides → List Column → Type 0
KeepsName {P} called kind all columns = (side : Schema) (old part : P) → kind.moved all columns side old ≡ Some part → called part ≡ called old

pub parts_named : {P : Type 0} (called : P → List ℕ) (kind : PartKind P) (all : Sides) (columns : List Column) → KeepsName called kind all columns → AreNamed called (part3 called kind all columns)
unfolding KeepsName
parts_named called kind all columns keeps_name name part e =
    let c = came called kind all columns name part e in
    keeps_name c.side c.old part c.moved ∙ find_named called name (kind.parts c.side) c.old c.there

pub by_side : (Q : Schema → Type 0) (all : Sides) (side : Schema) → (side ≡ all.ours) ⊎ (side ≡ all.theirs) → Q all.ours → Q all.theirs → Q side
by_side Q all side (inl e) p q = subst Q (sym e) p
by_side Q all side (inr e) p q = subst Q (sym e) q

-- each passes a test where a side's parts pass one of their own
pub parts_pass : {P : Type 0} (called : P → List ℕ) (kind : PartKind P) (all : Sides) (columns : List Column) (before : Schema → P → Bool) (test : P → Bool) (parts : List P)
    → list_all (before all.ours) (kind.parts all.ours) ≡ true → list_all (before all.theirs) (kind.parts all.theirs) ≡ true
    → ((side : Schema) (old part : P) → (side ≡ all.ours) ⊎ (side ≡ all.theirs) → before side old ≡ true → kind.moved all columns side old ≡ Some part → test part ≡ true)
    → parts3 called kind all columns ≡ Ok parts → list_all test parts ≡ true
parts_pass {P} called kind all columns before test parts p q go e = merged_all (part3 called kind all columns) test passes _ parts e where
  passes : (name : List ℕ) (part : P) → part3 called kind all columns name ≡ Some (Some part) → test part ≡ true
  passes name part e =
      let c = came called kind all columns name part e in
      go c.side c.old part c.is_side
      (find_all called (before c.side) name (kind.parts c.side) c.old (by_side (λ (s : Schema). list_all (before s) (kind.parts s) ≡ true) all c.side c.is_side p q) c.there) c.moved

pub parts_apart : {P : Type 0} (called : P → List ℕ) (kind : PartKind P) (all : Sides) (columns : List Column) (parts : List P) → KeepsName called kind all columns
    → are_distinct (λ (a b : P). bytes_eq (called a) (called b)) (kind.parts all.ours) ≡ true → are_distinct (λ (a b : P). bytes_eq (called a) (called b)) (kind.parts all.theirs) ≡ true
    → parts3 called kind all columns ≡ Ok parts → are_distinct (λ (a b : P). bytes_eq (called a) (called b)) parts ≡ true
parts_apart called kind all columns parts keeps_name p q e =
    merged_distinct called (part3 called kind all columns) (parts_named called kind all columns keeps_name) _ parts e (names_distinct called (kind.parts all.ours) (kind.parts all.theirs) p q)

pub parts_few : {P : Type 0} (called : P → List ℕ) (kind : PartKind P) (all : Sides) (columns : List Column) (parts : List P) → length (kind.parts all.ours) ≤ 64 → length (kind.parts all.theirs) ≤ 64
    → parts3 called kind all columns ≡ Ok parts → are_few parts ≡ true
parts_few called kind all columns parts p q e = let n = parts_length called kind all columns parts e in lt-ltb (length parts) 256 (omega (arith, n, p, q))

pub if_so_some : {P : Type 0} (b : Bool) (x y : P) → if_so b x ≡ Some y → (b ≡ true) × (x ≡ y)
if_so_some true x y e = (refl, some_is x y e)
if_so_some false x y e = absurd (cc)

-- ---- the limits on numbers of parts

pub record IsFew (s : Schema) : Type 0 where
  pub columns : length s.columns ≤ 64
  pub indexes : length s.indexes ≤ 64
  pub checks : length s.checks ≤ 64
  pub foreign : length s.foreign ≤ 64

pub few_of : (s : Schema) → is_within_limits s ≡ true → IsFew s
few_of s h =
    let a = and_parts _ _ h in
    let b = and_parts _ _ a.0 in
    let c = and_parts _ _ b.0 in
    let d = and_parts _ _ c.0 in
    let e = and_parts _ _ d.0 in
    let f = and_parts _ _ e.0 in
    let g = and_parts _ _ f.0 in
    let i = and_parts _ _ g.0 in
    record {
      columns = leb-true _ 64 i.0;
      indexes = leb-true _ 64 i.1;
      checks = leb-true _ 64 g.1;
      foreign = leb-true _ 64 f.1;
    }

-- ---- each kind of part

pub columns_keep_name : (all : Sides) (columns : List Column) → KeepsName (λ part. part.name) of_columns all columns
unfolding KeepsName
columns_keep_name all columns side old part e = ap (λ (c : Column). c.name) (sym (if_so_some _ old part e).1)

pub indexes_keep_name : (all : Sides) (columns : List Column) → KeepsName (λ part. part.name) of_indexes all columns
unfolding KeepsName
indexes_keep_name all columns side old part e = ap (λ (c : IndexDef). c.name) (sym (if_so_some _ _ part e).1)

pub checks_keep_name : (all : Sides) (columns : List Column) → KeepsName (λ part. part.name) of_checks all columns
unfolding KeepsName
checks_keep_name all columns side old part e = ap (λ (c : CheckDef). c.name) (sym (if_so_some _ old part e).1)

pub foreign_keep_name : (all : Sides) (columns : List Column) → KeepsName (λ part. part.name) of_foreign all columns
unfolding KeepsName
foreign_keep_name all columns side old part e = ap (λ (c : ForeignKey). c.name) (sym (if_so_some _ _ part e).1)

-- positions whose columns keep their names move
kept_place : (columns : List Column) (side : Schema) (place : ℕ) → named_apart columns ≡ true → place < length side.columns
    → keeps columns side (name_at side.columns place) ≡ true → Moves columns side place
kept_place columns side place apart below h = by (side_column side.columns place below) where
  side_column : (cs : List Column) (place : ℕ) → place < length cs → (old : Column) × (slice_get cs place ≡ Some old)
  side_column [] place below = absurd (omega arith)
  side_column (c ∷ cs) zero below = (c, refl)
  side_column (c ∷ cs) (suc place) below = let less : place < length cs = omega arith in side_column cs place less

  there : (o : Option Column) (p : Column → Bool) → option_map_or p o false ≡ true → (new : Column) × (o ≡ Some new)
  there None p h = absurd (cc)
  there (Some new) p h = (new, refl)

  by : ((old : Column) × (slice_get side.columns place ≡ Some old)) → Moves columns side place
  by at =
      let name : name_at side.columns place ≡ at.0.name = ap (λ (o : Option Column). option_map_or (λ (c : Column). c.name) o []) at.1 in
      let new = there (find (λ (c : Column). c.name) at.0.name columns) _ (ap (keeps columns side) (sym name) ∙ h) in
      moves columns side place at.0 new.0 apart at.1 new.1

pub kept_places : (columns : List Column) (side : Schema) (places : List ℕ) → named_apart columns ≡ true → list_all (λ position. ltb position (length side.columns)) places ≡ true
    → keeps_places columns side places ≡ true → AllMove columns side places
kept_places columns side [] apart p h = tt
kept_places columns side (place ∷ places) apart p h =
    let one = and_parts (ltb place (length side.columns)) (list_all (λ position. ltb position (length side.columns)) places) p in
    let two = and_parts (keeps columns side (name_at side.columns place)) (keeps_places columns side places) h in
    (kept_place columns side place apart (ltb-true _ _ one.0) two.0, kept_places columns side places apart one.1 two.1)

-- ---- the primary key

-- positions of two schemas at which they have the same columns
abbrev pub KeysMatch : Schema → Schema → List ℕ → List ℕ → Type 0
KeysMatch a b [] [] = Unit {0}
KeysMatch a b (x ∷ xs) (y ∷ ys) = ((c : Column) × (slice_get a.columns x ≡ Some c) × (slice_get b.columns y ≡ Some c)) × KeysMatch a b xs ys
KeysMatch a b xs ys = ⊥

pub keys_match : AreTold is_same_column → (a b : Schema) (xs ys : List ℕ) → list_all (λ position. ltb position (length b.columns)) ys ≡ true
    → pointwise (is_same_option is_same_column) (columns_at a.columns xs) (columns_at b.columns ys) ≡ true → KeysMatch a b xs ys
keys_match told a b [] [] w h = tt
keys_match told a b [] (y ∷ ys) w h = absurd (cc)
keys_match told a b (x ∷ xs) [] w h = absurd (cc)
keys_match told a b (x ∷ xs) (y ∷ ys) w h =
    let one = and_parts (ltb y (length b.columns)) (list_all (λ position. ltb position (length b.columns)) ys) w in
    let two = and_parts (is_same_option is_same_column (slice_get a.columns x) (slice_get b.columns y)) (pointwise (is_same_option is_same_column) (columns_at a.columns xs) (columns_at b.columns ys)) h in
    (pair (slice_get a.columns x) (slice_get b.columns y) (there b.columns y (ltb-true _ _ one.0)) two.0, keys_match told a b xs ys one.1 two.1) where
      there : (cs : List Column) (place : ℕ) → place < length cs → (c : Column) × (slice_get cs place ≡ Some c)
      there [] place below = absurd (omega arith)
      there (c ∷ cs) zero below = (c, refl)
      there (c ∷ cs) (suc place) below = let less : place < length cs = omega arith in there cs place less

      pair : (o p : Option Column) → (c : Column) × (p ≡ Some c) → is_same_option is_same_column o p ≡ true → (c : Column) × (o ≡ Some c) × (p ≡ Some c)
      pair None None at h = absurd (nothing at.0 at.1) where
        nothing : (c : Column) → None ≡ Some c → ⊥
        nothing c e = cc
      pair None (Some d) at h = absurd (cc)
      pair (Some c) None at h = absurd (cc)
      pair (Some c) (Some d) at h = (c, refl, ap (λ (k : Column). Some k) (sym ((told c d).0 h)))

pub same_keys : (s : Schema) (xs : List ℕ) → list_all (λ position. ltb position (length s.columns)) xs ≡ true → KeysMatch s s xs xs
same_keys s [] w = tt
same_keys s (x ∷ xs) w =
    let one = and_parts (ltb x (length s.columns)) (list_all (λ position. ltb position (length s.columns)) xs) w in
    (there s.columns x (ltb-true _ _ one.0), same_keys s xs one.1) where
      there : (cs : List Column) (place : ℕ) → place < length cs → (c : Column) × (slice_get cs place ≡ Some c) × (slice_get cs place ≡ Some c)
      there [] place below = absurd (omega arith)
      there (c ∷ cs) zero below = (c, refl, refl)
      there (c ∷ cs) (suc place) below = let less : place < length cs = omega arith in there cs place less

-- a column that all have is merged as it is
pub key_column : AreTold is_same_column → (all : Sides) (columns : List Column) (c : Column) → parts3 (λ part. part.name) of_columns all [] ≡ Ok columns
    → find (λ part. part.name) c.name all.ours.columns ≡ Some c → find (λ part. part.name) c.name all.theirs.columns ≡ Some c
    → option_map_or (λ (s : Schema). is_same_option is_same_column (find (λ part. part.name) c.name s.columns) (Some c)) all.base true ≡ true
    → named c.name columns ≡ Some c
key_column told all columns c e p q r =
    let called = λ (part : Column). part.name in
    let part_of = part3 called of_columns all [] in
    let decided : three_way (same_option (same_pair of_columns)) (stands called of_columns c.name all.base) (stands called of_columns c.name (Some all.ours)) (stands called of_columns c.name (Some all.theirs))
    ≡ Some (Some (all.ours, c)) = rw (p, q) (by_base all.base r) in
    let known = merged_known part_of c.name _ columns e (names_ours called all.ours.columns all.theirs.columns c.name c p) in
    let answer : part_of c.name ≡ taken of_columns all [] (Some (all.ours, c)) = ap (option_and_then (taken of_columns all [])) decided in
    let is = by_cover (covers_all all c) known.0 (sym answer ∙ known.1) in
    merged_find called part_of (parts_named called of_columns all [] (columns_keep_name all [])) c.name c (answer ∙ ap (option_map (λ (part : Column). Some part)) is) _ columns e
    (names_ours called all.ours.columns all.theirs.columns c.name c p) where
      by_base : (base : Option Schema) → option_map_or (λ (s : Schema). is_same_option is_same_column (find (λ part. part.name) c.name s.columns) (Some c)) base true ≡ true
          → three_way (same_option (same_pair of_columns)) (stands (λ part. part.name) of_columns c.name base) (Some (all.ours, c)) (Some (all.theirs, c)) ≡ Some (Some (all.ours, c))
      by_base None r = rw ((told c c).1 refl) refl
      by_base (Some base) r = by_found (find (λ part. part.name) c.name base.columns) r where
        by_found : (o : Option Column) → is_same_option is_same_column o (Some c) ≡ true
            → three_way (same_option (same_pair of_columns)) (option_map (λ part. (base, part)) o) (Some (all.ours, c)) (Some (all.theirs, c)) ≡ Some (Some (all.ours, c))
        by_found None r = absurd (cc)
        by_found (Some d) r = let same = (told d c).0 r in rw (ap (is_same_column c) same ∙ (told c c).1 refl) refl

      by_cover : (b : Bool) (found : Option Column) → option_map (λ (part : Column). Some part) (if_so b c) ≡ Some found → if_so b c ≡ Some c
      by_cover true found e = refl
      by_cover false found e = absurd (cc)
