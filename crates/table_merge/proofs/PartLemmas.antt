-- What is known of merged parts.
use Rattle.std.proofs.Common.{◌≡◌, ◌⊎◌, inl, inr, ℕ, Bool, true, false, List, [], ◌∷◌, ◌++◌, map, filter, Option, Some, None, Result, Ok, Err, refl, sym, ap, ◌∙◌, bytes_eq, is_some, not, ◌||◌, suc}
use Rattle.std.specs.Prelude.{if◌then◌else◌}
use Rattle.std.specs.List.{list_all, list_any}
use Rattle.std.proofs.lemmas.Bool.{and_parts, and_from, or_parts, or_from, not_from_false}
use Rattle.std.proofs.lemmas.List.Folds.{list_any-append}
use Rattle.tuple_codec.proofs.ByteLemmas.{same_bytes as eq_name, bytes_itself as itself}
use Rattle.tuple_codec.proofs.Truths.{not_true}
use Rattle.tuple_codec.proofs.Options.{some_is, chosen_so as and_then_some, mapped_so as map_some}
use Rattle.tuple_codec.specs.RowRule.{same_option, three_way}
use Rattle.schema_model.specs.Schemas.{are_distinct}
use Rattle.schema_model.specs.declared.schemas.Column.{Column}
use Rattle.schema_model.specs.declared.schemas.Schema.{Schema}
use Rattle.schema_merge.specs.Parts.{PartKind, Sides, find}
use Rattle.schema_merge.specs.Merging.{merged_by, names3, others, part3, same_pair, stands, step, taken}
use Rattle.table_merge.proofs.NameLemmas.{false_true}

ok_or : {P : Type 0} → P → Result P (List ℕ) → P
ok_or d (Err name) = d
ok_or d (Ok p) = p

abbrev pub okay : {P : Type 0} → P → Result P (List ℕ)
okay x = Ok x

ok_is : {P : Type 0} (x y : P) → okay x ≡ okay y → x ≡ y
unfolding ok_or
ok_is x y e = ap (ok_or x) e

-- ---- where a merged part comes from

pub three_gives : {A : Type 0} (same : A → A → Bool) (base ours theirs x : A) → three_way same base ours theirs ≡ Some x → (x ≡ ours) ⊎ (x ≡ theirs)
three_gives same base ours theirs x e = by (same theirs base) (same ours base) (same ours theirs) e where
  by : (a b c : Bool) → (if a then Some ours else (if b then Some theirs else (if c then Some ours else None))) ≡ Some x → (x ≡ ours) ⊎ (x ≡ theirs)
  by true b c e = inl (sym (some_is ours x e))
  by false true c e = inr (sym (some_is theirs x e))
  by false false true e = inl (sym (some_is ours x e))
  by false false false e = absurd (cc)

-- ours or theirs has a part of that name, which stands so among merged columns
pub record Came {P : Type 0} (called : P → List ℕ) (kind : PartKind P) (all : Sides) (columns : List Column) (name : List ℕ) (part : P) : Type 0 where
  pub side : Schema
  pub is_side : (side ≡ all.ours) ⊎ (side ≡ all.theirs)
  pub old : P
  pub there : find called name (kind.parts side) ≡ Some old
  pub moved : kind.moved all columns side old ≡ Some part

stood : {P : Type 0} (called : P → List ℕ) (kind : PartKind P) (name : List ℕ) (schema : Schema) (pair : Schema × P) → Some pair ≡ stands called kind name (Some schema)
    → (pair.0 ≡ schema) × (find called name (kind.parts schema) ≡ Some pair.1)
stood {P} called kind name schema pair e =
    let m = map_some (λ (part : P). (schema, part)) (find called name (kind.parts schema)) pair (sym e) in
    (sym (ap (λ (p : Schema × P). p.0) m.2), m.1 ∙ ap (λ (p : Schema × P). Some p.1) m.2)

taken_some : {P : Type 0} (kind : PartKind P) (all : Sides) (columns : List Column) (o : Option (Schema × P)) (part : P) → taken kind all columns o ≡ Some (Some part)
    → (pair : Schema × P) × (o ≡ Some pair) × (kind.moved all columns pair.0 pair.1 ≡ Some part)
taken_some kind all columns None part e = absurd (cc)
taken_some {P} kind all columns (Some pair) part e =
    let m = map_some (λ (part : P). Some part) (kind.moved all columns pair.0 pair.1) (Some part) e in
    (pair, refl, m.1 ∙ ap (λ (part : P). Some part) (some_is m.0 part m.2))

pub came : {P : Type 0} (called : P → List ℕ) (kind : PartKind P) (all : Sides) (columns : List Column) (name : List ℕ) (part : P)
    → part3 called kind all columns name ≡ Some (Some part) → Came called kind all columns name part
came {P} called kind all columns name part e =
    let same = same_option (same_pair kind) in
    let b = stands called kind name all.base in
    let o = stands called kind name (Some all.ours) in
    let t = stands called kind name (Some all.theirs) in
    let at = and_then_some (taken kind all columns) (three_way same b o t) (Some part) e in
    let pair = taken_some kind all columns at.0 part at.2 in
    by pair.0 pair.2 (three_gives same b o t (Some pair.0) (at.1 ∙ ap Some pair.1)) where
      by : (pair : Schema × P) → kind.moved all columns pair.0 pair.1 ≡ Some part
          → (Some pair ≡ stands called kind name (Some all.ours)) ⊎ (Some pair ≡ stands called kind name (Some all.theirs)) → Came called kind all columns name part
      by pair moved (inl e) = let s = stood called kind name all.ours pair e in record { side = pair.0; is_side = inl s.0; old = pair.1; there = ap (λ (k : Schema). find called name (kind.parts k)) s.0 ∙ s.1; moved = moved }
      by pair moved (inr e) = let s = stood called kind name all.theirs pair e in record { side = pair.0; is_side = inr s.0; old = pair.1; there = ap (λ (k : Schema). find called name (kind.parts k)) s.0 ∙ s.1; moved = moved }

-- ---- parts of names in order

-- the part of a name and those behind it, or those behind it alone
pub data Stepped {P : Type 0} (here : Option (Option P)) (later : Result (List P) (List ℕ)) (parts : List P) : Type 0 where
  Skips : here ≡ Some None → later ≡ Ok parts → Stepped here later parts
  Has : (part : P) (rest : List P) → here ≡ Some (Some part) → later ≡ Ok rest → parts ≡ part ∷ rest → Stepped here later parts

stepped : {P : Type 0} (name : List ℕ) (here : Option (Option P)) (later : Result (List P) (List ℕ)) (parts : List P) → step name here later ≡ Ok parts → Stepped here later parts
stepped name None later parts e = absurd (cc)
stepped name (Some None) later parts e = Skips refl e
stepped name (Some (Some part)) (Ok rest) parts e = Has part rest refl refl (sym (ok_is (part ∷ rest) parts e))
stepped name (Some (Some part)) (Err other) parts e = absurd (cc)

pub merged_all : {P : Type 0} (part_of : List ℕ → Option (Option P)) (test : P → Bool) → ((name : List ℕ) (part : P) → part_of name ≡ Some (Some part) → test part ≡ true)
    → (names : List (List ℕ)) (parts : List P) → merged_by part_of names ≡ Ok parts → list_all test parts ≡ true
merged_all part_of test h [] parts e = ap (list_all test) (sym (ok_is [] parts e))
merged_all {P} part_of test h (name ∷ names) parts e = by (stepped name (part_of name) (merged_by part_of names) parts e) (λ (rest : List P). merged_all part_of test h names rest) where
  by : Stepped (part_of name) (merged_by part_of names) parts → ((rest : List P) → merged_by part_of names ≡ Ok rest → list_all test rest ≡ true) → list_all test parts ≡ true
  by (Skips here later) more = more parts later
  by (Has part rest here later is) more = ap (list_all test) is ∙ and_from (test part) (list_all test rest) (h name part here) (more rest later)

abbrev pub AreNamed : {P : Type 0} → (P → List ℕ) → (List ℕ → Option (Option P)) → Type 0
AreNamed {P} called part_of = (name : List ℕ) (part : P) → part_of name ≡ Some (Some part) → called part ≡ name

merged_lacks : {P : Type 0} (called : P → List ℕ) (part_of : List ℕ → Option (Option P)) → AreNamed called part_of → (key : List ℕ) (names : List (List ℕ)) (parts : List P)
    → merged_by part_of names ≡ Ok parts → list_any (bytes_eq key) names ≡ false → list_any (λ (b : P). bytes_eq key (called b)) parts ≡ false
merged_lacks {P} called part_of named key [] parts e h = ap (list_any (λ (b : P). bytes_eq key (called b))) (sym (ok_is [] parts e))
merged_lacks {P} called part_of named key (name ∷ names) parts e h =
    let lacks = or_parts (bytes_eq key name) (list_any (bytes_eq key) names) h in
    by (stepped name (part_of name) (merged_by part_of names) parts e) lacks.0 (λ (rest : List P) later. merged_lacks called part_of named key names rest later lacks.1) where
      by : Stepped (part_of name) (merged_by part_of names) parts → bytes_eq key name ≡ false
          → ((rest : List P) → merged_by part_of names ≡ Ok rest → list_any (λ (b : P). bytes_eq key (called b)) rest ≡ false) → list_any (λ (b : P). bytes_eq key (called b)) parts ≡ false
      by (Skips here later) other more = more parts later
      by (Has part rest here later is) other more =
          ap (list_any (λ (b : P). bytes_eq key (called b))) is
          ∙ or_from (bytes_eq key (called part)) (list_any (λ (b : P). bytes_eq key (called b)) rest) (ap (bytes_eq key) (named name part here) ∙ other) (more rest later)

pub merged_distinct : {P : Type 0} (called : P → List ℕ) (part_of : List ℕ → Option (Option P)) → AreNamed called part_of → (names : List (List ℕ)) (parts : List P)
    → merged_by part_of names ≡ Ok parts → are_distinct bytes_eq names ≡ true → are_distinct (λ (a b : P). bytes_eq (called a) (called b)) parts ≡ true
merged_distinct {P} called part_of named [] parts e d = ap (are_distinct (λ (a b : P). bytes_eq (called a) (called b))) (sym (ok_is [] parts e))
merged_distinct {P} called part_of named (name ∷ names) parts e d =
    let apart = and_parts (not (list_any (bytes_eq name) names)) (are_distinct bytes_eq names) d in
    by (stepped name (part_of name) (merged_by part_of names) parts e) (not_true _ apart.0) (λ (rest : List P) later. merged_distinct called part_of named names rest later apart.1) where
      by : Stepped (part_of name) (merged_by part_of names) parts → list_any (bytes_eq name) names ≡ false
          → ((rest : List P) → merged_by part_of names ≡ Ok rest → are_distinct (λ (a b : P). bytes_eq (called a) (called b)) rest ≡ true)
          → are_distinct (λ (a b : P). bytes_eq (called a) (called b)) parts ≡ true
      by (Skips here later) other more = more parts later
      by (Has part rest here later is) other more =
          let lacks = merged_lacks called part_of named name names rest later other in
          let none : list_any (λ (b : P). bytes_eq (called part) (called b)) rest ≡ false = ap (λ (k : List ℕ). list_any (λ (b : P). bytes_eq k (called b)) rest) (named name part here) ∙ lacks in
          ap (are_distinct (λ (a b : P). bytes_eq (called a) (called b))) is ∙ and_from _ _ (not_from_false _ none) (more rest later)

pub merged_find : {P : Type 0} (called : P → List ℕ) (part_of : List ℕ → Option (Option P)) → AreNamed called part_of → (key : List ℕ) (found : P) → part_of key ≡ Some (Some found)
    → (names : List (List ℕ)) (parts : List P) → merged_by part_of names ≡ Ok parts → list_any (bytes_eq key) names ≡ true → find called key parts ≡ Some found
merged_find called part_of named key found is [] parts e h = absurd (cc)
merged_find {P} called part_of named key found is (name ∷ names) parts e h =
    by (stepped name (part_of name) (merged_by part_of names) parts e) (bytes_eq key name) refl h
    (λ (rest : List P) later. merged_find called part_of named key found is names rest later) where
      by : Stepped (part_of name) (merged_by part_of names) parts → (b : Bool) → bytes_eq key name ≡ b → (b || list_any (bytes_eq key) names) ≡ true
          → ((rest : List P) → merged_by part_of names ≡ Ok rest → list_any (bytes_eq key) names ≡ true → find called key rest ≡ Some found) → find called key parts ≡ Some found
      by (Skips here later) true t h more = absurd (nothing (sym here ∙ sym (ap part_of (eq_name key name t)) ∙ is)) where
        nothing : Some None ≡ Some (Some found) → ⊥
        nothing e = cc
      by (Skips here later) false t h more = more parts later h
      by (Has part rest here later has) true t h more =
          let same : part ≡ found = some_is part found (some_is (Some part) (Some found) (sym here ∙ sym (ap part_of (eq_name key name t)) ∙ is)) in
          let called_so : bytes_eq (called part) key ≡ true = ap (λ (k : List ℕ). bytes_eq k key) (named name part here ∙ sym (eq_name key name t)) ∙ itself key in
          ap (find called key) has ∙ rw called_so (ap Some same)
      by (Has part rest here later has) false t h more = ap (find called key) has ∙ differ (bytes_eq (called part) key) refl (more rest later h) where
        differ : (b : Bool) → bytes_eq (called part) key ≡ b → find called key rest ≡ Some found → (if b then Some part else find called key rest) ≡ Some found
        differ true e more = absurd (false_true (sym t ∙ ap (bytes_eq key) (sym (named name part here) ∙ eq_name (called part) key e) ∙ itself key))
        differ false e more = more

-- a name among these isn't in conflict
pub merged_known : {P : Type 0} (part_of : List ℕ → Option (Option P)) (key : List ℕ) (names : List (List ℕ)) (parts : List P) → merged_by part_of names ≡ Ok parts
    → list_any (bytes_eq key) names ≡ true → (found : Option P) × (part_of key ≡ Some found)
merged_known part_of key [] parts e h = absurd (cc)
merged_known {P} part_of key (name ∷ names) parts e h =
    by (stepped name (part_of name) (merged_by part_of names) parts e) (bytes_eq key name) refl h (λ (rest : List P) later. merged_known part_of key names rest later) where
      by : Stepped (part_of name) (merged_by part_of names) parts → (b : Bool) → bytes_eq key name ≡ b → (b || list_any (bytes_eq key) names) ≡ true
          → ((rest : List P) → merged_by part_of names ≡ Ok rest → list_any (bytes_eq key) names ≡ true → (found : Option P) × (part_of key ≡ Some found))
          → (found : Option P) × (part_of key ≡ Some found)
      by (Skips here later) true t h more = (None, ap part_of (eq_name key name t) ∙ here)
      by (Skips here later) false t h more = more parts later h
      by (Has part rest here later has) true t h more = (Some part, ap part_of (eq_name key name t) ∙ here)
      by (Has part rest here later has) false t h more = more rest later h

-- ---- the names of ours, and then theirs

distinct_append : (xs ys : List (List ℕ)) → are_distinct bytes_eq xs ≡ true → are_distinct bytes_eq ys ≡ true
    → list_all (λ (x : List ℕ). not (list_any (bytes_eq x) ys)) xs ≡ true → are_distinct bytes_eq (xs ++ ys) ≡ true
distinct_append [] ys p q apart = q
distinct_append (x ∷ xs) ys p q apart =
    let one = and_parts (not (list_any (bytes_eq x) xs)) (are_distinct bytes_eq xs) p in
    let two = and_parts (not (list_any (bytes_eq x) ys)) (list_all (λ (x : List ℕ). not (list_any (bytes_eq x) ys)) xs) apart in
    let none : list_any (bytes_eq x) (xs ++ ys) ≡ false = list_any-append (bytes_eq x) xs ys ∙ or_from _ _ (not_true _ one.0) (not_true _ two.0) in
    and_from _ _ (not_from_false _ none) (distinct_append xs ys one.1 q two.1)

any_map : {P : Type 0} (called : P → List ℕ) (key : List ℕ) (parts : List P) → list_any (bytes_eq key) (map called parts) ≡ list_any (λ (b : P). bytes_eq key (called b)) parts
any_map called key [] = refl
any_map called key (x ∷ parts) = rw (any_map called key parts) refl

distinct_map : {P : Type 0} (called : P → List ℕ) (parts : List P) → are_distinct (λ (a b : P). bytes_eq (called a) (called b)) parts ≡ true → are_distinct bytes_eq (map called parts) ≡ true
distinct_map called [] d = refl
distinct_map {P} called (x ∷ parts) d =
    let apart = and_parts (not (list_any (λ (b : P). bytes_eq (called x) (called b)) parts)) (are_distinct (λ (a b : P). bytes_eq (called a) (called b)) parts) d in
    and_from _ _ (ap not (any_map called (called x) parts) ∙ apart.0) (distinct_map called parts apart.1)

any_filter : {P : Type 0} (test keep : P → Bool) (parts : List P) → list_any test parts ≡ false → list_any test (filter keep parts) ≡ false
any_filter test keep [] h = refl
any_filter test keep (x ∷ parts) h =
    by (keep x) (or_parts (test x) (list_any test parts) h).0 (any_filter test keep parts (or_parts (test x) (list_any test parts) h).1) where
      by : (b : Bool) → test x ≡ false → list_any test (filter keep parts) ≡ false → list_any test (if b then x ∷ filter keep parts else filter keep parts) ≡ false
      by true one more = or_from (test x) (list_any test (filter keep parts)) one more
      by false one more = more

distinct_filter : {P : Type 0} (same : P → P → Bool) (keep : P → Bool) (parts : List P) → are_distinct same parts ≡ true → are_distinct same (filter keep parts) ≡ true
distinct_filter same keep [] d = refl
distinct_filter same keep (x ∷ parts) d =
    let apart = and_parts (not (list_any (same x) parts)) (are_distinct same parts) d in
    by (keep x) (any_filter (same x) keep parts (not_true _ apart.0)) (distinct_filter same keep parts apart.1) where
      by : (b : Bool) → list_any (same x) (filter keep parts) ≡ false → are_distinct same (filter keep parts) ≡ true → are_distinct same (if b then x ∷ filter keep parts else filter keep parts) ≡ true
      by true one more = and_from _ _ (not_from_false _ one) more
      by false one more = more

-- a part that has no other's name
lacks_name : {P : Type 0} (called : P → List ℕ) (name : List ℕ) (parts : List P) → is_some (find called name parts) ≡ false → (at : List ℕ)
    → list_any (λ (b : P). bytes_eq at (called b)) parts ≡ true → bytes_eq at name ≡ false
lacks_name called name [] none at h = absurd (cc)
lacks_name {P} called name (x ∷ parts) none at h =
    by (bytes_eq (called x) name) refl none (bytes_eq at (called x)) refl h (λ other. lacks_name called name parts other at) where
      by : (b : Bool) → bytes_eq (called x) name ≡ b → is_some (if b then Some x else find called name parts) ≡ false → (c : Bool) → bytes_eq at (called x) ≡ c
          → (c || list_any (λ (b : P). bytes_eq at (called b)) parts) ≡ true
          → (is_some (find called name parts) ≡ false → list_any (λ (b : P). bytes_eq at (called b)) parts ≡ true → bytes_eq at name ≡ false) → bytes_eq at name ≡ false
      by true e none c t h more = absurd (cc)
      by false e none true t h more = ap (λ (k : List ℕ). bytes_eq k name) (eq_name at (called x) t) ∙ e
      by false e none false t h more = more none h

others_lack : {P : Type 0} (called : P → List ℕ) (ours theirs : List P) (at : List ℕ) → list_any (λ (b : P). bytes_eq at (called b)) ours ≡ true
    → list_any (bytes_eq at) (map called (others called ours theirs)) ≡ false
others_lack called ours [] at h = refl
others_lack {P} called ours (x ∷ theirs) at h = by (is_some (find called (called x) ours)) refl (others_lack called ours theirs at h) where
  by : (b : Bool) → is_some (find called (called x) ours) ≡ b → list_any (bytes_eq at) (map called (others called ours theirs)) ≡ false
      → list_any (bytes_eq at) (map called (if not b then x ∷ others called ours theirs else others called ours theirs)) ≡ false
  by true e more = more
  by false e more = or_from (bytes_eq at (called x)) (list_any (bytes_eq at) (map called (others called ours theirs))) (lacks_name called (called x) ours e at h) more

all_apart : {P : Type 0} (called : P → List ℕ) (all theirs part : List P)
    → ((at : List ℕ) → list_any (λ (b : P). bytes_eq at (called b)) part ≡ true → list_any (λ (b : P). bytes_eq at (called b)) all ≡ true)
    → list_all (λ (x : List ℕ). not (list_any (bytes_eq x) (map called (others called all theirs)))) (map called part) ≡ true
all_apart called all theirs [] sub = refl
all_apart {P} called all theirs (x ∷ part) sub =
    let here : list_any (λ (b : P). bytes_eq (called x) (called b)) (x ∷ part) ≡ true = rw (itself (called x)) refl in
    and_from _ _ (not_from_false _ (others_lack called all theirs (called x) (sub (called x) here))) (all_apart called all theirs part (λ at h. sub at (behind (bytes_eq at (called x)) at h))) where
      behind : (b : Bool) (at : List ℕ) → list_any (λ (b : P). bytes_eq at (called b)) part ≡ true → (b || list_any (λ (b : P). bytes_eq at (called b)) part) ≡ true
      behind true at h = refl
      behind false at h = h

pub names_distinct : {P : Type 0} (called : P → List ℕ) (ours theirs : List P) → are_distinct (λ (a b : P). bytes_eq (called a) (called b)) ours ≡ true
    → are_distinct (λ (a b : P). bytes_eq (called a) (called b)) theirs ≡ true → are_distinct bytes_eq (names3 called ours theirs) ≡ true
names_distinct {P} called ours theirs p q =
    distinct_append (map called ours) (map called (others called ours theirs)) (distinct_map called ours p)
    (distinct_map called (others called ours theirs) (distinct_filter (λ (a b : P). bytes_eq (called a) (called b)) (λ (part : P). not (is_some (find called (called part) ours))) theirs q))
    (all_apart called ours theirs ours (λ at h. h))

-- a name of ours is among them
pub names_ours : {P : Type 0} (called : P → List ℕ) (ours theirs : List P) (name : List ℕ) (part : P) → find called name ours ≡ Some part
    → list_any (bytes_eq name) (names3 called ours theirs) ≡ true
names_ours {P} called ours theirs name part e = list_any-append (bytes_eq name) (map called ours) (map called (others called ours theirs)) ∙ rw (among ours e) refl where
  among : (parts : List P) → find called name parts ≡ Some part → list_any (bytes_eq name) (map called parts) ≡ true
  among [] e = absurd (cc)
  among (x ∷ parts) e = by (bytes_eq (called x) name) refl (among parts) e where
    by : (b : Bool) → bytes_eq (called x) name ≡ b → (find called name parts ≡ Some part → list_any (bytes_eq name) (map called parts) ≡ true)
        → (if b then Some x else find called name parts) ≡ Some part → list_any (bytes_eq name) (called x ∷ map called parts) ≡ true
    by true t more e = rw (ap (bytes_eq name) (eq_name (called x) name t) ∙ itself name) refl
    by false t more e = rw (more e) (either (bytes_eq name (called x))) where
      either : (b : Bool) → (b || true) ≡ true
      either true = refl
      either false = refl
