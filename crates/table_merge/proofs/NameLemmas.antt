-- Parts found by name and by position, where names differ.
use Rattle.std.proofs.Common.{◌≡◌, ◌+◌, ℕ, zero, suc, Bool, true, false, cond, List, [], ◌∷◌, Some, refl, sym, ap, ◌∙◌, subst, bytes_eq, not, slice_get, arith}
use Rattle.std.specs.Prelude.{if◌then◌else◌}
use Rattle.std.specs.List.{list_all, list_any, position_from}
use Rattle.std.proofs.lemmas.Bool.{and_parts, or_parts}
use Rattle.std.proofs.lemmas.Iterator.Adapters.{position_from-zero}
use Rattle.tuple_codec.proofs.ByteLemmas.{same_bytes as eq_name, bytes_itself as itself}
use Rattle.tuple_codec.proofs.Truths.{not_true}
use Rattle.tuple_codec.proofs.Options.{some_is}
use Rattle.schema_model.specs.Schemas.{are_distinct}
use Rattle.schema_model.specs.declared.schemas.Column.{Column}
use Rattle.schema_merge.specs.Parts.{find, place_of}

pub false_true : false ≡ true → ⊥
false_true e = cc

-- ---- by name

pub find_named : {P : Type 0} (called : P → List ℕ) (name : List ℕ) (parts : List P) (part : P) → find called name parts ≡ Some part → called part ≡ name
find_named called name [] part e = absurd (cc)
find_named called name (x ∷ parts) part e = by (bytes_eq (called x) name) refl (find_named called name parts part) e where
  by : (b : Bool) → bytes_eq (called x) name ≡ b → (find called name parts ≡ Some part → called part ≡ name) → (if b then Some x else find called name parts) ≡ Some part
      → called part ≡ name
  by true t more e = ap called (sym (some_is x part e)) ∙ eq_name (called x) name t
  by false t more e = more e

pub find_all : {P : Type 0} (called : P → List ℕ) (test : P → Bool) (name : List ℕ) (parts : List P) (part : P) → list_all test parts ≡ true
    → find called name parts ≡ Some part → test part ≡ true
find_all called test name [] part h e = absurd (cc)
find_all called test name (x ∷ parts) part h e =
    by (bytes_eq (called x) name) (and_parts (test x) (list_all test parts) h).0 (find_all called test name parts part (and_parts (test x) (list_all test parts) h).1) e where
      by : (b : Bool) → test x ≡ true → (find called name parts ≡ Some part → test part ≡ true) → (if b then Some x else find called name parts) ≡ Some part → test part ≡ true
      by true t more e = ap test (sym (some_is x part e)) ∙ t
      by false t more e = more e

-- ---- by position

pub get_any : {P : Type 0} (test : P → Bool) (xs : List P) (i : ℕ) (x : P) → slice_get xs i ≡ Some x → list_any test xs ≡ false → test x ≡ false
get_any test [] i x e h = absurd (cc)
get_any test (y ∷ xs) zero x e h = ap test (sym (some_is y x e)) ∙ (or_parts (test y) (list_any test xs) h).0
get_any test (y ∷ xs) (suc i) x e h = get_any test xs i x e (or_parts (test y) (list_any test xs) h).1

abbrev pub named_apart : List Column → Bool
named_apart columns = are_distinct (λ a b. bytes_eq a.name b.name) columns

-- the column at a position is the one of its name
pub get_found : (columns : List Column) (i : ℕ) (c : Column) → named_apart columns ≡ true → slice_get columns i ≡ Some c → find (λ part. part.name) c.name columns ≡ Some c
get_found [] i c d e = absurd (cc)
get_found (x ∷ columns) zero c d e = let same = some_is x c e in rw (ap (λ (k : Column). bytes_eq k.name c.name) same ∙ itself c.name) e
get_found (x ∷ columns) (suc i) c d e =
    let parts = and_parts (not (list_any (λ (b : Column). bytes_eq x.name b.name) columns)) (named_apart columns) d in
    let other = get_any (λ (b : Column). bytes_eq x.name b.name) columns i c e (not_true _ parts.0) in
    rw other (get_found columns i c parts.1 e)

position_at : (columns : List Column) (n i : ℕ) (c : Column) → named_apart columns ≡ true → slice_get columns i ≡ Some c
    → position_from (λ (part : Column). bytes_eq part.name c.name) n columns ≡ Some (n + i)
position_at [] n i c d e = absurd (cc)
position_at (x ∷ columns) n zero c d e =
    let same = some_is x c e in
    let sum : n ≡ n + zero = omega arith in
    rw (ap (λ (k : Column). bytes_eq k.name c.name) same ∙ itself c.name) (ap Some sum)
position_at (x ∷ columns) n (suc i) c d e =
    let parts = and_parts (not (list_any (λ (b : Column). bytes_eq x.name b.name) columns)) (named_apart columns) d in
    let other = get_any (λ (b : Column). bytes_eq x.name b.name) columns i c e (not_true _ parts.0) in
    let sum : n + 1 + i ≡ n + suc i = omega arith in
    rw other (position_at columns (n + 1) i c parts.1 e ∙ ap Some sum)

zero_plus : (n : ℕ) → 0 + n ≡ n
zero_plus n = omega arith

pub get_place : (columns : List Column) (i : ℕ) (c : Column) → named_apart columns ≡ true → slice_get columns i ≡ Some c → place_of columns c.name ≡ Some i
get_place columns i c d e = position_from-zero (λ (part : Column). bytes_eq part.name c.name) columns ∙ position_at columns 0 i c d e ∙ ap Some (zero_plus i)

pub found_get : (columns : List Column) (name : List ℕ) (c : Column) → find (λ part. part.name) name columns ≡ Some c → (i : ℕ) × (slice_get columns i ≡ Some c)
found_get [] name c e = absurd (cc)
found_get (x ∷ columns) name c e = by (bytes_eq x.name name) (found_get columns name c) e where
  by : (b : Bool) → (find (λ part. part.name) name columns ≡ Some c → (i : ℕ) × (slice_get columns i ≡ Some c)) → (if b then Some x else find (λ part. part.name) name columns) ≡ Some c
      → (i : ℕ) × (slice_get (x ∷ columns) i ≡ Some c)
  by true more e = (0, e)
  by false more e = let m = more e in (suc m.0, m.1)

-- a position by name is that of the first column of the name
pub place_found : (columns : List Column) (name : List ℕ) (i : ℕ) → place_of columns name ≡ Some i
    → (c : Column) × (slice_get columns i ≡ Some c) × (find (λ part. part.name) name columns ≡ Some c)
place_found columns name i e =
    let at = from_place columns 0 i (sym (position_from-zero (λ (part : Column). bytes_eq part.name name) columns) ∙ e) in
    subst (λ (k : ℕ). (c : Column) × (slice_get columns k ≡ Some c) × (find (λ part. part.name) name columns ≡ Some c)) (sym (at.1 ∙ zero_plus at.0)) (at.2, at.3, at.4) where
      from_place : (columns : List Column) (n i : ℕ) → position_from (λ (part : Column). bytes_eq part.name name) n columns ≡ Some i
          → (k : ℕ) × (i ≡ n + k) × (c : Column) × (slice_get columns k ≡ Some c) × (find (λ part. part.name) name columns ≡ Some c)
      from_place [] n i e = absurd (cc)
      from_place (x ∷ columns) n i e = by (bytes_eq x.name name) (from_place columns (n + 1) i) e where
        by : (b : Bool) → (position_from (λ (part : Column). bytes_eq part.name name) (n + 1) columns ≡ Some i
            → (k : ℕ) × (i ≡ n + 1 + k) × (c : Column) × (slice_get columns k ≡ Some c) × (find (λ part. part.name) name columns ≡ Some c))
            → cond b (Some n) (position_from (λ (part : Column). bytes_eq part.name name) (n + 1) columns) ≡ Some i
            → (k : ℕ) × (i ≡ n + k) × (c : Column) × (slice_get (x ∷ columns) k ≡ Some c) × ((if b then Some x else find (λ part. part.name) name columns) ≡ Some c)
        by true more e = let s = some_is n i e in let sum : i ≡ n + 0 = omega (arith, s) in (0, sum, x, refl, refl)
        by false more e = let m = more e in let s = m.1 in let sum : i ≡ n + suc m.0 = omega (arith, s) in (suc m.0, sum, m.2, m.3, m.4)
