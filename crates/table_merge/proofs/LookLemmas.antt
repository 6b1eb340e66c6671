-- What stands at a key: among the items of rows, and in what is gathered for keys.
use Rattle.std.proofs.Common.{◌≡◌, ℕ, Bool, true, false, List, [], ◌∷◌, map, Option, Some, None, refl, sym, ap, ◌∙◌, option_map}
use Rattle.std.specs.Prelude.{◌||◌, bytes_eq, if◌then◌else◌}
use Rattle.std.specs.List.{list_all}
use Rattle.std.specs.Option.{option_map_or}
use Rattle.std.specs.Ordering.{is_eq, match_ordering}
use Rattle.std.specs.declared.cmp.Ordering.{Ordering}
use Rattle.std.specs.declared.cmp.Ordering.TheVariants.{Less, Equal, Greater}
use Rattle.std.proofs.lemmas.Bool.{and_parts, or_from, or_parts}
use Rattle.std.proofs.lemmas.Map.Text.{is_eq-slice_cmp}
use Rattle.tuple_codec.proofs.Options.{some_is}
use Rattle.tuple_codec.specs.Edits.{value_at}
use Rattle.tuple_codec.specs.KeyBytes.{key_bytes}
use Rattle.tuple_codec.specs.Limits.{are_types}
use Rattle.tuple_codec.specs.Nodes.{leaf_item}
use Rattle.tuple_codec.specs.RowRule.{or_by_cells, row3, same_option}
use Rattle.tuple_codec.specs.Rows.{Cells, fits_all, key_cmp, same_cells}
use Rattle.tuple_codec.specs.declared.values.SqlType.{SqlType}
use Rattle.tuple_codec.proofs.OrderLemmas.{key_order_whole}
use Rattle.tuple_codec.proofs.Orders.{cells_told}
use Rattle.schema_model.specs.PlainTables.{body_bytes, is_row, key_types, primary_key, row_item}
use Rattle.schema_model.specs.Schemas.{is_schema}
use Rattle.schema_model.specs.declared.schemas.Schema.{Schema}
use Rattle.schema_model.proofs.FitLemmas.{key_types_fit, primary_key_fits}
use Rattle.schema_merge.specs.KeyByKey.{before, gathered, kept, key_among, keys_with}
use Rattle.schema_merge.specs.TableMerge.{Three, conflict_at, conflict_if, keys_of, row_after, row_at, sides_at}
use Rattle.table_merge.proofs.RiseLemmas.{cells_equal}

-- ---- keys

-- the bytes of keys tell them apart as their cells do
pub key_told : (types : List SqlType) (a b : Cells) → are_types types ≡ true → fits_all types a ≡ true → fits_all types b ≡ true → bytes_eq (key_bytes a) (key_bytes b) ≡ same_cells a b
key_told types a b t fa fb = sym (is_eq-slice_cmp (key_bytes a) (key_bytes b)) ∙ ap is_eq (key_order_whole types a b t fa fb)

abbrev pub among : Cells → List Cells → Bool
among key [] = false
among key (other ∷ keys) = same_cells other key || among key keys

-- a key that isn't in the union is in neither list
among_lacks : (at key : Cells) (keys : List Cells) → ((others : List Cells) → among at (keys_with key_cmp keys others) ≡ false → (among at keys ≡ false) × (among at others ≡ false))
    → (others : List Cells) → among at (key_among key_cmp key (keys_with key_cmp keys) others) ≡ false → (among at (key ∷ keys) ≡ false) × (among at others ≡ false)
among_lacks at key keys go [] gone =
    let p = or_parts (same_cells key at) (among at (keys_with key_cmp keys [])) gone in
    let q = go [] p.1 in
    (or_from (same_cells key at) (among at keys) p.0 q.0, refl)
among_lacks at key keys go (other ∷ others) gone = by (key_cmp other key) refl gone (λ less. among_lacks at key keys go others less) where
  by : (o : Ordering) → key_cmp other key ≡ o
      → among at (match_ordering o (other ∷ key_among key_cmp key (keys_with key_cmp keys) others) (key ∷ keys_with key_cmp keys others) (key ∷ keys_with key_cmp keys (other ∷ others))) ≡ false
      → (among at (key_among key_cmp key (keys_with key_cmp keys) others) ≡ false → (among at (key ∷ keys) ≡ false) × (among at others ≡ false))
      → (among at (key ∷ keys) ≡ false) × (among at (other ∷ others) ≡ false)
  by Less e gone more =
      let p = or_parts (same_cells other at) (among at (key_among key_cmp key (keys_with key_cmp keys) others)) gone in
      let q = more p.1 in
      (q.0, or_from (same_cells other at) (among at others) p.0 q.1)
  by Equal e gone more =
      let p = or_parts (same_cells key at) (among at (keys_with key_cmp keys others)) gone in
      let q = go others p.1 in
      (or_from (same_cells key at) (among at keys) p.0 q.0, or_from (same_cells other at) (among at others) (ap (λ k. same_cells k at) (cells_equal other key e) ∙ p.0) q.1)
  by Greater e gone more =
      let p = or_parts (same_cells key at) (among at (keys_with key_cmp keys (other ∷ others))) gone in
      let q = go (other ∷ others) p.1 in
      (or_from (same_cells key at) (among at keys) p.0 q.0, q.1)

with_lacks : (at : Cells) (keys others : List Cells) → among at (keys_with key_cmp keys others) ≡ false → (among at keys ≡ false) × (among at others ≡ false)
with_lacks at [] others gone = (refl, gone)
with_lacks at (key ∷ keys) others gone = among_lacks at key keys (with_lacks at keys) others gone

lacks_row : (s : Schema) (at : Cells) (rows : List Cells) → among at (map (primary_key s) rows) ≡ false → row_at s at rows ≡ None
lacks_row s at [] gone = refl
lacks_row s at (row ∷ rows) gone =
    let p = or_parts (same_cells (primary_key s row) at) (among at (map (primary_key s) rows)) gone in
    ap (λ (b : Bool). if b then Some row else row_at s at rows) p.0 ∙ lacks_row s at rows p.1

-- ---- rows

pub value_row : (s : Schema) (cells : Cells) (rows : List Cells) → is_schema s ≡ true → fits_all (key_types s) cells ≡ true → list_all (is_row s) rows ≡ true
    → value_at (key_bytes cells) (map (row_item s) rows) ≡ option_map (body_bytes s) (row_at s cells rows)
value_row s cells [] is f h = refl
value_row s cells (row ∷ rows) is f h =
    let one = and_parts (is_row s row) (list_all (is_row s) rows) h in
    by (bytes_eq (key_bytes (primary_key s row)) (key_bytes cells)) (same_cells (primary_key s row) cells)
    (key_told (key_types s) (primary_key s row) cells (key_types_fit s is) (primary_key_fits s row is one.0) f) (value_row s cells rows is f one.1) where
      by : (a b : Bool) → a ≡ b → value_at (key_bytes cells) (map (row_item s) rows) ≡ option_map (body_bytes s) (row_at s cells rows)
          → (if a then Some (body_bytes s row) else value_at (key_bytes cells) (map (row_item s) rows)) ≡ option_map (body_bytes s) (if b then Some row else row_at s cells rows)
      by true true e more = refl
      by false false e more = more
      by true false e more = absurd (cc)
      by false true e more = absurd (cc)

-- a test that all rows pass, the row of a key passes
pub row_passes : (s : Schema) (test : Cells → Bool) (key : Cells) (rows : List Cells) (row : Cells) → list_all test rows ≡ true → row_at s key rows ≡ Some row → test row ≡ true
row_passes s test key [] row h e = absurd (cc)
row_passes s test key (x ∷ rows) row h e =
    let one = and_parts (test x) (list_all test rows) h in
    by (same_cells (primary_key s x) key) e one.0 (row_passes s test key rows row one.1) where
      by : (b : Bool) → (if b then Some x else row_at s key rows) ≡ Some row → test x ≡ true → (row_at s key rows ≡ Some row → test row ≡ true) → test row ≡ true
      by true f t more = ap test (sym (some_is x row f)) ∙ t
      by false f t more = more f

-- ---- what is gathered

both_none : (b : Bool) (o : Option (List ℕ)) → o ≡ None → (if b then o else None) ≡ o
both_none true o e = refl
both_none false o e = sym e

module _ {A : Type 0} (types : List SqlType) (find : Cells → Option A) (name : A → Cells) (body : A → List ℕ) where
  -- at a key among these it is what is there for it, and elsewhere nothing
  pub gathered_value : are_types types ≡ true → ((k : Cells) (x : A) → find k ≡ Some x → name x ≡ k) → (key : Cells) (keys : List Cells) → fits_all types key ≡ true
      → list_all (fits_all types) keys ≡ true
      → value_at (key_bytes key) (map (λ x. leaf_item (key_bytes (name x)) (body x)) (gathered find keys)) ≡ (if among key keys then option_map body (find key) else None)
  gathered_value t named key [] f h = refl
  gathered_value t named key (k ∷ keys) f h =
      let one = and_parts (fits_all types k) (list_all (fits_all types) keys) h in
      by (find k) refl (same_cells k key) refl (gathered_value t named key keys f one.1) (key_told types k key t one.0 f) where
        by : (o : Option A) → find k ≡ o → (b : Bool) → same_cells k key ≡ b
            → value_at (key_bytes key) (map (λ x. leaf_item (key_bytes (name x)) (body x)) (gathered find keys)) ≡ (if among key keys then option_map body (find key) else None)
            → bytes_eq (key_bytes k) (key_bytes key) ≡ same_cells k key
            → value_at (key_bytes key) (map (λ x. leaf_item (key_bytes (name x)) (body x)) (before o (gathered find keys))) ≡ (if (b || among key keys) then option_map body (find key) else None)
        by None e true s more told =
            let none : find key ≡ None = ap find (sym ((cells_told k key).0 s)) ∙ e in
            more ∙ both_none (among key keys) (option_map body (find key)) (ap (option_map body) none)
        by None e false s more told = more
        by (Some x) e true s more told =
            let met : bytes_eq (key_bytes (name x)) (key_bytes key) ≡ true = ap (λ (n : Cells). bytes_eq (key_bytes n) (key_bytes key)) (named k x e) ∙ told ∙ s in
            ap (λ (b : Bool). if b then Some (body x) else value_at (key_bytes key) (map (λ x. leaf_item (key_bytes (name x)) (body x)) (gathered find keys))) met
            ∙ sym (ap (option_map body) (ap find (sym ((cells_told k key).0 s)) ∙ e))
        by (Some x) e false s more told =
            let met : bytes_eq (key_bytes (name x)) (key_bytes key) ≡ false = ap (λ (n : Cells). bytes_eq (key_bytes n) (key_bytes key)) (named k x e) ∙ told ∙ s in
            ap (λ (b : Bool). if b then Some (body x) else value_at (key_bytes key) (map (λ x. leaf_item (key_bytes (name x)) (body x)) (gathered find keys))) met ∙ more

-- a test that all of it passes, what is there for a key passes
pub gathered_passes : {A : Type 0} (find : Cells → Option A) (test : A → Bool) (key : Cells) (keys : List Cells) → list_all test (gathered find keys) ≡ true → (among key keys ≡ false → find key ≡ None)
    → option_map_or test (find key) true ≡ true
gathered_passes find test key [] h lacks = ap (λ o. option_map_or test o true) (lacks refl)
gathered_passes {A} find test key (k ∷ keys) h lacks = by (find k) refl (same_cells k key) refl h (gathered_passes find test key keys) lacks where
  by : (o : Option A) → find k ≡ o → (b : Bool) → same_cells k key ≡ b → list_all test (before o (gathered find keys)) ≡ true
      → (list_all test (gathered find keys) ≡ true → (among key keys ≡ false → find key ≡ None) → option_map_or test (find key) true ≡ true)
      → ((b || among key keys) ≡ false → find key ≡ None) → option_map_or test (find key) true ≡ true
  by None e true s h more lacks = ap (λ o. option_map_or test o true) (ap find (sym ((cells_told k key).0 s)) ∙ e)
  by (Some x) e true s h more lacks =
      ap (λ o. option_map_or test o true) (ap find (sym ((cells_told k key).0 s)) ∙ e) ∙ (and_parts (test x) (list_all test (gathered find keys)) h).0
  by None e false s h more lacks = more h lacks
  by (Some x) e false s h more lacks = more (and_parts (test x) (list_all test (gathered find keys)) h).1 lacks

-- ---- the row rule

pub row3_kept : (base ours : Option Cells) → row3 base ours base ≡ Some ours
unfolding row3
row3_kept None ours = refl
row3_kept (Some row) ours =
    ap (λ (b : Bool). or_by_cells (if b then Some ours else (if same_option same_cells ours (Some row) then Some (Some row) else (if same_option same_cells ours (Some row) then Some ours else None)))
    (Some row) ours (Some row)) ((cells_told row row).1 refl)

-- where theirs kept the row of base, ours is left and nothing is in conflict
pub kept_row : (s : Schema) (three : Three) (key : Cells) → row_at s key three.base ≡ row_at s key three.theirs → row_after s three key ≡ row_at s key three.ours
kept_row s three key e =
    let o = row_at s key three.ours in
    ap (λ (t : Option Cells). kept o (row3 (row_at s key three.base) o t)) (sym e) ∙ ap (kept o) (row3_kept (row_at s key three.base) o)

pub kept_conflict : (s : Schema) (three : Three) (key : Cells) → row_at s key three.base ≡ row_at s key three.theirs → conflict_at s three key ≡ None
kept_conflict s three key e =
    let o = row_at s key three.ours in
    ap (λ (t : Option Cells). conflict_if (sides_at s three key) (row3 (row_at s key three.base) o t)) (sym e)
    ∙ ap (conflict_if (sides_at s three key)) (row3_kept (row_at s key three.base) o)

-- a key that no list has gets nothing
module _ (s : Schema) (three : Three) (key : Cells) (gone : among key (keys_of s three) ≡ false) where
  base_lacks : row_at s key three.base ≡ None
  base_lacks = lacks_row s key three.base (with_lacks key (map (primary_key s) three.base) (keys_with key_cmp (map (primary_key s) three.ours) (map (primary_key s) three.theirs)) gone).0

  sides_lack : (among key (map (primary_key s) three.ours) ≡ false) × (among key (map (primary_key s) three.theirs) ≡ false)
  sides_lack =
      with_lacks key (map (primary_key s) three.ours) (map (primary_key s) three.theirs)
      (with_lacks key (map (primary_key s) three.base) (keys_with key_cmp (map (primary_key s) three.ours) (map (primary_key s) three.theirs)) gone).1

  same_lack : row_at s key three.base ≡ row_at s key three.theirs
  same_lack = base_lacks ∙ sym (lacks_row s key three.theirs sides_lack.1)

  pub no_row : row_after s three key ≡ None
  no_row = kept_row s three key same_lack ∙ lacks_row s key three.ours sides_lack.0

  pub no_conflict : conflict_at s three key ≡ None
  no_conflict = kept_conflict s three key same_lack
