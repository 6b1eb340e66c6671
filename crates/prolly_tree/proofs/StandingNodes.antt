-- The nodes into which a list is cut are nodes as bytes keep them.
use Rattle.std.proofs.Common.{◌≡◌, ◌<◌, ◌≤◌, ◌+◌, ◌*◌, ◌^◌, inl, inr, ℕ, zero, suc, List, [], ◌∷◌, ◌++◌, length, ap, ◌∙◌, arith}
use Rattle.std.specs.List.{AllByRecursion}
use Rattle.std.specs.Int.{w16, w64, to_be_bytes}
use Rattle.std.proofs.lemmas.List.Concat.{flat_map-cons}
use Rattle.std.proofs.lemmas.List.{length-append}
use Rattle.node_format.proofs.FieldLemmas.{wide16, wide64}
use Rattle.node_format.proofs.BuildLemmas.{header_length}
use Rattle.tuple_codec.specs.Nodes.{Item, IsItem, header_bytes, item_bytes, items_bytes, sized}
use Rattle.tuple_codec.specs.Trees.{IsRow, bytes_of, last_key, rows_in}
use Rattle.prolly_tree.proofs.StandingCuts.{IsSmall}

-- what is known of an item before it is put into a node
abbrev pub HasFit : ℕ → Item → Type 0
HasFit zero item = IsRow item
HasFit (suc level) item = (length item.key ≤ 4096) × (length item.body ≡ 20) × (0 < item.rows)

two : (n : ℕ) → length (to_be_bytes w16 n) ≡ 2
two n = wide16.len n

eight : (n : ℕ) → length (to_be_bytes w64 n) ≡ 8
eight n = wide64.len n

pub sized_length : (bytes : List ℕ) → length (sized bytes) ≡ 2 + length bytes
sized_length bytes = let e = two (length bytes) in omega (arith, length-append (to_be_bytes w16 (length bytes)) bytes, e)

-- an item takes 4 bytes to 32,766
pub item_size : (level : ℕ) (item : Item) → HasFit level item → (4 ≤ length (item_bytes level item)) × (length (item_bytes level item) ≤ 32766)
item_size zero item fit =
    let whole = length-append (sized item.key) (sized item.body) in
    let key = sized_length item.key in
    let body = sized_length item.body in
    let most = fit.size in
    (omega (arith, whole, key, body), omega (arith, whole, key, body, most))
item_size (suc level) item fit =
    let whole = length-append (sized item.key ++ item.body) (to_be_bytes w64 item.rows) in
    let front = length-append (sized item.key) item.body in
    let key = sized_length item.key in
    let rows = eight item.rows in
    let most = fit.0 in
    let twenty = fit.1 in
    (omega (arith, whole, front, key, rows), omega (arith, whole, front, key, rows, most, twenty))

pub items_cons : (level : ℕ) (item : Item) (items : List Item) → length (items_bytes level (item ∷ items)) ≡ length (item_bytes level item) + length (items_bytes level items)
items_cons level item items = ap (λ (l : List ℕ). length l) (flat_map-cons (item_bytes level) item items) ∙ length-append (item_bytes level item) (items_bytes level items)

pub items_one : (level : ℕ) (held : List Item) (item : Item) → length (items_bytes level (held ++ item ∷ [])) ≡ length (items_bytes level held) + length (item_bytes level item)
items_one level [] item = let e = items_cons level item [] in omega (arith, e)
items_one level (first ∷ held) item =
    let a = items_cons level first (held ++ item ∷ []) in
    let b = items_cons level first held in
    let c = items_one level held item in
    omega (arith, a, b, c)

-- so a node has fewer items than a fourth of its bytes
pub items_count : (level : ℕ) (items : List Item) → AllByRecursion (HasFit level) items → 4 * length items ≤ length (items_bytes level items)
items_count level [] fit = omega arith
items_count level (item ∷ items) fit =
    let e = items_cons level item items in
    let s = (item_size level item fit.0).0 in
    let more = items_count level items fit.1 in
    omega (arith, e, s, more)

fit_last : (level : ℕ) (held : List Item) (item : Item) → AllByRecursion (HasFit level) (held ++ item ∷ []) → HasFit level item
fit_last level [] item fit = fit.0
fit_last level (first ∷ held) item fit = fit_last level held item fit.1

-- no node passes 65,536 bytes
pub node_size : (level : ℕ) (held : List Item) (item : Item) → AllByRecursion (HasFit level) (held ++ item ∷ []) → IsSmall level held
    → 4 + length (items_bytes level (held ++ item ∷ [])) ≤ 65536
node_size level held item fit (inr small) =
    let last = (item_size level item (fit_last level held item fit)).1 in
    let e = items_one level held item in
    omega (arith, last, e, small)
node_size level [] item fit (inl few) =
    let last = (item_size level item fit.0).1 in
    let e = items_one level [] item in
    omega (arith, last, e)
node_size level (first ∷ []) item fit (inl few) =
    let one = (item_size level first fit.0).1 in
    let last = (item_size level item fit.1.0).1 in
    let e = items_one level (first ∷ []) item in
    let f = items_cons level first [] in
    omega (arith, one, last, e, f)
node_size level (first ∷ other ∷ held) item fit (inl few) = absurd (omega (arith, few))

pub bytes_length : (level : ℕ) (items : List Item) → length (bytes_of level items) ≡ 4 + length (items_bytes level items)
bytes_length level items =
    let h = header_length level (length items) in
    omega (arith, h, length-append (header_bytes level (length items)) (items_bytes level items))

pub fit_item : (level : ℕ) (item : Item) → HasFit level item → item.rows < 2 ^ 63 → IsItem level item
fit_item zero item fit few = (let k = fit.key in omega (arith, k), let s = fit.size in omega (arith, s), fit.one)
fit_item (suc level) item fit few = (let k = fit.0 in omega (arith, k), fit.1, fit.2, omega (arith, few))

fit_key : (level : ℕ) (item : Item) → HasFit level item → length item.key ≤ 4096
fit_key zero item fit = fit.key
fit_key (suc level) item fit = fit.0

pub fit_last_key : (level : ℕ) (items : List Item) → AllByRecursion (HasFit level) items → length (last_key items) ≤ 4096
fit_last_key level [] fit = omega arith
fit_last_key level (item ∷ []) fit = fit_key level item fit.0
fit_last_key level (item ∷ other ∷ items) fit = fit_last_key level (other ∷ items) fit.1

pub fit_rows : (level : ℕ) (item : Item) → HasFit level item → 0 < item.rows
fit_rows zero item fit = let one = fit.one in omega (arith, one)
fit_rows (suc level) item fit = fit.2

-- each item has no more rows than all
pub few_each : (items : List Item) (bound : ℕ) → rows_in items < bound → AllByRecursion (λ item. item.rows < bound) items
few_each [] bound few = tt
few_each (item ∷ items) bound few = (omega (arith, few), few_each items bound (omega (arith, few)))

-- nor does one that is open
pub open_size : (level : ℕ) (items : List Item) → AllByRecursion (HasFit level) items → IsSmall level items → 4 + length (items_bytes level items) ≤ 65536
open_size level items fit (inr small) = omega (arith, small)
open_size level [] fit (inl few) = omega arith
open_size level (item ∷ []) fit (inl few) =
    let one = (item_size level item fit.0).1 in
    let e = items_cons level item [] in
    omega (arith, one, e)
open_size level (item ∷ other ∷ items) fit (inl few) = absurd (omega (arith, few))
