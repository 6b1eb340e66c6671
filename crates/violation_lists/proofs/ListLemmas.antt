-- The items of violations: their keys have the violations' order, and they are rows of a tree.
use Rattle.std.proofs.Common.{◌≡◌, ◌≤◌, ◌<◌, ◌^◌, ◌+◌, ◌*◌, ◌==◌, refl, sym, ap, ◌∙◌, subst, arith, ℕ, suc, Bool, true, false, cond, nat_le, List, [], ◌∷◌, ◌++◌, Some, length, map, flat_map, length-append}
use Rattle.std.specs.Cmp.Lexicographic.{slice_cmp}
use Rattle.std.specs.List.{AllByRecursion, list_all}
use Rattle.std.specs.Ordering.{is_lt, nat_cmp, ordering_then}
use Rattle.std.proofs.lemmas.Bool.{and_parts, leb-true}
use Rattle.tuple_codec.specs.KeyBytes.{escape, escaped, key_bytes}
use Rattle.tuple_codec.specs.Nodes.{Item, Rise, RiseAfter}
use Rattle.tuple_codec.specs.Rows.{fits_all}
use Rattle.tuple_codec.specs.Spellings.{KeepsOrder}
use Rattle.tuple_codec.specs.Trees.{AreRows, IsRow}
use Rattle.tuple_codec.proofs.TextLemmas.{escaped_order}
use Rattle.schema_model.specs.Limits.{is_short_key, is_short_name, is_short_row, is_violation_within_limits}
use Rattle.schema_model.specs.PlainTables.{Violation, body_bytes, is_row_at, is_violation, key_types, rises, violation_cmp, violation_item}
use Rattle.schema_model.specs.Schemas.{is_schema}
use Rattle.schema_model.specs.declared.schemas.Schema.{Schema}
use Rattle.schema_model.proofs.FitLemmas.{key_types_fit}
use Rattle.violation_lists.specs.Recording.{AreRising, MayList, may_stand}

-- ---- the order of keys

key_fits : (schema : Schema) (one : Violation) → is_violation schema one ≡ true → fits_all (key_types schema) one.key ≡ true
key_fits schema one is = (and_parts _ (fits_all (key_types schema) one.key) (and_parts _ (is_row_at schema one.key one.row) is).0).1

key_order : KeepsOrder → (schema : Schema) (a b : Violation) → is_schema schema ≡ true → is_violation schema a ≡ true → is_violation schema b ≡ true
    → slice_cmp nat_cmp (violation_item schema a).key (violation_item schema b).key ≡ violation_cmp a b
key_order keeps schema a b valid first second =
    ap (ordering_then (nat_cmp a.kind b.kind))
    (escaped_order a.constraint b.constraint (key_bytes a.key) (key_bytes b.key)
    ∙ ap (ordering_then (slice_cmp nat_cmp a.constraint b.constraint))
    (keeps (key_types schema) a.key b.key (key_types_fit schema valid) (key_fits schema a first) (key_fits schema b second)))

stands_is : (schema : Schema) (one : Violation) → may_stand schema one ≡ true → is_violation schema one ≡ true
stands_is schema one may = (and_parts (is_violation schema one) (is_violation_within_limits schema one) may).0

rise_from : KeepsOrder → (schema : Schema) (before : Violation) (found : List Violation) → is_schema schema ≡ true → may_stand schema before ≡ true
    → list_all (may_stand schema) found ≡ true → rises violation_cmp (before ∷ found) ≡ true → RiseAfter (Some (violation_item schema before).key) (map (violation_item schema) found)
rise_from keeps schema before [] valid may all rise = tt
rise_from keeps schema before (one ∷ found) valid may all rise =
    let parts = and_parts (may_stand schema one) (list_all (may_stand schema) found) all in
    let steps = and_parts (is_lt (violation_cmp before one)) (rises violation_cmp (one ∷ found)) rise in (
      ap is_lt (key_order keeps schema before one valid (stands_is schema before may) (stands_is schema one parts.0)) ∙ steps.0,
      rise_from keeps schema one found valid parts.0 parts.1 steps.1,
    )

items_rise : KeepsOrder → (schema : Schema) (found : List Violation) → is_schema schema ≡ true → list_all (may_stand schema) found ≡ true
    → rises violation_cmp found ≡ true → Rise (map (violation_item schema) found)
items_rise keeps schema [] valid all rise = tt
items_rise keeps schema (one ∷ found) valid all rise =
    let parts = and_parts (may_stand schema one) (list_all (may_stand schema) found) all in
    (refl, rise_from keeps schema one found valid parts.0 parts.1 rise)

-- ---- the size of items

escape_few : (byte : ℕ) (b : Bool) → length (cond b (0 ∷ 255 ∷ []) (byte ∷ [])) ≤ 2
escape_few byte true = omega arith
escape_few byte false = omega arith

escaped_most : (text : List ℕ) → length (flat_map escape text) ≤ 2 * length text
escaped_most [] = omega arith
escaped_most (byte ∷ text) =
    let more : length (flat_map escape text) ≤ 2 * length text = escaped_most text in
    let one : length (escape byte) ≤ 2 = escape_few byte (byte == 0) in
    subst (λ n. n ≤ 2 * suc (length text)) (sym (length-append (escape byte) (flat_map escape text))) (omega (arith, more, one))

key_length : (kind : ℕ) (name key : List ℕ) → length (kind ∷ (1 ∷ (escaped name ++ key))) ≤ 4 + (2 * length name + length key)
key_length kind name key =
    let most = escaped_most name in
    let ends : length (escaped name) ≡ length (flat_map escape name) + 2 = length-append (flat_map escape name) (0 ∷ 0 ∷ []) in
    subst (λ n. suc (suc n) ≤ 4 + (2 * length name + length key)) (sym (length-append (escaped name) key)) (omega (arith, most, ends))

item_is : (schema : Schema) (one : Violation) → may_stand schema one ≡ true → IsRow (violation_item schema one)
item_is schema one may =
    let within = (and_parts (is_violation schema one) (is_violation_within_limits schema one) may).1 in
    let parts = and_parts _ (is_short_row schema one.row) within in
    let shorts = and_parts (is_short_name one.constraint) (is_short_key one.key) parts.0 in
    let name = leb-true (length one.constraint) 64 (and_parts _ (nat_le (length one.constraint) 64) shorts.0).1 in
    let key = leb-true (length (key_bytes one.key)) 1024 shorts.1 in
    let body = leb-true (length (body_bytes schema one.row)) 8192 parts.1 in
    let size = key_length one.kind one.constraint (key_bytes one.key) in
    record { key = omega (arith, name, key, size); size = omega (arith, name, key, body, size); one = refl }

items_are : (schema : Schema) (found : List Violation) → list_all (may_stand schema) found ≡ true → AllByRecursion IsRow (map (violation_item schema) found)
items_are schema [] all = tt
items_are schema (one ∷ found) all =
    let parts = and_parts (may_stand schema one) (list_all (may_stand schema) found) all in
    (item_is schema one parts.0, items_are schema found parts.1)

-- ---- a list of them

pub list_rises : KeepsOrder → (schema : Schema) (items : List Item) (found : List Violation) → is_schema schema ≡ true → MayList items schema found → AreRising items
list_rises keeps schema items found valid may =
    subst AreRising (sym may.items_are) (record { each = items_are schema found may.stand; rise = items_rise keeps schema found valid may.stand may.rise })

pub rows_of_list : (items rows : List Item) (n : ℕ) → AreRising items → rows ≡ items → length rows ≡ n → n < 2 ^ 63 → AreRows rows
rows_of_list items rows n rising is counted few = subst AreRows (sym is) (record {
  each = rising.each;
  rise = rising.rise;
  few = subst (λ m. m < 2 ^ 63) (sym counted ∙ ap (λ (l : List Item). length l) is) few;
})
