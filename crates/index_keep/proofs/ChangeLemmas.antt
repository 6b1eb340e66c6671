-- Keys at which rows come, go or change.
use Rattle.std.proofs.Common.{◌≡◌, ℕ, Bool, true, false, List, [], ◌∷◌, map, Option, None, Some, is_some, refl, sym, ap, ◌∙◌}
use Rattle.std.specs.Prelude.{bytes_eq, if◌then◌else◌, ◌||◌}
use Rattle.std.specs.List.{AllByRecursion, list_all, list_any}
use Rattle.std.specs.Option.{option_map}
use Rattle.std.proofs.lemmas.Bool.{and_from}
use Rattle.tuple_codec.proofs.ByteLemmas.{same_bytes as eq_key, bytes_itself as itself}
use Rattle.tuple_codec.proofs.Options.{some_is}
use Rattle.tuple_codec.specs.Edits.{EditsRiseAfter, edited, value_at}
use Rattle.tuple_codec.specs.Nodes.{Item, Rise}
use Rattle.tuple_codec.specs.Rows.{Cells}
use Rattle.tuple_codec.specs.declared.edits.Edit.{Edit}
use Rattle.schema_model.specs.PlainTables.{body_bytes, is_row, row_item}
use Rattle.schema_model.specs.Schemas.{is_schema}
use Rattle.schema_model.specs.declared.schemas.Schema.{Schema}
use Rattle.tuple_codec.specs.ByKey.{edit_at, over}
use Rattle.tuple_codec.proofs.EditedValues.{edited_value, edits_above}
use Rattle.table_root.specs.Rows.{RowItemsFollow}
use Rattle.index_keep.specs.Entries.{changes_at, found, keys_of, row_change, row_key}
use Rattle.index_keep.specs.Steps.{AreChanged, AreOnce, change_fits, is_row_or_none}
use Rattle.index_keep.specs.declared.changes.RowChange.{RowChange}
use Rattle.index_keep.proofs.FoundLemmas.{Apart, apart, found_fits, found_name, value_found}

abbrev has : List ℕ → List (List ℕ) → Bool
has key keys = list_any (λ other. bytes_eq other key) keys

-- ---- rows that come where there were none

module _ {A : Type 0} (name : A → List ℕ) where
  has_found : (key : List ℕ) (xs : List A) → has key (map name xs) ≡ is_some (found name key xs)
  has_found key [] = refl
  has_found key (x ∷ xs) = by (bytes_eq (name x) key) (has_found key xs) where
    by : (b : Bool) → has key (map name xs) ≡ is_some (found name key xs) → (b || has key (map name xs)) ≡ is_some (if b then Some x else found name key xs)
    by true e = refl
    by false e = e

  once : (xs : List A) → Apart name xs → AreOnce (map name xs)
  once [] apart = tt
  once (x ∷ xs) apart = (has_found (name x) xs ∙ ap is_some apart.0, once xs apart.1)

  not_has : (key : List ℕ) (xs : List A) → has key (map name xs) ≡ false → found name key xs ≡ None
  not_has key xs e = by (found name key xs) refl where
    by : (o : Option A) → found name key xs ≡ o → found name key xs ≡ None
    by None is = is
    by (Some x) is = absurd (cc (sym e ∙ has_found key xs ∙ ap is_some is))

  abbrev AreFound : List A → List A → Type 0
  AreFound xs all = AllByRecursion (λ x. found name (name x) all ≡ Some x) xs

  found_past : (x : A) (xs all : List A) → found name (name x) all ≡ None → AreFound xs all → AreFound xs (x ∷ all)
  found_past x [] all none are = tt
  found_past x (y ∷ xs) all none are = (by (bytes_eq (name x) (name y)) refl, found_past x xs all none are.1) where
    by : (b : Bool) → bytes_eq (name x) (name y) ≡ b → (if b then Some x else found name (name y) all) ≡ Some y
    by false e = are.0
    by true e = absurd (cc (sym none ∙ ap (λ k. found name k all) (eq_key (name x) (name y) e) ∙ are.0))

  are_found : (xs : List A) → Apart name xs → AreFound xs xs
  are_found [] apart = tt
  are_found (x ∷ xs) apart = (ap (λ b. if b then Some x else found name (name x) xs) (itself (name x)), found_past x xs xs apart.0 (are_found xs apart.1))

new_changes : (schema : Schema) (rows all : List Cells) → AllByRecursion (λ row. found (row_key schema) (row_key schema row) all ≡ Some row) rows
    → map (λ row. row_change None (Some row)) rows ≡ changes_at schema [] all (map (row_key schema) rows)
new_changes schema [] all are = refl
new_changes schema (row ∷ rows) all are =
    ap (λ (o : Option Cells). row_change None o ∷ map (λ row. row_change None (Some row)) rows) (sym are.0)
    ∙ ap (λ (l : List RowChange). row_change None (found (row_key schema) (row_key schema row) all) ∷ l) (new_changes schema rows all are.1)

pub rows_come : (schema : Schema) (rows : List Cells) → is_schema schema ≡ true → list_all (is_row schema) rows ≡ true → Rise (map (row_item schema) rows) → AreChanged schema [] rows (map (row_key schema) rows)
rows_come schema rows is fit rise =
    let apart_rows = apart (row_key schema) (body_bytes schema) None rows rise in
    record {
      rows_fit = refl;
      rows_rise = tt;
      others_rise = rise;
      valid = is;
      others_fit = fit;
      once = once (row_key schema) rows apart_rows;
      same = λ key none. sym (not_has (row_key schema) key rows none);
    }

pub changes_come : (schema : Schema) (rows : List Cells) → Rise (map (row_item schema) rows)
    → map (λ row. row_change None (Some row)) rows ≡ changes_at schema [] rows (map (row_key schema) rows)
changes_come schema rows rise = new_changes schema rows rows (are_found (row_key schema) rows (apart (row_key schema) (body_bytes schema) None rows rise))

-- ---- rows that edits change

has_edit : (key : List ℕ) (edits : List Edit) → edit_at key edits ≡ None → has key (keys_of edits) ≡ false
has_edit key [] e = refl
has_edit key (edit ∷ edits) e = by (has_edit key edits) (bytes_eq edit.key key) e where
  by : (edit_at key edits ≡ None → has key (keys_of edits) ≡ false) → (b : Bool) → (if b then Some edit.value else edit_at key edits) ≡ None → (b || has key (keys_of edits)) ≡ false
  by more true e = absurd (cc)
  by more false e = more e

no_edit : (key : List ℕ) (edits : List Edit) → has key (keys_of edits) ≡ false → edit_at key edits ≡ None
no_edit key [] e = refl
no_edit key (edit ∷ edits) e = by (no_edit key edits) (bytes_eq edit.key key) e where
  by : (has key (keys_of edits) ≡ false → edit_at key edits ≡ None) → (b : Bool) → (b || has key (keys_of edits)) ≡ false → (if b then Some edit.value else edit_at key edits) ≡ None
  by more true e = absurd (cc)
  by more false e = more e

edits_once : (before : Option (List ℕ)) (edits : List Edit) → EditsRiseAfter before edits → AreOnce (keys_of edits)
edits_once before [] rise = tt
edits_once before (edit ∷ edits) rise = (has_edit edit.key edits (edits_above edit.key edits rise.1), edits_once (Some edit.key) edits rise.1)

-- two rows of one key with one body are one
same_row : (follow : RowItemsFollow) (schema : Schema) (key : List ℕ) (rows others : List Cells) → is_schema schema ≡ true → list_all (is_row schema) others ≡ true → list_all (is_row schema) rows ≡ true
    → option_map (body_bytes schema) (found (row_key schema) key rows) ≡ option_map (body_bytes schema) (found (row_key schema) key others)
    → found (row_key schema) key rows ≡ found (row_key schema) key others
same_row follow schema key rows others is others_fit fit e = by (found (row_key schema) key rows) refl (found (row_key schema) key others) refl e where
  by : (o : Option Cells) → found (row_key schema) key rows ≡ o → (n : Option Cells) → found (row_key schema) key others ≡ n
      → option_map (body_bytes schema) o ≡ option_map (body_bytes schema) n → found (row_key schema) key rows ≡ found (row_key schema) key others
  by None f None g h = f ∙ sym g
  by None f (Some b) g h = absurd (cc)
  by (Some a) f None g h = absurd (cc)
  by (Some a) f (Some b) g h =
      let body : body_bytes schema a ≡ body_bytes schema b = some_is (body_bytes schema a) (body_bytes schema b) h in
      let name : row_key schema a ≡ row_key schema b = found_name (row_key schema) key rows a f ∙ sym (found_name (row_key schema) key others b g) in
      let item : row_item schema a ≡ row_item schema b = ap (λ k. record { key = k; body = body_bytes schema a; rows = 1 }) name ∙ ap (λ v. record { key = row_key schema b; body = v; rows = 1 }) body in
      let same = follow.one schema a b is (found_fits (row_key schema) (is_row schema) key rows a fit f) (found_fits (row_key schema) (is_row schema) key others b others_fit g) item in
      f ∙ ap (λ x. Some x) same ∙ sym g

pub rows_change : (follow : RowItemsFollow) (schema : Schema) (rows others : List Cells) (edits : List Edit) → list_all (is_row schema) rows ≡ true → Rise (map (row_item schema) rows)
    → EditsRiseAfter None edits → map (row_item schema) others ≡ edited (map (row_item schema) rows) edits → Rise (map (row_item schema) others) → is_schema schema ≡ true → list_all (is_row schema) others ≡ true
    → AreChanged schema rows others (keys_of edits)
rows_change follow schema rows others edits fit rise edits_rise items others_rise is others_fit = record {
  rows_fit = fit;
  rows_rise = rise;
  others_rise = others_rise;
  valid = is;
  others_fit = others_fit;
  once = edits_once None edits edits_rise;
  same = λ key none.
      same_row follow schema key rows others is others_fit fit
      (sym (value_found (row_key schema) (body_bytes schema) key rows)
      ∙ sym (ap (λ e. over e (value_at key (map (row_item schema) rows))) (no_edit key edits none))
      ∙ sym (edited_value key (map (row_item schema) rows) None edits rise edits_rise)
      ∙ ap (λ (l : List Item). value_at key l) (sym items)
      ∙ value_found (row_key schema) (body_bytes schema) key others);
}

-- ---- rows that change fit

found_or_none : (schema : Schema) (key : List ℕ) (rows : List Cells) → list_all (is_row schema) rows ≡ true → is_row_or_none schema (found (row_key schema) key rows) ≡ true
found_or_none schema key rows fit = by (found (row_key schema) key rows) refl where
  by : (o : Option Cells) → found (row_key schema) key rows ≡ o → is_row_or_none schema o ≡ true
  by None e = refl
  by (Some row) e = found_fits (row_key schema) (is_row schema) key rows row fit e

pub changes_fit : (schema : Schema) (rows others : List Cells) (keys : List (List ℕ)) → list_all (is_row schema) rows ≡ true → list_all (is_row schema) others ≡ true
    → list_all (change_fits schema) (changes_at schema rows others keys) ≡ true
changes_fit schema rows others [] fit others_fit = refl
changes_fit schema rows others (key ∷ keys) fit others_fit =
    and_from (change_fits schema (row_change (found (row_key schema) key rows) (found (row_key schema) key others))) (list_all (change_fits schema) (changes_at schema rows others keys))
    (and_from (is_row_or_none schema (found (row_key schema) key rows)) (is_row_or_none schema (found (row_key schema) key others))
    (found_or_none schema key rows fit) (found_or_none schema key others others_fit))
    (changes_fit schema rows others keys fit others_fit)
