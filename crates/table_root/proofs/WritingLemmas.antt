-- A row's bytes, cell after cell where they lie in the row.
use Rattle.std.proofs.Common.{◌≡◌, ◌<◌, ◌+◌, ◌++◌, ℕ, zero, suc, Bool, true, false, cond, List, [], ◌∷◌, length, get_or, drop, drop-cons, append_assoc, refl, sym, ap, subst, ◌∙◌, arith}
use Rattle.std.specs.List.{list_all}
use Rattle.std.proofs.lemmas.Bool.{and_parts}
use Rattle.tuple_codec.specs.Rows.{Cells, key_of}
use Rattle.tuple_codec.specs.Cells.{is_spelled}
use Rattle.tuple_codec.specs.KeyBytes.{key_bytes, key_cell}
use Rattle.tuple_codec.specs.RowBytes.{row_bytes, row_cell}
use Rattle.tuple_codec.specs.declared.forms.Form.TheVariants as form
use Rattle.tuple_codec.proofs.OrderLemmas.{rows_spelled}
use Rattle.tuple_codec.specs.declared.values.Value.{Value}
use Rattle.tuple_codec.specs.declared.values.Value.TheVariants as cell
use Rattle.schema_model.specs.PlainTables.{body_types, is_keyed, is_row, unkeyed_from}
use Rattle.schema_model.specs.Schemas.{is_schema}
use Rattle.schema_model.specs.declared.schemas.Schema.{Schema}
use Rattle.schema_model.proofs.FitLemmas.{body_fits, body_types_fit, form_of, place_below, row_length}

-- a key's columns have cells
pub cell_there : (s : Schema) (row : Cells) (at : ℕ) → is_schema s ≡ true → is_row s row ≡ true → at < length s.key → get_or s.key at 0 < length row
cell_there s row at h fit below = omega (arith, place_below s.columns s.key at (form_of s h).places below, row_length s row fit)

same_cell : (row : Cells) (place : ℕ) (some other : Value) → place < length row → get_or row place some ≡ get_or row place other
same_cell [] place some other below = absurd (omega arith)
same_cell (value ∷ row) zero some other below = refl
same_cell (value ∷ row) (suc place) some other below = let below2 : place < length row = omega arith in same_cell row place some other below2

-- one more cell of the key
pub key_step : (key : List ℕ) (row : Cells) (at : ℕ) (some : Value) (done all : List ℕ) → at < length key → get_or key at 0 < length row
    → done ++ key_bytes (key_of (drop at key) row) ≡ all
    → (done ++ key_cell (get_or row (get_or key at 0) some)) ++ key_bytes (key_of (drop (at + 1) key) row) ≡ all
key_step key row at some done all below there e =
    let place = get_or key at 0 in
    let bytes = key_cell (get_or row place cell.Null) in
    let next : suc at ≡ at + 1 = omega arith in
    let here : key_bytes (key_of (drop at key) row) ≡ bytes ++ key_bytes (key_of (drop (at + 1) key) row) =
    ap (λ (l : List ℕ). key_bytes (key_of l row)) (drop-cons key at 0 below) ∙ ap (λ (n : ℕ). bytes ++ key_bytes (key_of (drop n key) row)) next in
    ap (λ (v : Value). (done ++ key_cell v) ++ key_bytes (key_of (drop (at + 1) key) row)) (same_cell row place some cell.Null there)
    ∙ append_assoc done bytes (key_bytes (key_of (drop (at + 1) key) row)) ∙ ap (λ (l : List ℕ). done ++ l) (sym here) ∙ e

-- each other cell can be written
pub body_spelled : (s : Schema) (row : Cells) → is_schema s ≡ true → is_row s row ≡ true → list_all (is_spelled form.Row) (unkeyed_from s.key 0 row) ≡ true
body_spelled s row h fit = rows_spelled (body_types s) (unkeyed_from s.key 0 row) (body_types_fit s h) (body_fits s row fit)

-- what is written from a place on, and whether it can be
pub record IsLeft (key : List ℕ) (row : Cells) (place : ℕ) (done all : List ℕ) : Type 0 where
  pub spelled : list_all (is_spelled form.Row) (unkeyed_from key place (drop place row)) ≡ true
  pub left : done ++ row_bytes (unkeyed_from key place (drop place row)) ≡ all

from_place : (key : List ℕ) (row : Cells) (place : ℕ) (some : Value) → place < length row
    → unkeyed_from key place (drop place row)
    ≡ cond (is_keyed key place) (unkeyed_from key (place + 1) (drop (place + 1) row)) (get_or row place some ∷ unkeyed_from key (place + 1) (drop (place + 1) row))
from_place key row place some below =
    let next : suc place ≡ place + 1 = omega arith in
    ap (λ (l : Cells). unkeyed_from key place l) (drop-cons row place some below)
    ∙ ap (λ (n : ℕ). cond (is_keyed key place) (unkeyed_from key n (drop n row)) (get_or row place some ∷ unkeyed_from key n (drop n row))) next

-- a cell of the key is passed over
pub keyed_step : (key : List ℕ) (row : Cells) (place : ℕ) (some : Value) (done all : List ℕ) → place < length row → is_keyed key place ≡ true
    → IsLeft key row place done all → IsLeft key row (place + 1) done all
keyed_step key row place some done all below keyed is =
    let rest = unkeyed_from key (place + 1) (drop (place + 1) row) in
    let here : unkeyed_from key place (drop place row) ≡ rest = from_place key row place some below
    ∙ ap (λ (b : Bool). cond b rest (get_or row place some ∷ rest)) keyed in
    record {
      spelled = subst (λ (l : Cells). list_all (is_spelled form.Row) l ≡ true) here is.spelled;
      left = subst (λ (l : Cells). done ++ row_bytes l ≡ all) here is.left;
    }

other_here : (key : List ℕ) (row : Cells) (place : ℕ) (some : Value) → place < length row → is_keyed key place ≡ false
    → unkeyed_from key place (drop place row) ≡ get_or row place some ∷ unkeyed_from key (place + 1) (drop (place + 1) row)
other_here key row place some below other =
    let rest = unkeyed_from key (place + 1) (drop (place + 1) row) in
    from_place key row place some below ∙ ap (λ (b : Bool). cond b rest (get_or row place some ∷ rest)) other

-- another cell can be written
pub other_spelled : (key : List ℕ) (row : Cells) (place : ℕ) (some : Value) (done all : List ℕ) → place < length row → is_keyed key place ≡ false
    → IsLeft key row place done all → is_spelled form.Row (get_or row place some) ≡ true
other_spelled key row place some done all below other is =
    let rest = unkeyed_from key (place + 1) (drop (place + 1) row) in
    (and_parts (is_spelled form.Row (get_or row place some)) (list_all (is_spelled form.Row) rest)
    (subst (λ (l : Cells). list_all (is_spelled form.Row) l ≡ true) (other_here key row place some below other) is.spelled)).0

-- another cell is written
pub other_step : (key : List ℕ) (row : Cells) (place : ℕ) (some : Value) (done all : List ℕ) → place < length row → is_keyed key place ≡ false
    → IsLeft key row place done all → IsLeft key row (place + 1) (done ++ row_cell (get_or row place some)) all
other_step key row place some done all below other is =
    let value = get_or row place some in
    let rest = unkeyed_from key (place + 1) (drop (place + 1) row) in
    let here = other_here key row place some below other in
    record {
      spelled = (and_parts (is_spelled form.Row value) (list_all (is_spelled form.Row) rest) (subst (λ (l : Cells). list_all (is_spelled form.Row) l ≡ true) here is.spelled)).1;
      left = append_assoc done (row_cell value) (row_bytes rest) ∙ subst (λ (l : Cells). done ++ row_bytes l ≡ all) here is.left;
    }

pub body_begins : (s : Schema) (row : Cells) (key done : List ℕ) → key ≡ s.key → done ≡ [] → is_schema s ≡ true → is_row s row ≡ true
    → IsLeft key row 0 done (row_bytes (unkeyed_from key 0 row))
body_begins s row key done key_is none h fit = record {
  spelled = subst (λ (k : List ℕ). list_all (is_spelled form.Row) (unkeyed_from k 0 row) ≡ true) (sym key_is) (body_spelled s row h fit);
  left = ap (λ (l : List ℕ). l ++ row_bytes (unkeyed_from key 0 row)) none;
}
