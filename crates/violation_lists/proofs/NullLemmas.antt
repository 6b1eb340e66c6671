-- The row whose key is NULL, found in a tree by the bytes of its key.
use Rattle.std.proofs.Common.{◌≡◌, refl, sym, ap, ◌∙◌, subst, ℕ, Bool, true, false, cond, ◌||◌, List, [], ◌∷◌, map, filter, bytes_eq, not, Option, None, Some, is_some, option_map}
use Rattle.std.specs.Cmp.Lexicographic.{bytes_decides}
use Rattle.std.specs.List.{list_all, list_any}
use Rattle.std.proofs.lemmas.Bool.{and_parts}
use Rattle.tuple_codec.proofs.Options.{some_is}
use Rattle.tuple_codec.specs.Edits.{value_at}
use Rattle.tuple_codec.specs.KeyBytes.{key_bytes}
use Rattle.tuple_codec.specs.Nodes.{RiseAfter}
use Rattle.tuple_codec.specs.Rows.{Cells, same_cells}
use Rattle.tuple_codec.specs.declared.values.Value.TheVariants as cell
use Rattle.schema_model.specs.PlainTables.{body_bytes, is_row, primary_key, row_item}
use Rattle.schema_model.specs.declared.schemas.Schema.{Schema}
use Rattle.tuple_codec.proofs.EditedValues.{above}
use Rattle.table_root.specs.Rows.{IsRowOf}
use Rattle.violation_lists.specs.Thinned.{has_null_key}

-- a zero byte is the key NULL
null_told : (cells : Cells) → bytes_eq (key_bytes cells) (0 ∷ []) ≡ same_cells (cell.Null ∷ []) cells
null_told [] = refl
null_told (cell.Null ∷ []) = refl
null_told (cell.Null ∷ cell.Null ∷ cells) = refl
null_told (cell.Null ∷ cell.Int n ∷ cells) = refl
null_told (cell.Null ∷ cell.Bool b ∷ cells) = refl
null_told (cell.Null ∷ cell.Text text ∷ cells) = refl
null_told (cell.Null ∷ cell.Bytes bytes ∷ cells) = refl
null_told (cell.Null ∷ cell.Decimal n ∷ cells) = refl
null_told (cell.Int n ∷ cells) = refl
null_told (cell.Bool b ∷ cells) = refl
null_told (cell.Text text ∷ cells) = refl
null_told (cell.Bytes bytes ∷ cells) = refl
null_told (cell.Decimal n ∷ cells) = refl

module _ (schema : Schema) where
  abbrev found : List Cells → Option (List ℕ)
  found rows = value_at (0 ∷ []) (map (row_item schema) rows)

  pub any_null : (rows : List Cells) → is_some (found rows) ≡ list_any (has_null_key schema) rows
  any_null [] = refl
  any_null (row ∷ rows) = by (bytes_eq (key_bytes (primary_key schema row)) (0 ∷ [])) ∙ (λ i. null_told (primary_key schema row) i || any_null rows i) where
    by : (b : Bool) → is_some (cond b (Some (body_bytes schema row)) (found rows)) ≡ (b || is_some (found rows))
    by true = refl
    by false = refl

  -- where a look finds none, and where it finds one
  pub told_quiet : {A : Type 0} (f : A → List ℕ) (one : Option A) (none : Bool) (rows : List Cells) → is_some one ≡ not none → option_map f one ≡ found rows → none ≡ not (list_any (has_null_key schema) rows)
  told_quiet {A = A} f one none rows is e = twice none ∙ ap not (sym is ∙ mapped one ∙ ap is_some e ∙ any_null rows) where
    twice : (b : Bool) → b ≡ not (not b)
    twice true = refl
    twice false = refl

    mapped : (o : Option A) → is_some o ≡ is_some (option_map f o)
    mapped None = refl
    mapped (Some a) = refl

  pub none_null : (rows : List Cells) → found rows ≡ None → filter (has_null_key schema) rows ≡ []
  none_null [] none = refl
  none_null (row ∷ rows) none = by (none_null rows) (bytes_eq (key_bytes (primary_key schema row)) (0 ∷ [])) (null_told (primary_key schema row)) none where
    by : (found rows ≡ None → filter (has_null_key schema) rows ≡ []) → (b : Bool) → b ≡ has_null_key schema row → cond b (Some (body_bytes schema row)) (found rows) ≡ None
        → filter (has_null_key schema) (row ∷ rows) ≡ []
    by more true e none = absurd (cc)
    by more false e none = ap (λ b. cond b (row ∷ filter (has_null_key schema) rows) (filter (has_null_key schema) rows)) (sym e) ∙ more none

-- the one row of key NULL, which has this value
pub record OneNull (schema : Schema) (rows : List Cells) (value : List ℕ) : Type 0 where
  pub row : Cells
  pub is : IsRowOf schema (0 ∷ []) value row
  pub alone : filter (has_null_key schema) rows ≡ row ∷ []

pub one_null : (schema : Schema) (before : Option (List ℕ)) (rows : List Cells) (value : List ℕ) → list_all (is_row schema) rows ≡ true → RiseAfter before (map (row_item schema) rows)
    → found schema rows ≡ Some value → OneNull schema rows value
one_null schema before [] value fit rise e = absurd (cc)
one_null schema before (row ∷ rows) value fit rise e =
    by (one_null schema (Some (key_bytes (primary_key schema row))) rows value (and_parts (is_row schema row) (list_all (is_row schema) rows) fit).1 rise.1)
    (bytes_eq (key_bytes (primary_key schema row)) (0 ∷ [])) refl e where
      key : bytes_eq (key_bytes (primary_key schema row)) (0 ∷ []) ≡ true → key_bytes (primary_key schema row) ≡ 0 ∷ []
      key same = (bytes_decides (key_bytes (primary_key schema row)) (0 ∷ [])).0 same

      by : (found schema rows ≡ Some value → OneNull schema rows value) → (b : Bool) → bytes_eq (key_bytes (primary_key schema row)) (0 ∷ []) ≡ b
          → cond b (Some (body_bytes schema row)) (found schema rows) ≡ Some value → OneNull schema (row ∷ rows) value
      by more true same e =
          let none = none_null schema rows (above (0 ∷ []) (map (row_item schema) rows) (subst (λ k. RiseAfter (Some k) (map (row_item schema) rows)) (key same) rise.1)) in
          record {
            row = row;
            is = record { fits = (and_parts (is_row schema row) (list_all (is_row schema) rows) fit).0; key = key same; value = some_is (body_bytes schema row) value e };
            alone = λ i. cond ((sym (null_told (primary_key schema row)) ∙ same) i) (row ∷ none i) (none i);
          }
      by more false same e =
          let rest = more e in
          record {
            row = rest.row;
            is = rest.is;
            alone = ap (λ b. cond b (row ∷ filter (has_null_key schema) rows) (filter (has_null_key schema) rows)) (sym (null_told (primary_key schema row)) ∙ same) ∙ rest.alone;
          }
