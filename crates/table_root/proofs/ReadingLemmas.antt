-- Rows that are read from a scan.
use Rattle.std.proofs.Common.{◌≡◌, ℕ, true, false, cond, List, [], ◌∷◌, ◌++◌, map, refl, sym, ap, ◌∙◌, append_assoc, append-nil}
use Rattle.std.specs.List.{list_all}
use Rattle.std.specs.Ordering.{nat_cmp, is_lt}
use Rattle.std.specs.Cmp.Lexicographic.{slice_cmp}
use Rattle.std.proofs.lemmas.Bool.{and_parts}
use Rattle.tuple_codec.specs.Rows.{Cells}
use Rattle.tuple_codec.specs.Nodes.{Item}
use Rattle.schema_model.specs.PlainTables.{is_row, row_item}
use Rattle.schema_model.specs.declared.schemas.Schema.{Schema}
use Rattle.prolly_tree.specs.Lists.{from_key, pair_of}
use Rattle.table_root.specs.Rows.{IsRowOf}

-- no key is below the empty one
none_below : (key : List ℕ) → is_lt (slice_cmp nat_cmp key []) ≡ false
none_below [] = refl
none_below (byte ∷ key) = refl

pub from_first : (items : List Item) → from_key [] items ≡ items
from_first [] = refl
from_first (item ∷ items) = ap (λ b. cond b (from_key [] items) (item ∷ items)) (none_below item.key)

-- rows as a scan gives them
abbrev pub pairs_of : Schema → List Cells → List (List ℕ × List ℕ)
pairs_of schema rows = map pair_of (map (row_item schema) rows)

-- some rows were read, and those that are left are all of them that fit
pub record IsReading (schema : Schema) (done : List Cells) (rest : List (List ℕ × List ℕ)) (rows : List Cells) : Type 0 where
  pub left : List Cells
  pub fit : list_all (is_row schema) left ≡ true
  pub whole : done ++ left ≡ rows
  pub follow : rest ≡ pairs_of schema left

pub begins : (s : Schema) (rows : List Cells) (rest : List (List ℕ × List ℕ)) → list_all (is_row s) rows ≡ true
    → rest ≡ map pair_of (from_key [] (map (row_item s) rows)) → IsReading s [] rest rows
begins s rows rest fit e =
    record { left = rows; fit = fit; whole = refl; follow = e ∙ ap (λ (l : List Item). map pair_of l) (from_first (map (row_item s) rows)) }

-- the row of the first pair that is left, and what is left behind it
pub record IsFirst (s : Schema) (done : List Cells) (pair : List ℕ × List ℕ) (rest : List (List ℕ × List ℕ)) (rows : List Cells) : Type 0 where
  pub row : Cells
  pub is : IsRowOf s pair.0 pair.1 row
  pub reading : IsReading s (done ++ row ∷ []) rest rows

first_of : (s : Schema) (done rows left : List Cells) (pair : List ℕ × List ℕ) (rest : List (List ℕ × List ℕ)) → list_all (is_row s) left ≡ true → done ++ left ≡ rows
    → (pair ∷ rest) ≡ pairs_of s left → IsFirst s done pair rest rows
first_of s done rows [] pair rest fit whole e = absurd (cc)
first_of s done rows (row ∷ left) pair rest fit whole e =
    let parts = and_parts (is_row s row) (list_all (is_row s) left) fit in
    let one : pair ≡ pair_of (row_item s row) = cc in
    let more : rest ≡ pairs_of s left = cc in
    record {
      row = row;
      is = record { fits = parts.0; key = sym (ap (λ (p : List ℕ × List ℕ). p.0) one); value = sym (ap (λ (p : List ℕ × List ℕ). p.1) one) };
      reading = record { left = left; fit = parts.1; whole = append_assoc done (row ∷ []) left ∙ whole; follow = more };
    }

pub first : (s : Schema) (done rows : List Cells) (all rest : List (List ℕ × List ℕ)) (pair : List ℕ × List ℕ) → IsReading s done all rows → all ≡ pair ∷ rest
    → IsFirst s done pair rest rows
first s done rows all rest pair reading e = first_of s done rows reading.left pair rest reading.fit reading.whole (sym e ∙ reading.follow)

over_by : (s : Schema) (done rows left : List Cells) → done ++ left ≡ rows → [] ≡ pairs_of s left → done ≡ rows
over_by s done rows [] whole e = sym (append-nil done) ∙ whole
over_by s done rows (row ∷ left) whole e = absurd (cc)

pub over : (s : Schema) (done rows : List Cells) (all : List (List ℕ × List ℕ)) → IsReading s done all rows → all ≡ [] → done ≡ rows
over s done rows all reading e = over_by s done rows reading.left reading.whole (sym e ∙ reading.follow)
