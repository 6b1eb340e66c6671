-- Violations read from the items of their tree.
use Rattle.std.proofs.Common.{◌≡◌, ◌≤◌, ◌<◌, ◌^◌, ◌+◌, ◌-◌, refl, sym, ap, ◌∙◌, subst, ℕ, suc, true, not, nat_le, nat_lt, List, [], ◌∷◌, ◌++◌, length, map, drop, take, min, slice_index_or, arith, append_assoc, append-nil}
use Rattle.std.specs.List.{list_all}
use Rattle.std.specs.Ordering.{is_eq}
use Rattle.std.proofs.lemmas.Bool.{and_from, and_parts, le-leb, ltb-true}
use Rattle.std.proofs.lemmas.List.Sums.{count_by-le-length}
use Rattle.chunk_store.specs.Chunks.{Chunks}
use Rattle.chunk_store.specs.Standing.{IsTree}
use Rattle.plain_sessions.specs.SystemTables.{kind_text, violation_row}
use Rattle.prolly_tree.specs.Lists.{from_key, pair_of}
use Rattle.schema_model.specs.PlainTables.{PlainTable, Violation, is_row, is_violation, key_types, primary_key, violation_item, violation_items}
use Rattle.schema_model.specs.Schemas.{is_name, is_schema}
use Rattle.schema_model.specs.declared.schemas.Schema.{Schema}
use Rattle.schema_model.proofs.FitLemmas.{key_types_fit}
use Rattle.schema_model.proofs.TellingLemmas.{violation_is}
use Rattle.table_root.specs.Standing.{IsTableOf}
use Rattle.table_root.specs.declared.records.StoredTable.{StoredTable}
use Rattle.table_root.specs.Rows.{IsRowOf}
use Rattle.table_root.proofs.ReadingLemmas.{from_first}
use Rattle.tuple_codec.specs.KeyBytes.{key_bytes, key_cell}
use Rattle.tuple_codec.specs.Limits.{are_types}
use Rattle.tuple_codec.specs.Nodes.{Item}
use Rattle.tuple_codec.specs.Rows.{AreTold, Cells, fits, fits_all, key_cmp, same_cells}
use Rattle.tuple_codec.specs.Texts.{char_count, is_continuation, is_utf8}
use Rattle.tuple_codec.specs.declared.values.SqlType.TheVariants as kind
use Rattle.tuple_codec.specs.declared.values.Value.{Value}
use Rattle.tuple_codec.specs.declared.values.Value.TheVariants as cell
use Rattle.system_tables.specs.Entries.{IsListed, IsListedKey, listed_types, violation_entry}
use Rattle.system_tables.specs.declared.entries.ListEntry.{ListEntry}
use lib.Seq.{drop-append_seam}

-- ---- its parts

name_fits : (name : List ℕ) → is_name name ≡ true → fits (kind.Varchar 255) (cell.Text name) ≡ true
name_fits name is =
    let both = and_parts (nat_lt (length name) 256) (is_utf8 name) is in
    let few = ltb-true (length name) 256 both.0 in
    let fewer : char_count name ≤ length name = count_by-le-length (λ byte. not (is_continuation byte)) name in
    and_from (is_utf8 name) (nat_le (char_count name) 255) both.1 (le-leb (char_count name) 255 (omega (arith, few, fewer)))

-- ---- its key behind its kind

pub types_fit : (schema : Schema) → is_schema schema ≡ true → are_types (listed_types schema) ≡ true
types_fit schema is = and_from _ (are_types (key_types schema)) refl (key_types_fit schema is)

pub listed_key : (schema : Schema) (k : ℕ) (rest value : List ℕ) (violation : Violation) → IsListed schema (k ∷ rest) value violation → IsListedKey (listed_types schema) rest violation.constraint violation.key
listed_key schema k rest value violation of =
    let is = violation_is schema violation of.is in
    let key_is = of.key_is in
    record {
      fits = and_from (fits (kind.Varchar 255) (cell.Text violation.constraint)) (fits_all (key_types schema) violation.key) (name_fits violation.constraint is.name) is.key;
      are = cc;
    }

pub kind_is : (schema : Schema) (k : ℕ) (rest value : List ℕ) (violation : Violation) → IsListed schema (k ∷ rest) value violation → k ≡ violation.kind
kind_is schema k rest value violation of = let key_is = of.key_is in cc

pub row_is : AreTold same_cells → (schema : Schema) (k : ℕ) (rest value : List ℕ) (violation : Violation) → IsListed schema (k ∷ rest) value violation → (bytes : List ℕ) → bytes ≡ key_bytes violation.key
    → IsRowOf schema bytes value violation.row
row_is told schema k rest value violation of bytes are =
    let is = violation_is schema violation of.is in
    let parts = and_parts (is_row schema violation.row) (is_eq (key_cmp (primary_key schema violation.row) violation.key)) is.row in
    record { fits = parts.0; key = ap key_bytes ((told (primary_key schema violation.row) violation.key).0 parts.1) ∙ sym are; value = sym of.value_is }

pub shown_is : (violation : Violation) (k : ℕ) (name : Value) (row : Cells) → k ≡ violation.kind → name ≡ cell.Text violation.constraint → row ≡ violation.row
    → cell.Text (kind_text k) ∷ (row ++ name ∷ []) ≡ violation_row violation
shown_is violation k name row is named are = λ i. cell.Text (kind_text (is i)) ∷ (are i ++ named i ∷ [])

-- ---- what stands behind a cell

pub far_enough : (name : Value) (key : Cells) (bytes : List ℕ) → key_bytes (name ∷ key) ≡ bytes → min (length (key_cell name)) (2 ^ 64 - 1) ≤ length bytes
far_enough name key bytes are =
    let whole : length (key_cell name) ≤ length (key_cell name ++ key_bytes key) = front_le (key_cell name) (key_bytes key) in
    subst (λ (l : List ℕ). min (length (key_cell name)) (2 ^ 64 - 1) ≤ length l) are (omega (arith, whole))
  where
    front_le : (xs ys : List ℕ) → length xs ≤ length (xs ++ ys)
    front_le [] ys = omega arith
    front_le (x ∷ xs) ys = let more = front_le xs ys in omega (arith, more)

pub behind_is : (name : Value) (key : Cells) (bytes : List ℕ) (n : ℕ) → key_bytes (name ∷ key) ≡ bytes → length bytes < 2 ^ 63 → n ≡ min (length (key_cell name)) (2 ^ 64 - 1) → drop n bytes ≡ key_bytes key
behind_is name key bytes n are short at =
    let far = far_enough name key bytes are in
    let exact : n ≡ length (key_cell name) = omega (arith, far, short, at) in
    (λ i. drop (exact i) (sym are i)) ∙ drop-append_seam (key_cell name) (key_bytes key)

-- ---- a scan of them

module _ (schema : Schema) (violations : List Violation) where
  -- some were read, and those that are left follow
  pub record IsReading (done : List ListEntry) (rest : List (List ℕ × List ℕ)) : Type 0 where
    pub left : List Violation
    pub fit : list_all (is_violation schema) left ≡ true
    pub whole : done ++ map (violation_entry schema) left ≡ map (violation_entry schema) violations
    pub follow : rest ≡ map pair_of (map (violation_item schema) left)

  pub begins : list_all (is_violation schema) violations ≡ true → (rest : List (List ℕ × List ℕ)) → rest ≡ map pair_of (from_key [] (map (violation_item schema) violations)) → IsReading [] rest
  begins fit rest e = record { left = violations; fit = fit; whole = refl; follow = e ∙ ap (λ (l : List Item). map pair_of l) (from_first (map (violation_item schema) violations)) }

  -- the first that is left, and what is left behind it
  pub record IsFirst (done : List ListEntry) (pair : List ℕ × List ℕ) (rest : List (List ℕ × List ℕ)) : Type 0 where
    pub violation : Violation
    pub is : IsListed schema pair.0 pair.1 violation
    pub reading : IsReading (done ++ violation_entry schema violation ∷ []) rest

  first_of : (done : List ListEntry) (left : List Violation) (pair : List ℕ × List ℕ) (rest : List (List ℕ × List ℕ)) → list_all (is_violation schema) left ≡ true
      → done ++ map (violation_entry schema) left ≡ map (violation_entry schema) violations → (pair ∷ rest) ≡ map pair_of (map (violation_item schema) left) → IsFirst done pair rest
  first_of done [] pair rest fit whole e = absurd (cc)
  first_of done (violation ∷ left) pair rest fit whole e =
      let one : pair ≡ pair_of (violation_item schema violation) = cc in
      let more : rest ≡ map pair_of (map (violation_item schema) left) = cc in
      let both = and_parts (is_violation schema violation) (list_all (is_violation schema) left) fit in
      record {
        violation = violation;
        is = record { is = both.0; key_is = ap (λ (p : List ℕ × List ℕ). p.0) one; value_is = ap (λ (p : List ℕ × List ℕ). p.1) one };
        reading = record {
          left = left;
          fit = both.1;
          whole = append_assoc done (violation_entry schema violation ∷ []) (map (violation_entry schema) left) ∙ whole;
          follow = more;
        };
      }

  pub first : (done : List ListEntry) (all rest : List (List ℕ × List ℕ)) (pair : List ℕ × List ℕ) → IsReading done all → all ≡ pair ∷ rest → IsFirst done pair rest
  first done all rest pair reading e = first_of done reading.left pair rest reading.fit reading.whole (sym e ∙ reading.follow)

  over_by : (done : List ListEntry) (left : List Violation) → done ++ map (violation_entry schema) left ≡ map (violation_entry schema) violations
      → [] ≡ map pair_of (map (violation_item schema) left) → done ≡ map (violation_entry schema) violations
  over_by done [] whole e = sym (append-nil done) ∙ whole
  over_by done (violation ∷ left) whole e = absurd (cc)

  pub over : (done : List ListEntry) (all : List (List ℕ × List ℕ)) → IsReading done all → all ≡ [] → done ≡ map (violation_entry schema) violations
  over done all reading e = over_by done reading.left reading.whole (sym e ∙ reading.follow)

-- ---- those of a table that stands

module _ (address : List ℕ → List ℕ) (chunks : Chunks) (table : StoredTable) (contents : PlainTable) (of : IsTableOf address chunks table contents) where
  pub own_tree : IsTree address chunks table.violations.0 (map (violation_item table.schema) contents.violations)
  own_tree =
      subst (λ (schema : Schema). IsTree address chunks table.violations.0 (map (violation_item schema) contents.violations)) (sym (ap (λ (t : StoredTable). t.schema) of.value))
      (subst (λ (k : List ℕ). IsTree address chunks k (violation_items contents)) (sym (ap (λ (t : StoredTable). t.violations.0) of.value)) (let trees = of.trees in trees.violations))

  pub own_fit : list_all (is_violation table.schema) contents.violations ≡ true
  own_fit = subst (λ (schema : Schema). list_all (is_violation schema) contents.violations ≡ true) (sym (ap (λ (t : StoredTable). t.schema) of.value)) (let is = of.is_table in is.violations)

  pub schema_is : is_schema table.schema ≡ true
  schema_is = subst (λ (schema : Schema). is_schema schema ≡ true) (sym (ap (λ (t : StoredTable). t.schema) of.value)) (let is = of.is_table in is.schema)

  pub shown_of : (entries : List ListEntry) → entries ≡ map (violation_entry table.schema) contents.violations → entries ≡ map (violation_entry contents.schema) contents.violations
  shown_of entries are = are ∙ ap (λ (t : StoredTable). map (violation_entry t.schema) contents.violations) of.value

-- ---- a list's first and the rest

take_whole : (ys : List ℕ) → take (length ys) ys ≡ ys
take_whole [] = refl
take_whole (y ∷ ys) = ap (λ l. y ∷ l) (take_whole ys)

rest_is : (x : ℕ) (xs : List ℕ) → take (length (x ∷ xs) - 1) (drop 1 (x ∷ xs)) ≡ xs
rest_is x xs = let less : suc (length xs) - 1 ≡ length xs = omega arith in ap (λ n. take n xs) less ∙ take_whole xs

pub by_first : (xs : List ℕ) (first : ℕ) → 1 ≤ length xs → first ≡ slice_index_or xs 0 first → xs ≡ first ∷ take (length xs - 1) (drop 1 xs)
by_first [] first long is = absurd (omega (arith, long))
by_first (x ∷ xs) first long is = (λ i. sym is i ∷ sym (rest_is x xs) i)
