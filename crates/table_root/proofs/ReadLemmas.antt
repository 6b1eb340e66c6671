-- What is read where the form of a table is found.
use Rattle.std.proofs.Common.{◌≡◌, ◌≤◌, ◌-◌, ℕ, true, List, ◌∷◌, ◌++◌, drop, length, map, take, Some, refl, sym, ap, ◌∙◌, append_assoc, arith}
use Rattle.std.specs.Int.{w32, to_be_bytes}
use Rattle.std.specs.List.{flat_map}
use Rattle.std.proofs.lemmas.Bool.{eqb-true}
use Rattle.std.proofs.lemmas.List.{drop_at, length-append, take_at}
use Rattle.tuple_codec.proofs.Options.{some_is}
use Rattle.schema_model.specs.SchemaBytes.{schema_bytes}
use Rattle.schema_model.specs.Schemas.{is_schema}
use Rattle.schema_model.specs.Spellings as spelled
use Rattle.schema_model.specs.declared.schemas.Schema.{Schema}
use Rattle.table_root.specs.Reading.{schema_text, table_of}
use Rattle.tuple_codec.specs.declared.addresses.Address.{Address}
use Rattle.table_root.specs.Tables.{HasRoots, IsStoredTable, recorded_roots, written_table}
use Rattle.table_root.specs.declared.records.RecordedRoots.{RecordedRoots}
use Rattle.table_root.specs.declared.records.StoredTable.{StoredTable}
use Rattle.table_root.proofs.FormLemmas.{roots_again, roots_bytes, text_again}

-- ---- tables

-- the bytes of a table's schema, and those of its roots
pub text_is : (t : StoredTable) (bytes text roots : List ℕ) → IsStoredTable t → bytes ≡ written_table t → schema_text bytes ≡ Some (text, roots) → (text ≡ schema_bytes t.schema) × (roots ≡ roots_bytes t)
text_is t bytes text roots h e read =
    let pair : List ℕ × List ℕ = (text, roots) in
    let same = some_is pair (schema_bytes t.schema, roots_bytes t) (sym read ∙ ap schema_text e ∙ text_again t h) in
    (ap (λ (p : List ℕ × List ℕ). p.0) same, ap (λ (p : List ℕ × List ℕ). p.1) same)

pub text_there : (t : StoredTable) (bytes : List ℕ) → IsStoredTable t → bytes ≡ written_table t → schema_text bytes ≡ Some (schema_bytes t.schema, roots_bytes t)
text_there t bytes h e = ap schema_text e ∙ text_again t h

-- a table's bytes before those of its last two roots
abbrev front_bytes : StoredTable → List ℕ
front_bytes t =
    3 ∷ (to_be_bytes w32 (length (schema_bytes t.schema)) ++ (schema_bytes t.schema ++ (t.rows.0 ++ flat_map (λ index. index) (map (λ (index : Address). index.0) t.indexes))))

grouped : (x : ℕ) (a b r i c v : List ℕ) → x ∷ (a ++ (b ++ (r ++ (i ++ (c ++ v))))) ≡ ((x ∷ (a ++ (b ++ (r ++ i)))) ++ c) ++ v
grouped x a b r i c v = simp append_assoc

in_two : (t : StoredTable) → written_table t ≡ (front_bytes t ++ t.conflicts.0) ++ t.violations.0
in_two t =
    grouped 3 (to_be_bytes w32 (length (schema_bytes t.schema))) (schema_bytes t.schema) t.rows.0 (flat_map (λ index. index) (map (λ (index : Address). index.0) t.indexes))
    t.conflicts.0 t.violations.0

-- a table's bytes have both
pub roots_long : (t : StoredTable) → HasRoots t → 40 ≤ length (written_table t)
roots_long t h =
    let whole = ap length (in_two t) in
    let last = length-append (front_bytes t ++ t.conflicts.0) t.violations.0 in
    let first = length-append (front_bytes t) t.conflicts.0 in
    let conflicts : length t.conflicts.0 ≡ 20 = eqb-true _ _ h.conflicts in
    let violations : length t.violations.0 ≡ 20 = eqb-true _ _ h.violations in
    omega arith

-- bytes that end with twenty, cut there
cut_last : (front last bytes : List ℕ) → length last ≡ 20 → bytes ≡ front ++ last → (take (length bytes - 20) bytes ≡ front) × (drop (length bytes - 20) bytes ≡ last)
cut_last front last bytes count e =
    let whole = ap length e ∙ length-append front last in
    let at : length front ≡ length bytes - 20 = omega arith in (
      ap (take (length bytes - 20)) e ∙ take_at front last (length bytes - 20) at,
      ap (drop (length bytes - 20)) e ∙ drop_at front last (length bytes - 20) at,
    )

-- and they are read from the end
pub at_end : (t : StoredTable) → HasRoots t → (bytes : List ℕ) → bytes ≡ written_table t → (read : RecordedRoots)
    → read.conflicts.0 ≡ drop (length bytes - 40) (take (length bytes - 20) bytes) → read.violations.0 ≡ drop (length bytes - 20) bytes → read ≡ recorded_roots t
at_end t h bytes e read conflicts violations =
    let c : length t.conflicts.0 ≡ 20 = eqb-true _ _ h.conflicts in
    let v : length t.violations.0 ≡ 20 = eqb-true _ _ h.violations in
    let last = cut_last (front_bytes t ++ t.conflicts.0) t.violations.0 bytes v (e ∙ in_two t) in
    let rest = take (length bytes - 20) bytes in
    let first = cut_last (front_bytes t) t.conflicts.0 rest c last.0 in
    let shorter = ap length last.0 ∙ length-append (front_bytes t) t.conflicts.0 in
    let whole = ap length (e ∙ in_two t) ∙ length-append (front_bytes t ++ t.conflicts.0) t.violations.0 in
    let both = length-append (front_bytes t) t.conflicts.0 in
    let at : length bytes - 40 ≡ length rest - 20 = omega arith in
    same read (recorded_roots t) (conflicts ∙ ap (λ (n : ℕ). drop n rest) at ∙ first.1) (violations ∙ last.1)
  where
    same : (x y : RecordedRoots) → x.conflicts.0 ≡ y.conflicts.0 → x.violations.0 ≡ y.violations.0 → x ≡ y
    same x y one two =
        ap (λ (l : List ℕ). record { conflicts = record { 0 = l }; violations = x.violations }) one
        ∙ ap (λ (l : List ℕ). record { conflicts = y.conflicts; violations = record { 0 = l } }) two

-- the roots are read by the number of the schema's indexes
pub roots_are : (one : spelled.HasOneSpelling) (t : StoredTable) (found : Schema) (text roots : List ℕ) → IsStoredTable t → text ≡ schema_bytes t.schema → roots ≡ roots_bytes t
    → is_schema found ≡ true → schema_bytes found ≡ text → table_of found roots ≡ Some t
roots_are one t found text roots h e f is same_bytes =
    let same : found ≡ t.schema = one found t.schema is h.schema (same_bytes ∙ e) in
    ap (λ (s : Schema). table_of s roots) same ∙ ap (table_of t.schema) f ∙ roots_again t h

pub tables_one : (one : spelled.HasOneSpelling) (a b : StoredTable) → IsStoredTable a → IsStoredTable b → written_table a ≡ written_table b → a ≡ b
tables_one one a b ha hb same =
    let parts = text_is b (written_table a) (schema_bytes a.schema) (roots_bytes a) hb same (text_again a ha) in
    let read = roots_are one b a.schema (schema_bytes a.schema) (roots_bytes a) hb parts.0 parts.1 ha.schema refl in
    some_is a b (sym (roots_again a ha) ∙ read)
