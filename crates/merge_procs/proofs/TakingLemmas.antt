-- The rows that edits put which make rows theirs.
use Rattle.std.proofs.Common.{◌≡◌, refl, sym, ap, ◌∙◌, subst, ℕ, zero, suc, ◌+◌, ◌<◌, true, List, [], ◌∷◌, ◌++◌, drop, get_or, length, map, Option, None, Some, arith, append_assoc}
use Rattle.std.specs.List.{list_all}
use Rattle.std.specs.Option.{option_map, option_to_list}
use Rattle.std.specs.Ordering.{is_eq}
use Rattle.std.proofs.lemmas.Bool.{and_parts}
use Rattle.tuple_codec.specs.KeyBytes.{key_bytes}
use Rattle.tuple_codec.specs.Rows.{Cells, key_cmp}
use Rattle.tuple_codec.specs.declared.edits.Edit.{Edit}
use Rattle.tuple_codec.proofs.Orders.{cells_told}
use Rattle.schema_model.specs.PlainTables.{Conflict, PlainTable, body_bytes, is_conflict, is_row, is_side_at, primary_key}
use Rattle.schema_model.specs.declared.schemas.Schema.{Schema}
use Rattle.chunk_store.specs.Chunks.{Chunks}
use Rattle.conflict_tables.specs.Conflicts.{theirs_edit, theirs_edits}
use Rattle.table_root.specs.Standing.{IsTableOf}
use Rattle.table_root.specs.declared.records.StoredTable.{StoredTable}
use Rattle.table_root.specs.Rows.{IsRowOf}
use Rattle.sql_write.proofs.PlaceLemmas.{schema_same}
use Rattle.merge_procs.specs.Resolving.{AreTakings, IsTaking, theirs_of}

-- the row that such an edit puts
pub record IsTaken (schema : Schema) (key value : List ℕ) (conflict : Conflict) : Type 0 where
  pub row : Cells
  pub is : conflict.theirs ≡ Some row
  pub of : IsRowOf schema key value row

-- a side's row has the conflict's key
pub at_key : (schema : Schema) (key row : Cells) → is_side_at schema key (Some row) ≡ true → primary_key schema row ≡ key
at_key schema key row h = (cells_told (primary_key schema row) key).0 (and_parts (is_row schema row) (is_eq (key_cmp (primary_key schema row) key)) h).1

pub taken_of : (schema : Schema) (edit : Edit) (value : List ℕ) (conflict : Conflict) → IsTaking schema edit conflict → edit.value ≡ Some value → IsTaken schema edit.key value conflict
taken_of schema edit value conflict taking e =
    by conflict.theirs refl (and_parts _ (is_side_at schema conflict.key conflict.theirs) taking.conflict_is).1 (sym e ∙ ap (λ (x : Edit). x.value) taking.edit_is) where
      by : (o : Option Cells) → conflict.theirs ≡ o → is_side_at schema conflict.key o ≡ true → Some value ≡ option_map (body_bytes schema) o → IsTaken schema edit.key value conflict
      by None is at v = absurd (cc)
      by (Some row) is at v = record {
        row = row;
        is = is;
        of = record {
          fits = (and_parts (is_row schema row) (is_eq (key_cmp (primary_key schema row) conflict.key)) at).0;
          key = ap key_bytes (at_key schema conflict.key row at) ∙ sym (ap (λ (x : Edit). x.key) taking.edit_is);
          value = let same : value ≡ body_bytes schema row = cc in sym same;
        };
      }

-- the same of bytes that are shown
pub row_shown : (schema : Schema) (key value k v : List ℕ) (row : Cells) → IsRowOf schema key value row → k ≡ key → v ≡ value → IsRowOf schema k v row
row_shown schema key value k v row of e f = record { fits = of.fits; key = of.key ∙ sym e; value = of.value ∙ sym f }

pub row_taken : (schema : Schema) (key value : List ℕ) (conflict : Conflict) (row : Cells) (taken : IsTaken schema key value conflict) → row ≡ taken.row → Some row ≡ conflict.theirs
row_taken schema key value conflict row taken e = ap (λ (r : Cells). Some r) e ∙ sym taken.is

-- ---- one edit of a list of them

pub record IsOne (schema : Schema) (edit : Edit) (conflicts : List Conflict) (at : ℕ) : Type 0 where
  pub conflict : Conflict
  pub taking : IsTaking schema edit conflict
  pub left : theirs_of (drop at conflicts) ≡ option_to_list conflict.theirs ++ theirs_of (drop (suc at) conflicts)

one_at : (schema : Schema) (conflicts : List Conflict) (at : ℕ) (d : Edit) → list_all (is_conflict schema) conflicts ≡ true → at < length (map (theirs_edit schema) conflicts)
    → IsOne schema (get_or (map (theirs_edit schema) conflicts) at d) conflicts at
one_at schema [] at d all few = absurd (omega (arith, few))
one_at schema (conflict ∷ conflicts) zero d all few = record {
  conflict = conflict;
  taking = record { conflict_is = (and_parts (is_conflict schema conflict) (list_all (is_conflict schema) conflicts) all).0; edit_is = refl };
  left = refl;
}
one_at schema (conflict ∷ conflicts) (suc at) d all few =
    let one = one_at schema conflicts at d (and_parts (is_conflict schema conflict) (list_all (is_conflict schema) conflicts) all).1 (omega (arith, few)) in
    record { conflict = one.conflict; taking = one.taking; left = one.left }

pub one_of : (schema : Schema) (edits : List Edit) (conflicts : List Conflict) (at : ℕ) (edit : Edit) → AreTakings schema edits conflicts → at < length edits → edit ≡ get_or edits at edit
    → IsOne schema edit conflicts at
one_of schema edits conflicts at edit are few is =
    subst (λ (e : Edit). IsOne schema e conflicts at) (sym (is ∙ ap (λ (l : List Edit). get_or l at edit) are.edits_are))
    (one_at schema conflicts at edit are.conflicts_are (subst (λ (l : List Edit). at < length l) are.edits_are few))

pub one_more : (schema : Schema) (edit : Edit) (conflicts : List Conflict) (at : ℕ) (done made all : List Cells) (one : IsOne schema edit conflicts at) → made ≡ done ++ option_to_list (let conflict = one.conflict in conflict.theirs)
    → done ++ theirs_of (drop at conflicts) ≡ all → made ++ theirs_of (drop (at + 1) conflicts) ≡ all
one_more schema edit conflicts at done made all one is so =
    let conflict = one.conflict in
    let next : at + 1 ≡ suc at = omega arith in
    ap (λ (l : List Cells). l ++ theirs_of (drop (at + 1) conflicts)) is
    ∙ ap (λ (n : ℕ). (done ++ option_to_list conflict.theirs) ++ theirs_of (drop n conflicts)) next
    ∙ append_assoc done (option_to_list conflict.theirs) (theirs_of (drop (suc at) conflicts))
    ∙ ap (λ (l : List Cells). done ++ l) (sym one.left)
    ∙ so

-- nothing is left behind the last
pub none_left : (schema : Schema) (edits : List Edit) (conflicts : List Conflict) → AreTakings schema edits conflicts → drop (length edits) conflicts ≡ []
none_left schema edits conflicts are = ap (λ (l : List Edit). drop (length l) conflicts) are.edits_are ∙ by conflicts where
  by : (conflicts : List Conflict) → drop (length (map (theirs_edit schema) conflicts)) conflicts ≡ []
  by [] = refl
  by (conflict ∷ conflicts) = by conflicts

-- ---- of a table

pub takings_of : (address : List ℕ → List ℕ) (chunks : Chunks) (table : StoredTable) (contents : PlainTable) (edits : List Edit) → IsTableOf address chunks table contents → edits ≡ theirs_edits contents
    → AreTakings table.schema edits contents.conflicts
takings_of address chunks table contents edits stands is =
    let of = stands.is_table in
    subst (λ (s : Schema). AreTakings s edits contents.conflicts) (sym (schema_same address chunks table contents stands)) (record { conflicts_are = of.conflicts; edits_are = is })
