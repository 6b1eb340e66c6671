-- Rows that may be put are put by edits in order.
use Rattle.std.proofs.Common.{◌≡◌, refl, sym, ap, ◌∙◌, subst, arith, ℕ, ◌<◌, ◌≤◌, true, List, [], ◌∷◌, length, map, get_or}
use Rattle.std.specs.List.{list_all}
use Rattle.std.specs.List.Sorted.{IsSortedBy}
use Rattle.tuple_codec.specs.Rows.{Cells}
use Rattle.tuple_codec.specs.declared.edits.Edit.{Edit}
use Rattle.schema_model.specs.Limits.{is_row_within_limits}
use Rattle.schema_model.specs.PlainTables.{PlainDatabase, PlainTable, is_row}
use Rattle.schema_model.specs.declared.schemas.Schema.{Schema}
use Rattle.chunk_store.specs.Chunks.{Chunks}
use Rattle.index_keep.specs.Entries.{comes_before}
use Rattle.plain_writes.proofs.RowLemmas.{all_left}
use Rattle.sql_write.specs.Finding.{IsFound}
use Rattle.sql_write.specs.Inserting.{MayInsert, MayInsertSorted, MayPut, edit_of, is_good}
use Rattle.sql_write.specs.declared.finding.Found.{Found}
use Rattle.sql_write.proofs.PlaceLemmas.{schema_same}

-- rows that an INSERT brings may be put into the table that was found
pub may_put : (address : List ℕ → List ℕ) (chunks : Chunks) (k table name : List ℕ) (found : Found) (before : PlainDatabase) (contents : PlainTable) (said rows : List Cells)
    → IsFound address chunks k table before contents found → list_all (is_good found.table.schema) said ≡ true → name ≡ table → rows ≡ said → MayPut address chunks k name found before contents rows
may_put address chunks k table name found before contents said rows is good named are =
    let same = schema_same address chunks found.table contents is.stands in record {
      found_is = subst (λ (name : List ℕ). IsFound address chunks k name before contents found) (sym named) is;
      good = ap (λ (l : List Cells). list_all (is_good contents.schema) l) are ∙ subst (λ (s : Schema). list_all (is_good s) said ≡ true) same good;
    }

-- a list of one item
pub alone : {A : Type 0} (xs : List A) (x : A) → 1 ≤ length xs → length xs < 2 → x ≡ get_or xs 0 x → xs ≡ x ∷ []
alone [] x low high is = absurd (omega (arith, low))
alone (y ∷ []) x low high is = ap (λ z. z ∷ []) (sym is)
alone (y ∷ z ∷ ys) x low high is = absurd (omega (arith, high))

one_in_order : (edit : Edit) → IsSortedBy comes_before (edit ∷ [])
one_in_order edit = λ k d low high. absurd (omega (arith, high))

module _ (address : List ℕ → List ℕ) (chunks : Chunks) (k name : List ℕ) (found : Found) (before : PlainDatabase) (contents : PlainTable) (rows : List Cells) (put : MayPut address chunks k name found before contents rows) where
  abbrev schema : Schema
  schema = found.table.schema

  same : schema ≡ contents.schema
  same = schema_same address chunks found.table contents put.found_is.stands

  pub are_rows : list_all (is_row schema) rows ≡ true
  are_rows = all_left (is_row schema) (is_row_within_limits schema) rows (subst (λ (s : Schema). list_all (is_good s) rows ≡ true) (sym same) put.good)

  pub may_insert : (edits : List Edit) → edits ≡ map (edit_of schema) rows → MayInsert address chunks k name found edits before contents rows
  may_insert edits e = record { found_is = put.found_is; good = put.good; edits_are = e ∙ ap (λ (s : Schema). map (edit_of s) rows) same }

  pub may_insert_one : (edit : Edit) (row : Cells) → rows ≡ row ∷ [] → edit ≡ edit_of schema row → MayInsertSorted address chunks k name found (edit ∷ []) 1 before contents rows
  may_insert_one edit row one is =
      let e : edit ∷ [] ≡ map (edit_of schema) rows = ap (λ (e : Edit). e ∷ []) is ∙ sym (ap (λ (l : List Cells). map (edit_of schema) l) one) in
      record { edits = edit ∷ []; may = may_insert (edit ∷ []) e; are_sorted = record { in_order = one_in_order edit; stable = λ x. refl }; count = refl }
