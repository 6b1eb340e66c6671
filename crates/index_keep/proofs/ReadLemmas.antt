-- The row under a key, by the value that stands there, and what an edit puts there.
use Rattle.std.proofs.Common.{◌≡◌, ◌<◌, ◌+◌, ℕ, zero, suc, Bool, true, false, List, [], ◌∷◌, ◌++◌, length, map, drop, get_or, Option, None, Some, refl, sym, ap, ◌∙◌, append_assoc, arith}
use Rattle.std.proofs.lemmas.List.{drop_more}
use Rattle.std.specs.Prelude.{bytes_eq, if◌then◌else◌}
use Rattle.std.specs.Option.{option_map}
use Rattle.tuple_codec.proofs.ByteLemmas.{same_bytes as eq_key, bytes_itself as itself}
use Rattle.tuple_codec.proofs.Options.{some_is}
use Rattle.tuple_codec.specs.Edits.{EditsRiseAfter, value_at}
use Rattle.tuple_codec.specs.Nodes.{Item}
use Rattle.tuple_codec.specs.Rows.{Cells}
use Rattle.tuple_codec.specs.declared.edits.Edit.{Edit}
use Rattle.schema_model.specs.PlainTables.{body_bytes, is_row, row_item}
use Rattle.schema_model.specs.declared.schemas.Schema.{Schema}
use Rattle.chunk_store.specs.Chunks.{Chunks}
use Rattle.tuple_codec.specs.ByKey.{edit_at, over}
use Rattle.tuple_codec.proofs.EditedValues.{edited_value, edits_above}
use Rattle.table_root.specs.Rows.{IsRowOf}
use Rattle.index_keep.specs.Entries.{changes_at, found, keys_of, row_change, row_key}
use Rattle.index_keep.specs.Steps.{IsRowEdit, IsRowsEdit, IsValueAt}
use Rattle.index_keep.specs.declared.changes.RowChange.{RowChange}
use Rattle.index_keep.proofs.FoundLemmas.{found_fits, found_name, value_found}

-- the row of a value that stands at a key
pub record IsRowThere (schema : Schema) (rows : List Cells) (key value : List ℕ) : Type 0 where
  pub row : Cells
  pub is : IsRowOf schema key value row
  pub found_is : found (row_key schema) key rows ≡ Some row

pub row_there : (schema : Schema) (rows : List Cells) (key value : List ℕ) → IsValueAt schema rows key (Some value) → IsRowThere schema rows key value
row_there schema rows key value at =
    by (found (row_key schema) key rows) refl (at.stands ∙ value_found (row_key schema) (body_bytes schema) key rows) where
      by : (o : Option Cells) → found (row_key schema) key rows ≡ o → Some value ≡ option_map (body_bytes schema) (found (row_key schema) key rows) → IsRowThere schema rows key value
      by None e f = absurd (cc (f ∙ ap (option_map (body_bytes schema)) e))
      by (Some row) e f = record {
        row = row;
        is = record {
          fits = found_fits (row_key schema) (is_row schema) key rows row at.fit e;
          key = found_name (row_key schema) key rows row e;
          value = some_is (body_bytes schema row) value (sym (f ∙ ap (option_map (body_bytes schema)) e));
        };
        found_is = e;
      }

pub none_there : (schema : Schema) (rows : List Cells) (key : List ℕ) → IsValueAt schema rows key None → found (row_key schema) key rows ≡ None
none_there schema rows key at =
    by (found (row_key schema) key rows) refl (at.stands ∙ value_found (row_key schema) (body_bytes schema) key rows) where
      by : (o : Option Cells) → found (row_key schema) key rows ≡ o → None ≡ option_map (body_bytes schema) (found (row_key schema) key rows) → found (row_key schema) key rows ≡ None
      by None e f = e
      by (Some row) e f = absurd (cc (f ∙ ap (option_map (body_bytes schema)) e))

-- the value may be told in other words
pub row_for : (schema : Schema) (rows : List Cells) (key value : List ℕ) (o : Option (List ℕ)) → o ≡ Some value → IsValueAt schema rows key o → IsRowThere schema rows key value
row_for schema rows key value o e at = row_there schema rows key value (record { fit = at.fit; stands = sym e ∙ at.stands })

pub row_read : (schema : Schema) (rows : List Cells) (key value : List ℕ) (o : Option (List ℕ)) → o ≡ Some value → (row : Cells)
    → ((found_row : Cells) → IsRowOf schema key value found_row → row ≡ found_row) → IsValueAt schema rows key o → Some row ≡ found (row_key schema) key rows
row_read schema rows key value o e row reads at =
    let there = row_for schema rows key value o e at in
    ap (λ r. Some r) (reads there.row there.is) ∙ sym there.found_is

pub none_read : (schema : Schema) (rows : List Cells) (key : List ℕ) (o : Option (List ℕ)) → o ≡ None → IsValueAt schema rows key o → None ≡ found (row_key schema) key rows
none_read schema rows key o e at = sym (none_there schema rows key (record { fit = at.fit; stands = sym e ∙ at.stands }))

-- each edit is the one of its key
edit_here : (before : Option (List ℕ)) (edits : List Edit) (at : ℕ) (edit : Edit) → EditsRiseAfter before edits → at < length edits → edit ≡ get_or edits at edit
    → edit_at edit.key edits ≡ Some edit.value
edit_here before [] at edit rise below is = absurd (omega arith)
edit_here before (first ∷ edits) zero edit rise below is =
    ap (λ (e : Edit). if bytes_eq e.key edit.key then Some e.value else edit_at edit.key edits) (sym is) ∙ ap (λ b. if b then Some edit.value else edit_at edit.key edits) (itself edit.key)
edit_here before (first ∷ edits) (suc at) edit rise below is =
    let below2 : at < length edits = omega arith in
    let rest = edit_here (Some first.key) edits at edit rise.1 below2 is in
    by (bytes_eq first.key edit.key) refl rest where
      by : (b : Bool) → bytes_eq first.key edit.key ≡ b → edit_at edit.key edits ≡ Some edit.value → (if b then Some first.value else edit_at edit.key edits) ≡ Some edit.value
      by false e rest = rest
      by true e rest = absurd (cc (sym rest ∙ ap (λ k. edit_at k edits) (sym (eq_key first.key edit.key e)) ∙ edits_above first.key edits rise.1))

-- what stands under an edit's key, and what comes there
pub old_at : (address : List ℕ → List ℕ) (chunks : Chunks) (k : List ℕ) (schema : Schema) (edit : Edit) (rows others : List Cells) → IsRowEdit address chunks k schema edit rows others
    → (value : Option (List ℕ)) → value ≡ value_at edit.key (map (row_item schema) rows) → IsValueAt schema rows edit.key value
old_at address chunks k schema edit rows others is value e = record { fit = is.fit; stands = e }

pub row_edit : (address : List ℕ → List ℕ) (chunks : Chunks) (k : List ℕ) (schema : Schema) (edits : List Edit) (rows others : List Cells) → IsRowsEdit address chunks k schema edits rows others
    → (at : ℕ) (edit : Edit) → at < length edits → edit ≡ get_or edits at edit → IsRowEdit address chunks k schema edit rows others
row_edit address chunks k schema edits rows others is at edit below here = record {
  tree = is.tree;
  fit = is.fit;
  new = record {
    fit = is.others_fit;
    stands =
        sym (ap (λ e. over e (value_at edit.key (map (row_item schema) rows))) (edit_here None edits at edit is.rise below here))
        ∙ sym (edited_value edit.key (map (row_item schema) rows) None edits is.tree.are_rows.rise is.rise)
        ∙ ap (λ (l : List Item). value_at edit.key l) (sym is.items);
  };
}

-- one change more
pub changes_more : (schema : Schema) (rows others : List Cells) (edits : List Edit) (at : ℕ) (edit : Edit) (done : List RowChange) (change : RowChange) (all : List RowChange) → at < length edits
    → edit ≡ get_or edits at edit → change ≡ row_change (found (row_key schema) edit.key rows) (found (row_key schema) edit.key others)
    → done ++ changes_at schema rows others (keys_of (drop at edits)) ≡ all → (done ++ change ∷ []) ++ changes_at schema rows others (keys_of (drop (at + 1) edits)) ≡ all
changes_more schema rows others edits at edit done change all below here is e =
    append_assoc done (change ∷ []) (changes_at schema rows others (keys_of (drop (at + 1) edits)))
    ∙ ap (λ (x : RowChange). done ++ x ∷ changes_at schema rows others (keys_of (drop (at + 1) edits))) is
    ∙ ap (λ (x : Edit). done ++ changes_at schema rows others (keys_of (x ∷ drop (at + 1) edits))) here
    ∙ sym (ap (λ (l : List Edit). done ++ changes_at schema rows others (keys_of l)) (drop_more edits at edit below))
    ∙ e
