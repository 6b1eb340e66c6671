-- One change that is decided, and changes decided one after another.
use Rattle.std.proofs.Common.{◌≡◌, ◌≤◌, ◌<◌, ◌+◌, ◌++◌, ℕ, zero, suc, true, List, [], ◌∷◌, map, length, drop, get_or, Option, Some, None, Result, Ok, Err, refl, sym, ap, ◌∙◌, subst, arith, append_assoc, option_map, option_to_list}
use Rattle.std.specs.List.{AllByRecursion, list_all}
use Rattle.std.specs.Result.{IsErr, IsErrAnd}
use Rattle.std.proofs.Math.ListN.{drop_of_length-le}
use Rattle.std.proofs.lemmas.List.{append-nil, drop_more}
use Rattle.tuple_codec.proofs.Options.{some_is}
use Rattle.tuple_codec.specs.Edits.{putting, puts, value_at}
use Rattle.tuple_codec.specs.KeyBytes.{key_bytes}
use Rattle.tuple_codec.specs.Nodes.{Item, leaf_item}
use Rattle.tuple_codec.specs.RowRule.{row3}
use Rattle.tuple_codec.specs.Rows.{Cells, fits_all}
use Rattle.tuple_codec.specs.declared.edits.Edit.{Edit}
use Rattle.tuple_codec.specs.declared.edits.ItemChange.{ItemChange}
use Rattle.schema_model.specs.PlainTables.{body_bytes, conflict_items, is_row, key_types, row_item, row_items}
use Rattle.schema_model.specs.declared.schemas.Schema.{Schema}
use Rattle.node_format.specs.Views.{leaf_of}
use Rattle.chunk_store.specs.Chunks.{Chunks}
use Rattle.schema_merge.specs.KeyByKey.{kept}
use Rattle.schema_merge.specs.TableMerge.{Three, conflict_if, row_at, table_of}
use Rattle.table_root.specs.Rows.{IsRowOf}
use Rattle.table_merge.specs.Rising.{IsAt}
use Rattle.table_merge.specs.Skipping.{AreDecided, AreShortAt, AreThreeKept, CanDecide, CanDecideAll, DecidesAt, IsChangeOf, IsKeyOf, IsShortAt, IsValueOf, edit_to, edits_to}
use Rattle.table_merge.specs.Walking.{DecidesRow, is_row_perhaps, sides_of}
use Rattle.table_merge.specs.declared.changing.Merged.{Merged}
use Rattle.table_merge.specs.declared.deciding.Decided.{Decided}
use Rattle.table_merge.specs.declared.faults.Stop.{Stop}
use Rattle.table_merge.specs.declared.faults.Stop.TheVariants as stop
use Rattle.table_merge.proofs.LookLemmas.{value_row}
use Rattle.table_merge.proofs.MergeLemmas.{row_after_is, row_is_at}
use Rattle.table_merge.proofs.SkipLemmas.{decides_at, three_kept}
use Rattle.table_merge.proofs.WalkLemmas.{perhaps}

-- ---- the row of a value

pub record IsRowThere (s : Schema) (rows : List Cells) (cells : Cells) (key value : List ℕ) : Type 0 where
  pub row : Cells
  pub is : IsRowOf s key value row
  pub found_is : row_at s cells rows ≡ Some row

module _ (s : Schema) (rows : List Cells) (cells : Cells) where
  value_is : (o : Option (List ℕ)) → IsValueOf s rows cells o → o ≡ option_map (body_bytes s) (row_at s cells rows)
  value_is o at = at.stands ∙ value_row s cells rows at.valid at.key at.fit

  pub row_for : (key value : List ℕ) (o : Option (List ℕ)) → o ≡ Some value → IsKeyOf s key cells → IsValueOf s rows cells o → IsRowThere s rows cells key value
  row_for key value o e is at = by (row_at s cells rows) refl (row_is_at s cells rows at.fit) (sym e ∙ value_is o at) where
    by : (r : Option Cells) → row_at s cells rows ≡ r → IsAt s cells (row_at s cells rows) → Some value ≡ option_map (body_bytes s) (row_at s cells rows) → IsRowThere s rows cells key value
    by None f h g = absurd (cc (g ∙ ap (option_map (body_bytes s)) f))
    by (Some row) f h g =
        let there : IsAt s cells (Some row) = subst (IsAt s cells) f h in
        record {
          row = row;
          is = record {
            fits = there.0;
            key = ap key_bytes there.1 ∙ is.bytes;
            value = some_is (body_bytes s row) value (sym (g ∙ ap (option_map (body_bytes s)) f));
          };
          found_is = f;
        }

  pub row_read : (key value : List ℕ) (o : Option (List ℕ)) → o ≡ Some value → (row : Cells) → ((one : Cells) → IsRowOf s key value one → row ≡ one) → IsKeyOf s key cells → IsValueOf s rows cells o
      → Some row ≡ row_at s cells rows
  row_read key value o e row reads is at =
      let there = row_for key value o e is at in
      ap (λ (r : Cells). Some r) (reads there.row there.is) ∙ sym there.found_is

  pub none_read : (o : Option (List ℕ)) → o ≡ None → IsValueOf s rows cells o → None ≡ row_at s cells rows
  none_read o e at = by (row_at s cells rows) (sym e ∙ value_is o at) where
    by : (r : Option Cells) → None ≡ option_map (body_bytes s) r → None ≡ r
    by None f = refl
    by (Some row) f = absurd (cc)

-- ---- a change

module _ (s : Schema) (three : Three) (kept_all : AreThreeKept s three) (change : ItemChange) (is : IsChangeOf s three change) where
  value_at_key : (rows : List Cells) → list_all (is_row s) rows ≡ true → (value : Option (List ℕ)) → value ≡ value_at change.key (map (row_item s) rows) → IsValueOf s rows is.cells value
  value_at_key rows fit value e =
      let key = is.key in
      record { valid = kept_all.valid; fit = fit; key = key.fits; stands = e ∙ ap (λ (k : List ℕ). value_at k (map (row_item s) rows)) (sym key.bytes) }

  pub old_at : (value : Option (List ℕ)) → value ≡ change.old → IsValueOf s three.base is.cells value
  old_at value e = value_at_key three.base kept_all.base.fit value (e ∙ is.old)

  pub new_at : (value : Option (List ℕ)) → value ≡ change.new → IsValueOf s three.theirs is.cells value
  new_at value e = value_at_key three.theirs kept_all.theirs.fit value (e ∙ is.new)

  pub ours_at : (value : Option (List ℕ)) → value ≡ value_at change.key (map (row_item s) three.ours) → IsValueOf s three.ours is.cells value
  ours_at value e = value_at_key three.ours kept_all.ours.fit value e

  pub key_fits : (key : Cells) → key ≡ is.cells → fits_all (key_types s) key ≡ true
  key_fits key e = let at = is.key in ap (fits_all (key_types s)) e ∙ at.fits

  pub base_fits : (b : Option Cells) → b ≡ row_at s is.cells three.base → is_row_perhaps s b ≡ true
  base_fits b e = ap (is_row_perhaps s) e ∙ perhaps s is.cells _ (row_is_at s is.cells three.base kept_all.base.fit)

  pub ours_fits : (o : Option Cells) → o ≡ row_at s is.cells three.ours → is_row_perhaps s o ≡ true
  ours_fits o e = ap (is_row_perhaps s) e ∙ perhaps s is.cells _ (row_is_at s is.cells three.ours kept_all.ours.fit)

  pub theirs_fits : (t : Option Cells) → t ≡ row_at s is.cells three.theirs → is_row_perhaps s t ≡ true
  theirs_fits t e = ap (is_row_perhaps s) e ∙ perhaps s is.cells _ (row_is_at s is.cells three.theirs kept_all.theirs.fit)

  pub merged_fits : (b o t : Option Cells) → b ≡ row_at s is.cells three.base → o ≡ row_at s is.cells three.ours → t ≡ row_at s is.cells three.theirs → is_row_perhaps s (kept o (row3 b o t)) ≡ true
  merged_fits b o t e f g =
      ap (λ (x : Option Cells). is_row_perhaps s (kept o (row3 x o t))) e
      ∙ ap (λ (x : Option Cells). is_row_perhaps s (kept x (row3 (row_at s is.cells three.base) x t))) f
      ∙ ap (λ (x : Option Cells). is_row_perhaps s (kept (row_at s is.cells three.ours) (row3 (row_at s is.cells three.base) (row_at s is.cells three.ours) x))) g
      ∙ perhaps s is.cells _ (row_after_is s three (three_kept s three kept_all) is.cells)

  pub decided_is : (result : Result Decided Stop) (key : Cells) (b o t : Option Cells) → key ≡ is.cells → b ≡ row_at s is.cells three.base → o ≡ row_at s is.cells three.ours → t ≡ row_at s is.cells three.theirs
      → DecidesRow result s (kept o (row3 b o t)) (conflict_if (sides_of key b o t) (row3 b o t)) → DecidesAt result s three change.key
  decided_is result key b o t k e f g d =
      let cells = is.cells in
      let rb = row_at s cells three.base in
      let ro = row_at s cells three.ours in
      decides_at s three kept_all change.key cells is.key result
      (subst (λ (x : Option Cells). DecidesRow result s (kept ro (row3 rb ro x)) (conflict_if (sides_of cells rb ro x) (row3 rb ro x))) g
      (subst (λ (x : Option Cells). DecidesRow result s (kept x (row3 rb x t)) (conflict_if (sides_of cells rb x t) (row3 rb x t))) f
      (subst (λ (x : Option Cells). DecidesRow result s (kept o (row3 x o t)) (conflict_if (sides_of cells x o t) (row3 x o t))) e
      (subst (λ (x : Cells). DecidesRow result s (kept o (row3 b o t)) (conflict_if (sides_of x b o t) (row3 b o t))) k d))))

-- ---- changes one after another

each_at : {A : Type 0} (P : A → Type 0) (xs : List A) → AllByRecursion P xs → (at : ℕ) (x : A) → at < length xs → x ≡ get_or xs at x → P x
each_at P [] h at x below is = absurd (omega (arith, below))
each_at P (y ∷ xs) h zero x below is = subst P (sym is) h.0
each_at P (y ∷ xs) h (suc at) x below is = each_at P xs h.1 at x (omega (arith, below)) is

pub can_decide : (address : List ℕ → List ℕ) (chunks : Chunks) (ours : List ℕ) (s : Schema) (three : Three) (changes : List ItemChange) → CanDecideAll address chunks ours s three changes
    → (at : ℕ) (change : ItemChange) → at < length changes → change ≡ get_or changes at change → CanDecide address chunks ours s three change
can_decide address chunks ours s three changes can at change below is =
    record { kept = can.kept; tree = can.tree; change_is = each_at (IsChangeOf s three) changes can.changes_are at change below is }

-- these changes are left; the edits and the conflicts' items are made of those before them
pub record Deciding (s : Schema) (three : Three) (left all : List ItemChange) (edits : List Edit) (conflicts : List Item) : Type 0 where
  pub edits_are : edits ++ edits_to (row_items (table_of s three)) left ≡ edits_to (row_items (table_of s three)) all
  pub conflicts_are : conflicts ++ puts (edits_to (conflict_items (table_of s three)) left) ≡ puts (edits_to (conflict_items (table_of s three)) all)
  pub short : AreShortAt s three left → AreShortAt s three all

pub begun : (s : Schema) (three : Three) (all : List ItemChange) (edits : List Edit) (conflicts : List Item) → edits ≡ [] → conflicts ≡ [] → Deciding s three all all edits conflicts
begun s three all edits conflicts e c = record {
  edits_are = ap (λ (l : List Edit). l ++ edits_to (row_items (table_of s three)) all) e;
  conflicts_are = ap (λ (l : List Item). l ++ puts (edits_to (conflict_items (table_of s three)) all)) c;
  short = λ h. h;
}

put_first : (key : List ℕ) (value : Option (List ℕ)) (rows : List Item) → putting key value rows ≡ option_to_list (option_map (leaf_item key) value) ++ rows
put_first key None rows = refl
put_first key (Some value) rows = refl

step : (s : Schema) (three : Three) (change : ItemChange) (left all : List ItemChange) (edits : List Edit) (conflicts : List Item) → Deciding s three (change ∷ left) all edits conflicts
    → (edit : Edit) (conflict : Option Item) (more_edits : List Edit) (more_conflicts : List Item) → edit ≡ edit_to (row_items (table_of s three)) change
    → conflict ≡ option_map (leaf_item change.key) (value_at change.key (conflict_items (table_of s three))) → IsShortAt s three change.key
    → more_edits ≡ edits ++ edit ∷ [] → more_conflicts ≡ conflicts ++ option_to_list conflict → Deciding s three left all more_edits more_conflicts
step s three change left all edits conflicts d edit conflict more_edits more_conflicts e c short me mc =
    let rows = row_items (table_of s three) in
    let items = conflict_items (table_of s three) in
    record {
      edits_are = ap (λ (l : List Edit). l ++ edits_to rows left) (me ∙ ap (λ (x : Edit). edits ++ x ∷ []) e) ∙ append_assoc edits (edit_to rows change ∷ []) (edits_to rows left) ∙ d.edits_are;
      conflicts_are = ap (λ (l : List Item). l ++ puts (edits_to items left)) (mc ∙ ap (λ (o : Option Item). conflicts ++ option_to_list o) c)
          ∙ append_assoc conflicts (option_to_list (option_map (leaf_item change.key) (value_at change.key items))) (puts (edits_to items left))
          ∙ ap (λ (l : List Item). conflicts ++ l) (sym (put_first change.key (value_at change.key items) (puts (edits_to items left)))) ∙ d.conflicts_are;
      short = λ h. d.short (short, h);
    }

pub decided_on : (s : Schema) (three : Three) (changes : List ItemChange) (at : ℕ) (change : ItemChange) (edits : List Edit) (conflicts : List Item) → at < length changes → change ≡ get_or changes at change
    → Deciding s three (drop at changes) changes edits conflicts → (decided : Decided) → DecidesAt (Ok decided) s three change.key
    → (edit : Edit) (conflict : Option Item) (more_edits : List Edit) (more_conflicts : List Item) → edit ≡ edit_to (row_items (table_of s three)) change
    → conflict ≡ option_map (leaf_item change.key) (value_at change.key (conflict_items (table_of s three)))
    → more_edits ≡ edits ++ edit ∷ [] → more_conflicts ≡ conflicts ++ option_to_list conflict → Deciding s three (drop (at + 1) changes) changes more_edits more_conflicts
decided_on s three changes at change edits conflicts below is d decided h edit conflict more_edits more_conflicts e c me mc =
    let next : drop at changes ≡ change ∷ drop (at + 1) changes = drop_more changes at change below ∙ ap (λ (x : ItemChange). x ∷ drop (at + 1) changes) (sym is) in
    step s three change (drop (at + 1) changes) changes edits conflicts (subst (λ (l : List ItemChange). Deciding s three l changes edits conflicts) next d) edit conflict more_edits more_conflicts e c h.2 me mc

pub decided_all : (s : Schema) (three : Three) (changes : List ItemChange) (at : ℕ) (merged : Merged) (conflicts : List Item) → length changes ≤ at → conflicts ≡ map leaf_of merged.conflicts.items
    → Deciding s three (drop at changes) changes merged.edits.items conflicts → AreDecided (Ok merged) s three changes
decided_all s three changes at merged conflicts past e d =
    let last = subst (λ (l : List ItemChange). Deciding s three l changes merged.edits.items conflicts) (drop_of_length-le changes past) d in
    (sym (append-nil merged.edits.items) ∙ last.edits_are, sym e ∙ sym (append-nil conflicts) ∙ last.conflicts_are, last.short tt)

pub decided_stops : (s : Schema) (three : Three) (changes : List ItemChange) (key : List ℕ) (result : Result Merged Stop) (cause : Stop) → DecidesAt (Err cause) s three key
    → IsErr result × IsErrAnd result (λ found. found ≡ cause) → AreDecided result s three changes
decided_stops s three changes key (Ok merged) cause h e = absurd e.1
decided_stops s three changes key (Err found) cause h e = subst (λ (one : Stop). AreDecided (Err one) s three changes) (sym e.1) (by cause h) where
  by : (cause : Stop) → DecidesAt (Err cause) s three key → AreDecided (Err cause) s three changes
  by stop.Memory h = tt
  by stop.Limit h = h
