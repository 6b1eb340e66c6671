-- Branches and members as the lines, heads and places that stand for them.
use Rattle.std.proofs.Common.{◌≡◌, refl, ap, ℕ, Bool, true, false, cond, ◌&&◌, List, [], ◌∷◌, ◌++◌, map, find, Some, Option, option_map, codes}
use Rattle.std.specs.Prelude.{bytes_eq}
use Rattle.std.specs.Ordering.{nat_cmp, is_lt}
use Rattle.std.specs.Cmp.Lexicographic.{slice_cmp}
use Rattle.tuple_codec.specs.declared.records.BranchRecord.{BranchRecord}
use Rattle.script_text.specs.declared.outputs.BranchLine.{BranchLine}
use Rattle.table_root.specs.Heads.{heads_rise}
use Rattle.session_state.specs.Changes.{lines_rise}
use Rattle.session_state.specs.Laws.{head_in, with_record}
use Rattle.session_state.proofs.StateLemmas.{lines_still_rise as still_rise}
use Rattle.shared_db.specs.declared.branches.NamedBranch.{NamedBranch}
use Rattle.shared_db.specs.declared.changes.RecordChange.{RecordChange}
use Rattle.shared_db.specs.declared.changes.RecordChange.TheVariants as change
use Rattle.shared_db.specs.Shared.{changed_lines}
use Rattle.shared_db.specs.Members.{branch_head, line_of, lines_of, numbers_of, on_main, places_of, with_rec}

pub heads_are : (branches : List NamedBranch) → map branch_head branches ≡ map head_in (lines_of branches)
heads_are [] = refl
heads_are (x ∷ branches) = ap (λ l. branch_head x ∷ l) (heads_are branches)

pub heads_rise_so : (lines : List BranchLine) → heads_rise (map head_in lines) ≡ lines_rise lines
heads_rise_so [] = refl
heads_rise_so (x ∷ []) = refl
heads_rise_so (x ∷ y ∷ lines) = ap (λ b. is_lt (slice_cmp nat_cmp x.name y.name) && b) (heads_rise_so (y ∷ lines))

pub changed_are : (name : List ℕ) (rec : BranchRecord) (branches : List NamedBranch) → lines_of (map (with_rec name rec) branches) ≡ with_record name rec (lines_of branches)
changed_are name rec [] = refl
changed_are name rec (x ∷ branches) = by (bytes_eq x.name name) (changed_are name rec branches) where
  by : (t : Bool) → lines_of (map (with_rec name rec) branches) ≡ with_record name rec (lines_of branches)
      → line_of (cond t (record { name = x.name; rec = rec }) x) ∷ lines_of (map (with_rec name rec) branches)
      ≡ cond t (record { name = x.name; rec = rec }) (line_of x) ∷ with_record name rec (lines_of branches)
  by true rest = ap (λ l. record { name = x.name; rec = rec } ∷ l) rest
  by false rest = ap (λ l. line_of x ∷ l) rest

pub places_are : (statements : List ℕ) → places_of (map on_main statements) ≡ map (λ number. codes "main") statements
places_are [] = refl
places_are (n ∷ statements) = ap (λ l. codes "main" ∷ l) (places_are statements)

pub numbers_are : (statements : List ℕ) → numbers_of (map on_main statements) ≡ statements
numbers_are [] = refl
numbers_are (n ∷ statements) = ap (λ l. n ∷ l) (numbers_are statements)

pub changed_rise : (name : List ℕ) (change : RecordChange) (lines : List BranchLine) → lines_rise (changed_lines name change lines) ≡ lines_rise lines
changed_rise name change.Nothing lines = refl
changed_rise name (change.Record rec) lines = still_rise name rec lines
