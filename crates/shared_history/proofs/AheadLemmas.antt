-- The look at a branch as a decision will leave it.
use Rattle.std.proofs.Common.{◌≡◌, refl, sym, ◌∙◌, ap, subst, Bool, true, false, ◌&&◌, List, [], ◌∷◌, map, find, Some, None, Option, option_map, if◌then◌else◌, inl, inr}
use Rattle.std.specs.Prelude.{◌⊎◌, ℕ, bytes_eq}
use Rattle.std.specs.Ordering.{nat_cmp, is_lt}
use Rattle.std.specs.Cmp.Lexicographic.{slice_cmp}
use Rattle.tuple_codec.specs.declared.records.BranchRecord.{BranchRecord}
use Rattle.chunk_store.specs.Chunks.{Chunk, Listed, Lists, chunk_bytes}
use Rattle.chunk_store.specs.Clashes.{Differ, IsCause, IsClash}
use Rattle.chunk_store.specs.Stores.{all_chunks}
use Rattle.chunk_store.specs.declared.faults.Clash.{Clash}
use Rattle.chunk_store.specs.declared.faults.PutFault.{PutFault}
use Rattle.chunk_store.specs.declared.faults.PutFault.TheVariants.{Collision}
use Rattle.script_text.specs.declared.outputs.BranchLine.{BranchLine}
use Rattle.table_root.specs.Heads.{heads_rise}
use Rattle.table_root.specs.declared.heads.BranchHead.{BranchHead}
use Rattle.table_root.specs.declared.heads.Look.{Look}
use Rattle.session_state.specs.Changes.{Parts}
use Rattle.session_state.specs.Laws.{head_in, with_record}
use Rattle.shared_db.specs.Settling.{sealed_in}
use Rattle.shared_db.specs.Shared.{AreWith, IsSettled, changed_lines, record_at}
use Rattle.shared_db.specs.declared.changes.RecordChange.{RecordChange}
use Rattle.shared_db.specs.declared.changes.RecordChange.TheVariants as change
use Rattle.shared_history.specs.Meeting.{IsLookAhead, ShowsNext}
use Rattle.shared_history.specs.Showing.{Foresees, IsAhead, head_after, record_after}

-- ---- heads

head_name : (name : List ℕ) (made : RecordChange) (seen : BranchHead) → (head_after name made seen).branch ≡ seen.branch
head_name name change.Nothing seen = refl
head_name name (change.Record rec) seen = by (bytes_eq seen.branch name) where
  by : (t : Bool) → (if t then record { branch = seen.branch; head = rec.head } else seen).branch ≡ seen.branch
  by true = refl
  by false = refl

pub heads_still_rise : (name : List ℕ) (made : RecordChange) (heads : List BranchHead) → heads_rise (map (head_after name made) heads) ≡ heads_rise heads
heads_still_rise name made [] = refl
heads_still_rise name made (x ∷ []) = refl
heads_still_rise name made (x ∷ y ∷ heads) =
    λ i. is_lt (slice_cmp nat_cmp (head_name name made x i) (head_name name made y i)) && heads_still_rise name made (y ∷ heads) i

heads_same : (name : List ℕ) (heads : List BranchHead) → map (head_after name change.Nothing) heads ≡ heads
heads_same name [] = refl
heads_same name (x ∷ heads) = ap (λ rest. x ∷ rest) (heads_same name heads)

heads_with : (name : List ℕ) (rec : BranchRecord) (lines : List BranchLine) → map (head_after name (change.Record rec)) (map head_in lines) ≡ map head_in (with_record name rec lines)
heads_with name rec [] = refl
heads_with name rec (x ∷ lines) = λ i. by (bytes_eq x.name name) i ∷ heads_with name rec lines i where
  by : (t : Bool) → (if t then record { branch = x.name; head = rec.head } else head_in x) ≡ head_in (if t then record { name = x.name; rec = rec } else x)
  by true = refl
  by false = refl

-- the heads are those of the changed lines
pub heads_ahead : (name : List ℕ) (made : RecordChange) (lines : List BranchLine) → map (head_after name made) (map head_in lines) ≡ map head_in (changed_lines name made lines)
heads_ahead name change.Nothing lines = heads_same name (map head_in lines)
heads_ahead name (change.Record rec) lines = heads_with name rec lines

-- ---- the record

record_with : (name : List ℕ) (rec other : BranchRecord) (lines : List BranchLine) → record_at name lines ≡ Some other → record_at name (with_record name rec lines) ≡ Some rec
record_with name rec other [] there = absurd (cc)
record_with name rec other (x ∷ lines) there = by (bytes_eq x.name name) refl there (λ here. record_with name rec other lines here) where
  at : List BranchLine → BranchLine → Option BranchRecord
  at rest line = option_map (λ (l : BranchLine). l.rec) (if bytes_eq line.name name then Some line else find (λ (l : BranchLine). bytes_eq l.name name) rest)

  by : (t : Bool) → bytes_eq x.name name ≡ t → option_map (λ (l : BranchLine). l.rec) (if t then Some x else find (λ (l : BranchLine). bytes_eq l.name name) lines) ≡ Some other
      → (record_at name lines ≡ Some other → record_at name (with_record name rec lines) ≡ Some rec)
      → at (with_record name rec lines) (if bytes_eq x.name name then record { name = x.name; rec = rec } else x) ≡ Some rec
  by true is here rest =
      ap (λ (t : Bool). at (with_record name rec lines) (if t then record { name = x.name; rec = rec } else x)) is
      ∙ ap (λ (t : Bool). option_map (λ (l : BranchLine). l.rec) (if t then Some (record { name = x.name; rec = rec }) else find (λ (l : BranchLine). bytes_eq l.name name) (with_record name rec lines))) is
  by false is here rest =
      ap (λ (t : Bool). at (with_record name rec lines) (if t then record { name = x.name; rec = rec } else x)) is
      ∙ ap (λ (t : Bool). option_map (λ (l : BranchLine). l.rec) (if t then Some x else find (λ (l : BranchLine). bytes_eq l.name name) (with_record name rec lines))) is
      ∙ rest here

-- the branch then has the record
pub record_ahead : (name : List ℕ) (made : RecordChange) (seen : BranchRecord) (lines : List BranchLine) → record_at name lines ≡ Some seen
    → record_at name (changed_lines name made lines) ≡ Some (record_after made seen)
record_ahead name change.Nothing seen lines there = there
record_ahead name (change.Record rec) seen lines there = record_with name rec seen lines there

-- ---- the chunks

-- two lists that the same came to have the same chunks
same_with : (old : List Chunk) (sealed : Option (List Chunk)) (some others : List Chunk) → AreWith old sealed some → AreWith old sealed others → Lists some others
same_with old None some others is_some is_other = λ k bytes listed. subst (λ (cs : List Chunk). Listed cs k bytes) (is_some ∙ sym is_other) listed
same_with old (Some sealed) some others is_some is_other = λ k bytes listed. by k bytes (is_some.0.only k bytes listed) where
  by : (k bytes : List ℕ) → Listed old k bytes ⊎ Listed sealed k bytes → Listed others k bytes
  by k bytes (inl here) = is_other.0.left k bytes here
  by k bytes (inr there) = is_other.0.right k bytes there

-- what was foreseen is so once the decision is made
foreseen : (session statement : ℕ) (name : List ℕ) (made : RecordChange) (sealed : Option (List Chunk)) (old new : Parts) (look : Look) → IsSettled session statement name made sealed old new
    → Foresees old name made sealed look → IsLookAhead new name look
foreseen session statement name made sealed old new look settled foresees = record {
  branch = foresees.branch;
  there = ap (record_at name) settled.branches ∙ foresees.there;
  heads = foresees.heads ∙ ap (map head_in) (sym settled.branches);
  chunks = record {
    left = same_with old.chunks sealed new.chunks (all_chunks look.store) settled.chunks foresees.chunks;
    right = same_with old.chunks sealed (all_chunks look.store) new.chunks foresees.chunks settled.chunks;
    single = foresees.single;
  };
}

-- chunks that came in didn't clash
no_clash : (old new : List Chunk) (sealed : Option (List Chunk)) → AreWith old sealed new → Differ (chunk_bytes old) (chunk_bytes (sealed_in sealed)) → ⊥
no_clash old new None is differ = let wrong : ◌≡◌ {A = Option (List ℕ)} None (Some differ.there) = differ.is_brought in cc
no_clash old new (Some sealed) is differ = differ.differ (is.1 differ.address differ.here differ.there differ.is_held differ.is_brought)

none_asked : (next : Bool) → (next ≡ true → ⊥) → next ≡ false
none_asked true wrong = absurd (wrong refl)
none_asked false wrong = refl

-- so what was asked for is shown
pub shows_next : (session statement : ℕ) (next : Bool) (name : List ℕ) (made : RecordChange) (sealed : Option (List Chunk)) (old new : Parts) (ahead : Option Look)
    → IsSettled session statement name made sealed old new → IsAhead next old name made sealed ahead → ShowsNext next name new ahead
shows_next session statement next name made sealed old new None settled ahead = none_asked next (λ asked. no_clash old.chunks new.chunks sealed settled.chunks (ahead asked))
shows_next session statement next name made sealed old new (Some look) settled ahead = (ahead.0, foreseen session statement name made sealed old new look settled ahead.1)

-- a clash is a difference
pub clash_differs : (held brought : List ℕ → Option (List ℕ)) (fault : PutFault) (clash : Clash) → fault ≡ Collision clash → IsCause held brought fault → Differ held brought
clash_differs held brought fault clash is cause =
    let clashes : IsClash held brought clash = subst (IsCause held brought) is cause in
    record {
      address = clash.address.0;
      here = clash.first;
      there = clash.second;
      is_held = clashes.is_held;
      is_brought = clashes.is_brought;
      differ = clashes.differ;
    }
