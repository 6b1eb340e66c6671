-- What a verification makes of the own record, and its reply.
use Rattle.std.proofs.Common.{◌≡◌, refl, sym, ap, ◌∙◌, ℕ, Bool, true, false, not, cond, List, [], ◌∷◌, codes, Ok}
use Rattle.tuple_codec.specs.declared.addresses.Address.{Address}
use Rattle.tuple_codec.specs.declared.records.BranchRecord.{BranchRecord}
use Rattle.chunk_store.specs.Chunks.{Chunks, Extends}
use Rattle.table_root.specs.Kept.{IsKeptAt}
use Rattle.violation_lists.specs.declared.listing.ListedViolation.{ListedViolation}
use Rattle.expr_eval.specs.Binding.{Outcome}
use Rattle.schema_model.specs.PlainCommits.{Commits}
use Rattle.schema_model.specs.PlainTables.{PlainDatabase}
use Rattle.script_text.specs.declared.replies.Reply.{Reply}
use Rattle.sql_procedures.specs.declared.requests.Verification.{Verification}
use Rattle.plain_writes.specs.CheckTexts.{checks}
use Rattle.plain_sessions.specs.CommitRule.{is_none}
use Rattle.plain_sessions.specs.Merging.{Worked, Answers, found_in, verified, verify}
use Rattle.plain_sessions.specs.Records.{BranchState}
use Rattle.plain_sessions.specs.Replies.{is_refusal, number_field, one_row}
use Rattle.plain_writes.specs.Violations.{violations}
use Rattle.session_state.specs.Records.{RecordStands}
use Rattle.session_plan.specs.Showing.{is_plain_reply}
use Rattle.table_root.specs.Standing.{DatabasesStand}
use Rattle.merge_procs.specs.Steps.{IsMade}

told : ℕ → Reply
told number = one_row (number_field (codes "violations") number ∷ [])

found_plain : (found : Bool) → is_plain_reply (one_row (number_field (codes "violations") (cond found 1 0) ∷ [])) ≡ true
found_plain true = refl
found_plain false = refl

found_as : (list : List ListedViolation) (database : PlainDatabase) → is_none list ≡ is_none (violations checks database) → ◌≡◌ {A = ℕ} (cond (not (is_none list)) 1 0) (found_in database)
found_as list database same = ap (λ (b : Bool). let n : ℕ = cond (not b) 1 0 in n) same ∙ turned (is_none (violations checks database)) where
  turned : (b : Bool) → ◌≡◌ {A = ℕ} (cond (not b) 1 0) (cond b 0 1)
  turned true = refl
  turned false = refl

-- the step of a verification
pub verified_so : (address : List ℕ → List ℕ) (old new : Chunks) (commits : Commits) (own : BranchRecord) (state : BranchState) (working : Address) (way : Verification) (list : List ListedViolation) (reply : Reply)
    → Extends old new → DatabasesStand → RecordStands address old commits own state
    → is_none list ≡ is_none (violations checks state.working) → reply ≡ one_row (number_field (codes "violations") (cond (not (is_none list)) 1 0) ∷ [])
    → IsKeptAt address new working.0 (verified way state.working)
    → IsMade address new commits (record { rec = record { head = own.head; working = working; staged = own.staged; merging = own.merging }; reply = reply }) (Ok (verify way state))
unfolding told
verified_so address old new commits own state working way list reply more laws stands same is kept =
    let after : BranchState = record state { working = verified way state.working } in
    record {
      own = after;
      is = ap (λ (r : Reply). let o : Outcome Worked = Ok (Answers r after) in o) (sym (is ∙ ap told (found_as list state.working same)));
      plain = ap is_plain_reply is ∙ found_plain (not (is_none list));
      well = ap is_refusal is;
      stands = record {
        head = stands.head;
        working = kept;
        staged = record { stands = laws.later address old new own.staged.0 state.staged more stands.staged.stands; within = stands.staged.within };
        merging = stands.merging;
        head_known = stands.head_known;
        merging_known = stands.merging_known;
      };
    }
