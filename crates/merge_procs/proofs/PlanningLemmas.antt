-- Which decision a DOLT_MERGE is, and whether the branch is as it was.
use Rattle.std.proofs.Common.{◌≡◌, refl, ◌∙◌, sym, ap, subst, ℕ, Bool, true, false, ◌&&◌, not, List, length, Option, None, Some, Ok, Err}
use Rattle.std.specs.Prelude.{◌≤◌, if◌then◌else◌, nat_le}
use Rattle.std.proofs.lemmas.Bool.{and_parts, leb-true}
use Rattle.std.specs.List.{list_all}
use Rattle.std.specs.Option.{option_map_or}
use Rattle.tuple_codec.specs.declared.addresses.Address.{Address}
use Rattle.tuple_codec.specs.declared.records.BranchRecord.{BranchRecord}
use Rattle.chunk_store.specs.Chunks.{Chunks}
use Rattle.chunk_store.specs.Drafts.{DraftParts}
use Rattle.expr_eval.specs.Binding.{Outcome, and_then}
use Rattle.schema_merge.specs.RootMerge.{MergedDatabase}
use Rattle.plain_sql.specs.Lists.{unless}
use Rattle.script_text.specs.declared.replies.Reply.{Reply}
use Rattle.sql_procedures.specs.Arguments.{begins_with_minus, is_message, is_name_byte, is_point}
use Rattle.sql_procedures.specs.declared.requests.MergeOf.{MergeOf}
use Rattle.sql_procedures.specs.declared.requests.MergeRequest.{MergeRequest}
use Rattle.sql_procedures.specs.declared.requests.MergeRequest.TheVariants as merging
use Rattle.table_root.specs.declared.heads.Look.{Look}
use Rattle.plain_sessions.specs.Fitness.{is_fit_merge}
use Rattle.plain_sessions.specs.Merging.{Answers, Closes, Ending, Forwarding, Joining, Worked, is_clean, merge, merge_made, merge_message, merged_with}
use Rattle.plain_sessions.specs.Moments.{Change, unless_moved}
use Rattle.plain_sessions.specs.Records.{BranchState, Shared, is_same_state}
use Rattle.plain_sessions.specs.Sessions as plain
use Rattle.plain_sessions.specs.Sessions.{Transaction}
use Rattle.plain_sessions.specs.Statements.{worked}
use Rattle.plain_sessions.specs.declared.commands.Work.TheVariants as call
use Rattle.session_state.specs.Transactions.{StartStands}
use Rattle.session_state.specs.declared.sessions.Session.{Session}
use Rattle.session_plan.specs.Answering.{Decides}
use Rattle.shared_db.specs.Plans.{IsPlannedAs, IsRefusedBy, PlanIs}
use Rattle.shared_db.specs.declared.changes.DecisionPlan.{DecisionPlan}
use Rattle.merge_procs.specs.Ways.{IsThree, IsWay}
use Rattle.merge_procs.specs.declared.ways.Three.{Three}
use Rattle.merge_procs.specs.declared.ways.Way.TheVariants as way

-- ---- what is asked

-- a short name, and a message that is one
pub fit_parts : (request : MergeOf) → is_fit_merge (merging.Merge request) ≡ true → (length request.name ≤ 64) × (option_map_or is_message request.message true ≡ true)
fit_parts request fit =
    let both = and_parts (is_point request.name) (option_map_or is_message request.message true) fit in
    let short : Bool = nat_le 1 (length request.name) && nat_le (length request.name) 64 in
    let plain = and_parts (short && list_all is_name_byte request.name) (not (begins_with_minus request.name)) both.0 in
    let few = and_parts short (list_all is_name_byte request.name) plain.0 in (
      leb-true (length request.name) 64 (and_parts (nat_le 1 (length request.name)) (nat_le (length request.name) 64) few.0).1,
      both.1,
    )

-- ---- which decision it is

pub worked_merge : (p : plain.Session) (t : Transaction) (request : MergeRequest) → worked p t (call.Merge request) ≡ merge p t request
unfolding worked
worked_merge p t request = refl

abbrev ending_in : Outcome Worked → Ending → Ending
ending_in (Ok (Closes ending)) other = ending
ending_in outcome other = other

answers_apart : (reply : Reply) (own : BranchState) (ending : Ending) → ◌≡◌ {A = Outcome Worked} (Ok (Answers reply own)) (Ok (Closes ending)) → ⊥
answers_apart reply own ending is = absurd (cc)

-- a clean merge
abbrev pub IsClean : plain.Session → MergeOf → List ℕ → Outcome MergedDatabase → Ending → Type 0
IsClean p request other outcome ending = (merged : MergedDatabase) × (outcome ≡ Ok merged) × (ending ≡ Joining merged.database other (merge_message p request))

by_clean : (clean : Bool) (joining ending : Ending) (reply : Reply) (own : BranchState) → ◌≡◌ {A = Outcome Worked} (Ok (if clean then Closes joining else Answers reply own)) (Ok (Closes ending))
    → ending ≡ joining
by_clean true joining ending reply own is = sym (ap (λ (o : Outcome Worked). ending_in o ending) is)
by_clean false joining ending reply own is = absurd (answers_apart reply own ending is)

clean_by : (p : plain.Session) (t : Transaction) (request : MergeOf) (other : List ℕ) (outcome : Outcome MergedDatabase) (ending : Ending)
    → and_then outcome (λ (merged : MergedDatabase). Ok (merge_made p t request other merged)) ≡ Ok (Closes ending) → IsClean p request other outcome ending
clean_by p t request other (Err number) ending is = absurd (cc)
clean_by p t request other (Ok merged) ending is =
    (merged, refl, by_clean (is_clean merged) (Joining merged.database other (merge_message p request)) ending _ _ is)

module _ (address : List ℕ → List ℕ) (found : Chunks) (p : plain.Session) (t : Transaction) (request : MergeOf) (ending : Ending)
    (closes : worked p t (call.Merge (merging.Merge request)) ≡ Ok (Closes ending)) where
  merges : merge p t (merging.Merge request) ≡ Ok (Closes ending)
  merges = sym (worked_merge p t (merging.Merge request)) ∙ closes

  pub is_forwarding : (other : Address) → IsWay address found t request (way.Forward other) → ending ≡ Forwarding other.0
  is_forwarding other is = sym (ap (λ (o : Outcome Worked). ending_in o ending) (sym (is.1 p) ∙ merges))

  pub is_joining : (three : Three) → IsThree address found t request three → IsClean p request three.other.0 (merged_with t three.other.0) ending
  is_joining three is = clean_by p t request three.other.0 (merged_with t three.other.0) ending (sym (is.is p) ∙ merges)

-- ---- a branch that moved

-- a session in a transaction has a start
pub none_started : (address : List ℕ → List ℕ) (draft : DraftParts) (start : Option Look) (own : BranchRecord) (found : Option Transaction) (t : Transaction) → start ≡ None → found ≡ Some t
    → StartStands address draft start own found → ⊥
none_started address draft None own None t none some stands = absurd (cc)
none_started address draft None own (Some other) t none some stands = stands
none_started address draft (Some look) own found t none some stands = absurd (cc)

has_start : (address : List ℕ → List ℕ) (draft : DraftParts) (start : Option Look) (own : BranchRecord) (found : Option Transaction) (t : Transaction) → found ≡ Some t
    → StartStands address draft start own found → (look : Look) × (start ≡ Some look)
has_start address draft None own found t some stands = absurd (none_started address draft None own found t refl some stands)
has_start address draft (Some look) own found t some stands = (look, refl)

pub start_of : {D : Type 0} (address : List ℕ → List ℕ) (session : Session D) (look : Look) (p : plain.Session) (t : Transaction) (shared : Shared) (present : BranchState)
    → Decides address session look p t shared present → (start : Look) × (session.start ≡ Some start)
start_of address session look p t shared present d =
    has_start address session.draft.chunks session.start session.own p.transaction t d.transaction (let own = d.session_stands in own.transaction)

module _ (address : List ℕ → List ℕ) (look : Look) (t : Transaction) (shared : Shared) (present : BranchState) (moved : Bool) (told : moved ≡ not (is_same_state present t.start)) (change : Change) where
  decided_as : (b : Bool) → moved ≡ b → unless_moved t present change ≡ unless b 1213 (Ok change)
  decided_as b is = ap (λ (wrong : Bool). unless wrong 1213 (Ok change)) (sym told ∙ is)

  pub refuses : (plan : DecisionPlan) → moved ≡ true → IsRefusedBy 1213 plan → PlanIs address look shared.commits plan (unless_moved t present change)
  refuses plan is refused = subst (PlanIs address look shared.commits plan) (sym (decided_as true is)) refused

  pub goes_on : (plan : DecisionPlan) → moved ≡ false → IsPlannedAs address look shared.commits plan change → PlanIs address look shared.commits plan (unless_moved t present change)
  goes_on plan is planned = subst (PlanIs address look shared.commits plan) (sym (decided_as false is)) planned
