-- A decision that was planned on a look and settled on the state that was looked at, or on one that has grown since.
use Rattle.std.proofs.Common.{◌≡◌, refl, ◌∙◌, sym, ap, subst, inl, ℕ, true, List, [], Option, Some, None, Ok, Err}
use Rattle.std.specs.Option.{option_map, option_map_or}
use Rattle.std.specs.Arc.{arc_value}
use Rattle.std.proofs.lemmas.Option.{same_Some}
use Rattle.chunk_store.specs.Chunks.{AreNamed, Chunk, IsSingle, Listed, Lists, chunk_bytes}
use Rattle.chunk_store.specs.Clashes.{IsClash}
use Rattle.chunk_store.specs.Laws.{ChunksFollow}
use Rattle.chunk_store.specs.Stores.{IsUnion, all_chunks}
use Rattle.chunk_store.specs.declared.faults.Clash.{Clash}
use Rattle.expr_eval.specs.Binding.{Outcome, and_then}
use Rattle.script_text.specs.Collisions.{IsCollision}
use Rattle.table_root.specs.declared.heads.Look.{Look}
use Rattle.plain_sessions.specs.CommitRule.{decide}
use Rattle.plain_sessions.specs.Moments.{ruled, with_change, without_commit}
use Rattle.plain_sessions.specs.Records.{BranchState, Shared, state_of}
use Rattle.plain_sessions.specs.Replies.{done}
use Rattle.plain_sessions.specs.Sessions as plain
use Rattle.session_state.specs.Changes.{Parts, StateStands}
use Rattle.session_state.specs.Laws.{StatesFollow, with_record}
use Rattle.session_state.specs.Transactions.{IsLookOf}
use Rattle.session_plan.specs.Showing.{is_sound_reply}
use Rattle.shared_db.specs.Plans.{PlanIs, brought}
use Rattle.shared_db.specs.Shared.{AreWith, IsSettled, changed_lines}
use Rattle.shared_db.specs.declared.changes.DecisionPlan.{DecisionPlan}
use Rattle.shared_db.specs.declared.changes.RecordChange.{RecordChange}
use Rattle.serving.specs.Steps.{Decided}
use Rattle.serving.proofs.RuleLemmas.{refused_plainly}

abbrev pub sealed_in : {A : Type 0} → Option (List A) → List A
sealed_in None = []
sealed_in (Some sealed) = sealed

pub union_with : (old new : List Chunk) (sealed : Option (List Chunk)) → AreWith old sealed new → IsUnion old (sealed_in sealed) new
union_with old new None same = record {
  left = λ k bytes listed. subst (λ (cs : List Chunk). Listed cs k bytes) (sym same) listed;
  right = λ k bytes listed. absurd listed;
  only = λ k bytes listed. inl (subst (λ (cs : List Chunk). Listed cs k bytes) same listed);
}
union_with old new (Some sealed) with = with.0

sealed_as : {A : Type 0} (f : A → List Chunk) (sealed : Option A) → sealed_in (option_map f sealed) ≡ option_map_or f sealed []
sealed_as f None = refl
sealed_as f (Some sealed) = refl

pub brought_is : (plan : DecisionPlan) → sealed_in (option_map arc_value plan.sealed) ≡ brought plan
brought_is plan = sealed_as arc_value plan.sealed

module _ (follow : StatesFollow) (address : List ℕ → List ℕ) (parts new : Parts) (p : plain.Session) (t : plain.Transaction) (shared : Shared) (present : BranchState) (look : Look) (plan : DecisionPlan) where
  -- nothing has changed but that a moment was made
  pub stands_still : IsSettled p.number p.statement look.branch plan.change (option_map arc_value plan.sealed) parts new → new.branches ≡ parts.branches → new.chunks ≡ parts.chunks
      → StateStands address parts shared → StateStands address new shared
  stands_still settled branches chunks stands =
      let bare : StateStands address (record parts { moments = new.moments }) shared = record {
        branches = stands.branches;
        rise = stands.rise;
        few = stands.few;
        places = stands.places;
        placed = stands.placed;
        commits = stands.commits;
        named = stands.named;
        single = stands.single;
      } in
      let same : ◌≡◌ {A = Parts} (record parts { moments = new.moments }) new =
      λ i. record { branches = sym branches i; places = sym settled.places i; numbers = sym settled.numbers i; moments = new.moments; chunks = sym chunks i } in
      subst (λ (q : Parts). StateStands address q shared) same bare

  settled_by : (seen : Shared) (verdict : Outcome BranchState) → decide t.start present t.own p.variables ≡ verdict → state_of shared.branches p.branch ≡ Some present
      → IsLookOf address look seen → look.branch ≡ p.branch → Lists (all_chunks look.store) parts.chunks → StateStands address parts shared
      → PlanIs address look seen.commits plan (and_then verdict (λ state. Ok (without_commit done state))) → IsSingle new.chunks
      → IsSettled p.number p.statement look.branch plan.change (option_map arc_value plan.sealed) parts new
      → Decided address p t shared parts new plan.reply
  settled_by seen (Ok state) is there look_is branch lists stands planned single settled =
      let change = without_commit done state in
      let union : IsUnion parts.chunks (brought plan) new.chunks = subst (λ (cs : List Chunk). IsUnion parts.chunks cs new.chunks) (brought_is plan) (union_with parts.chunks new.chunks _ settled.chunks) in
      let lines : new.branches ≡ with_record p.branch planned.rec parts.branches =
      settled.branches ∙ ap (λ (c : RecordChange). changed_lines look.branch c parts.branches) planned.is ∙ ap (λ (name : List ℕ). with_record name planned.rec parts.branches) branch in
      let left = follow.settled address (all_chunks look.store) (brought plan) seen.commits parts new shared p.branch look_is.state.head planned.rec present change
      look_is.commits look_is.stands.head_known lists planned.stands stands there lines settled.places union
      single in
      record {
        present = present;
        there = there;
        verdict = Ok state;
        is = is;
        last = with_change p.branch change shared left.0;
        comes = (ap (with_change p.branch change shared) (sym (same_Some _ _ left.1)), planned.reply);
        state_stands = left.2;
        chunks = union.left;
        moments = settled.moments;
        numbers = settled.numbers;
      }
  settled_by seen (Err number) is there look_is branch lists stands planned single settled =
      let lines : new.branches ≡ parts.branches = settled.branches ∙ ap (λ (c : RecordChange). changed_lines look.branch c parts.branches) planned.change in
      let same : new.chunks ≡ parts.chunks = subst (λ (sealed : Option _). AreWith parts.chunks (option_map arc_value sealed) new.chunks) planned.sealed settled.chunks in
      record {
        present = present;
        there = there;
        verdict = Err number;
        is = is;
        last = shared;
        comes = (refl, planned.reply, (refused_plainly t.start present t.own p.variables number is).short);
        state_stands = stands_still settled lines same stands;
        chunks = subst (Lists parts.chunks) (sym same) (λ k bytes listed. listed);
        moments = settled.moments;
        numbers = settled.numbers;
      }

  sound_by : (verdict : Outcome BranchState) → decide t.start present t.own p.variables ≡ verdict
      → PlanIs address look shared.commits plan (and_then verdict (λ state. Ok (without_commit done state))) → is_sound_reply plan.reply ≡ true
  sound_by (Ok state) is planned = ap is_sound_reply planned.reply
  sound_by (Err number) is planned = ap is_sound_reply planned.reply ∙ (refused_plainly t.start present t.own p.variables number is).sound

  named_by : (verdict : Outcome BranchState) → PlanIs address look shared.commits plan (and_then verdict (λ state. Ok (without_commit done state))) → AreNamed address (brought plan)
  named_by (Ok state) planned = planned.stands.named
  named_by (Err number) planned = subst (λ (sealed : Option _). AreNamed address (option_map_or arc_value sealed [])) (sym planned.sealed) tt

  -- the plan of a COMMIT was settled, on a state that may have grown since the one that was looked at
  pub settled_over : (seen : Shared) → state_of shared.branches p.branch ≡ Some present → IsLookOf address look seen → look.branch ≡ p.branch → Lists (all_chunks look.store) parts.chunks
      → StateStands address parts shared → PlanIs address look seen.commits plan (ruled p t present done) → IsSingle new.chunks
      → IsSettled p.number p.statement look.branch plan.change (option_map arc_value plan.sealed) parts new
      → Decided address p t shared parts new plan.reply
  settled_over seen = settled_by seen (decide t.start present t.own p.variables) refl

  -- on the very state that was looked at
  pub settled_as : state_of shared.branches p.branch ≡ Some present → IsLookOf address look shared → look.branch ≡ p.branch → all_chunks look.store ≡ parts.chunks → StateStands address parts shared
      → PlanIs address look shared.commits plan (ruled p t present done) → IsSingle new.chunks
      → IsSettled p.number p.statement look.branch plan.change (option_map arc_value plan.sealed) parts new
      → Decided address p t shared parts new plan.reply
  settled_as there look_is branch chunks = settled_over shared there look_is branch (subst (λ (cs : List Chunk). Lists cs parts.chunks) (sym chunks) (λ k bytes listed. listed))

  pub planned_sound : PlanIs address look shared.commits plan (ruled p t present done) → is_sound_reply plan.reply ≡ true
  planned_sound = sound_by (decide t.start present t.own p.variables) refl

  -- what was met when it was settled is a collision
  pub clash_met : ChunksFollow → (clash : Clash) → AreNamed address parts.chunks → PlanIs address look shared.commits plan (ruled p t present done)
      → IsClash (chunk_bytes parts.chunks) (chunk_bytes (brought plan)) clash → IsCollision address clash
  clash_met chunks_follow clash named planned met = record {
    first = chunks_follow.is_named address parts.chunks clash.address.0 clash.first named met.is_held;
    second = chunks_follow.is_named address (brought plan) clash.address.0 clash.second (named_by (decide t.start present t.own p.variables) planned) met.is_brought;
    differ = met.differ;
  }
