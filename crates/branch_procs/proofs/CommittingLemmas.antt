-- The decision of a DOLT_COMMIT: what stands in the draft over a look's store, and what goes on standing where it is sealed with the commit.
use Rattle.std.proofs.Common.{◌≡◌, refl, ◌∙◌, sym, ap, subst, ℕ, ℤ, Bool, true, ◌&&◌, ◌||◌, not, List, ◌∷◌, ◌++◌, length, Option, None, Some, Result, Ok, Err}
use Rattle.std.specs.Prelude.{IfOk, is_some, bytes_eq}
use Rattle.std.specs.List.{list_all, list_any}
use Rattle.std.specs.Option.{option_map_or, option_to_list}
use Rattle.tuple_codec.proofs.ByteLemmas.{bytes_same}
use Rattle.tuple_codec.specs.declared.addresses.Address.{Address}
use Rattle.tuple_codec.specs.declared.records.BranchRecord.{BranchRecord}
use Rattle.chunk_store.specs.Chunks.{AreNamed, Chunk, Chunks, chunk_bytes}
use Rattle.chunk_store.specs.Drafts.{Drafting, Grows, IsSound, Longer, chunks_of}
use Rattle.chunk_store.specs.Kinds.{is_commit, is_data}
use Rattle.chunk_store.specs.Laws.{ChunksFollow, DraftsFollow}
use Rattle.chunk_store.specs.Standing.{IsThere}
use Rattle.chunk_store.specs.Stores.{all_chunks, joined}
use Rattle.chunk_store.specs.declared.faults.PutFault.{PutFault}
use Rattle.commit_graph.specs.Standing.{IsCommitThere}
use Rattle.expr_eval.specs.Binding.{Outcome, and_then}
use Rattle.plain_sql.specs.Lists.{unless}
use Rattle.schema_model.specs.PlainCommits.{Commits, IsGrown, PlainCommit, commit_address, is_known, plain_commit_bytes}
use Rattle.schema_model.specs.PlainTables.{PlainDatabase}
use Rattle.script_text.specs.declared.replies.Reply.{Reply}
use Rattle.sql_procedures.specs.declared.requests.CommitRequest.{CommitRequest}
use Rattle.sql_procedures.specs.declared.requests.Staging.{Staging}
use Rattle.table_root.specs.Standing.{DatabasesStand, IsDatabaseAt}
use Rattle.table_root.specs.declared.heads.Look.{Look}
use Rattle.plain_sessions.specs.Branching.{is_open, says_something, staged_first, to_commit}
use Rattle.plain_sessions.specs.CommitRule.{decide}
use Rattle.plain_sessions.specs.Merging.{Worked, Closes, Committing}
use Rattle.plain_sessions.specs.Moments.{closed, commit_of, committed_as}
use Rattle.plain_sessions.specs.Records.{BranchState, Shared, commit_on, database_in, root_of, with_new_commit}
use Rattle.plain_sessions.specs.Sessions as plain
use Rattle.plain_sessions.specs.Sessions.{Transaction, own_root}
use Rattle.plain_sessions.specs.Statements.{worked}
use Rattle.plain_sessions.specs.declared.commands.Work.TheVariants as call
use Rattle.root_merge.specs.Deciding.{AreStates, set}
use Rattle.root_merge.specs.States.{BranchStateStands, IsCandidate}
use Rattle.root_merge.specs.declared.candidates.Candidate.{Candidate}
use Rattle.root_merge.specs.declared.candidates.Candidate.TheVariants as made
use Rattle.root_merge.proofs.StateLemmas.{state_later}
use Rattle.session_state.specs.Commits.{AreAmong, CommitsAreThere, HasNoCommit}
use Rattle.session_state.specs.Laws.{CommitsFollow, RecordsFollow}
use Rattle.session_state.specs.declared.sessions.Session.{Session}
use Rattle.shared_db.specs.Plans.{IsPlannedAs, IsRefusedBy, PlanIs, brought}
use Rattle.shared_db.specs.declared.changes.DecisionPlan.{DecisionPlan}
use Rattle.session_plan.specs.Answering.{Decides}
use Rattle.session_plan.specs.Committing.{CanCommit, IsCommitWritten, IsPlannedOf, IsWorkOf, parents_on}
use Rattle.session_plan.proofs.CommitLemmas as decisions
use Rattle.session_plan.proofs.CommitLemmas.{Known, gives, ok_same, past_unless, record_in, refused_by}
use Rattle.session_plan.proofs.CommittingLemmas.{only_one}
use Rattle.session_plan.proofs.SealLemmas.{named_sealed, same_sealed}
use Rattle.branch_procs.specs.Committing.{CanDecide, IsCommitted, hash_reply, staged_in}
use Rattle.branch_procs.proofs.ClosingLemmas.{worked_commit}

-- ---- the plan

abbrev record_at : BranchRecord → Address → BranchRecord
record_at rec k = record { head = k; working = rec.working; staged = rec.staged; merging = None }

pub committed_told : (address : List ℕ → List ℕ) (work after : Drafting) (commit : PlainCommit) (rec at : BranchRecord) (k : Address) (reply : Reply) (result : Result DecisionPlan PutFault)
    → IsCommitWritten address work.chunks after.chunks commit k → after.segments ≡ work.segments → IsSound address after.chunks → at ≡ record_at rec k → reply ≡ hash_reply k.0
    → IfOk result (λ plan. IsPlannedOf after at reply plan) → IfOk result (λ plan. IsCommitted address work commit rec plan)
committed_told address work after commit rec at k reply (Err fault) written segments sound at_is told is = tt
committed_told address work after commit rec at k reply (Ok plan) written segments sound at_is told is = record {
  k = k;
  after = after;
  written = written;
  segments = segments;
  sound = sound;
  planned = subst (λ (r : BranchRecord). IsPlannedOf after r (hash_reply k.0) plan) at_is (subst (λ (said : Reply). IsPlannedOf after at said plan) told is);
}

-- ---- commits

merging_all : (commits : Commits) (merging : Option (List ℕ)) → option_map_or (is_known commits) merging true ≡ true → list_all (is_known commits) (option_to_list merging) ≡ true
merging_all commits None known = refl
merging_all commits (Some k) known = ap (λ (b : Bool). b && true) known

known_same : (o p : Option PlainCommit) → ((c : PlainCommit) → o ≡ Some c → p ≡ Some c) → is_some o ≡ true → o ≡ p
known_same None p among known = absurd (cc)
known_same (Some c) p among known = sym (among c refl)

abbrev own_in : Outcome Worked → BranchState → BranchState
own_in (Ok (Closes (Committing own message))) other = own
own_in outcome other = other

-- ---- the decision

module _ {D : Type 0} (address : List ℕ → List ℕ) (chunks : ChunksFollow) (records : RecordsFollow) (commits : CommitsFollow) (session : Session D) (look start : Look) (started : session.start ≡ Some start)
    (work : Drafting) (w : IsWorkOf session look work) (p : plain.Session) (t : Transaction) (shared : Shared) (present : BranchState)
    (d : Decides address session look p t shared present) where
  abbrev store : List Chunk
  store = all_chunks look.store

  among : AreAmong t.commits shared.commits
  among = decisions.among address chunks records session look start started work w p t shared present d commits

  head_known : is_known t.commits t.own.head ≡ true
  head_known = let stands = decisions.stands address chunks records session look start started work w p t shared present d in stands.own_stands.head_known

  own_known : Known shared.commits t.own
  own_known = decisions.own_known address chunks records session look start started work w p t shared present d commits

  states : AreStates address (chunks_of work.chunks) start.rec look.rec session.own t.start present t.own
  states = decisions.states_in address chunks records session look start started work w p t shared present d

  pub can_decide : CanDecide address work.chunks start.rec look.rec session.own shared.commits t.start present t.own
  can_decide = record {
    start_stands = states.start_stands;
    present_stands = states.present_stands;
    own_stands = record {
      stands = record_in address (chunks_of work.chunks) shared.commits session.own t.own states.own_stands own_known;
      all_there = subst (λ (base : List Chunk). CommitsAreThere address (chunk_bytes base) shared.commits) (sym w.base) d.look_is.commits;
    };
  }

  same_root : own_root t ≡ root_of shared.commits t.own.head
  same_root = ap database_in (known_same (t.commits t.own.head) (shared.commits t.own.head) (among t.own.head) head_known)

  abbrev staged_by : Staging → PlainDatabase → BranchState
  staged_by staging root = record t.own { staged = staged_first root staging t.own }

  -- the state that the call closes with
  pub own_is : (request : CommitRequest) (own : BranchState) → worked p t (call.Commit request) ≡ Ok (Closes (Committing own request.message)) → staged_in shared.commits request.staging t.own ≡ own
  own_is request own is =
      let on = staged_by request.staging in
      let root = own_root t in
      gives (on (root_of shared.commits t.own.head) ≡ own) (to_commit root request t.own) (λ made. Ok (Closes (Committing made request.message))) (Closes (Committing own request.message))
      (sym (worked_commit p t request) ∙ is)
      (λ found e f. (λ i. on (sym same_root i))
      ∙ (ok_same (on root) found
      (past_unless (not (says_something root request (on root))) 9007 (Ok (on root)) found
      (past_unless (is_open t.own.working) 9011 (unless (not (says_something root request (on root))) 9007 (Ok (on root))) found e))
      ∙ ap (λ (o : Outcome Worked). own_in o found) f))

  module _ (staging : Staging) (after : Drafting) (grown : Grows is_data work after) (m : Candidate)
      (told : IsCandidate address (chunks_of after.chunks) m (decide t.start present (staged_in shared.commits staging t.own) (set p.variables.autocommit session.allow session.force))) where
    abbrev mine : BranchState
    mine = staged_in shared.commits staging t.own

    abbrev outcome : Outcome BranchState
    outcome = decide t.start present mine p.variables

    by_variables : (other : Candidate) → m ≡ other → IsCandidate address (chunks_of after.chunks) other outcome
    by_variables other is = decisions.decided_so address (chunks_of after.chunks) session p (record t { own = mine }) present m other d.session_stands is told

    pub refuses : (epoch : ℤ) (message : List ℕ) (number : ℕ) (plan : DecisionPlan) → m ≡ made.Refused number → IsRefusedBy number plan
        → PlanIs address look shared.commits plan (closed address epoch shared.commits p t present (Committing mine message))
    refuses epoch message number plan is refused =
        refused_by address (chunks_of after.chunks) look shared.commits number plan outcome (λ state. committed_as address (commit_of epoch shared.commits p present message state) state) refused
        (by_variables (made.Refused number) is)

    after_base : after.chunks.base ≡ store
    after_base = grown.base ∙ w.base

    module _ (rec : BranchRecord) (is : m ≡ made.Record rec) where
      abbrev Can : BranchState → Type 0
      Can state = CanCommit address after.chunks rec look.rec.head shared.commits state

      can_by : (o : Outcome BranchState) → outcome ≡ o → IsCandidate address (chunks_of after.chunks) (made.Record rec) o → (state : BranchState) × (outcome ≡ Ok state) × Can state
      can_by (Err number) decided stood = absurd stood
      can_by (Ok state) decided stood =
          let now = decisions.present_stands address chunks records session look start started work w p t shared present d in (
            state,
            decided,
            record {
              stands = stood;
              all_there = subst (λ (base : List Chunk). CommitsAreThere address (chunk_bytes base) shared.commits) (sym after_base) d.look_is.commits;
              present_known = ap (is_known shared.commits) now.head ∙ now.head_known;
              merging_known = (decisions.decided_known shared.commits t.start present mine state p.variables own_known now.head_known decided).1;
            },
          )

      pub can_commit : (state : BranchState) × (outcome ≡ Ok state) × Can state
      can_commit = can_by outcome refl (by_variables (made.Record rec) is)

      module _ (drafts : DraftsFollow) (databases : DatabasesStand) (epoch : ℤ) (message : List ℕ) (state : BranchState) (can : Can state) where
        abbrev commit : PlainCommit
        commit = commit_of epoch shared.commits p present message state

        abbrev named_by : PlainCommit
        named_by = commit_on shared.commits epoch session.name state.staged (parents_on look.rec.head state) message

        same_commit : named_by ≡ commit
        same_commit =
            let stands = d.session_stands in
            let now = decisions.present_stands address chunks records session look start started work w p t shared present d in
            λ i. commit_on shared.commits epoch (stands.name i) state.staged (now.head i ∷ option_to_list state.merging) message

        no_commit : HasNoCommit after.chunks.own
        no_commit =
            let stands = d.session_stands in
            subst HasNoCommit (sym (grown.own ∙ ap (λ (cs : List Chunk). cs ++ grown.more) w.own))
            (decisions.no_commit_more chunks session.draft.chunks.own grown.more stands.plain_own grown.kinds)

        module _ (plan : DecisionPlan) (made_so : IsCommitted address after commit rec plan) where
          abbrev now : Drafting
          now = made_so.after

          abbrev k : List ℕ
          k = commit_address address commit

          longer : Longer after.chunks now.chunks
          longer =
              let written = made_so.written in
              subst (Longer after.chunks) (sym written.chunks) (drafts.longer_put address (plain_commit_bytes address commit) after.chunks)

          now_base : now.chunks.base ≡ store
          now_base = longer.base ∙ after_base

          abbrev beside : List Chunk
          beside = store ++ now.chunks.own

          now_of : joined now.segments ≡ store
          now_of = ap joined (made_so.segments ∙ grown.segments ∙ w.segments)

          at_now : chunks_of now.chunks ≡ chunk_bytes beside
          at_now = λ i. chunk_bytes (now_base i ++ now.chunks.own)

          here : BranchStateStands address (chunk_bytes beside) rec state
          here = subst (λ (found : Chunks). BranchStateStands address found rec state) at_now
              (state_later address (chunks_of after.chunks) (chunks_of now.chunks) (drafts.longer_extends after.chunks now.chunks longer) databases rec state can.stands)

          is_held : IsThere address (chunk_bytes beside) (plain_commit_bytes address commit)
          is_held =
              let written = made_so.written in
              let found = written.found in (
                subst (λ (j : List ℕ). chunk_bytes beside j ≡ Some (plain_commit_bytes address commit)) written.named
                    (subst (λ (have : Chunks). have made_so.k.0 ≡ Some (plain_commit_bytes address commit)) at_now found.held),
                subst (λ (j : List ℕ). length j ≡ 20) written.named written.length_is,
              )

          is_there : IsCommitThere address (chunk_bytes beside) k commit
          is_there =
              let written = made_so.written in
              let found = written.found in
              let staged = here.staged in
              let database = staged.stands in
              record {
                is_commit = found.is_commit;
                named = refl;
                there = is_held;
                database = subst (λ (root : List ℕ). IsDatabaseAt address (chunk_bytes beside) root state.staged) (sym database.named) database;
              }

          is_grown : IsGrown shared.commits commit
          is_grown =
              let stands = decisions.present_stands address chunks records session look start started work w p t shared present d in
              record { parents = λ i. stands.head_known i && merging_all shared.commits state.merging can.merging_known i; height = refl }

          with_it : (left : Commits) × (with_new_commit address commit shared.commits ≡ Some left) × CommitsAreThere address (chunk_bytes beside) left
          with_it =
              let staged = here.staged in
              commits.with_one address store now.chunks.own shared.commits commit d.look_is.commits is_there is_grown staged.within present.head
              (ap (λ (b : Bool). b || list_any (bytes_eq present.head) (option_to_list state.merging)) (bytes_same present.head present.head refl))
              (only_one address after.chunks now.chunks commit made_so.k made_so.written no_commit)

          abbrev sealed : List Chunk
          sealed = brought plan

          same : chunk_bytes beside ≡ chunk_bytes (store ++ sealed)
          same = let planned = made_so.planned in same_sealed address chunks drafts store d.look_is.named now now_base now_of made_so.sound sealed planned.sealed

          named : AreNamed address sealed
          named = let planned = made_so.planned in named_sealed address chunks drafts store d.look_is.named now now_base now_of made_so.sound sealed planned.sealed

          stands_sealed : BranchStateStands address (chunk_bytes (store ++ sealed)) rec state
          stands_sealed = subst (λ (found : Chunks). BranchStateStands address found rec state) same here

          planned_as : IsPlannedAs address look shared.commits plan (committed_as address commit state)
          planned_as =
              let planned = made_so.planned in
              let written = made_so.written in
              let left = with_it in
              record {
                rec = record_at rec made_so.k;
                is = planned.change;
                reply = planned.reply_is ∙ ap hash_reply written.named;
                stands = record {
                  after = left.0;
                  is = left.1;
                  stands = record {
                    head = written.named;
                    working = stands_sealed.working;
                    staged = stands_sealed.staged;
                    merging = refl;
                    head_known = let after_it = left.2 in after_it.no_others k (plain_commit_bytes address commit) is_held.0 refl;
                    merging_known = refl;
                  };
                  commits_after = subst (λ (found : Chunks). CommitsAreThere address found left.0) same left.2;
                  named = named;
                };
              }

        plans : (plan : DecisionPlan) → outcome ≡ Ok state → IsCommitted address after named_by rec plan
            → PlanIs address look shared.commits plan (closed address epoch shared.commits p t present (Committing mine message))
        plans plan decided made_so =
            subst (λ (o : Outcome BranchState). PlanIs address look shared.commits plan (and_then o (λ (found : BranchState). Ok (committed_as address (commit_of epoch shared.commits p present message found) found))))
            (sym decided) (planned_as plan (subst (λ (c : PlainCommit). IsCommitted address after c rec plan) same_commit made_so))

        pub plans_told : outcome ≡ Ok state → (result : Result DecisionPlan PutFault) → IfOk result (λ plan. IsCommitted address after named_by rec plan)
            → IfOk result (λ plan. PlanIs address look shared.commits plan (closed address epoch shared.commits p t present (Committing mine message)))
        plans_told decided (Err fault) made_so = tt
        plans_told decided (Ok plan) made_so = plans plan decided made_so
