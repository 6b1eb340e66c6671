-- The decision of a DOLT_MERGE, and its answers.
use Rattle.std.proofs.Common.{◌≡◌, refl, ◌∙◌, sym, ap, subst, ℕ, ℤ, Bool, true, false, ◌&&◌, ◌||◌, not, List, [], ◌∷◌, ◌++◌, length, Some, Result, Ok, Err}
use Rattle.std.specs.Prelude.{IfOk, bytes_eq}
use Rattle.std.specs.List.{list_any}
use Rattle.tuple_codec.proofs.ByteLemmas.{bytes_same}
use Rattle.tuple_codec.proofs.Truths.{alike_truths as one_test}
use Rattle.tuple_codec.specs.declared.addresses.Address.{Address}
use Rattle.tuple_codec.specs.declared.records.BranchRecord.{BranchRecord}
use Rattle.chunk_store.specs.Chunks.{Chunk, Chunks, Extends, chunk_bytes}
use Rattle.chunk_store.specs.Drafts.{Drafting, Grows, IsSound, Longer, chunks_of}
use Rattle.chunk_store.specs.Kinds.{is_commit, is_data}
use Rattle.chunk_store.specs.Laws.{ChunksFollow, DraftsFollow}
use Rattle.chunk_store.specs.Standing.{IsThere}
use Rattle.chunk_store.specs.Stores.{IsBrought, all_chunks, joined}
use Rattle.chunk_store.specs.declared.faults.PutFault.{PutFault}
use Rattle.commit_graph.specs.Standing.{IsCommitThere}
use Rattle.table_root.specs.Kept.{IsKeptAt}
use Rattle.expr_eval.specs.Binding.{Outcome}
use Rattle.schema_merge.specs.RootMerge.{MergedDatabase}
use Rattle.schema_model.specs.PlainCommits.{Commits, IsGrown, PlainCommit, commit_address, is_known, plain_commit_bytes}
use Rattle.schema_model.specs.PlainTables.{PlainDatabase}
use Rattle.script_text.specs.declared.replies.Reply.{Reply}
use Rattle.sql_procedures.specs.declared.requests.MergeOf.{MergeOf}
use Rattle.table_root.specs.Standing.{DatabasesStand, IsDatabaseAt}
use Rattle.table_root.specs.declared.heads.Look.{Look}
use Rattle.plain_sessions.specs.Merging.{Joining, base_root}
use Rattle.plain_sessions.specs.Moments.{closed, forwarded, merged_as, unless_moved}
use Rattle.plain_sessions.specs.Records.{BranchState, Shared, commit_on, is_same_state, root_of, with_new_commit}
use Rattle.plain_sessions.specs.Sessions as plain
use Rattle.plain_sessions.specs.Sessions.{Transaction, own_root}
use Rattle.session_state.specs.Commits.{AreAmong, CommitsAreThere, HasNoCommit}
use Rattle.session_state.specs.Laws.{CommitsFollow, RecordsFollow}
use Rattle.session_state.specs.Records.{RecordStands}
use Rattle.session_state.specs.Transactions.{TransactionStands}
use Rattle.session_state.specs.declared.sessions.Session.{Session}
use Rattle.session_state.proofs.ChangeLemmas.{record_by, record_told, same_record}
use Rattle.session_plan.specs.Answering.{Decides}
use Rattle.session_plan.specs.Committing.{CanCommit, IsCommitWritten, IsPlannedOf, IsWorkOf}
use Rattle.session_plan.proofs.CommitLemmas as decisions
use Rattle.session_plan.proofs.CommitLemmas.{ok_same}
use Rattle.shared_db.specs.Plans.{IsPlannedAs, PlanIs, brought}
use Rattle.shared_db.specs.declared.changes.DecisionPlan.{DecisionPlan}
use Rattle.session_plan.proofs.CommittingLemmas.{only_one}
use Rattle.session_plan.proofs.SealLemmas.{at_after, named_sealed, same_sealed}
use Rattle.root_merge.proofs.StateLemmas.{root_later as kept_later}
use Rattle.merge_procs.specs.Databases.{IsMet}
use Rattle.merge_procs.specs.Planning.{CanMergeRoots, IsForwarded, IsJoined, IsMergeCommitted, clean_record, joining_record, success}
use Rattle.merge_procs.specs.Ways.{IsThree}
use Rattle.merge_procs.specs.declared.databases.Met.TheVariants as meeting
use Rattle.merge_procs.specs.declared.ways.Three.{Three}
use Rattle.merge_procs.proofs.PlanningLemmas.{goes_on}

-- ---- the decision

-- the state of a merged database of which a commit is to be made
abbrev pub joining_state : Address → Address → PlainDatabase → BranchState
joining_state head other database = record { head = head.0; working = database; staged = database; merging = Some other.0 }

module _ {D : Type 0} (address : List ℕ → List ℕ) (chunks : ChunksFollow) (records : RecordsFollow) (commits : CommitsFollow) (session : Session D) (look start : Look) (started : session.start ≡ Some start)
    (work : Drafting) (w : IsWorkOf session look work) (p : plain.Session) (t : Transaction) (shared : Shared) (present : BranchState)
    (d : Decides address session look p t shared present) where
  abbrev store_of : List Chunk
  store_of = all_chunks look.store

  stands : TransactionStands address session.draft.chunks start session.own t
  stands = decisions.stands address chunks records session look start started work w p t shared present d

  base_extends : Extends (chunk_bytes session.draft.chunks.base) (chunk_bytes store_of)
  base_extends = decisions.base_extends address chunks records session look start started work w p t shared present d

  at_work : chunk_bytes (store_of ++ session.draft.chunks.own) ≡ chunks_of work.chunks
  at_work = λ i. chunk_bytes (sym w.base i ++ sym w.own i)

  -- what stood in the session's draft stands in the work
  more : Extends (chunks_of session.draft.chunks) (chunks_of work.chunks)
  more = subst (Extends (chunks_of session.draft.chunks)) at_work (chunks.joined_extends session.draft.chunks.base store_of session.draft.chunks.own base_extends w.agree)

  more_seen : Extends (chunk_bytes store_of) (chunks_of work.chunks)
  more_seen = subst (Extends (chunk_bytes store_of)) at_work (chunks.extends_left store_of session.draft.chunks.own)

  start_at : RecordStands address (chunks_of work.chunks) t.commits start.rec t.start
  start_at = records.later address (chunks_of session.draft.chunks) (chunks_of work.chunks) t.commits t.commits start.rec t.start more (λ k known. known) stands.start

  present_at : RecordStands address (chunks_of work.chunks) shared.commits look.rec present
  present_at = records.later address (chunk_bytes store_of) (chunks_of work.chunks) shared.commits shared.commits look.rec present more_seen (λ k known. known)
      (decisions.present_stands address chunks records session look start started work w p t shared present d)

  -- records are compared as states are
  unmoved : same_record start.rec look.rec ≡ is_same_state present t.start
  unmoved = one_test (same_record start.rec look.rec) (is_same_state present t.start)
      (λ h. let same = record_by start.rec look.rec h in
      (records.told present t.start).1
      (records.one address (chunks_of work.chunks) shared.commits t.commits look.rec present t.start present_at
      (subst (λ (rec : BranchRecord). RecordStands address (chunks_of work.chunks) t.commits rec t.start) same start_at)))
      (λ h. record_told start.rec look.rec (records.same address (chunks_of work.chunks) t.commits shared.commits start.rec look.rec t.start start_at
      (subst (λ (state : BranchState). RecordStands address (chunks_of work.chunks) shared.commits look.rec state) ((records.told present t.start).0 h) present_at)))

  pub is_moved : not (same_record start.rec look.rec) ≡ not (is_same_state present t.start)
  is_moved = ap not unmoved

  -- ---- what the work has

  among : AreAmong t.commits shared.commits
  among = decisions.among address chunks records session look start started work w p t shared present d commits

  pub known_now : (k : List ℕ) → is_known t.commits k ≡ true → is_known shared.commits k ≡ true
  known_now k known = decisions.known_more (t.commits k) (shared.commits k) (among k) known

  pub all_there : CommitsAreThere address (chunk_bytes work.chunks.base) shared.commits
  all_there = subst (λ (base : List Chunk). CommitsAreThere address (chunk_bytes base) shared.commits) (sym w.base) d.look_is.commits

  pub can_merge : DatabasesStand → (request : MergeOf) (three : Three) → IsThree address (chunks_of session.draft.chunks) t request three
      → CanMergeRoots address work.chunks session.own.head three shared.commits (base_root t three.other.0) (own_root t) (root_of t.commits three.other.0)
  can_merge databases request three is = record {
    roots = record {
      base_root = kept_later address (chunks_of session.draft.chunks) (chunks_of work.chunks) more databases three.base.0 (base_root t three.other.0) is.base;
      our_root = kept_later address (chunks_of session.draft.chunks) (chunks_of work.chunks) more databases three.ours.0 (own_root t) is.ours;
      their_root = kept_later address (chunks_of session.draft.chunks) (chunks_of work.chunks) more databases three.theirs.0 (root_of t.commits three.other.0) is.theirs;
    };
    all_there = all_there;
    head_known = let own = stands.own_stands in known_now session.own.head.0 (ap (is_known t.commits) own.head ∙ own.head_known);
    other_known = known_now three.other.0 is.other_known;
  }

  -- a database that was merged in the session's draft, and the record of which a commit is to be made

  pub found_kept : DatabasesStand → (root : Address) (database : PlainDatabase) → IsKeptAt address (chunks_of session.draft.chunks) root.0 database
      → IsKeptAt address (chunks_of work.chunks) root.0 database
  found_kept databases root database kept = kept_later address (chunks_of session.draft.chunks) (chunks_of work.chunks) more databases root.0 database kept

  pub can_commit_found : DatabasesStand → (root other : Address) (database : PlainDatabase) → IsKeptAt address (chunks_of session.draft.chunks) root.0 database → is_known t.commits other.0 ≡ true
      → CanCommit address work.chunks (joining_record session.own.head root other) session.own.head shared.commits (joining_state session.own.head other database)
  can_commit_found databases root other database kept known =
      let own = stands.own_stands in
      let now = found_kept databases root database kept in
      record {
        stands = record { head = refl; working = now; staged = now; merging = refl };
        all_there = all_there;
        present_known = known_now session.own.head.0 (ap (is_known t.commits) own.head ∙ own.head_known);
        merging_known = known_now other.0 known;
      }

  module _ (drafts : DraftsFollow) where
    of_store : (after : Drafting) → after.segments ≡ look.store.segments → joined after.segments ≡ store_of
    of_store after same = ap joined same

    -- ---- a fast-forward

    module _ (sound : IsSound address work.chunks) (other : Address) (known : is_known shared.commits other.0 ≡ true) (plan : DecisionPlan)
        (made : IsForwarded address work other (root_of shared.commits other.0) plan) where
      abbrev is_sealed : IsBrought work.segments work.chunks.own (brought plan)
      is_sealed = let planned = made.planned in planned.sealed

      found : chunks_of work.chunks ≡ chunk_bytes (store_of ++ brought plan)
      found = at_after address chunks drafts store_of d.look_is.named work w.base (of_store work w.segments) sound (brought plan) is_sealed
          ∙ same_sealed address chunks drafts store_of d.look_is.named work w.base (of_store work w.segments) sound (brought plan) is_sealed

      no_commit : HasNoCommit work.chunks.own
      no_commit = let own = d.session_stands in subst HasNoCommit (sym w.own) own.plain_own

      kept : IsKeptAt address (chunk_bytes (store_of ++ brought plan)) (let root = made.root in root.0) (root_of shared.commits other.0)
      kept = subst (λ (c : Chunks). IsKeptAt address c (let root = made.root in root.0) (root_of shared.commits other.0)) found made.kept

      pub forwards : IsPlannedAs address look shared.commits plan (forwarded shared.commits other.0)
      forwards =
          let planned = made.planned in
          record {
            rec = clean_record other made.root;
            is = planned.change;
            reply = planned.reply_is;
            stands = record {
              after = shared.commits;
              is = refl;
              stands = record { head = refl; working = kept; staged = kept; merging = refl; head_known = known; merging_known = refl };
              commits_after = subst (λ (c : Chunks). CommitsAreThere address c shared.commits)
                  (same_sealed address chunks drafts store_of d.look_is.named work w.base (of_store work w.segments) sound (brought plan) is_sealed)
                  (commits.beside address store_of work.chunks.own shared.commits no_commit d.look_is.commits);
              named = named_sealed address chunks drafts store_of d.look_is.named work w.base (of_store work w.segments) sound (brought plan) is_sealed;
            };
          }

    -- ---- a clean merge

    module _ (databases : DatabasesStand) (other : Address) (known : is_known t.commits other.0 ≡ true) (epoch : ℤ) (message : List ℕ) (database : PlainDatabase) where
      -- as it was written, and as the session has it
      abbrev written_as : PlainCommit
      written_as = commit_on shared.commits epoch session.name database (session.own.head.0 ∷ other.0 ∷ []) message

      abbrev commit : PlainCommit
      commit = commit_on shared.commits epoch p.name database (t.own.head ∷ other.0 ∷ []) message

      same_commit : written_as ≡ commit
      same_commit =
          let named = d.session_stands in
          let own = stands.own_stands in
          λ i. commit_on shared.commits epoch (named.name i) database (own.head i ∷ other.0 ∷ []) message

      own_known : is_known shared.commits t.own.head ≡ true
      own_known = let own = stands.own_stands in known_now t.own.head own.head_known

      module _ (plan : DecisionPlan) (made : IsMergeCommitted address work commit plan) where
        abbrev met : Drafting
        met = made.met

        abbrev joining : IsJoined address met commit made.root plan
        joining = made.joined

        abbrev now : Drafting
        now = joining.after

        abbrev k : List ℕ
        k = commit_address address commit

        no_commit_met : HasNoCommit met.chunks.own
        no_commit_met =
            let own = d.session_stands in
            let grown = made.grown in
            subst HasNoCommit (sym (grown.own ∙ ap (λ (cs : List Chunk). cs ++ grown.more) w.own))
            (decisions.no_commit_more chunks session.draft.chunks.own grown.more own.plain_own grown.kinds)

        longer : Longer met.chunks now.chunks
        longer =
            let written = joining.written in
            subst (Longer met.chunks) (sym written.chunks) (drafts.longer_put address (plain_commit_bytes address commit) met.chunks)

        now_base : now.chunks.base ≡ store_of
        now_base = let grown = made.grown in longer.base ∙ grown.base ∙ w.base

        now_of : joined now.segments ≡ store_of
        now_of = let grown = made.grown in of_store now (joining.segments ∙ grown.segments ∙ w.segments)

        abbrev at_now : Chunks
        at_now = chunk_bytes (store_of ++ now.chunks.own)

        is_at_now : chunks_of now.chunks ≡ at_now
        is_at_now = λ i. chunk_bytes (now_base i ++ now.chunks.own)

        root_kept : IsKeptAt address at_now (let root = made.root in root.0) database
        root_kept = subst (λ (c : Chunks). IsKeptAt address c (let root = made.root in root.0) database) is_at_now
            (kept_later address (chunks_of met.chunks) (chunks_of now.chunks) (drafts.longer_extends met.chunks now.chunks longer) databases (let root = made.root in root.0) database made.kept)

        is_held : IsThere address at_now (plain_commit_bytes address commit)
        is_held =
            let written = joining.written in
            let put = written.found in (
              subst (λ (j : List ℕ). at_now j ≡ Some (plain_commit_bytes address commit)) written.named
                  (subst (λ (have : Chunks). have joining.k.0 ≡ Some (plain_commit_bytes address commit)) is_at_now put.held),
              subst (λ (j : List ℕ). length j ≡ 20) written.named written.length_is,
            )

        is_there : IsCommitThere address at_now k commit
        is_there =
            let written = joining.written in
            let put = written.found in
            let root = root_kept.stands in
            record {
              is_commit = put.is_commit;
              named = refl;
              there = is_held;
              database = subst (λ (at : List ℕ). IsDatabaseAt address at_now at database) (sym root.named) root;
            }

        is_grown : IsGrown shared.commits commit
        is_grown = record { parents = λ i. own_known i && (known_now other.0 known i && true); height = refl }

        with_it : (left : Commits) × (with_new_commit address commit shared.commits ≡ Some left) × CommitsAreThere address at_now left
        with_it =
            commits.with_one address store_of now.chunks.own shared.commits commit d.look_is.commits is_there is_grown root_kept.within t.own.head
            (ap (λ (b : Bool). b || list_any (bytes_eq t.own.head) (other.0 ∷ [])) (bytes_same t.own.head t.own.head refl))
            (only_one address met.chunks now.chunks commit joining.k joining.written no_commit_met)

        abbrev sealed_so : IsBrought now.segments now.chunks.own (brought plan)
        sealed_so = let planned = joining.planned in planned.sealed

        same_now : at_now ≡ chunk_bytes (store_of ++ brought plan)
        same_now = same_sealed address chunks drafts store_of d.look_is.named now now_base now_of joining.sound (brought plan) sealed_so

        root_sealed : IsKeptAt address (chunk_bytes (store_of ++ brought plan)) (let root = made.root in root.0) database
        root_sealed = subst (λ (c : Chunks). IsKeptAt address c (let root = made.root in root.0) database) same_now root_kept

        pub joins : IsPlannedAs address look shared.commits plan (merged_as address commit)
        joins =
            let planned = joining.planned in
            let written = joining.written in
            let left = with_it in
            record {
              rec = clean_record joining.k made.root;
              is = planned.change;
              reply = planned.reply_is ∙ ap (λ (j : List ℕ). success j 0) written.named;
              stands = record {
                after = left.0;
                is = left.1;
                stands = record {
                  head = written.named;
                  working = root_sealed;
                  staged = root_sealed;
                  merging = refl;
                  head_known = let there = left.2 in there.no_others k (plain_commit_bytes address commit) is_held.0 refl;
                  merging_known = refl;
                };
                commits_after = subst (λ (c : Chunks). CommitsAreThere address c left.0) same_now left.2;
                named = named_sealed address chunks drafts store_of d.look_is.named now now_base now_of joining.sound (brought plan) sealed_so;
              };
            }

      pub joins_written : (plan : DecisionPlan) → IsMergeCommitted address work written_as plan → IsPlannedAs address look shared.commits plan (merged_as address commit)
      joins_written plan made = joins plan (subst (λ (c : PlainCommit). IsMergeCommitted address work c plan) same_commit made)

    -- ---- the plans

    pub plans_forward : (sound : IsSound address work.chunks) (other : Address) (known : is_known t.commits other.0 ≡ true) (moved : Bool) → moved ≡ not (is_same_state present t.start) → moved ≡ false
        → (result : Result DecisionPlan PutFault) → IfOk result (λ plan. IsForwarded address work other (root_of shared.commits other.0) plan)
        → IfOk result (λ plan. PlanIs address look shared.commits plan (unless_moved t present (forwarded shared.commits other.0)))
    plans_forward sound other known moved told is (Err fault) made = tt
    plans_forward sound other known moved told is (Ok plan) made =
        goes_on address look t shared present moved told (forwarded shared.commits other.0) plan is (forwards sound other (known_now other.0 known) plan made)

    pub plans_joined : (databases : DatabasesStand) (other : Address) (known : is_known t.commits other.0 ≡ true) (epoch : ℤ) (message wanted : List ℕ) (database : PlainDatabase)
        → message ≡ wanted → (moved : Bool) → moved ≡ not (is_same_state present t.start) → moved ≡ false → (result : Result DecisionPlan PutFault)
        → IfOk result (λ plan. IsMergeCommitted address work (commit_on shared.commits epoch session.name database (session.own.head.0 ∷ other.0 ∷ []) message) plan)
        → IfOk result (λ plan. PlanIs address look shared.commits plan (closed address epoch shared.commits p t present (Joining database other.0 wanted)))
    plans_joined databases other known epoch message wanted database says moved told is (Err fault) made = tt
    plans_joined databases other known epoch message wanted database says moved told is (Ok plan) made =
        subst (λ (m : List ℕ). PlanIs address look shared.commits plan (closed address epoch shared.commits p t present (Joining database other.0 m))) says
        (goes_on address look t shared present moved told (merged_as address (commit_on shared.commits epoch p.name database (t.own.head ∷ other.0 ∷ []) message)) plan is
        (joins_written databases other known epoch message database plan made))

-- ---- what was written

pub joined_told : (address : List ℕ → List ℕ) (work after : Drafting) (wanted : PlainCommit) (root : Address) (at : BranchRecord) (k : Address) (reply : Reply) (result : Result DecisionPlan PutFault)
    → IsCommitWritten address work.chunks after.chunks wanted k → after.segments ≡ work.segments → IsSound address after.chunks → at ≡ clean_record k root → reply ≡ success k.0 0
    → IfOk result (λ plan. IsPlannedOf after at reply plan) → IfOk result (λ plan. IsJoined address work wanted root plan)
joined_told address work after wanted root at k reply (Err fault) written segments sound at_is told is = tt
joined_told address work after wanted root at k reply (Ok plan) written segments sound at_is told is = record {
  k = k;
  after = after;
  written = written;
  segments = segments;
  sound = sound;
  planned = subst (λ (r : BranchRecord). IsPlannedOf after r (success k.0 0) plan) at_is (subst (λ (said : Reply). IsPlannedOf after at said plan) told is);
}

-- a commit of the merged database can be written
module _ (address : List ℕ → List ℕ) (work met : Drafting) (grown : Grows is_data work met) (head root : Address) (three : Three) (commits : Commits) (b o t : PlainDatabase)
    (can : CanMergeRoots address work.chunks head three commits b o t) (database : PlainDatabase) (kept : IsKeptAt address (chunks_of met.chunks) root.0 database) where
  pub can_commit : CanCommit address met.chunks (joining_record head root three.other) head commits (joining_state head three.other database)
  can_commit = record {
    stands = record { head = refl; working = kept; staged = kept; merging = refl };
    all_there = subst (λ (base : List Chunk). CommitsAreThere address (chunk_bytes base) commits) (sym grown.base) can.all_there;
    present_known = can.head_known;
    merging_known = can.other_known;
  }

-- ---- by the answers

-- what was met is clean
pub is_met_clean : (address : List ℕ → List ℕ) (found : Chunks) (root : Address) (wanted : Outcome MergedDatabase) → IsMet address found (meeting.Clean root) wanted
    → (merged : MergedDatabase) → wanted ≡ Ok merged → IsKeptAt address found root.0 merged.database
is_met_clean address found root wanted is merged wanted_is =
    subst (λ (m : MergedDatabase). IsKeptAt address found root.0 m.database) (ok_same is.0 merged (sym is.1 ∙ wanted_is)) is.3

pub merged_told : (address : List ℕ → List ℕ) (work after : Drafting) (grown : Grows is_data work after) (root : Address) (wanted : PlainCommit) (result : Result DecisionPlan PutFault)
    → IsKeptAt address (chunks_of after.chunks) root.0 wanted.database → IfOk result (λ plan. IsJoined address after wanted root plan) → IfOk result (λ plan. IsMergeCommitted address work wanted plan)
merged_told address work after grown root wanted (Err fault) at_root joined = tt
merged_told address work after grown root wanted (Ok plan) at_root joined = record { met = after; grown = grown; root = root; kept = at_root; joined = joined }
