-- A decision is the same where more commits are known, as it looks up no others than those that its change names.
use Rattle.std.proofs.Common.{◌≡◌, refl, ◌∙◌, sym, ap, subst, ℕ, ℤ, suc, ◌<◌, Bool, true, false, cond, not, List, [], ◌∷◌, map, Option, Some, None, Ok, Err, is_some, arith, bytes_eq, find, option_map}
use Rattle.std.specs.List.{list_all}
use Rattle.std.specs.Option.{option_to_list}
use Rattle.std.specs.Cmp.Lexicographic.{bytes_decides, pointwise, pointwise_decides}
use Rattle.std.proofs.lemmas.Option.{cond_some, same_Some}
use Rattle.tuple_codec.proofs.Options.{some_there as what_is_known}
use Rattle.tuple_codec.proofs.Arithmetic.{at_least as no_less}
use Rattle.schema_model.specs.PlainCommits.{AreGrown, Commits, IsGrown, PlainCommit, commit_address, greatest, height_in, height_of, is_known, with_commit}
use Rattle.schema_model.specs.PlainTables.{PlainDatabase}
use Rattle.tuple_codec.specs.declared.records.BranchRecord.{BranchRecord}
use Rattle.script_text.specs.declared.outputs.BranchLine.{BranchLine}
use Rattle.chunk_store.specs.Chunks.{Chunk, Extends, Lists, chunk_bytes}
use Rattle.chunk_store.specs.Laws.{ChunksFollow}
use Rattle.chunk_store.specs.Stores.{all_chunks}
use Rattle.expr_eval.specs.Binding.{Outcome, and_then}
use Rattle.plain_sql.specs.Lists.{unless}
use Rattle.plain_writes.proofs.InsertionLemmas.{left_so, right_so, both_so}
use Rattle.plain_sessions.specs.CommitRule.{decide}
use Rattle.plain_sessions.specs.Merging.{Ending, Committing, Forwarding, Joining}
use Rattle.plain_sessions.specs.Moments.{Change, closed, commit_of, commits_with, committed_as, forwarded, merged_as}
use Rattle.plain_sessions.specs.Records.{Branch, BranchState, Shared, added_at, commit_on, is_branch, is_same_commit, is_same_state, state_of}
use Rattle.plain_sessions.specs.Sessions as plain
use Rattle.plain_sessions.specs.Sessions.{Transaction}
use Rattle.session_state.specs.Changes.{BranchStands, Paired, Parts, StateStands}
use Rattle.session_state.specs.Commits.{AreAmong}
use Rattle.session_state.specs.Laws.{CommitsFollow, RecordsFollow, StatesFollow}
use Rattle.session_state.specs.Records.{RecordStands}
use Rattle.table_root.specs.declared.heads.Look.{Look}
use Rattle.session_state.specs.Standing.{SessionStands}
use Rattle.session_state.specs.declared.sessions.Session.{Session}
use Rattle.session_plan.specs.Answering.{Decides}
use Rattle.shared_db.specs.Plans.{PlanIs}
use Rattle.shared_db.specs.Shared.{IsSettled, is_line_of, record_at}
use Rattle.shared_db.specs.declared.changes.DecisionPlan.{DecisionPlan}
use Rattle.shared_db.specs.declared.changes.RecordChange as db
use Rattle.serving.specs.Steps.{number_at}
use Rattle.serving.proofs.AnswerLemmas.{same_number}

-- ---- what a change names

-- a commit's parents; or the head, where no commit is made
abbrev pub MadeKnown : Commits → List ℕ → Option PlainCommit → Type 0
MadeKnown some head None = is_known some head ≡ true
MadeKnown some head (Some commit) = list_all (is_known some) commit.parents ≡ true

abbrev pub NamesKnown : Commits → Outcome Change → Type 0
NamesKnown some (Ok change) = MadeKnown some change.becomes.head change.made
NamesKnown some (Err number) = Unit {0}

-- ---- the law

module _ (some others : Commits) (among : AreAmong some others) where
  kept_at : (k : List ℕ) → is_known some k ≡ true → others k ≡ some k
  kept_at k known = let commit = what_is_known (some k) known in among k commit.0 commit.1 ∙ sym commit.1

  heights_kept : (ks : List (List ℕ)) → list_all (is_known some) ks ≡ true → map (height_of others) ks ≡ map (height_of some) ks
  heights_kept [] all = refl
  heights_kept (k ∷ ks) all =
      λ i. height_in (kept_at k (left_so (is_known some k) (list_all (is_known some) ks) all) i) ∷ heights_kept ks (right_so (is_known some k) (list_all (is_known some) ks) all) i

  commit_kept : (epoch : ℤ) (name : List ℕ) (database : PlainDatabase) (parents : List (List ℕ)) (message : List ℕ) → list_all (is_known some) parents ≡ true
      → commit_on others epoch name database parents message ≡ commit_on some epoch name database parents message
  commit_kept epoch name database parents message all =
      ap (λ (heights : List ℕ). record { database = database; parents = parents; height = suc (greatest heights); date = epoch; committer = name; message = message })
      (heights_kept parents all)

  module _ (address : List ℕ → List ℕ) (epoch : ℤ) (p : plain.Session) (t : Transaction) (present : BranchState) where
    committing_kept : (message : List ℕ) (verdict : Outcome BranchState)
        → NamesKnown some (and_then verdict (λ state. Ok (committed_as address (commit_of epoch some p present message state) state)))
        → and_then verdict (λ state. Ok (committed_as address (commit_of epoch others p present message state) state))
        ≡ and_then verdict (λ state. Ok (committed_as address (commit_of epoch some p present message state) state))
    committing_kept message (Ok state) known =
        ap (λ (commit : PlainCommit). Ok (committed_as address commit state))
        (commit_kept epoch p.name state.staged (present.head ∷ option_to_list state.merging) message known)
    committing_kept message (Err number) known = refl

    forwarding_kept : (other : List ℕ) (moved : Bool) → NamesKnown some (unless moved 1213 (Ok (forwarded some other)))
        → unless {A = Change} moved 1213 (Ok (forwarded others other)) ≡ unless moved 1213 (Ok (forwarded some other))
    forwarding_kept other true known = refl
    forwarding_kept other false known = ap (λ (o : Option PlainCommit). Ok (forwarded (λ k. o) other)) (kept_at other known)

    joining_kept : (database : PlainDatabase) (other message : List ℕ) (moved : Bool)
        → NamesKnown some (unless moved 1213 (Ok (merged_as address (commit_on some epoch p.name database (t.own.head ∷ other ∷ []) message))))
        → unless {A = Change} moved 1213 (Ok (merged_as address (commit_on others epoch p.name database (t.own.head ∷ other ∷ []) message)))
        ≡ unless moved 1213 (Ok (merged_as address (commit_on some epoch p.name database (t.own.head ∷ other ∷ []) message)))
    joining_kept database other message true known = refl
    joining_kept database other message false known =
        ap (λ (commit : PlainCommit). Ok (merged_as address commit)) (commit_kept epoch p.name database (t.own.head ∷ other ∷ []) message known)

    -- a closing call's decision, over some commits and over more
    pub closed_kept : (ending : Ending) → NamesKnown some (closed address epoch some p t present ending)
        → closed address epoch others p t present ending ≡ closed address epoch some p t present ending
    closed_kept (Committing own message) known = committing_kept message (decide t.start present own p.variables) known
    closed_kept (Forwarding other) known = forwarding_kept other (not (is_same_state present t.start)) known
    closed_kept (Joining database other message) known = joining_kept database other message (not (is_same_state present t.start)) known

-- ---- what a plan's change names is known before it

-- a commit that is among those known is known beforehand where it is lower than the one that came
module _ (base : Commits) (k : List ℕ) (commit : PlainCommit) where
  abbrev joined : Commits
  joined = with_commit k commit base

  known_by : (j : List ℕ) (same : Bool) → bytes_eq j k ≡ same → is_some (cond same (Some commit) (base j)) ≡ true → height_in (cond same (Some commit) (base j)) < commit.height
      → is_known base j ≡ true
  known_by j true e known lower = absurd (omega (arith, lower))
  known_by j false e known lower = known

  parents_by : (js : List (List ℕ)) → list_all (is_known joined) js ≡ true → greatest (map (height_of joined) js) < commit.height → list_all (is_known base) js ≡ true
  parents_by [] all lower = refl
  parents_by (j ∷ js) all lower =
      let parts = no_less _ (height_of joined j) (greatest (map (height_of joined) js)) refl in
      both_so (known_by j (bytes_eq j k) refl (left_so (is_known joined j) (list_all (is_known joined) js) all) (omega (arith, parts.0, lower)))
      (parents_by js (right_so (is_known joined j) (list_all (is_known joined) js) all) (omega (arith, parts.1, lower)))

  with_itself : joined k ≡ Some commit
  with_itself = ap (λ b. cond b (Some commit) (base k)) ((bytes_decides k k).1 refl)

same_parents : (a b : PlainCommit) → is_same_commit a b ≡ true → a.parents ≡ b.parents
same_parents a b same =
    (pointwise_decides bytes_decides a.parents b.parents).0
    (right_so _ (pointwise bytes_eq a.parents b.parents) (left_so _ _ (left_so _ _ (left_so _ _ (left_so _ _ same)))))

module _ (address : List ℕ → List ℕ) (base over : Commits) (base_grown : AreGrown base) (over_grown : AreGrown over) where
  added_known : (k : List ℕ) (commit : PlainCommit) (o : Option PlainCommit) → base k ≡ o → added_at k commit o base ≡ Some over → list_all (is_known base) commit.parents ≡ true
  added_known k commit None at is =
      let made : with_commit k commit base ≡ over = same_Some (with_commit k commit base) over is in
      let grown : IsGrown (with_commit k commit base) commit =
      subst (λ (c : Commits). IsGrown c commit) (sym made) (over_grown k commit (ap (λ (c : Commits). c k) (sym made) ∙ with_itself base k commit)) in
      parents_by base k commit commit.parents grown.parents (omega (arith, grown.height))
  added_known k commit (Some other) at is =
      let parts = cond_some (is_same_commit commit other) base over is in
      ap (λ (ks : List (List ℕ)). list_all (is_known base) ks) (same_parents commit other parts.0) ∙ (base_grown k other at).parents

  made_known : (head : List ℕ) (made : Option PlainCommit) → commits_with address made base ≡ Some over → is_known over head ≡ true → MadeKnown base head made
  made_known head None is known = subst (λ (c : Commits). is_known c head ≡ true) (sym (same_Some base over is)) known
  made_known head (Some commit) is known = added_known (commit_address address commit) commit (base (commit_address address commit)) refl is

pub planned_known : (address : List ℕ → List ℕ) (look : Look) (commits : Commits) (plan : DecisionPlan) → AreGrown commits → (outcome : Outcome Change) → PlanIs address look commits plan outcome
    → NamesKnown commits outcome
planned_known address look commits plan grown (Ok change) planned =
    let stands = planned.stands in
    made_known address commits stands.after grown stands.commits_after.stand.grown change.becomes.head change.made stands.is stands.stands.head_known
planned_known address look commits plan grown (Err number) planned = tt

-- so a closing call's decision is what was planned, where all commits that were known at the look are known
pub still_closed : (address : List ℕ → List ℕ) (epoch : ℤ) (some others : Commits) → AreAmong some others → (p : plain.Session) (t : Transaction) (present : BranchState) (ending : Ending)
    (look : Look) (plan : DecisionPlan) → AreGrown some → (outcome : Outcome Change) → closed address epoch some p t present ending ≡ outcome
    → PlanIs address look some plan outcome → closed address epoch others p t present ending ≡ outcome
still_closed address epoch some others among p t present ending look plan grown outcome is planned =
    closed_kept some others among address epoch p t present ending (subst (NamesKnown some) (sym is) (planned_known address look some plan grown outcome planned)) ∙ is

-- ---- a state that has grown since it was looked at

pub record SettlingFollows : Type 0 where
  pub chunks : ChunksFollow
  pub records : RecordsFollow
  pub commits : CommitsFollow
  pub states : StatesFollow

-- the branch of a record that is found
state_found : (address : List ℕ → List ℕ) (chunks : List Chunk) (commits : Commits) (name : List ℕ) (rec : BranchRecord) (lines : List BranchLine) (branches : List Branch)
    → Paired (BranchStands address chunks commits) lines branches → record_at name lines ≡ Some rec
    → (state : BranchState) × (state_of branches name ≡ Some state) × RecordStands address (chunk_bytes chunks) commits rec state
state_found address chunks commits name rec [] branches stand found = absurd (cc)
state_found address chunks commits name rec (x ∷ lines) [] stand found = absurd stand
state_found address chunks commits name rec (x ∷ lines) (b ∷ branches) stand found =
    let rest : record_at name lines ≡ Some rec → (state : BranchState) × (state_of branches name ≡ Some state) × RecordStands address (chunk_bytes chunks) commits rec state =
    state_found address chunks commits name rec lines branches stand.1 in
    subst (λ n. (state : BranchState) × (option_map (λ (c : Branch). c.state) (cond (bytes_eq n name) (Some b) (find (is_branch name) branches)) ≡ Some state)
    × RecordStands address (chunk_bytes chunks) commits rec state) stand.0.name
    (by (bytes_eq x.name name) found rest)
  where
    by : (test : Bool) → option_map (λ (line : BranchLine). line.rec) (cond test (Some x) (find (is_line_of name) lines)) ≡ Some rec
        → (record_at name lines ≡ Some rec → (state : BranchState) × (state_of branches name ≡ Some state) × RecordStands address (chunk_bytes chunks) commits rec state)
        → (state : BranchState) × (option_map (λ (c : Branch). c.state) (cond test (Some b) (find (is_branch name) branches)) ≡ Some state)
        × RecordStands address (chunk_bytes chunks) commits rec state
    by true here rest = (b.state, refl, subst (λ (r : BranchRecord). RecordStands address (chunk_bytes chunks) commits r b.state) (same_Some x.rec rec here) stand.0.stands)
    by false here rest = rest here

module _ {D : Type 0} (laws : SettlingFollows) (address : List ℕ → List ℕ) (session : Session D) (look : Look) (p : plain.Session) (t : Transaction) (seen : Shared) (present : BranchState)
    (decides : Decides address session look p t seen present) (parts : Parts) (shared : Shared) (stands : StateStands address parts shared) (grown : Lists (all_chunks look.store) parts.chunks) where
  in_parts : Extends (chunk_bytes (all_chunks look.store)) (chunk_bytes parts.chunks)
  in_parts = laws.chunks.lists_extends (all_chunks look.store) parts.chunks stands.single grown

  -- all commits that were known at the look are known
  pub commits_among : AreAmong seen.commits shared.commits
  commits_among = laws.commits.among address (chunk_bytes (all_chunks look.store)) (chunk_bytes parts.chunks) seen.commits shared.commits in_parts decides.look_is.commits stands.commits

  -- where the branch has the look's record, it is as it was
  pub present_again : record_at look.branch parts.branches ≡ Some look.rec → state_of shared.branches p.branch ≡ Some present
  present_again there =
      let at = state_found address parts.chunks shared.commits look.branch look.rec parts.branches shared.branches stands.branches there in
      let first = decides.look_is in
      let later = laws.records.later address (chunk_bytes (all_chunks look.store)) (chunk_bytes parts.chunks) seen.commits seen.commits look.rec first.state in_parts (λ k known. known) first.stands in
      let one : at.0 ≡ first.state = laws.records.one address (chunk_bytes parts.chunks) shared.commits seen.commits look.rec at.0 first.state at.2 later in
      let same : first.state ≡ present = same_Some _ _ (sym first.there ∙ ap (state_of seen.branches) decides.branch ∙ decides.present_is) in
      ap (state_of shared.branches) (sym decides.branch) ∙ at.1 ∙ ap Some (one ∙ same)

-- the moment of the session's own statement
pub settled_own : {D : Type 0} (address : List ℕ → List ℕ) (session : Session D) (p : plain.Session) → SessionStands address session p → (number : ℕ) → number ≡ number_at session.position
    → (name : List ℕ) (change : db.RecordChange) (sealed : Option (List Chunk)) (old new : Parts) → IsSettled session.number number name change sealed old new
    → IsSettled p.number p.statement name change sealed old new
settled_own address session p stands number is name change sealed old new settled =
    let count : number ≡ p.statement = is ∙ same_number session.position p.statement p.place stands.position in
    subst (λ (n : ℕ). IsSettled p.number n name change sealed old new) count (subst (λ (n : ℕ). IsSettled n number name change sealed old new) stands.number settled)
