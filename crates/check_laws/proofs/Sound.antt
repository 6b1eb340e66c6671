-- What each state of a run keeps: its databases, the meaning of CHECKs, known heads, small commits, and one first commit.
use Rattle.std.proofs.Common.{◌≡◌, ◌≤◌, ◌<◌, sym, ap, ◌∙◌, subst, ℕ, ℤ, suc, true, cond, not, List, [], ◌∷◌, length, map, nat_le, Option, None, Some, arith}
use Rattle.std.specs.List.{find}
use Rattle.std.specs.Option.{option_map}
use Rattle.std.proofs.lemmas.Bool.{le-leb, leb-true}
use Rattle.schema_model.specs.Limits.{most_branches, most_parents}
use Rattle.schema_model.specs.PlainCommits.{Commits, PlainCommit, commit_address, is_known}
use Rattle.plain_sessions.specs.Moments.{Change, changed_by, commits_with, with_change}
use Rattle.plain_sessions.specs.Records.{Branch, BranchState, Shared, branch_cmp, is_branch, state_of, with_branch, without_branch}
use Rattle.plain_sessions.specs.Sessions.{Session, Transaction, started_at}
use Rattle.plain_sessions.specs.StateLimits.{IsFirst, is_committer}
use Rattle.plain_writes.proofs.RowOrderLemmas.{in_order_length, two}
use Rattle.keep_laws.specs.StateLaws.{IsKeptChange, IsKeptCommitPerhaps, IsKeptShared, IsKeptTransaction, SharedKeep}
use Rattle.keep_laws.proofs.ListLemmas.{filter_few}
use Rattle.keep_laws.proofs.TestLemmas.{some_ok}
use Rattle.check_laws.specs.Meant.{IsMeantChange, IsMeantShared, IsMeantTransaction}
use Rattle.check_laws.proofs.Grown.{AreAmong, EachIs, HasParent, known_among, made_each, made_more}
use Rattle.check_laws.proofs.Heads.{AreKnown, IsShort}
use Rattle.check_laws.proofs.Sharing.{EachState, found_state, mapped_some, put_state, shared_keeps}

-- ---- the shared state

-- beside its database
pub record IsSmall (epoch : ℤ) (commit : PlainCommit) : Type 0 where
  pub parents : nat_le (length commit.parents) most_parents ≡ true
  pub date : commit.date ≡ epoch
  pub committer : is_committer commit.committer ≡ true
  pub message : IsShort commit.message

abbrev pub HasHead : Commits → BranchState → Type 0
HasHead commits state = is_known commits state.head ≡ true

pub record IsSoundShared (epoch : ℤ) (shared : Shared) : Type 0 where
  pub kept : IsKeptShared shared
  pub meant : IsMeantShared shared
  pub few : nat_le (length shared.branches) most_branches ≡ true
  pub heads : EachState (HasHead shared.commits) shared.branches
  pub small : EachIs (IsSmall epoch) shared.commits
  pub first : (first : List ℕ) × IsFirst shared.commits first

-- ---- sessions

pub record IsSoundTransaction (commits : Commits) (t : Transaction) : Type 0 where
  pub kept : IsKeptTransaction t
  pub meant : IsMeantTransaction t
  pub among : AreAmong t.commits commits
  pub heads : AreKnown t.commits t.heads
  pub own : HasHead t.commits t.own

abbrev pub IsSoundIfOpen : Commits → Option Transaction → Type 0
IsSoundIfOpen commits None = Unit {0}
IsSoundIfOpen commits (Some t) = IsSoundTransaction commits t

pub record IsSoundSession (commits : Commits) (session : Session) : Type 0 where
  pub name : is_committer session.name ≡ true
  pub branch : length session.branch ≤ 64
  pub transaction : IsSoundIfOpen commits session.transaction

-- commits more make no difference to it
pub open_grown : (commits after : Commits) (o : Option Transaction) → AreAmong commits after → IsSoundIfOpen commits o → IsSoundIfOpen after o
open_grown commits after None among sound = tt
open_grown commits after (Some t) among sound =
    record { kept = sound.kept; meant = sound.meant; among = λ k commit at. among k commit (sound.among k commit at); heads = sound.heads; own = sound.own }

pub session_grown : (commits after : Commits) (session : Session) → AreAmong commits after → IsSoundSession commits session → IsSoundSession after session
session_grown commits after session among sound = record { name = sound.name; branch = sound.branch; transaction = open_grown commits after session.transaction among sound.transaction }

pub heads_grown : (commits after : Commits) (branches : List Branch) → AreAmong commits after → EachState (HasHead commits) branches → EachState (HasHead after) branches
heads_grown commits after [] among known = tt
heads_grown commits after (branch ∷ branches) among known = (known_among commits after among branch.state.head known.0, heads_grown commits after branches among known.1)

-- ---- a start

pub seen_known : (commits : Commits) (branches : List Branch) → EachState (HasHead commits) branches → AreKnown commits (map (λ (branch : Branch). record { name = branch.name; commit = branch.state.head }) branches)
seen_known commits [] known = tt
seen_known commits (branch ∷ branches) known = (known.0, seen_known commits branches known.1)

module _ (keep : SharedKeep) (epoch : ℤ) (shared : Shared) (sound : IsSoundShared epoch shared) where
  pub start_sound : (name : List ℕ) (state : BranchState) → state_of shared.branches name ≡ Some state → IsSoundTransaction shared.commits (started_at shared state)
  start_sound name state e = record {
    kept = keep.starts shared name state sound.kept e;
    meant = shared_keeps.starts shared name state sound.meant e;
    among = λ k commit at. at;
    heads = seen_known shared.commits shared.branches sound.heads;
    own = found_state (HasHead shared.commits) shared.branches name state sound.heads e;
  }

-- ---- no branch more

fewer : (branches : List Branch) (name : List ℕ) (state : BranchState) → state_of branches name ≡ Some state → length (without_branch name branches) < length branches
fewer [] name state e = absurd (cc)
fewer (one ∷ branches) name state e =
    let few = filter_few (λ (branch : Branch). not (is_branch name branch)) branches in
    two (is_branch name one)
    (λ t. let gone : length (without_branch name (one ∷ branches)) ≡ length (without_branch name branches) = ap (λ b. length (cond (not b) (one ∷ without_branch name branches) (without_branch name branches))) t in
    omega (arith, few, gone))
    (λ t.
    let rest = fewer branches name state (sym (ap (λ c. option_map (λ (branch : Branch). branch.state) (cond c (Some one) (find (is_branch name) branches))) t) ∙ e) in
    let stays : length (without_branch name (one ∷ branches)) ≡ suc (length (without_branch name branches)) = ap (λ b. length (cond (not b) (one ∷ without_branch name branches) (without_branch name branches))) t in
    omega (arith, rest, stays))

pub put_length : (name : List ℕ) (state : BranchState) (branches : List Branch) → length (with_branch name state branches) ≡ suc (length (without_branch name branches))
put_length name state branches = in_order_length branch_cmp (record { name = name; state = state } ∷ without_branch name branches)

put_few : (name : List ℕ) (state present : BranchState) (branches : List Branch) → state_of branches name ≡ Some present → nat_le (length branches) most_branches ≡ true
    → nat_le (length (with_branch name state branches)) most_branches ≡ true
put_few name state present branches e few =
    let is = put_length name state branches in
    let less = fewer branches name present e in
    let all = leb-true (length branches) most_branches few in
    let now : length (with_branch name state branches) ≤ most_branches = omega (arith, is, less, all) in
    le-leb (length (with_branch name state branches)) most_branches now

-- ---- a change

-- a commit that is made, and the head that it becomes
pub record IsLedCommit (address : List ℕ → List ℕ) (commits : Commits) (commit : PlainCommit) (head : List ℕ) : Type 0 where
  pub is : head ≡ commit_address address commit
  pub grown : HasParent commits commit
  pub committer : is_committer commit.committer ≡ true
  pub message : IsShort commit.message

abbrev pub IsLedChange : (List ℕ → List ℕ) → Commits → Option PlainCommit → List ℕ → Type 0
IsLedChange address commits None head = is_known commits head ≡ true
IsLedChange address commits (Some commit) head = IsLedCommit address commits commit head

pub record IsSoundChange (address : List ℕ → List ℕ) (epoch : ℤ) (commits : Commits) (change : Change) : Type 0 where
  pub kept : IsKeptChange commits epoch change
  pub meant : IsMeantChange change
  pub led : IsLedChange address commits change.made change.becomes.head

pub record IsSoundAfter (epoch : ℤ) (before after : Commits) (head : List ℕ) : Type 0 where
  pub among : AreAmong before after
  pub there : is_known after head ≡ true
  pub small : EachIs (IsSmall epoch) after
  pub first : (first : List ℕ) × IsFirst after first

commits_sound : (address : List ℕ → List ℕ) (epoch : ℤ) (commits after : Commits) (made : Option PlainCommit) (head : List ℕ) → IsKeptCommitPerhaps commits epoch made → IsLedChange address commits made head
    → EachIs (IsSmall epoch) commits → ((first : List ℕ) × IsFirst commits first) → commits_with address made commits ≡ Some after → IsSoundAfter epoch commits after head
commits_sound address epoch commits after None head kept led small first e =
    some_ok (λ (after : Commits). IsSoundAfter epoch commits after head) commits after (record { among = λ k commit at. at; there = led; small = small; first = first }) e
commits_sound address epoch commits after (Some commit) head kept led small first e =
    let more = made_more address commit commits after led.grown e in
    record {
      among = more.among;
      there = ap (is_known after) led.is ∙ more.there;
      small = made_each (IsSmall epoch) address (Some commit) commits after (record { parents = kept.parents; date = kept.date; committer = led.committer; message = led.message }) small e;
      first = (first.0, more.first first.0 first.1);
    }

pub record IsSoundMove (epoch : ℤ) (before after : Shared) : Type 0 where
  pub shared : IsSoundShared epoch after
  pub among : AreAmong before.commits after.commits

module _ (keep : SharedKeep) (address : List ℕ → List ℕ) (epoch : ℤ) where
  pub change_sound : (shared left : Shared) (session : Session) (change : Change) (present : BranchState) → IsSoundShared epoch shared → IsSoundChange address epoch shared.commits change
      → state_of shared.branches session.branch ≡ Some present → changed_by address shared session change ≡ Some left → IsSoundMove epoch shared left
  change_sound shared left session change present sound c found e =
      let kept = keep.changes address epoch shared left session change sound.kept c.kept e in
      let meant = shared_keeps.changes address shared left session change sound.meant c.meant e in
      let made = mapped_some session.branch change shared (commits_with address change.made shared.commits) left e in
      let after = commits_sound address epoch shared.commits made.0 change.made change.becomes.head c.kept.made c.led sound.small sound.first made.1 in
      let is : with_change session.branch change shared made.0 ≡ left = same_left (with_change session.branch change shared made.0) left made.2 in
      subst (λ (left : Shared). IsKeptShared left → IsMeantShared left → IsSoundMove epoch shared left) is (λ k m. record {
        shared = record {
          kept = k;
          meant = m;
          few = put_few session.branch change.becomes present shared.branches found sound.few;
          heads = put_state (HasHead made.0) session.branch change.becomes shared.branches after.there (heads_grown shared.commits made.0 shared.branches after.among sound.heads);
          small = after.small;
          first = after.first;
        };
        among = after.among;
      }) kept meant
    where
      same_left : (a b : Shared) → ◌≡◌ {A = Option Shared} (Some a) (Some b) → a ≡ b
      same_left a b e = cc
