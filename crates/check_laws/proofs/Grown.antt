-- Commits with one more: those that were there stay, and one stays an ancestor of all.
use Rattle.std.proofs.Common.{◌≡◌, refl, sym, ap, ◌∙◌, ℕ, zero, suc, true, true≢false, cond, List, is_some, Option, None, Some, bytes_eq}
use Rattle.std.specs.Cmp.Lexicographic.{bytes_decides}
use Rattle.schema_model.specs.PlainCommits.{Commits, IsAncestorBy, PlainCommit, commit_address, has_address, is_known, parents_in, parents_of, with_commit}
use Rattle.plain_sessions.specs.Moments.{commits_with}
use Rattle.plain_sessions.specs.Records.{added_at, is_same_commit}
use Rattle.plain_sessions.specs.StateLimits.{IsFirst}
use Rattle.plain_writes.proofs.RowOrderLemmas.{two}
use Rattle.keep_laws.proofs.TestLemmas.{some_ok}
use Rattle.check_laws.specs.Meant.{IfMade}

-- all commits of the one look-up are in the other
abbrev pub AreAmong : Commits → Commits → Type 0
AreAmong some others = (k : List ℕ) (commit : PlainCommit) → some k ≡ Some commit → others k ≡ Some commit

-- what is known of each commit
abbrev pub EachIs : (PlainCommit → Type 0) → Commits → Type 0
EachIs P commits = (k : List ℕ) (commit : PlainCommit) → commits k ≡ Some commit → P commit

-- ---- what is known of each

pub with_each : (commits : Commits) (k : List ℕ) (commit : PlainCommit) (P : PlainCommit → Type 0) → P commit → EachIs P commits → EachIs P (with_commit k commit commits)
with_each commits k commit P p are at one e = two (bytes_eq at k)
    (λ t. some_ok P commit one p (sym (ap (λ b. cond b (Some commit) (commits at)) t) ∙ e))
    (λ t. are at one (sym (ap (λ b. cond b (Some commit) (commits at)) t) ∙ e))

added_each : (P : PlainCommit → Type 0) (k : List ℕ) (commit : PlainCommit) (there : Option PlainCommit) (commits after : Commits) → P commit → EachIs P commits → added_at k commit there commits ≡ Some after
    → EachIs P after
added_each P k commit None commits after p are e = some_ok (EachIs P) (with_commit k commit commits) after (with_each commits k commit P p are) e
added_each P k commit (Some other) commits after p are e = two (is_same_commit commit other)
    (λ t. some_ok (EachIs P) commits after are (sym (ap (λ b. cond b (Some commits) None) t) ∙ e))
    (λ t. let none : ◌≡◌ {A = Option Commits} None (Some after) = sym (ap (λ b. cond b (Some commits) None) t) ∙ e in absurd (cc))

pub made_each : (P : PlainCommit → Type 0) (address : List ℕ → List ℕ) (made : Option PlainCommit) (commits after : Commits) → IfMade P made → EachIs P commits → commits_with address made commits ≡ Some after
    → EachIs P after
made_each P address None commits after p are e = some_ok (EachIs P) commits after are e
made_each P address (Some commit) commits after p are e = let k = commit_address address commit in added_each P k commit (commits k) commits after p are e

-- ---- ancestors

pub known_among : (commits others : Commits) → AreAmong commits others → (k : List ℕ) → is_known commits k ≡ true → is_known others k ≡ true
known_among commits others among k known = by (commits k) refl known
  where
    by : (o : Option PlainCommit) → commits k ≡ o → is_some o ≡ true → is_known others k ≡ true
    by None e h = absurd (true≢false (sym h))
    by (Some commit) e h = ap is_some (among k commit e)

parents_more : (commits others : Commits) → AreAmong commits others → (k parent : List ℕ) → has_address (parents_of commits k) parent ≡ true → has_address (parents_of others k) parent ≡ true
parents_more commits others among k parent has = by (commits k) refl has
  where
    by : (o : Option PlainCommit) → commits k ≡ o → has_address (parents_in o) parent ≡ true → has_address (parents_of others k) parent ≡ true
    by None e h = absurd (true≢false (sym h))
    by (Some commit) e h = ap (λ (o : Option PlainCommit). has_address (parents_in o) parent) (among k commit e) ∙ h

ancestor_more : (commits others : Commits) → AreAmong commits others → (steps : ℕ) (k last : List ℕ) → IsAncestorBy commits steps k last → IsAncestorBy others steps k last
ancestor_more commits others among zero k last (there, is) = (known_among commits others among k there, is)
ancestor_more commits others among (suc steps) k last (parent, has, rest) = (parent, parents_more commits others among k parent has, ancestor_more commits others among steps parent last rest)

-- ---- one more

-- one of its parents is there
pub record HasParent (commits : Commits) (commit : PlainCommit) : Type 0 where
  pub parent : List ℕ
  pub is : has_address commit.parents parent ≡ true
  pub there : is_known commits parent ≡ true

pub record HasOneMore (commits after : Commits) (k : List ℕ) (commit : PlainCommit) : Type 0 where
  pub among : AreAmong commits after
  pub there : is_known after k ≡ true
  pub first : (first : List ℕ) → IsFirst commits first → IsFirst after first

itself : (commits : Commits) (k : List ℕ) (commit : PlainCommit) → with_commit k commit commits k ≡ Some commit
itself commits k commit = ap (λ b. cond b (Some commit) (commits k)) ((bytes_decides k k).1 refl)

with_among : (commits : Commits) (k : List ℕ) (commit : PlainCommit) → commits k ≡ None → AreAmong commits (with_commit k commit commits)
with_among commits k commit none j c at = two (bytes_eq j k)
    (λ t. let nothing : ◌≡◌ {A = Option PlainCommit} None (Some c) = sym none ∙ ap commits (sym ((bytes_decides j k).0 t)) ∙ at in absurd (cc))
    (λ t. ap (λ b. cond b (Some commit) (commits j)) t ∙ at)

with_first : (commits : Commits) (k : List ℕ) (commit : PlainCommit) → commits k ≡ None → HasParent commits commit → (first : List ℕ) → IsFirst commits first → IsFirst (with_commit k commit commits) first
with_first commits k commit none has first is_first j known =
    let after = with_commit k commit commits in
    let among = with_among commits k commit none in
    let way = is_first has.parent has.there in
    let rest = ancestor_more commits after among way.0 has.parent first way.1 in
    two (bytes_eq j k)
    (λ t.
    let same : j ≡ k = (bytes_decides j k).0 t in
    let at : after j ≡ Some commit = ap after same ∙ itself commits k commit in
    (suc way.0, (has.parent, ap (λ (o : Option PlainCommit). has_address (parents_in o) has.parent) at ∙ has.is, rest)))
    (λ t.
    let there : is_known commits j ≡ true = sym (ap (λ b. is_some (cond b (Some commit) (commits j))) t) ∙ known in
    let old = is_first j there in (old.0, ancestor_more commits after among old.0 j first old.1))

added_more : (k : List ℕ) (commit : PlainCommit) (there : Option PlainCommit) (commits after : Commits) → commits k ≡ there → HasParent commits commit → added_at k commit there commits ≡ Some after
    → HasOneMore commits after k commit
added_more k commit None commits after none has e =
    some_ok (λ (after : Commits). HasOneMore commits after k commit) (with_commit k commit commits) after (record {
      among = with_among commits k commit none;
      there = ap is_some (itself commits k commit);
      first = with_first commits k commit none has;
    }) e
added_more k commit (Some other) commits after at has e = two (is_same_commit commit other)
    (λ t. some_ok (λ (after : Commits). HasOneMore commits after k commit) commits after (record {
      among = λ j c here. here;
      there = ap is_some at;
      first = λ first is. is;
    }) (sym (ap (λ b. cond b (Some commits) None) t) ∙ e))
    (λ t. let none : ◌≡◌ {A = Option Commits} None (Some after) = sym (ap (λ b. cond b (Some commits) None) t) ∙ e in absurd (cc))

pub made_more : (address : List ℕ → List ℕ) (commit : PlainCommit) (commits after : Commits) → HasParent commits commit → commits_with address (Some commit) commits ≡ Some after
    → HasOneMore commits after (commit_address address commit) commit
made_more address commit commits after has e = let k = commit_address address commit in added_more k commit (commits k) commits after refl has e
