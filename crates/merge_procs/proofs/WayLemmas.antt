-- Where a merge leads: the base against ancestors, what the plain merge comes to, and what stands in a session's transaction.
use Rattle.std.proofs.Common.{◌≡◌, refl, sym, ap, ◌∙◌, subst, ◌⊎◌, inl, inr, ℕ, zero, suc, Bool, true, false, cond, ◌&&◌, ◌||◌, ◌==◌, not, is_lt, List, [], ◌∷◌, Option, Some, None, Ok, Err, map}
use Rattle.std.specs.Prelude.{IfOk, Result, bytes_eq, codes}
use Rattle.std.specs.Cmp.Lexicographic.{bytes_decides}
use Rattle.std.specs.Option.{option_map_or}
use Rattle.std.proofs.lemmas.Bool.{and_from, eqb-false, or_left}
use Rattle.std.proofs.lemmas.Result.{IfOk-weaker}
use Rattle.tuple_codec.proofs.ByteLemmas.{bytes_itself as itself}
use Rattle.tuple_codec.specs.declared.addresses.Address.{Address}
use Rattle.tuple_codec.specs.declared.records.BranchRecord.{BranchRecord}
use Rattle.chunk_store.specs.Chunks.{Chunks, chunk_bytes}
use Rattle.chunk_store.specs.Drafts.{DraftParts, chunks_of}
use Rattle.chunk_store.specs.Laws.{ChunksFollow}
use Rattle.commit_graph.specs.Standing as graph
use Rattle.commit_graph.specs.Standing.{CommitsStand}
use Rattle.commit_graph.specs.declared.walks.Rank.{Rank}
use Rattle.commit_graph.proofs.WalkLemmas.{first_or_later, to_left}
use Rattle.table_root.specs.Kept.{IsKeptAt}
use Rattle.expr_eval.specs.Binding.{Outcome, and_then}
use Rattle.merge_base.specs.Common.{HasCommon}
use Rattle.schema_model.specs.PlainCommits.{AncestorsFollow, AreGrown, Commits, IsAncestor, IsBase, IsBaseOrNone, base, commit_cmp, height_of, is_ancestor, is_known}
use Rattle.schema_model.specs.PlainTables.{PlainDatabase}
use Rattle.schema_model.proofs.AncestorLemmas.{known_here, known_there}
use Rattle.plain_sql.specs.Lists.{or_refuse, unless}
use Rattle.plain_writes.proofs.InsertionLemmas.{two, clash, left_so, right_so}
use Rattle.plain_sessions.specs.Branching.{resolved}
use Rattle.plain_sessions.specs.Merging.{Answers, Closes, Forwarding, Worked, base_root, has_changes, merge, merge_made, merge_reply, merge_with, merged_with}
use Rattle.plain_sessions.specs.Records.{BranchState, root_of}
use Rattle.plain_sessions.specs.Sessions as plain
use Rattle.plain_sessions.specs.Sessions.{Transaction, own_root}
use Rattle.sql_procedures.specs.declared.requests.MergeOf.{MergeOf}
use Rattle.sql_procedures.specs.declared.requests.MergeRequest.TheVariants as merging
use Rattle.session_state.specs.Commits.{CommitsAreThere}
use Rattle.session_state.specs.Laws.{CommitsFollow}
use Rattle.session_state.specs.Records.{RecordStands}
use Rattle.session_state.specs.Transactions.{StartStands, TransactionStands, head_seen}
use Rattle.session_state.specs.Standing.{SessionStands}
use Rattle.session_state.specs.declared.sessions.Session.{Session}
use Rattle.table_root.specs.declared.heads.BranchHead as seen
use Rattle.table_root.specs.declared.heads.Look.{Look}
use Rattle.merge_procs.specs.Ways.{AreDatabases, IsApart, IsOver, IsThree, IsWay, Leads, is_changed}
use Rattle.merge_procs.specs.declared.ways.Three.{Three}
use Rattle.merge_procs.specs.declared.ways.Way.{Way}
use Rattle.merge_procs.specs.declared.ways.Way.TheVariants as way
use Rattle.merge_procs.proofs.WayNames.{known_told}

-- ---- the base of two commits, of which one may be the other's ancestor

eqb_itself : (n : ℕ) → (n == n) ≡ true
eqb_itself n = two (n == n) (λ t. t) (λ f. absurd (eqb-false n n f refl))

module _ (laws : AncestorsFollow) (commits : Commits) (grown : AreGrown commits) where
  -- a commit's ancestors come after it
  later : (k x : List ℕ) → is_known commits k ≡ true → IsAncestor commits k x → (k ≡ x) ⊎ (is_lt (commit_cmp commits k x) ≡ true)
  later k x known up =
      let here : Rank = record { height = record { 0 = height_of commits k }; address = k } in
      first_or_later laws commits grown here [] x (record { each = and_from _ _ (and_from _ _ known (eqb_itself (height_of commits k))) refl; rise = refl })
      (to_left laws commits grown (here ∷ []) k x (or_left _ _ (itself k)) up)

  module _ (a b k : List ℕ) (is : base commits a b ≡ Some k) where
    is_base : IsBase commits a b k
    is_base = subst (IsBaseOrNone commits a b) is (laws.base_is commits a b grown)

    -- a common ancestor of which the base is one is the base
    no_other : (x : List ℕ) → IsAncestor commits a x → IsAncestor commits b x → IsAncestor commits x k → k ≡ x
    no_other x one other up =
        let least = is_base.least x one other in
        elim (later x k (known_here commits up.0 x k up.1) up) [
          | inl same ↦ sym same
          | inr before ↦ clash before least
        ]

    pub base_known : is_known commits k ≡ true
    base_known = let up = is_base.first in known_there commits up.0 a k up.1

    itself_known : (x : List ℕ) → is_known commits x ≡ true → IsAncestor commits x x
    itself_known x known = (0, (known, refl))

    -- the base is the second commit exactly where that is the first one's ancestor
    pub at_second : k ≡ b → is_ancestor commits a b ≡ true
    at_second same = subst (λ (j : List ℕ). is_ancestor commits a j ≡ true) same (laws.each commits a k grown is_base.first)

    pub is_second : is_ancestor commits a b ≡ true → k ≡ b
    is_second h =
        let up = laws.only commits a b h in
        no_other b up (itself_known b (known_there commits up.0 a b up.1)) is_base.second

    -- and the first one where that is the second one's
    pub at_first : k ≡ a → is_ancestor commits b a ≡ true
    at_first same = subst (λ (j : List ℕ). is_ancestor commits b j ≡ true) same (laws.each commits b k grown is_base.second)

    pub is_first : is_ancestor commits b a ≡ true → k ≡ a
    is_first h =
        let up = laws.only commits b a h in
        no_other a (itself_known a (known_there commits up.0 b a up.1)) up is_base.first

-- ---- the commits below a draft

-- all commits have a common ancestor
pub have_common : (address : List ℕ → List ℕ) (chunks : Chunks) (commits : Commits) → CommitsAreThere address chunks commits → (a b : List ℕ) → is_known commits a ≡ true
    → is_known commits b ≡ true → HasCommon commits a b
have_common address chunks commits there a b first second = let one = there.first in (one.0, one.1 a first, one.1 b second)

module _ (address : List ℕ → List ℕ) (chunks : ChunksFollow) (follow : graph.CommitsFollow) (laws : AncestorsFollow) (d : DraftParts) (head root other : Address) (t : Transaction) (over : IsOver address d head root other t) where
  there : CommitsAreThere address (chunk_bytes d.base) t.commits
  there = over.commits

  grown : AreGrown t.commits
  grown = let stand = there.stand in stand.grown

  pub all_stand : CommitsStand address (chunks_of d) t.commits
  all_stand = follow.later address (chunk_bytes d.base) (chunks_of d) t.commits (chunks.extends_left d.base d.own) there.stand

  pub common : HasCommon t.commits head.0 other.0
  common = have_common address (chunk_bytes d.base) t.commits there head.0 other.0 over.head_known over.other_known

  module _ (k : Address) (is : base t.commits head.0 other.0 ≡ Some k.0) where
    pub known : is_known t.commits k.0 ≡ true
    known = base_known laws t.commits grown head.0 other.0 k.0 is

    -- of the transaction's own head
    of_head : (P : List ℕ → Type 0) → P head.0 → P t.own.head
    of_head P x = subst P over.head_is x

    pub up_to_date : (no_ff : Bool) → bytes_eq k.0 other.0 ≡ true → Leads address (chunks_of d) t no_ff other way.UpToDate
    up_to_date no_ff same =
        of_head (λ (h : List ℕ). is_ancestor t.commits h other.0 ≡ true) (at_second laws t.commits grown head.0 other.0 k.0 is ((bytes_decides k.0 other.0).0 same))

    ahead : bytes_eq k.0 other.0 ≡ false → is_ancestor t.commits t.own.head other.0 ≡ false
    ahead apart = of_head (λ (h : List ℕ). is_ancestor t.commits h other.0 ≡ false)
        (two (is_ancestor t.commits head.0 other.0) (λ h. clash ((bytes_decides k.0 other.0).1 (is_second laws t.commits grown head.0 other.0 k.0 is h)) apart) (λ h. h))

    pub forward : (no_ff : Bool) → bytes_eq k.0 other.0 ≡ false → bytes_eq k.0 head.0 ≡ true → no_ff ≡ false → Leads address (chunks_of d) t no_ff other (way.Forward other)
    forward no_ff apart same ff = (
      refl,
      ahead apart,
      and_from (is_ancestor t.commits other.0 t.own.head) (not no_ff)
          (of_head (λ (h : List ℕ). is_ancestor t.commits other.0 h ≡ true) (at_first laws t.commits grown head.0 other.0 k.0 is ((bytes_decides k.0 head.0).0 same)))
          (ap not ff),
    )

    behind : (no_ff : Bool) → (bytes_eq k.0 head.0 ≡ true → no_ff ≡ true) → (is_ancestor t.commits other.0 head.0 && not no_ff) ≡ false
    behind no_ff only = two (is_ancestor t.commits other.0 head.0 && not no_ff)
        (λ h. let on = only ((bytes_decides k.0 head.0).1 (is_first laws t.commits grown head.0 other.0 k.0 is (left_so (is_ancestor t.commits other.0 head.0) (not no_ff) h))) in
        clash (right_so (is_ancestor t.commits other.0 head.0) (not no_ff) h) (ap not on))
        (λ h. h)

    root_at : base_root t other.0 ≡ root_of t.commits k.0
    root_at = of_head (λ (h : List ℕ). option_map_or (root_of t.commits) (base t.commits h other.0) [] ≡ root_of t.commits k.0)
        (ap (λ (o : Option (List ℕ)). option_map_or (root_of t.commits) o []) is)

    pub meets : (no_ff : Bool) (three : Three) → bytes_eq k.0 other.0 ≡ false → (bytes_eq k.0 head.0 ≡ true → no_ff ≡ true) → AreDatabases address (chunks_of d) t.commits k root other three
        → Leads address (chunks_of d) t no_ff other (way.Merge three)
    meets no_ff three apart only are = (
      record { ahead = ahead apart; behind = of_head (λ (h : List ℕ). (is_ancestor t.commits other.0 h && not no_ff) ≡ false) (behind no_ff only) },
      are.other_is,
      subst (λ (database : PlainDatabase). IsKeptAt address (chunks_of d) three.base.0 database) (sym root_at) are.base_stands,
      subst (λ (a : Address). IsKeptAt address (chunks_of d) a.0 (own_root t)) (sym are.ours_is) over.root_stands,
      are.theirs_stands,
    )

-- ---- what the plain merge comes to

module _ (t : Transaction) (request : MergeOf) where
  pub unknown : resolved t.heads t.commits request.name ≡ None → (p : plain.Session) → merge p t (merging.Merge request) ≡ Err 9004
  unknown none p = ap (λ (o : Option (List ℕ)). and_then (or_refuse 9004 o) (λ other. unless (has_changes t) 9006 (merge_with p t request other))) none

  module _ (other : Address) (named : resolved t.heads t.commits request.name ≡ Some other.0) where
    goes_on : (p : plain.Session) → merge p t (merging.Merge request) ≡ unless (has_changes t) 9006 (merge_with p t request other.0)
    goes_on p = ap (λ (o : Option (List ℕ)). and_then (or_refuse 9004 o) (λ other. unless (has_changes t) 9006 (merge_with p t request other))) named

    pub changed : has_changes t ≡ true → (p : plain.Session) → merge p t (merging.Merge request) ≡ Err 9006
    changed h p = goes_on p ∙ ap (λ (b : Bool). unless b 9006 (merge_with p t request other.0)) h

    module _ (clean : has_changes t ≡ false) where
      merges : (p : plain.Session) → merge p t (merging.Merge request) ≡ merge_with p t request other.0
      merges p = goes_on p ∙ ap (λ (b : Bool). unless b 9006 (merge_with p t request other.0)) clean

      abbrev done : Outcome Worked
      done = Ok (Answers (merge_reply [] 0 0 (codes "up to date")) t.own)

      abbrev rest : plain.Session → Outcome Worked
      rest p = and_then (merged_with t other.0) (λ merged. Ok (merge_made p t request other.0 merged))

      apart : (p : plain.Session) → is_ancestor t.commits t.own.head other.0 ≡ false
          → merge_with p t request other.0 ≡ cond (is_ancestor t.commits other.0 t.own.head && not request.no_ff) (Ok (Closes (Forwarding other.0))) (rest p)
      apart p h = ap (λ (b : Bool). cond b done (cond (is_ancestor t.commits other.0 t.own.head && not request.no_ff) (Ok (Closes (Forwarding other.0))) (rest p))) h

      pub way_is : (address : List ℕ → List ℕ) (chunks : Chunks) (known : is_known t.commits other.0 ≡ true) (w : Way) → Leads address chunks t request.no_ff other w
          → IsWay address chunks t request w
      way_is address chunks is_there (way.Refused number) leads = absurd leads
      way_is address chunks is_there way.UpToDate leads = λ p.
          merges p ∙ ap (λ (b : Bool). cond b done (cond (is_ancestor t.commits other.0 t.own.head && not request.no_ff) (Ok (Closes (Forwarding other.0))) (rest p))) leads
      way_is address chunks is_there (way.Forward k) (same, first, second) = (
        subst (λ (a : Address). is_known t.commits a.0 ≡ true) (sym same) is_there,
        λ p. merges p ∙ apart p first ∙ ap (λ (b : Bool). cond b (Ok (Closes (Forwarding other.0))) (rest p)) second ∙ ap (λ (a : Address). Ok (Closes (Forwarding a.0))) (sym same),
      )
      way_is address chunks is_there (way.Merge three) (is, same, low, ours, theirs) =
          let at : (P : Address → Type 0) → P other → P three.other = λ P x. subst P (sym same) x in
          record {
            other_known = at (λ a. is_known t.commits a.0 ≡ true) is_there;
            base = at (λ a. IsKeptAt address chunks three.base.0 (base_root t a.0)) low;
            ours = ours;
            theirs = at (λ a. IsKeptAt address chunks three.theirs.0 (root_of t.commits a.0)) theirs;
            is = λ p. at (λ a. merge p t (merging.Merge request) ≡ and_then (merged_with t a.0) (λ merged. Ok (merge_made p t request a.0 merged)))
                (merges p ∙ apart p is.ahead ∙ ap (λ (b : Bool). cond b (Ok (Closes (Forwarding other.0))) (rest p)) is.behind);
          }

-- ---- a session in its transaction

module _ {D : Type 0} (address : List ℕ → List ℕ) (session : Session D) (look : Look) (started : session.start ≡ Some look) (p : plain.Session) (t : Transaction)
    (session_stands : SessionStands address session p) (inside : p.transaction ≡ Some t) where
  abbrev all : Chunks
  all = chunks_of session.draft.chunks

  stands : TransactionStands address session.draft.chunks look session.own t
  stands = subst (λ (o : Option Look). StartStands address session.draft.chunks o session.own (Some t)) started
      (subst (λ (o : Option Transaction). StartStands address session.draft.chunks session.start session.own o) inside session_stands.transaction)

  own_stands : RecordStands address all t.commits session.own t.own
  own_stands = stands.own_stands

  head_known : is_known t.commits session.own.head.0 ≡ true
  head_known = ap (is_known t.commits) own_stands.head ∙ own_stands.head_known

  -- none of the draft's own chunks is a commit, so that the commits are those of all its chunks
  pub all_there : CommitsFollow → CommitsAreThere address all t.commits
  all_there follow = follow.beside address session.draft.chunks.base session.draft.chunks.own t.commits session_stands.plain_own stands.commits

  module _ (heads : List seen.BranchHead) (name : List ℕ) (heads_are : heads ≡ look.heads) (request : MergeOf) (name_is : name ≡ request.name) where
    name_told : resolved (map head_seen heads) t.commits name ≡ resolved t.heads t.commits request.name
    name_told = (λ i. resolved ((ap (map head_seen) heads_are ∙ stands.heads) i) t.commits (name_is i))

    pub not_told : None ≡ resolved (map head_seen heads) t.commits name → resolved t.heads t.commits request.name ≡ None
    not_told e = sym (e ∙ name_told)

    module _ (other root : Address) (e : Some other.0 ≡ resolved (map head_seen heads) t.commits name) where
      pub told : resolved t.heads t.commits request.name ≡ Some other.0
      told = sym (e ∙ name_told)

      other_known : is_known t.commits other.0 ≡ true
      other_known = known_told t.commits request.name other.0 t.heads stands.heads_known told

      module _ (kept : (commits : Commits) → CommitsAreThere address (chunk_bytes session.draft.chunks.base) commits → is_known commits session.own.head.0 ≡ true
          → IsKeptAt address all root.0 (root_of commits session.own.head.0)) where
        root_stands : IsKeptAt address all root.0 (own_root t)
        root_stands = subst (λ (k : List ℕ). IsKeptAt address all root.0 (root_of t.commits k)) own_stands.head (kept t.commits stands.commits head_known)

        pub over : IsOver address session.draft.chunks session.own.head root other t
        over = record { commits = stands.commits; head_is = own_stands.head; head_known = head_known; other_known = other_known; root_stands = root_stands }

        module _ (found : Bool) (is : (a : List ℕ → List ℕ) (chunks : Chunks) (commits : Commits) (state : BranchState) (database : PlainDatabase) → RecordStands a chunks commits session.own state
            → IsKeptAt a chunks root.0 database → found ≡ is_changed state database) where
          found_is : has_changes t ≡ found
          found_is = sym (is address all t.commits t.own (own_root t) own_stands root_stands)

          pub refused : found ≡ true → (q : plain.Session) → merge q t (merging.Merge request) ≡ Err 9006
          refused so q = changed t request other told (found_is ∙ so) q

          pub led : {E : Type 0} → found ≡ false → (result : Result Way E) → IfOk result (Leads address all t request.no_ff other) → IfOk result (λ way. IsWay address all t request way)
          led so result leads = IfOk-weaker result (Leads address all t request.no_ff other) (λ way. IsWay address all t request way)
              (λ w is_so. way_is t request other told (found_is ∙ so) address all other_known w is_so) leads
