-- What a settled change leaves of the shared state, and that one state stands for given parts.
use Rattle.std.proofs.Common.{◌≡◌, refl, ◌∙◌, sym, ap, subst, ℕ, ◌≤◌, Bool, true, false, cond, ◌&&◌, List, [], ◌∷◌, ◌++◌, ◌⊎◌, inl, inr, map, length, find, Option, Some, None, option_map, is_some}
use Rattle.std.specs.Prelude.{bytes_eq}
use Rattle.std.specs.List.{list_all}
use Rattle.std.specs.Ordering.{nat_cmp, is_lt}
use Rattle.std.specs.Cmp.Lexicographic.{slice_cmp, bytes_decides}
use Rattle.std.proofs.lemmas.List.{length-map}
use Rattle.std.proofs.lemmas.Option.{same_Some}
use Rattle.tuple_codec.specs.declared.records.BranchRecord.{BranchRecord}
use Rattle.schema_model.specs.Limits.{most_branches}
use Rattle.schema_model.specs.PlainCommits.{Commits, is_known}
use Rattle.schema_model.specs.PlainTables.{rises}
use Rattle.schema_model.specs.Sameness.{SamenessIsEquality}
use Rattle.chunk_store.specs.Chunks.{AreNamed, Chunk, Extends, IsSingle, Lists, chunk_bytes}
use Rattle.chunk_store.specs.Laws.{ChunksFollow, SegmentsFollow}
use Rattle.chunk_store.specs.Stores.{IsUnion, all_chunks}
use Rattle.chunk_store.proofs.ChunkLemmas.{at_join, either_some, listed_finds}
use Rattle.commit_graph.specs.Standing as graph
use Rattle.commit_graph.specs.Standing.{in_either}
use Rattle.script_text.specs.declared.outputs.BranchLine.{BranchLine}
use Rattle.table_root.specs.Standing.{DatabasesStand}
use Rattle.table_root.specs.declared.heads.Look.{Look}
use Rattle.plain_sessions.specs.Branching.{is_branch_there}
use Rattle.plain_sessions.specs.Moments.{Change, commits_with, with_change}
use Rattle.plain_sessions.specs.Records.{Branch, BranchState, Shared, branch_cmp, is_branch, state_of, with_branch}
use Rattle.plain_sessions.specs.Sessions.{head_of}
use Rattle.session_state.specs.Changes.{BranchStands, ChangeStands, Paired, Parts, StateStands, lines_rise}
use Rattle.session_state.specs.Commits.{CommitsAreThere}
use Rattle.session_state.specs.Laws.{StatesFollow, head_in, with_record}
use Rattle.session_state.specs.Records.{RecordStands}
use Rattle.session_state.specs.Transactions.{IsLookOf, head_seen}
use Rattle.session_state.proofs.BranchLemmas.{put_in_place, replaced, replacing, still_found}
use Rattle.session_state.proofs.CommitLemmas.{made_over_all, same_commits}
use Rattle.session_state.proofs.OpeningLemmas.{opening_stands}
use Rattle.session_state.proofs.RecordLemmas.{one_state, record_later}

-- ---- lines, and the branches for which they stand

abbrev line_replacing : List ℕ → BranchRecord → BranchLine → BranchLine
line_replacing name rec line = cond (bytes_eq line.name name) (record { name = line.name; rec = rec }) line

line_name : (name : List ℕ) (rec : BranchRecord) (line : BranchLine) → (line_replacing name rec line).name ≡ line.name
line_name name rec line = by (bytes_eq line.name name) where
  by : (t : Bool) → (cond t (record { name = line.name; rec = rec }) line).name ≡ line.name
  by true = refl
  by false = refl

pub lines_still_rise : (name : List ℕ) (rec : BranchRecord) (lines : List BranchLine) → lines_rise (with_record name rec lines) ≡ lines_rise lines
lines_still_rise name rec [] = refl
lines_still_rise name rec (x ∷ []) = refl
lines_still_rise name rec (x ∷ y ∷ lines) =
    λ i. is_lt (slice_cmp nat_cmp (line_name name rec x i) (line_name name rec y i)) && lines_still_rise name rec (y ∷ lines) i

module _ (address : List ℕ → List ℕ) (chunks : List Chunk) (commits : Commits) where
  abbrev Stand : List BranchLine → List Branch → Type 0
  Stand lines branches = Paired (BranchStands address chunks commits) lines branches

  branches_rise : (lines : List BranchLine) (branches : List Branch) → Stand lines branches → lines_rise lines ≡ rises branch_cmp branches
  branches_rise [] [] stand = refl
  branches_rise [] (b ∷ branches) stand = absurd stand
  branches_rise (x ∷ lines) [] stand = absurd stand
  branches_rise (x ∷ []) (b ∷ []) stand = refl
  branches_rise (x ∷ []) (b ∷ c ∷ branches) stand = absurd stand.1
  branches_rise (x ∷ y ∷ lines) (b ∷ []) stand = absurd stand.1
  branches_rise (x ∷ y ∷ lines) (b ∷ c ∷ branches) stand =
      λ i. is_lt (slice_cmp nat_cmp (stand.0.name i) (stand.1.0.name i)) && branches_rise (y ∷ lines) (c ∷ branches) stand.1 i

  seen_heads : (lines : List BranchLine) (branches : List Branch) → Stand lines branches → map head_seen (map head_in lines) ≡ map head_of branches
  seen_heads [] [] stand = refl
  seen_heads [] (b ∷ branches) stand = absurd stand
  seen_heads (x ∷ lines) [] stand = absurd stand
  seen_heads (x ∷ lines) (b ∷ branches) stand =
      λ i. record { name = stand.0.name i; commit = stand.0.stands.head i } ∷ seen_heads lines branches stand.1 i

  heads_known : (lines : List BranchLine) (branches : List Branch) → Stand lines branches → list_all (λ (b : Branch). is_known commits b.state.head) branches ≡ true
  heads_known [] [] stand = refl
  heads_known [] (b ∷ branches) stand = absurd stand
  heads_known (x ∷ lines) [] stand = absurd stand
  heads_known (x ∷ lines) (b ∷ branches) stand = λ i. stand.0.stands.head_known i && heads_known lines branches stand.1 i

  -- the branch of a line that is found
  state_found : (name : List ℕ) (line : BranchLine) (lines : List BranchLine) (branches : List Branch) → Stand lines branches
      → find (λ (other : BranchLine). bytes_eq other.name name) lines ≡ Some line
      → (state : BranchState) × (state_of branches name ≡ Some state) × RecordStands address (chunk_bytes chunks) commits line.rec state
  state_found name line [] branches stand found = cc
  state_found name line (x ∷ lines) [] stand found = absurd stand
  state_found name line (x ∷ lines) (b ∷ branches) stand found =
      let rest : find (λ (other : BranchLine). bytes_eq other.name name) lines ≡ Some line
      → (state : BranchState) × (state_of branches name ≡ Some state) × RecordStands address (chunk_bytes chunks) commits line.rec state =
      state_found name line lines branches stand.1 in
      subst (λ n. (state : BranchState) × (option_map (λ (c : Branch). c.state) (cond (bytes_eq n name) (Some b) (find (is_branch name) branches)) ≡ Some state)
      × RecordStands address (chunk_bytes chunks) commits line.rec state) stand.0.name
      (by (bytes_eq x.name name) found rest)
    where
      by : (t : Bool) → cond t (Some x) (find (λ (other : BranchLine). bytes_eq other.name name) lines) ≡ Some line
          → (find (λ (other : BranchLine). bytes_eq other.name name) lines ≡ Some line
          → (state : BranchState) × (state_of branches name ≡ Some state) × RecordStands address (chunk_bytes chunks) commits line.rec state)
          → (state : BranchState) × (option_map (λ (c : Branch). c.state) (cond t (Some b) (find (is_branch name) branches)) ≡ Some state)
          × RecordStands address (chunk_bytes chunks) commits line.rec state
      by true here rest = (b.state, refl, subst (λ (l : BranchLine). RecordStands address (chunk_bytes chunks) commits l.rec b.state) (same_Some x line here) stand.0.stands)
      by false here rest = rest here

module _ (databases : DatabasesStand) (laws : graph.CommitsFollow) (address : List ℕ → List ℕ) where
  -- ---- one state

  same_branches : (chunks : List Chunk) (commits others : Commits) (lines : List BranchLine) (branches more : List Branch) → Paired (BranchStands address chunks commits) lines branches
      → Paired (BranchStands address chunks others) lines more → branches ≡ more
  same_branches chunks commits others [] [] [] a b = refl
  same_branches chunks commits others [] (x ∷ branches) more a b = absurd a
  same_branches chunks commits others [] [] (y ∷ more) a b = absurd b
  same_branches chunks commits others (line ∷ lines) [] more a b = absurd a
  same_branches chunks commits others (line ∷ lines) (x ∷ branches) [] a b = absurd b
  same_branches chunks commits others (line ∷ lines) (x ∷ branches) (y ∷ more) a b =
      let name : x.name ≡ y.name = sym a.0.name ∙ b.0.name in
      let state : x.state ≡ y.state = one_state databases address (chunk_bytes chunks) commits others line.rec x.state y.state a.0.stands b.0.stands in
      let rest : branches ≡ more = same_branches chunks commits others lines branches more a.1 b.1 in
      λ i. record { name = name i; state = state i } ∷ rest i

  pub one_shared : (parts : Parts) (shared other : Shared) → StateStands address parts shared → StateStands address parts other → shared ≡ other
  one_shared parts shared other a b =
      let branches : shared.branches ≡ other.branches = same_branches parts.chunks shared.commits other.commits parts.branches shared.branches other.branches a.branches b.branches in
      let commits : (k : List ℕ) → shared.commits k ≡ other.commits k = same_commits laws address (chunk_bytes parts.chunks) shared.commits other.commits a.commits b.commits in
      let places : shared.places ≡ other.places = sym a.places ∙ b.places in
      λ i. record { branches = branches i; commits = λ k. commits k i; places = places i }

  -- ---- a look

  pub look_shows : (parts : Parts) (shared : Shared) (look : Look) (line : BranchLine) → StateStands address parts shared
      → find (λ (other : BranchLine). bytes_eq other.name look.branch) parts.branches ≡ Some line → look.rec ≡ line.rec
      → look.heads ≡ map head_in parts.branches → all_chunks look.store ≡ parts.chunks → IsLookOf address look shared
  look_shows parts shared look line stands found rec heads chunks =
      let state = state_found address parts.chunks shared.commits look.branch line parts.branches shared.branches stands.branches found in
      record {
        state = state.0;
        there = state.1;
        stands = subst (λ (cs : List Chunk). RecordStands address (chunk_bytes cs) shared.commits look.rec state.0) (sym chunks)
            (subst (λ (r : BranchRecord). RecordStands address (chunk_bytes parts.chunks) shared.commits r state.0) (sym rec) state.2);
        heads = ap (map head_seen) heads ∙ seen_heads address parts.chunks shared.commits parts.branches shared.branches stands.branches;
        heads_known = heads_known address parts.chunks shared.commits parts.branches shared.branches stands.branches;
        commits = subst (λ (cs : List Chunk). CommitsAreThere address (chunk_bytes cs) shared.commits) (sym chunks) stands.commits;
        named = subst (AreNamed address) (sym chunks) stands.named;
      }

  -- ---- a settled change

  line_settled : (old new : List Chunk) (commits after : Commits) (name : List ℕ) (rec : BranchRecord) (state : BranchState) (line : BranchLine) (branch : Branch)
      → Extends (chunk_bytes old) (chunk_bytes new) → ((k : List ℕ) → is_known commits k ≡ true → is_known after k ≡ true) → RecordStands address (chunk_bytes new) after rec state
      → BranchStands address old commits line branch → BranchStands address new after (line_replacing name rec line) (replacing name state branch)
  line_settled old new commits after name rec state line branch more known is stands =
      subst (λ n. BranchStands address new after (line_replacing name rec line) (cond (bytes_eq n name) (record { name = name; state = state }) branch)) stands.name
      (by (bytes_eq line.name name) refl)
    where
      by : (t : Bool) → bytes_eq line.name name ≡ t
          → BranchStands address new after (cond t (record { name = line.name; rec = rec }) line) (cond t (record { name = name; state = state }) branch)
      by true e = record { name = (bytes_decides line.name name).0 e; form = stands.form; stands = is }
      by false e = record {
        name = stands.name;
        form = stands.form;
        stands = record_later databases address (chunk_bytes old) (chunk_bytes new) commits after line.rec branch.state more known stands.stands;
      }

  lines_settled : (old new : List Chunk) (commits after : Commits) (name : List ℕ) (rec : BranchRecord) (state : BranchState) (lines : List BranchLine) (branches : List Branch)
      → Extends (chunk_bytes old) (chunk_bytes new) → ((k : List ℕ) → is_known commits k ≡ true → is_known after k ≡ true) → RecordStands address (chunk_bytes new) after rec state
      → Paired (BranchStands address old commits) lines branches → Paired (BranchStands address new after) (with_record name rec lines) (replaced name state branches)
  lines_settled old new commits after name rec state [] [] more known is stand = stand
  lines_settled old new commits after name rec state [] (b ∷ branches) more known is stand = absurd stand
  lines_settled old new commits after name rec state (x ∷ lines) [] more known is stand = absurd stand
  lines_settled old new commits after name rec state (x ∷ lines) (b ∷ branches) more known is stand =
      (line_settled old new commits after name rec state x b more known is stand.0, lines_settled old new commits after name rec state lines branches more known is stand.1)

some_mapped : (o : Option Branch) → is_some (option_map (λ (branch : Branch). branch.state) o) ≡ is_some o
some_mapped None = refl
some_mapped (Some branch) = refl

-- what was planned over a store that the parts list, and what is left of them with what was sealed
module _ (chunk_laws : ChunksFollow) (store sealed some left : List Chunk) (lists : Lists store some) (union : IsUnion some sealed left) (single : IsSingle left) where
  planned_held : Extends (chunk_bytes (store ++ sealed)) (chunk_bytes left)
  planned_held k bytes held = elim (either_some (chunk_bytes store k) (chunk_bytes sealed k) bytes (sym (at_join store sealed k) ∙ held)) [
    | inl l ↦ chunk_laws.is_found left k bytes single (union.left k bytes (lists k bytes (chunk_laws.is_listed store k bytes l)))
    | inr r ↦ chunk_laws.is_found left k bytes single (union.right k bytes (chunk_laws.is_listed sealed k bytes r))
  ]

  in_either_part : IsSingle some → (k bytes : List ℕ) → chunk_bytes left k ≡ Some bytes → (chunk_bytes some k ≡ Some bytes) ⊎ (chunk_bytes (store ++ sealed) k ≡ Some bytes)
  in_either_part single_some k bytes held = elim (union.only k bytes (chunk_laws.is_listed left k bytes held)) [
    | inl l ↦ inl (chunk_laws.is_found some k bytes single_some l)
    | inr r ↦ (let found = listed_finds (store ++ sealed) k bytes ((chunk_laws.listed_either store sealed).1 k bytes r) in
        inr (found.1 ∙ ap Some (same_Some found.0 bytes (sym (planned_held k found.0 found.1) ∙ held))))
  ]

module _ (chunk_laws : ChunksFollow) (segments : SegmentsFollow) (databases : DatabasesStand) (same : SamenessIsEquality) (laws : graph.CommitsFollow) (address : List ℕ → List ℕ) where
  pub settle_stands : (store sealed : List Chunk) (look : Commits) (parts left : Parts) (found : Shared) (name head : List ℕ) (rec : BranchRecord) (state : BranchState) (change : Change)
      → CommitsAreThere address (chunk_bytes store) look → is_known look head ≡ true → Lists store parts.chunks
      → ChangeStands address store sealed look rec change
      → StateStands address parts found → state_of found.branches name ≡ Some state
      → left.branches ≡ with_record name rec parts.branches → left.places ≡ parts.places
      → IsUnion parts.chunks sealed left.chunks → IsSingle left.chunks
      → (after : Commits) × (commits_with address change.made found.commits ≡ Some after) × StateStands address left (with_change name change found after)
  settle_stands store sealed look parts left found name head rec state change look_there known lists changes stands at branches places union single =
      let found_in = chunk_laws.lists_extends parts.chunks left.chunks single union.left in
      let planned_in = planned_held chunk_laws store sealed parts.chunks left.chunks lists union single in
      let after = in_either found.commits changes.after in
      let made = made_over_all laws same address (chunk_bytes store) (chunk_bytes parts.chunks) (chunk_bytes (store ++ sealed)) (chunk_bytes left.chunks) look found.commits changes.after
      (chunk_laws.lists_extends store parts.chunks stands.single lists) (chunk_laws.extends_left store sealed) found_in planned_in look_there stands.commits changes.commits_after
      change.made head changes.is known (in_either_part chunk_laws store sealed parts.chunks left.chunks lists union single stands.single) in
      let put : with_branch name change.becomes found.branches ≡ replaced name change.becomes found.branches =
      put_in_place name change.becomes found.branches (sym (branches_rise address parts.chunks found.commits parts.branches found.branches stands.branches) ∙ stands.rise)
      (sym (some_mapped (find (is_branch name) found.branches)) ∙ ap is_some at) in
      let lines = lines_settled databases laws address parts.chunks left.chunks found.commits after name rec change.becomes parts.branches found.branches found_in made.3
      (record_later databases address (chunk_bytes (store ++ sealed)) (chunk_bytes left.chunks) changes.after after rec change.becomes planned_in made.2 changes.stands) stands.branches in
      let there : (n : List ℕ) → is_branch_there (with_change name change found after) n ≡ is_branch_there found n =
      λ n. ap (λ l. is_some (state_of l n)) put ∙ still_found name change.becomes n found.branches in (
        after,
        made.0,
        record {
          branches = subst (λ l. Paired (BranchStands address left.chunks after) l (with_branch name change.becomes found.branches)) (sym branches)
              (subst (λ l. Paired (BranchStands address left.chunks after) (with_record name rec parts.branches) l) (sym put) lines);
          rise = ap lines_rise branches ∙ lines_still_rise name rec parts.branches ∙ stands.rise;
          few = subst (λ n. n ≤ most_branches) (sym (ap length branches ∙ length-map parts.branches (line_replacing name rec))) stands.few;
          places = places ∙ stands.places;
          placed = ap (λ (p : List ℕ → Bool). list_all p found.places) (λ i n. there n i) ∙ stands.placed;
          commits = made.1;
          named = chunk_laws.named_fewer address left.chunks (parts.chunks ++ sealed) (segments.union_lists parts.chunks sealed left.chunks union)
              (chunk_laws.named_join address parts.chunks sealed stands.named changes.named);
          single = single;
        },
      )

pub states_follow : ChunksFollow → SegmentsFollow → DatabasesStand → SamenessIsEquality → graph.CommitsFollow → StatesFollow
states_follow chunk_laws segments databases same laws = record {
  settled = settle_stands chunk_laws segments databases same laws;
  one = one_shared databases laws;
  looked = look_shows databases laws;
  opened = opening_stands;
}
