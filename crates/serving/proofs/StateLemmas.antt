-- The shared state before a statement, what is looked at, and what other chunks and moments leave of it.
use Rattle.std.proofs.Common.{◌≡◌, ◌≢◌, refl, ◌∙◌, sym, ap, ℕ, suc, zero, Bool, true, false, List, [], ◌∷◌, map, Option, Some, None, option_map, is_some, if◌then◌else◌, bytes_eq, find}
use Rattle.std.proofs.lemmas.Option.{same_Some}
use Rattle.tuple_codec.proofs.Lists.{all_at}
use Rattle.tuple_codec.proofs.Options.{some_there as is_there}
use Rattle.tuple_codec.specs.declared.records.BranchRecord.{BranchRecord}
use Rattle.schema_model.specs.PlainCommits.{Commits}
use Rattle.chunk_store.specs.Chunks.{Chunk}
use Rattle.chunk_store.specs.Stores.{all_chunks}
use Rattle.script_text.specs.declared.outputs.BranchLine.{BranchLine}
use Rattle.table_root.specs.declared.heads.Look.{Look}
use Rattle.plain_sessions.specs.Branching.{is_branch_there}
use Rattle.plain_sessions.specs.Records.{Branch, BranchState, Shared, is_branch, state_of}
use Rattle.plain_sessions.specs.Sessions as plain
use Rattle.session_state.specs.Changes.{BranchStands, Paired, Parts, StateStands}
use Rattle.session_state.specs.Laws.{StatesFollow, head_in}
use Rattle.session_state.specs.Transactions.{IsLookOf}
use Rattle.session_state.specs.declared.sessions.Session.{Session}
use Rattle.shared_db.specs.Shared.{is_line_of, noted, record_at}
use Rattle.serving.specs.Serving.{IsBefore, IsHere}

-- ---- lines and the branches for which they stand

module _ (address : List ℕ → List ℕ) (chunks : List Chunk) (commits : Commits) (name : List ℕ) where
  one_there : (test : Bool) (line : BranchLine) (branch : Branch) (lines : Option BranchLine) (branches : Option Branch)
      → is_some (option_map (λ (l : BranchLine). l.rec) lines) ≡ is_some (option_map (λ (b : Branch). b.state) branches)
      → is_some (option_map (λ (l : BranchLine). l.rec) (if test then Some line else lines)) ≡ is_some (option_map (λ (b : Branch). b.state) (if test then Some branch else branches))
  one_there true line branch lines branches rest = refl
  one_there false line branch lines branches rest = rest

  same_there : (lines : List BranchLine) (branches : List Branch) → Paired (BranchStands address chunks commits) lines branches
      → is_some (record_at name lines) ≡ is_some (state_of branches name)
  same_there [] [] stand = refl
  same_there [] (b ∷ branches) stand = absurd stand
  same_there (x ∷ lines) [] stand = absurd stand
  same_there (x ∷ lines) (b ∷ branches) stand =
      one_there (bytes_eq x.name name) x b (find (is_line_of name) lines) (find (is_branch name) branches) (same_there lines branches stand.1)
      ∙ ap (λ (other : List ℕ). is_some (option_map (λ (c : Branch). c.state) (if bytes_eq other name then Some b else find (is_branch name) branches))) stand.0.name

module _ {D : Type 0} (address : List ℕ → List ℕ) (session : Session D) (parts : Parts) (p : plain.Session) (shared : Shared) where
  -- before a statement it is here
  pub here_before : IsBefore address session parts p shared → IsHere address session parts p shared
  here_before before =
      record { session_stands = before.session_stands; state_stands = before.state_stands; placed = before.placed; later = before.later }

  -- the session's branch is there
  pub present_there : IsHere address session parts p shared → (present : BranchState) × (state_of shared.branches p.branch ≡ Some present)
  present_there here = is_there _ (all_at (is_branch_there shared) shared.places p.number p.branch here.placed here.state_stands.placed)

  pub record_there : IsHere address session parts p shared → (rec : BranchRecord) × (record_at session.branch parts.branches ≡ Some rec)
  record_there here =
      let there = present_there here in
      is_there _ (same_there address parts.chunks shared.commits session.branch parts.branches shared.branches here.state_stands.branches
      ∙ ap (λ (name : List ℕ). is_some (state_of shared.branches name)) here.session_stands.branch ∙ ap (λ (o : Option BranchState). is_some o) there.1)

  pub may_look : IsHere address session parts p shared → record_at session.branch parts.branches ≢ None
  may_look here none = let same : Some (record_there here).0 ≡ None = sym (record_there here).1 ∙ none in absurd (cc)

-- a look at these parts shows the state
pub looks_at : (address : List ℕ → List ℕ) (parts : Parts) (shared : Shared) (look : Look) → StatesFollow → StateStands address parts shared
    → record_at look.branch parts.branches ≡ Some look.rec → look.heads ≡ map head_in parts.branches → all_chunks look.store ≡ parts.chunks → IsLookOf address look shared
looks_at address parts shared look follow stands there heads chunks = by (find (is_line_of look.branch) parts.branches) refl there where
  by : (line : Option BranchLine) → find (is_line_of look.branch) parts.branches ≡ line → option_map (λ (l : BranchLine). l.rec) line ≡ Some look.rec → IsLookOf address look shared
  by None found is = absurd (cc)
  by (Some line) found is = follow.looked address parts shared look line stands found (sym (same_Some _ _ is)) heads chunks

-- a moment leaves what stands
pub stands_noted : (address : List ℕ → List ℕ) (session statement : ℕ) (parts : Parts) (shared : Shared) → StateStands address parts shared
    → StateStands address (noted session statement parts) shared
stands_noted address session statement parts shared stands = record {
  branches = stands.branches;
  rise = stands.rise;
  few = stands.few;
  places = stands.places;
  placed = stands.placed;
  commits = stands.commits;
  named = stands.named;
  single = stands.single;
}
