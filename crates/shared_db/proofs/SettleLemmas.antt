-- The state after a settled decision.
use Rattle.std.proofs.Common.{◌≡◌, ◌≢◌, refl, sym, ap, ◌∙◌, subst, ℕ, ◌≤◌, Bool, true, false, List, [], ◌∷◌, ◌++◌, ◌⊎◌, inl, inr, length, is_some, Option, Some, None, option_map}
use Rattle.std.specs.Option.{option_map_or}
use Rattle.schema_model.specs.Limits.{most_branches}
use Rattle.schema_model.specs.PlainCommits.{Commits, is_known}
use Rattle.chunk_store.specs.Chunks.{AreNamed, Chunk, Extends, IsSingle, Listed, Lists, chunk_bytes}
use Rattle.chunk_store.specs.Kinds.{is_commit}
use Rattle.chunk_store.specs.Laws.{ChunksFollow, SegmentsFollow}
use Rattle.chunk_store.specs.Stores.{IsUnion, all_chunks}
use Rattle.commit_graph.specs.Standing as graph
use Rattle.script_text.specs.declared.outputs.BranchLine.{BranchLine}
use Rattle.table_root.specs.declared.heads.Look.{Look}
use Rattle.plain_sessions.specs.Moments as plain
use Rattle.plain_sessions.specs.Records.{Branch, BranchState, Shared, state_of}
use Rattle.session_state.specs.Changes.{BranchStands, ChangeStands, Paired, Parts, StateStands, lines_rise}
use Rattle.session_state.specs.Commits.{CommitsAreThere}
use Rattle.session_state.specs.Laws.{RecordsFollow, StatesFollow}
use Rattle.shared_db.specs.Settling.{BringsNoCommit, HasLooked, SettlesFollow, StateGoesOn, sealed_in}
use Rattle.shared_db.specs.Shared.{AreWith, IsSettled, record_at}
use Rattle.shared_db.specs.declared.changes.RecordChange.{RecordChange}
use Rattle.shared_db.specs.declared.changes.RecordChange.TheVariants as change
use Rattle.shared_db.proofs.StandLemmas.{there_same}

pub brought_is : {A : Type 0} (f : A → List Chunk) (sealed : Option A) → sealed_in (option_map f sealed) ≡ option_map_or f sealed []
brought_is f None = refl
brought_is f (Some sealed) = refl

union_with : (old new : List Chunk) (sealed : Option (List Chunk)) → AreWith old sealed new → IsUnion old (sealed_in sealed) new
union_with old new None same = subst (λ (l : List Chunk). IsUnion old [] l) (sym same) (record {
  left = λ k bytes listed. listed;
  right = λ k bytes listed. absurd listed;
  only = λ k bytes listed. inl listed;
})
union_with old new (Some sealed) with = with.0

some_state : (o : Option BranchState) → is_some o ≡ true → (state : BranchState) × (o ≡ Some state)
some_state None is = absurd (cc)
some_state (Some state) is = (state, refl)

some_there : {A : Type 0} (o : Option A) → o ≢ None → is_some o ≡ true
some_there None not_none = absurd (not_none refl)
some_there (Some a) not_none = refl

module _ (chunks : ChunksFollow) (segments : SegmentsFollow) (records : RecordsFollow) (graphs : graph.CommitsFollow) (address : List ℕ → List ℕ) where
  lines_later : (old new : List Chunk) (commits : Commits) (lines : List BranchLine) (branches : List Branch) → Extends (chunk_bytes old) (chunk_bytes new)
      → Paired (BranchStands address old commits) lines branches → Paired (BranchStands address new commits) lines branches
  lines_later old new commits [] [] more stand = stand
  lines_later old new commits [] (b ∷ branches) more stand = absurd stand
  lines_later old new commits (x ∷ lines) [] more stand = absurd stand
  lines_later old new commits (x ∷ lines) (b ∷ branches) more stand = (
    record {
      name = stand.0.name;
      form = stand.0.form;
      stands = records.later address (chunk_bytes old) (chunk_bytes new) commits commits x.rec b.state more (λ k known. known) stand.0.stands;
    },
    lines_later old new commits lines branches more stand.1,
  )

  module _ (look : Look) (old new : Parts) (sealed : List Chunk) (commits : Commits) (found : Shared) (stands : StateStands address old found) (looked : HasLooked address look commits old)
      (brings : BringsNoCommit address (all_chunks look.store) sealed) (union : IsUnion old.chunks sealed new.chunks) (single : IsSingle new.chunks) where
    single_sealed : IsSingle sealed
    single_sealed k bytes others one other = single k bytes others (union.right k bytes one) (union.right k others other)

    -- each commit that is found was there
    no_others : (k bytes : List ℕ) → chunk_bytes new.chunks k ≡ Some bytes → is_commit bytes ≡ true → is_known found.commits k ≡ true
    no_others k bytes held is = elim (union.only k bytes (chunks.is_listed new.chunks k bytes held)) [
      | inl l ↦ stands.commits.no_others k bytes (chunks.is_found old.chunks k bytes stands.single l) is
      | inr r ↦ (let known = brings.known k bytes (chunks.is_found sealed k bytes single_sealed r) is in
          stands.commits.no_others k bytes (chunks.is_found old.chunks k bytes stands.single (looked.listed k bytes (chunks.is_listed (all_chunks look.store) k bytes known))) is)
    ]

    still : new.branches ≡ old.branches → new.places ≡ old.places → StateStands address new found
    still branches places =
        let more = chunks.lists_extends old.chunks new.chunks single union.left in
        record {
          branches = subst (λ l. Paired (BranchStands address new.chunks found.commits) l found.branches) (sym branches)
              (lines_later old.chunks new.chunks found.commits old.branches found.branches more stands.branches);
          rise = ap lines_rise branches ∙ stands.rise;
          few = subst (λ n. n ≤ most_branches) (sym (ap length branches)) stands.few;
          places = places ∙ stands.places;
          placed = stands.placed;
          commits = record {
            stand = graphs.later address (chunk_bytes old.chunks) (chunk_bytes new.chunks) found.commits more stands.commits.stand;
            no_others = no_others;
            within = stands.commits.within;
            first = stands.commits.first;
          };
          named = chunks.named_fewer address new.chunks (old.chunks ++ sealed) (segments.union_lists old.chunks sealed new.chunks union)
              (chunks.named_join address old.chunks sealed stands.named brings.named);
          single = single;
        }

pub settles_follow : ChunksFollow → SegmentsFollow → RecordsFollow → StatesFollow → graph.CommitsFollow → SettlesFollow
settles_follow chunks segments records states graphs session statement look change.Nothing sealed old new settled single there = λ address commits found stands looked brings.
    still chunks segments records graphs address look old new (sealed_in sealed) commits found stands looked brings (union_with old.chunks new.chunks sealed settled.chunks) single
    settled.branches settled.places
settles_follow chunks segments records states graphs session statement look (change.Record rec) sealed old new settled single there = λ address commits found planned stands looked changes.
    let at = some_state (state_of found.branches look.branch) (sym (there_same address old found stands look.branch) ∙ some_there (record_at look.branch old.branches) there) in
    states.settled address (all_chunks look.store) (sealed_in sealed) commits old new found look.branch look.rec.head.0 rec at.0 planned looked.there looked.head looked.listed changes stands
    at.1 settled.branches settled.places (union_with old.chunks new.chunks sealed settled.chunks) single
