-- A look that was made before the parts were left shows their state: their chunks in another order stand for the same.
use Rattle.std.proofs.Common.{◌≡◌, refl, sym, ◌∙◌, ap, subst, List, [], ◌∷◌, Option, Some, None, inl, inr}
use Rattle.std.specs.Prelude.{ℕ}
use Rattle.schema_model.specs.PlainCommits.{Commits}
use Rattle.chunk_store.specs.Chunks.{AreNamed, Chunk, Chunks, IsSingle, Listed, Lists, chunk_bytes}
use Rattle.chunk_store.proofs.ChunkLemmas.{found_listed, listed_is}
use Rattle.script_text.specs.declared.outputs.BranchLine.{BranchLine}
use Rattle.plain_sessions.specs.Records.{Branch, Shared}
use Rattle.session_state.specs.Changes.{BranchStands, Paired, Parts, StateStands}
use Rattle.session_state.specs.Commits.{CommitsAreThere}
use Rattle.session_state.specs.Records.{RecordStands}
use Rattle.shared_history.specs.Meeting.{HasSameChunks}

found_in : (chunks others : List Chunk) → Lists chunks others → IsSingle others → (k bytes : List ℕ) → chunk_bytes chunks k ≡ Some bytes → chunk_bytes others k ≡ Some bytes
found_in chunks others lists single k bytes held = listed_is others k bytes single (lists k bytes (found_listed chunks k bytes held))

same_found : (one other : Option (List ℕ)) → ((bytes : List ℕ) → one ≡ Some bytes → other ≡ Some bytes) → ((bytes : List ℕ) → other ≡ Some bytes → one ≡ Some bytes) → one ≡ other
same_found None None there back = refl
same_found None (Some bytes) there back = back bytes refl
same_found (Some bytes) other there back = sym (there bytes refl)

same_bytes : (chunks others : List Chunk) → IsSingle chunks → HasSameChunks chunks others → chunk_bytes chunks ≡ chunk_bytes others
same_bytes chunks others single same = λ i k.
    same_found (chunk_bytes chunks k) (chunk_bytes others k) (found_in chunks others same.left same.single k) (found_in others chunks same.right single k) i

listed_named : (address : List ℕ → List ℕ) (chunks : List Chunk) (k bytes : List ℕ) → AreNamed address chunks → Listed chunks k bytes → address bytes ≡ k
listed_named address [] k bytes named none = absurd none
listed_named address (c ∷ chunks) k bytes named (inl here) = ap address (sym here.1) ∙ named.0 ∙ here.0
listed_named address (c ∷ chunks) k bytes named (inr later) = listed_named address chunks k bytes named.1 later

named_in : (address : List ℕ → List ℕ) (chunks others : List Chunk) → Lists others chunks → AreNamed address chunks → AreNamed address others
named_in address chunks [] lists named = tt
named_in address chunks (c ∷ others) lists named =
    (listed_named address chunks c.0 c.1 named (lists c.0 c.1 (inl (refl, refl))), named_in address chunks others (λ k bytes listed. lists k bytes (inr listed)) named)

module _ (address : List ℕ → List ℕ) (chunks others : List Chunk) (commits : Commits) (same : chunk_bytes chunks ≡ chunk_bytes others) where
  branches_in : (lines : List BranchLine) (branches : List Branch) → Paired (BranchStands address chunks commits) lines branches → Paired (BranchStands address others commits) lines branches
  branches_in [] [] stand = tt
  branches_in [] (b ∷ branches) stand = absurd stand
  branches_in (x ∷ lines) [] stand = absurd stand
  branches_in (x ∷ lines) (b ∷ branches) stand = (
    record { name = stand.0.name; form = stand.0.form; stands = subst (λ (held : Chunks). RecordStands address held commits x.rec b.state) same stand.0.stands },
    branches_in lines branches stand.1,
  )

-- with the same chunks, in whatever order, the parts stand for the same state
pub state_shown : (address : List ℕ → List ℕ) (left : Parts) (others : List Chunk) (shared : Shared) → HasSameChunks left.chunks others → StateStands address left shared
    → StateStands address (record left { chunks = others }) shared
state_shown address left others shared same stands =
    let bytes : chunk_bytes left.chunks ≡ chunk_bytes others = same_bytes left.chunks others stands.single same in
    record {
      branches = branches_in address left.chunks others shared.commits bytes left.branches shared.branches stands.branches;
      rise = stands.rise;
      few = stands.few;
      places = stands.places;
      placed = stands.placed;
      commits = subst (λ (held : Chunks). CommitsAreThere address held shared.commits) bytes stands.commits;
      named = named_in address left.chunks others same.right stands.named;
      single = same.single;
    }
