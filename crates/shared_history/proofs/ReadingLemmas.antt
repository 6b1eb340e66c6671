-- Parts are read back from their spelling.
use Rattle.std.proofs.Common.{◌≡◌, refl, sym, ◌∙◌, ap, ℕ, ◌*◌, List, [], ◌∷◌, ◌++◌, length, map, take, drop, Option, Some, None, arith}
use Rattle.std.proofs.lemmas.List.{length-map}
use Rattle.chunk_store.specs.Chunks.{Chunk}
use Rattle.script_text.specs.declared.outputs.BranchLine.{BranchLine}
use Rattle.script_text.specs.declared.scripts.Moment.{Moment}
use Rattle.session_state.specs.Changes.{Parts}
use Rattle.shared_history.specs.Spelling.{spelled_branches, spelled_chunks, spelled_merging, spelled_moment, spelling_of}
use Rattle.tuple_codec.specs.declared.addresses.Address.{Address}
use Rattle.shared_history.specs.Reading.{branches_from, chunks_from, merging_from, moment_from, parts_of}

branches_length : (lines : List BranchLine) → length (spelled_branches lines) ≡ 5 * length lines
branches_length [] = refl
branches_length (line ∷ lines) = let more : length (spelled_branches lines) ≡ 5 * length lines = branches_length lines in omega (arith, more)

front : {X : Type 0} (n : ℕ) (xs ys : List X) → n ≡ length xs → take n (xs ++ ys) ≡ xs
front n xs ys is = ap (λ k. take k (xs ++ ys)) is ∙ at xs where
  at : (zs : List _) → take (length zs) (zs ++ ys) ≡ zs
  at [] = refl
  at (z ∷ zs) = ap (λ l. z ∷ l) (at zs)

behind : {X : Type 0} (n : ℕ) (xs ys : List X) → n ≡ length xs → drop n (xs ++ ys) ≡ ys
behind n xs ys is = ap (λ k. drop k (xs ++ ys)) is ∙ at xs where
  at : (zs : List _) → drop (length zs) (zs ++ ys) ≡ ys
  at [] = refl
  at (z ∷ zs) = at zs

merging_back : (merging : Option Address) → merging_from (spelled_merging merging) ≡ merging
merging_back None = refl
merging_back (Some address) = refl

branches_back : (lines : List BranchLine) (ws : List (List ℕ)) → branches_from (length lines) (spelled_branches lines ++ ws) ≡ lines
branches_back [] ws = refl
branches_back (line ∷ lines) ws = λ i. record { name = line.name; rec = record { head = line.rec.head; working = line.rec.working; staged = line.rec.staged; merging = merging_back line.rec.merging i } } ∷ branches_back lines ws i

moments_back : (moments : List Moment) → map moment_from (map spelled_moment moments) ≡ moments
moments_back [] = refl
moments_back (moment ∷ moments) = ap (λ l. moment ∷ l) (moments_back moments)

chunks_back : (chunks : List Chunk) → chunks_from (length chunks) (spelled_chunks chunks) ≡ chunks
chunks_back [] = refl
chunks_back (chunk ∷ chunks) = ap (λ l. chunk ∷ l) (chunks_back chunks)

pub read_back : (p : Parts) → parts_of (spelling_of p) ≡ p
unfolding parts_of
read_back p =
    let places : List (List ℕ) = p.places ++ (map spelled_moment p.moments ++ spelled_chunks p.chunks) in
    let first : drop (5 * length p.branches) (spelled_branches p.branches ++ places) ≡ places = behind (5 * length p.branches) (spelled_branches p.branches) places (sym (branches_length p.branches)) in
    let second : drop (length p.places) places ≡ map spelled_moment p.moments ++ spelled_chunks p.chunks = behind (length p.places) p.places _ refl in
    let rest : drop (length p.places) (drop (5 * length p.branches) (spelled_branches p.branches ++ places)) ≡ map spelled_moment p.moments ++ spelled_chunks p.chunks = ap (drop (length p.places)) first ∙ second in
    (λ i. record {
      branches = branches_back p.branches places i;
      places = (ap (take (length p.places)) first ∙ front (length p.places) p.places _ refl) i;
      numbers = p.numbers;
      moments = (ap (λ l. map moment_from (take (length p.moments) l)) rest ∙ ap (map moment_from) (front (length p.moments) (map spelled_moment p.moments) _ (sym (length-map p.moments spelled_moment))) ∙ moments_back p.moments) i;
      chunks = (ap (λ l. chunks_from (length p.chunks) (drop (length p.moments) l)) rest ∙ ap (chunks_from (length p.chunks)) (behind (length p.moments) (map spelled_moment p.moments) _ (sym (length-map p.moments spelled_moment)))
          ∙ chunks_back p.chunks) i;
    })
