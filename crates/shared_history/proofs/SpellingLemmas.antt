-- Parts are read back from their spelling.
use Rattle.std.proofs.Common.{◌≡◌, refl, sym, ◌∙◌, ap, subst, ℕ, ◌*◌, List, [], ◌∷◌, ◌++◌, length, map, Option, Some, None, arith}
use Rattle.std.proofs.lemmas.List.{length-map}
use Rattle.tuple_codec.specs.declared.addresses.Address.{Address}
use Rattle.tuple_codec.specs.declared.records.BranchRecord.{BranchRecord}
use Rattle.tuple_codec.proofs.FieldLemmas.{address_is as address_one}
use Rattle.chunk_store.specs.Chunks.{Chunk}
use Rattle.script_text.specs.declared.outputs.BranchLine.{BranchLine}
use Rattle.script_text.specs.declared.scripts.Moment.{Moment}
use Rattle.plain_sessions.specs.Records.{Shared}
use Rattle.session_state.specs.Changes.{Parts, StateStands}
use Rattle.session_state.specs.Laws.{StatesFollow}
use Rattle.shared_history.specs.Spelling.{SpellsState, spelled_branches, spelled_chunks, spelled_merging, spelled_moment, spelling_of}

-- two lists that begin with equally many items are the same before and behind these
cut : {X : Type 0} (xs ys us vs : List X) → length xs ≡ length ys → xs ++ us ≡ ys ++ vs → (xs ≡ ys) × (us ≡ vs)
cut [] [] us vs same e = (refl, e)
cut [] (y ∷ ys) us vs same e = absurd (omega (arith, same))
cut (x ∷ xs) [] us vs same e = absurd (omega (arith, same))
cut (x ∷ xs) (y ∷ ys) us vs same e =
    let first : x ≡ y = cc in
    let more : xs ++ us ≡ ys ++ vs = cc in
    let rest = cut xs ys us vs (omega (arith, same)) more in
    (ap (λ z. z ∷ xs) first ∙ ap (λ zs. y ∷ zs) rest.0, rest.1)

branches_length : (lines : List BranchLine) → length (spelled_branches lines) ≡ 5 * length lines
branches_length [] = refl
branches_length (line ∷ lines) = let more : length (spelled_branches lines) ≡ 5 * length lines = branches_length lines in omega (arith, more)

merging_one : (a b : Option Address) → spelled_merging a ≡ spelled_merging b → a ≡ b
merging_one None None e = refl
merging_one None (Some b) e = absurd (cc)
merging_one (Some a) None e = absurd (cc)
merging_one (Some a) (Some b) e = let bytes : a.0 ≡ b.0 = cc in ap (λ (k : Address). Some k) (address_one a b bytes)

record_one : (a b : BranchRecord) → a.head.0 ≡ b.head.0 → a.working.0 ≡ b.working.0 → a.staged.0 ≡ b.staged.0 → spelled_merging a.merging ≡ spelled_merging b.merging → a ≡ b
record_one a b head working staged merging =
    let of : Address → Address → Address → Option Address → BranchRecord = λ h w s m. record { head = h; working = w; staged = s; merging = m } in
    ap (λ k. of k a.working a.staged a.merging) (address_one a.head b.head head)
    ∙ ap (λ k. of b.head k a.staged a.merging) (address_one a.working b.working working)
    ∙ ap (λ k. of b.head b.working k a.merging) (address_one a.staged b.staged staged)
    ∙ ap (λ k. of b.head b.working b.staged k) (merging_one a.merging b.merging merging)

branches_one : (a b : List BranchLine) → spelled_branches a ≡ spelled_branches b → a ≡ b
branches_one [] [] e = refl
branches_one [] (y ∷ b) e = absurd (cc)
branches_one (x ∷ a) [] e = absurd (cc)
branches_one (x ∷ a) (y ∷ b) e =
    let name : x.name ≡ y.name = cc in
    let head : x.rec.head.0 ≡ y.rec.head.0 = cc in
    let working : x.rec.working.0 ≡ y.rec.working.0 = cc in
    let staged : x.rec.staged.0 ≡ y.rec.staged.0 = cc in
    let merging : spelled_merging x.rec.merging ≡ spelled_merging y.rec.merging = cc in
    let more : spelled_branches a ≡ spelled_branches b = cc in
    let of : List ℕ → BranchRecord → BranchLine = λ n r. record { name = n; rec = r } in
    ap (λ n. of n x.rec ∷ a) name
    ∙ ap (λ r. of y.name r ∷ a) (record_one x.rec y.rec head working staged merging)
    ∙ ap (λ lines. y ∷ lines) (branches_one a b more)

moments_one : (a b : List Moment) → map spelled_moment a ≡ map spelled_moment b → a ≡ b
moments_one [] [] e = refl
moments_one [] (y ∷ b) e = absurd (cc)
moments_one (x ∷ a) [] e = absurd (cc)
moments_one (x ∷ a) (y ∷ b) e =
    let session : x.session ≡ y.session = cc in
    let statement : x.statement ≡ y.statement = cc in
    let more : map spelled_moment a ≡ map spelled_moment b = cc in
    let of : ℕ → ℕ → Moment = λ s n. record { session = s; statement = n } in
    ap (λ s. of s x.statement ∷ a) session ∙ ap (λ n. of y.session n ∷ a) statement ∙ ap (λ moments. y ∷ moments) (moments_one a b more)

chunks_one : (a b : List Chunk) → spelled_chunks a ≡ spelled_chunks b → a ≡ b
chunks_one [] [] e = refl
chunks_one [] (y ∷ b) e = absurd (cc)
chunks_one (x ∷ a) [] e = absurd (cc)
chunks_one (x ∷ a) (y ∷ b) e =
    let address : x.0 ≡ y.0 = cc in
    let bytes : x.1 ≡ y.1 = cc in
    let more : spelled_chunks a ≡ spelled_chunks b = cc in
    let of : List ℕ → List ℕ → Chunk = λ k v. (k, v) in
    ap (λ k. of k x.1 ∷ a) address ∙ ap (λ v. of y.0 v ∷ a) bytes ∙ ap (λ chunks. y ∷ chunks) (chunks_one a b more)

parts_one : (a b : Parts) → a.branches ≡ b.branches → a.places ≡ b.places → a.numbers ≡ b.numbers → a.moments ≡ b.moments → a.chunks ≡ b.chunks → a ≡ b
parts_one a b branches places numbers moments chunks =
    let of : List BranchLine → List (List ℕ) → List ℕ → List Moment → List Chunk → Parts
    = λ bs ps ns ms cs. record { branches = bs; places = ps; numbers = ns; moments = ms; chunks = cs } in
    ap (λ bs. of bs a.places a.numbers a.moments a.chunks) branches
    ∙ ap (λ ps. of b.branches ps a.numbers a.moments a.chunks) places
    ∙ ap (λ ns. of b.branches b.places ns a.moments a.chunks) numbers
    ∙ ap (λ ms. of b.branches b.places b.numbers ms a.chunks) moments
    ∙ ap (λ cs. of b.branches b.places b.numbers b.moments cs) chunks

-- two parts of one spelling are the same
pub spelled_one : (a b : Parts) → spelling_of a ≡ spelling_of b → a ≡ b
spelled_one a b e =
    let branches : length a.branches ≡ length b.branches = cc in
    let places : length a.places ≡ length b.places = cc in
    let moments : length a.moments ≡ length b.moments = cc in
    let numbers : a.numbers ≡ b.numbers = cc in
    let behind : spelled_branches a.branches ++ (a.places ++ (map spelled_moment a.moments ++ spelled_chunks a.chunks))
    ≡ spelled_branches b.branches ++ (b.places ++ (map spelled_moment b.moments ++ spelled_chunks b.chunks)) = cc in
    let first = cut (spelled_branches a.branches) (spelled_branches b.branches) _ _ (branches_length a.branches ∙ ap (λ n. 5 * n) branches ∙ sym (branches_length b.branches)) behind in
    let second = cut a.places b.places _ _ places first.1 in
    let third = cut (map spelled_moment a.moments) (map spelled_moment b.moments) _ _ (length-map a.moments spelled_moment ∙ moments ∙ sym (length-map b.moments spelled_moment)) second.1 in
    parts_one a b (branches_one a.branches b.branches first.0) second.0 numbers (moments_one a.moments b.moments third.0) (chunks_one a.chunks b.chunks third.1)

-- and stand for one state
pub spells_one : StatesFollow → (address : List ℕ → List ℕ) (spelling : List (List ℕ)) (s t : Shared) → SpellsState address spelling s → SpellsState address spelling t → s ≡ t
spells_one follow address spelling s t spells others =
    let same : spells.parts ≡ others.parts = spelled_one spells.parts others.parts (spells.spelled ∙ sym others.spelled) in
    follow.one address others.parts s t (subst (λ parts. StateStands address parts s) same spells.stands) others.stands
