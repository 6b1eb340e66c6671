-- A segment that ends with the chunks of a store's last segments.
use Rattle.std.proofs.Common.{◌≡◌, inl, inr, ℕ, zero, suc, ◌+◌, ◌≤◌, List, [], ◌∷◌, ◌++◌, take, drop, Some, sym, ap, ◌∙◌, subst, slice_get, bytes_eq, not, Bool, false, arith}
use Rattle.std.proofs.lemmas.List.{append_assoc, take-append-drop}
use Rattle.tuple_codec.proofs.ByteLemmas.{same_bytes}
use Rattle.tuple_codec.proofs.Lists.{drop_at_get as drop_next, take_at_get as take_next}
use Rattle.tuple_codec.proofs.Truths.{not_false}
use Rattle.chunk_store.specs.Chunks.{Agree, Chunk, chunk_bytes, IsSingle, Listed, Lists}
use Rattle.chunk_store.specs.Stores.{IsMatched, drop_held, has_none, is_within, joined}
use Rattle.chunk_store.proofs.ChunkLemmas.{at_join, either_some, found_listed, listed_right}
use Rattle.chunk_store.proofs.FewLemmas.{AreWithin, all_held, all_within}
use Rattle.chunk_store.proofs.JoinLemmas.{push_same, segment_next}

-- ---- how a match is found

pub pair_same : (k j xs ys : List ℕ) → k ≡ j → xs ≡ ys → ◌≡◌ {A = Chunk} (k, xs) (j, ys)
pair_same k j xs ys address bytes = ap (λ (l : List ℕ). (l, xs)) address ∙ ap (λ (l : List ℕ). (j, l)) bytes

pub same_at : (a b : List ℕ) (differ : Bool) → differ ≡ not (bytes_eq a b) → differ ≡ false → a ≡ b
same_at a b differ is none = same_bytes a b (not_false (bytes_eq a b) (sym is ∙ none))

-- one more chunk of two lists is the same
pub same_next : (xs others : List Chunk) (start at : ℕ) (c d : Chunk) → slice_get xs at ≡ Some c → slice_get others (start + at) ≡ Some d → c ≡ d
    → take at xs ++ drop (start + at) others ≡ drop start others → take (at + 1) xs ++ drop (start + (at + 1)) others ≡ drop start others
same_next xs others start at c d here there is before =
    let next : start + (at + 1) ≡ start + at + 1 = omega arith in
    let rest = drop (start + at + 1) others in
    ap (λ n. take (at + 1) xs ++ drop n others) next
    ∙ ap (λ (l : List Chunk). l ++ rest) (take_next xs at c here)
    ∙ append_assoc (take at xs) (c ∷ []) rest
    ∙ ap (λ (e : Chunk). take at xs ++ e ∷ rest) is
    ∙ ap (λ (l : List Chunk). take at xs ++ l) (sym (drop_next others (start + at) d there))
    ∙ before

-- one more segment is matched
pub matched_next : (segment : List Chunk) (segments : List (List Chunk)) (before at own start : ℕ) (s : List Chunk) → before + 1 ≡ at → slice_get segments before ≡ Some s
    → drop start segment ≡ s ++ drop own segment → start ≤ own → IsMatched segment segments own at → IsMatched segment segments start before
matched_next segment segments before at own start s next is same earlier matched =
    let own_within = matched.own_within in
    let from_within = matched.from_within in
    record {
      same = same ∙ ap (λ (l : List Chunk). s ++ l) matched.same ∙ ap joined (sym (segment_next segments before at s next is));
      own_within = omega arith;
      from_within = omega arith;
    }

-- ---- what follows from a match

joined_drop : (n : ℕ) (segments : List (List Chunk)) → Lists (joined (drop n segments)) (joined segments)
joined_drop zero segments k bytes listed = listed
joined_drop (suc n) [] k bytes none = none
joined_drop (suc n) (s ∷ ss) k bytes listed = listed_right s (joined ss) k bytes (joined_drop n ss k bytes listed)

-- a store agrees with its own chunks
pub agree_matched : (segment : List Chunk) (segments : List (List Chunk)) (own from : ℕ) → IsMatched segment segments own from → IsSingle (joined segments)
    → Agree (chunk_bytes (joined segments)) (chunk_bytes (take own segment)) → Agree (chunk_bytes (joined segments)) (chunk_bytes segment)
agree_matched segment segments own from matched single agree k bytes more held found =
    let front = take own segment in
    let rest = drop own segment in
    let at : List Chunk → Type 0 = λ l. chunk_bytes l k ≡ Some more in
    elim (either_some (chunk_bytes front k) (chunk_bytes rest k) more (sym (at_join front rest k) ∙ subst at (sym (take-append-drop own segment)) found)) [
      | inl first ↦ agree k bytes more held first
      | inr later ↦ single k bytes more (found_listed (joined segments) k bytes held)
          (joined_drop from segments k more (found_listed (joined (drop from segments)) k more (subst at matched.same later)))
    ]

drop_all_held : (other : List Chunk) (xs ys : List (List Chunk)) → AreWithin ys other → drop_held other (xs ++ ys) ≡ drop_held other xs
drop_all_held other [] ys all = all_held other ys all
drop_all_held other (x ∷ xs) ys all =
    let same = drop_all_held other xs ys all in
    push_same _ _ (is_within x other) (drop_held other (xs ++ ys)) (drop_held other xs) x (ap has_none same) same

-- the segments that are matched are dropped
pub held_matched : (other : List Chunk) (segments : List (List Chunk)) (own from : ℕ) → IsMatched other segments own from
    → drop_held other (take from segments) ≡ drop_held other segments
held_matched other segments own from matched =
    let lists : Lists (joined (drop from segments)) other = λ k bytes listed.
    subst (λ l. Listed l k bytes) (take-append-drop own other)
    (listed_right (take own other) (drop own other) k bytes (subst (λ l. Listed l k bytes) (sym matched.same) listed)) in
    sym (drop_all_held other (take from segments) (drop from segments) (all_within (drop from segments) other lists))
    ∙ ap (drop_held other) (take-append-drop from segments)
