-- A store to which segments are appended has few, while memory is found to join them.
use Rattle.std.proofs.Common.{◌≡◌, ◌∙◌, Bool, true, false, List, [], ◌∷◌, Option, None, Some, ap, sym, subst, arith}
use Rattle.std.proofs.lemmas.List.{length-append}
use Rattle.chunk_store.specs.Chunks.{Chunk}
use Rattle.chunk_store.specs.Stores.{AreFew, with_segment}
use Rattle.shared_db.specs.Shared.{AreAppended}

-- a store that has few segments still has few, where one came in and the last were joined, or none came in
pub still_few : (sealed : Option (List Chunk)) (was_tidy is_tidy : Bool) (old new : List (List Chunk)) → AreAppended sealed was_tidy old is_tidy new → (was_tidy ≡ true → AreFew old)
    → is_tidy ≡ true → AreFew new
still_few None was_tidy is_tidy old new appended few is = subst (λ (segments : List (List Chunk)). AreFew segments) (sym appended.0) (few (sym appended.1 ∙ is))
still_few (Some sealed) was_tidy true old new appended few is = appended.1
still_few (Some sealed) was_tidy false old new appended few is = absurd (cc)

-- one segment, or none
one_few : (sealed : List Chunk) → AreFew (with_segment sealed [])
one_few [] some = absurd (omega arith)
one_few (c ∷ sealed) some =
    let longer = length-append (c ∷ sealed) [] in
    omega arith

pub first_few : (sealed : List Chunk) (before after : List (List Chunk)) → before ≡ [] → after ≡ with_segment sealed before → AreFew after
first_few sealed before after none is = subst (λ (l : List (List Chunk)). AreFew l) (sym (is ∙ ap (λ (l : List (List Chunk)). with_segment sealed l) none)) (one_few sealed)
