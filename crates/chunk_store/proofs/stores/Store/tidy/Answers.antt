use Rattle.std.proofs.Common.{◌≡◌, ◌<◌, ◌≤◌, List, [], ◌∷◌, ◌++◌, length, take, drop, ap, sym, subst, ◌∙◌, arith}
use Rattle.chunk_store.specs.Building.{gather}
use Rattle.chunk_store.specs.Chunks.{Chunk, IsSingle, Lists}
use Rattle.chunk_store.specs.Stores.{AreFew, AreSome, Stored, joined, tidied}
use Rattle.chunk_store.proofs.ChunkLemmas.{single_fewer}
use Rattle.chunk_store.proofs.JoinLemmas.{replaced, tidied_keeps, tidied_only, tidied_some}
use Rattle.chunk_store.proofs.TidyLemmas.{tidied_few, tidied_is, tidied_none}
use Rattle.chunk_store.proofs.stores.Store.tidy.Goals as goal

-- the segments behind the last push, as lists
is_pushed : (c : goal.After-push_reserved) → c.push_reserved.new.self.items
    ≡ take c.joined_from-from.result c.args.self.now.segments ++ gather [] (joined (drop c.joined_from-from.result c.args.self.now.segments)) ∷ []
is_pushed c =
    let from = c.joined_from-from.result in
    let segments = c.args.self.now.segments in
    replaced c.self.inside.segments.items c.push_reserved.new.self.items segments c.new.result (gather [] (joined (drop from segments))) from
    (c.push_reserved.ensures.items ∙ ap (λ l. l ++ c.new.result ∷ []) c.truncate.ensures.items)
    (ap (λ (s : Stored). s.segments) c.self.view_is) (c.new.ensures ∙ c.in_ok-whole.ensures)

is_below : (c : goal.After-push_reserved) → c.joined_from-from.result < length c.args.self.now.segments
is_below c =
    let count = ap (λ (s : Stored). length s.segments) c.self.view_is in
    let test = c.if-from-len.true in
    let len = c.len.ensures.value in
    omega arith

pub invariant_of-self : goal.invariant_of-self
invariant_of-self c =
    let from = c.joined_from-from.result in
    let segments = c.args.self.now.segments in
    let P : List (List Chunk) → Type 0 = λ l. IsSingle (joined l) × AreSome l in
    let invariant = subst P (ap (λ (s : Stored). s.segments) c.self.view_is) c.self.invariant in
    subst P (sym (is_pushed c)) (
      single_fewer (joined (take from segments ++ gather [] (joined (drop from segments)) ∷ [])) (joined segments) (tidied_only from segments) invariant.0,
      tidied_some from segments invariant.1 (is_below c),
    )

pub returns-in_ok-whole-clause-keeps : goal.returns-in_ok-whole-clause-keeps
returns-in_ok-whole-clause-keeps c =
    let segments = c.args.self.now.segments in
    let single : IsSingle (joined segments) = subst (λ (l : List (List Chunk)). IsSingle (joined l)) (ap (λ (s : Stored). s.segments) c.self.view_is) c.self.invariant.0 in
    subst (λ (l : List (List Chunk)). Lists (joined segments) (joined l)) (sym (is_pushed c)) (tidied_keeps c.joined_from-from.result segments single)

pub returns-in_ok-whole-clause-adds_none : goal.returns-in_ok-whole-clause-adds_none
returns-in_ok-whole-clause-adds_none c =
    let segments = c.args.self.now.segments in
    subst (λ (l : List (List Chunk)). Lists (joined l) (joined segments)) (sym (is_pushed c)) (tidied_only c.joined_from-from.result segments)

pub returns-in_ok-whole-clause-joined : goal.returns-in_ok-whole-clause-joined
returns-in_ok-whole-clause-joined c = is_pushed c ∙ tidied_is c.joined_from-from.result c.args.self.now.segments c.joined_from-from.ensures.from (is_below c)

pub returns-in_ok-whole-clause-few : goal.returns-in_ok-whole-clause-few
returns-in_ok-whole-clause-few c =
    let some : AreSome c.args.self.now.segments = subst (λ (l : List (List Chunk)). AreSome l) (ap (λ (s : Stored). s.segments) c.self.view_is) c.self.invariant.1 in
    subst (λ (l : List (List Chunk)). AreFew l) (sym (returns-in_ok-whole-clause-joined c)) (tidied_few c.args.self.now.segments some)

pub returns-else-from-len-clause-joined : goal.returns-else-from-len-clause-joined
returns-else-from-len-clause-joined c =
    let segments = c.args.self.now.segments in
    let seen = ap (λ (s : Stored). s.segments) c.self.view_is in
    let count = ap (λ (s : Stored). length s.segments) c.self.view_is in
    let test = c.if-from-len.false in
    let len = c.len.ensures.value in
    let most : length segments ≤ c.joined_from-from.result = omega arith in
    let all = tidied_none c.joined_from-from.result segments c.joined_from-from.ensures.from most in
    cc

pub returns-else-from-len-clause-few : goal.returns-else-from-len-clause-few
returns-else-from-len-clause-few c =
    let some : AreSome c.args.self.now.segments = subst (λ (l : List (List Chunk)). AreSome l) (ap (λ (s : Stored). s.segments) c.self.view_is) c.self.invariant.1 in
    subst (λ (l : List (List Chunk)). AreFew l) (sym (returns-else-from-len-clause-joined c)) (tidied_few c.args.self.now.segments some)
