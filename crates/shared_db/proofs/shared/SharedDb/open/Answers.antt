use Rattle.std.proofs.Common.{arith, ◌≡◌, ◌∙◌, ap, sym, ◌*◌, ℕ, ℤ, List, Some, None, sum, subst, w64}
use Rattle.std.proofs.lemmas.Int.{to_z-of_z}
use Rattle.chunk_store.specs.Chunks.{Chunk}
use Rattle.chunk_store.specs.Stores.{Stored, all_chunks, joined}
use Rattle.shared_db.specs.Members.{lines_of, numbers_of, places_of}
use Rattle.shared_db.specs.Opening.{IsOpened}
use Rattle.shared_db.proofs.OpeningLemmas.{opens}
use Rattle.shared_db.proofs.shared.SharedDb.open.Goals as goal

pub returns-clause-opening : goal.returns-clause-opening
returns-clause-opening g c =
    let address = g.D.Digester.address in
    let first = c.in_ok-store.field-0 in
    let made = subst (λ (e : ℤ). IsOpened address e (all_chunks first.store) first.rec) (to_z-of_z w64 c.args.epoch c.ranges.epoch) c.in_ok-store.ensures.opened in
    let store_is = ap (λ (s : Stored). s.segments) c.in_ok-store.store-is in
    let reserved = c.reserve.ensures.same in
    let segments : first.store.segments ≡ c.reserve.new.self.segments = cc in
    let opened = subst (λ (s : List (List Chunk)). IsOpened address c.args.epoch (joined s) first.rec) segments made in
    λ names same. opens address c.args.epoch names c.args.statements.now (record {
      branches = lines_of c.in_ok-main_alone.field-0.items;
      places = places_of c.in_ok-all_on_main.field-0.items;
      numbers = numbers_of c.in_ok-all_on_main.field-0.items;
      moments = c.in_ok-with_capacity.field-0.items;
      chunks = all_chunks c.reserve.new.self;
    }) first.rec c.law_of_states.ensures c.requires c.ranges.epoch opened c.in_ok-main_alone.ensures.lines c.in_ok-all_on_main.ensures.places same

pub returns-clause-room : goal.returns-clause-room
returns-clause-room g c =
    let same = sym c.in-Some.is ∙ c.all_moments.ensures (λ none. let bad = sym none ∙ c.in-Some.is in absurd (cc)) in
    let is : c.in-Some.room ≡ 2 * sum c.args.statements.now = cc in
    (omega (arith, is, c.in_ok-with_capacity.ensures.capacity, c.in_ok-with_capacity.ensures.len), omega (arith, is, c.in_ok-reserve.ensures.room))
