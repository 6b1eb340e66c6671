use Rattle.std.proofs.Common.{◌≡◌, sym, subst, ℕ, ℤ, List, [], length, map, ◌*◌, ◌≤◌, w64}
use Rattle.std.specs.Prelude.{sum}
use Rattle.std.proofs.lemmas.Int.{to_z-of_z}
use Rattle.std.proofs.lemmas.List.{length-map}
use Rattle.plain_sessions.specs.Records.{opening}
use Rattle.session_state.specs.Changes.{StateStands}
use Rattle.shared_history.proofs.FittingLemmas.{fits_first}
use Rattle.shared_history.proofs.gated.GatedDb.open.Goals as goal

pub returns-clause-opening : goal.returns-clause-opening
returns-clause-opening g c =
    subst (λ (epoch : ℤ). (names : List (List ℕ)) → length names ≡ length c.args.statements.now → StateStands g.D.Digester.address c.in_ok-db.db.parts (opening g.D.Digester.address epoch names))
    (to_z-of_z w64 c.args.epoch c.ranges.epoch) c.in_ok-db.ensures.opening

-- any names do
pub returns-clause-fits : goal.returns-clause-fits
returns-clause-fits g c =
    let names : List (List ℕ) = map (λ (number : ℕ). []) c.args.statements.now in
    let lengths : length names ≡ length c.args.statements.now = length-map c.args.statements.now (λ (number : ℕ). []) in
    let numbers : c.args.statements.now ≡ c.in_ok-db.db.parts.numbers = sym c.in_ok-db.ensures.numbers in
    fits_first g.D.Digester.address c.in_ok-db.db _ (c.in_ok-db.ensures.opening names lengths) c.in_ok-db.ensures.moments
    (subst (λ ns. 2 * sum ns ≤ c.in_ok-db.db.moments_room) numbers c.in_ok-db.ensures.room.0)
    (subst (λ ns. 2 * sum ns ≤ c.in_ok-db.db.segments_room) numbers c.in_ok-db.ensures.room.1)
