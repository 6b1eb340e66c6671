use Rattle.std.proofs.Common.{◌≡◌, ◌<◌, ◌^◌, refl, sym, subst, arith, ℕ, ℤ, List, length, w64}
use Rattle.std.proofs.lemmas.Int.{to_z-of_z}
use Rattle.plain_sessions.specs.Records.{opening}
use Rattle.session_state.specs.Changes.{StateStands}
use Rattle.shared_history.specs.declared.notes.Notes.{Notes}
use Rattle.shared_history.proofs.lone.LoneDb.open.Goals as goal

pub returns-clause-opening : goal.returns-clause-opening
returns-clause-opening g c =
    subst (λ (epoch : ℤ). (names : List (List ℕ)) → length names ≡ length c.args.statements.now → StateStands g.D.Digester.address c.in_ok-gated.gated.db.parts (opening g.D.Digester.address epoch names))
    (to_z-of_z w64 c.args.epoch c.ranges.epoch) c.in_ok-gated.ensures.opening

pub returns-clause-moments : goal.returns-clause-moments
returns-clause-moments g c = c.in_ok-gated.ensures.fits.moments

pub returns-clause-ready : goal.returns-clause-ready
returns-clause-ready g c = record {
  opened = _;
  log = _;
  fits = c.in_ok-gated.ensures.fits;
  small = subst (λ (n : Notes). n.statement < 2 ^ 32) (sym c.first_notes.ensures) (omega arith);
  session = refl;
}
