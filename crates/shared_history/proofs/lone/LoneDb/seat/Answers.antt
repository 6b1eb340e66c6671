use Rattle.std.proofs.Common.{refl}
use Rattle.shared_history.proofs.lone.LoneDb.seat.Goals as goal

pub returns-clause-ready : goal.returns-clause-ready
returns-clause-ready g c = λ first at. record {
  opened = at.opened;
  log = at.log;
  fits = at.fits;
  small = c.ranges.statement.fits;
  session = refl;
}

pub returns-clause-tells : goal.returns-clause-tells
returns-clause-tells g c = refl
