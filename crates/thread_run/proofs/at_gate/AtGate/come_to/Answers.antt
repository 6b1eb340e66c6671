use Rattle.thread_run.proofs.at_gate.AtGate.come_to.Goals as goal

pub returns-clause-ready : goal.returns-clause-ready
returns-clause-ready g c = λ first at. record {
  gate = at.gate;
  ready = at.ready;
  own = at.own;
  keeps = at.keeps;
  session = at.session;
  numbered = at.numbered;
  small = c.ranges.statement.fits;
  parts = at.parts;
  spelled = at.spelled;
  shared = at.shared;
  stands = at.stands;
}
