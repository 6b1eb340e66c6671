use Rattle.std.proofs.Common.{◌∙◌, refl, ap, arith}
use Rattle.script_run.specs.Following.{is_settled}
use Rattle.script_run.proofs.LeftLemmas.{further_on, still}
use Rattle.script_run.proofs.going.go_on.Goals as goal

pub statements-init : goal.statements-init
statements-init g c = record {
  goes = λ parts shared place runner is. still _ is;
  same = λ settled. refl;
  left = omega arith;
}

pub go_on_once-requires-clause-player : goal.go_on_once-requires-clause-player
go_on_once-requires-clause-player g c κs within =
    let p = c.requires in
    let one = c.statements.invariant.goes p.0 p.1 p.2 p.3 p.4 in
    (p.0, p.1, p.2, one.next, one.is)

pub statements-preserved : goal.statements-preserved
statements-preserved g c = record {
  goes = λ parts shared place runner is.
      further_on c.statements.player _ (c.statements.invariant.goes parts shared place runner is) (λ next there. c.go_on_once.ensures.goes parts shared place next there);
  same = λ settled. let was = c.statements.invariant.same settled in c.go_on_once.ensures.same (ap is_settled was ∙ settled) ∙ was;
  left = omega (arith, c.go_on_once.ensures.left, c.statements.invariant.left);
}

pub returns-clause-goes : goal.returns-clause-goes
returns-clause-goes g c = λ parts shared place runner is.
    further_on c.statements.player _ (c.statements.invariant.goes parts shared place runner is) (λ next there. c.go_on_once.ensures.goes parts shared place next there)
