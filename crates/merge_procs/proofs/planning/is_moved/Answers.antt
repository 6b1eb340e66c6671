use Rattle.std.proofs.Common.{◌∙◌}
use Rattle.merge_procs.proofs.DecidingLemmas.{is_moved}
use Rattle.merge_procs.proofs.planning.is_moved.Goals as goal

pub returns-in-Some : goal.returns-in-Some
returns-in-Some g c = λ p t shared present d.
    c.ne.ensures ∙ is_moved g.D.Digester.address c.laws.ensures.chunks c.laws.ensures.records c.laws.ensures.commits c.args.session.now c.args.look.now c.in-Some.start c.in-Some.is c.args.work.now c.requires
    p t shared present d
