use Rattle.std.proofs.Common.{◌∙◌, arith, sym}
use Rattle.serving.proofs.FillLemmas.{filled_branch, filled_pages, filled_stands}
use Rattle.serving.proofs.filling.start_at.Goals as goal

pub plan_begin-requires-clause-stands : goal.plan_begin-requires-clause-stands
plan_begin-requires-clause-stands g c κs within =
    let (p, stands) = c.requires.stands in (p, filled_stands g.D.Digester.address c.args.session.now c.fill_up.new.session p c.fill_up.ensures stands)

pub plan_begin-requires-clause-look : goal.plan_begin-requires-clause-look
plan_begin-requires-clause-look g c κs within =
    let (shared, look_is, here) = c.requires.look in (shared, look_is, here ∙ sym (filled_branch c.args.session.now c.fill_up.new.session c.fill_up.ensures))

pub returns-clause-started : goal.returns-clause-started
returns-clause-started g c = λ p shared stands look_is.
    c.plan_begin.ensures.started p shared (filled_stands g.D.Digester.address c.args.session.now c.fill_up.new.session p c.fill_up.ensures stands) look_is

pub returns-clause-pages : goal.returns-clause-pages
returns-clause-pages g c = omega (arith, filled_pages c.args.session.now c.fill_up.new.session c.fill_up.ensures, c.plan_begin.ensures.pages)
