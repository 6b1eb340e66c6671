use Rattle.std.proofs.Common.{◌∙◌, ◌+◌, ap, None}
use Rattle.session_state.specs.declared.sessions.Position.TheVariants as place
use Rattle.serving.specs.Steps.{after_start}
use Rattle.serving.proofs.ComingLemmas.{went_on}
use Rattle.serving.proofs.ConcludeLemmas.{drops_so}
use Rattle.serving.proofs.concluding.drop_started.Goals as goal

pub returns-clause-drops : goal.returns-clause-drops
returns-clause-drops g c = λ q stands rests.
    drops_so g.D.Digester.address c.args.session.now c.go_on.new.session c.number_of-number.result c.number_of-number.ensures c.go_on.ensures
    c.args.fault c.after_start.result (c.after_start.ensures.reply ∙ ap after_start c.reply_to.ensures.reply) q stands

pub returns-clause-same : goal.returns-clause-same
returns-clause-same g c = went_on (record c.args.session.now { start = None }) c.go_on.new.session (place.Before (c.number_of-number.result + 1)) c.go_on.ensures
