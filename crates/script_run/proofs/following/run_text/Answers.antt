use Rattle.std.proofs.Common.{◌∙◌}
use Rattle.script_run.proofs.ReplayLemmas.{is_replayed}
use Rattle.script_run.proofs.following.run_text.Goals as goal

pub returns : goal.returns
returns g c =
    is_replayed g.D.Digester.address c.args.epoch c.args.script c.args.playing c.in_ok-replies.replies c.from_vec.result c.in_ok-branches.branches c.law_of_orders.ensures c.requires.sound
    c.requires.playing c.requires.settled c.requires.over c.in_ok-replies.ensures (c.from_vec.ensures ∙ c.in_ok-order.ensures.items ∙ c.moments.ensures) c.in_ok-branches.ensures
