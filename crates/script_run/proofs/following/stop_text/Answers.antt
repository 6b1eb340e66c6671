use Rattle.std.proofs.Common.{arith, refl}
use Rattle.script_run.proofs.ReplayLemmas.{is_stopped}
use Rattle.script_run.proofs.following.stop_text.Goals as goal

pub returns : goal.returns
returns g c =
    is_stopped g.D.Digester.address c.args.epoch c.args.script c.args.playing c.args.followed _ c.in_ok-replies.replies c.law_of_orders.ensures c.requires.sound
    (let few = c.know_order.ensures in let within = c.requires.within in omega (arith, few, within)) c.requires.playing c.requires.within
    c.requires.settled c.requires.stopped c.requires.left c.in_ok-replies.ensures refl
