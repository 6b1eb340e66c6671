use Rattle.std.proofs.Common.{◌∙◌}
use Rattle.thread_run.proofs.EndingLemmas.{run_plain, run_printable, run_shown, run_truly, same_run}
use Rattle.thread_run.proofs.running.run_text.Goals as goal

pub returns-clause-plain : goal.returns-clause-plain
returns-clause-plain g c =
    run_plain g.D.Digester.address c.args.epoch c.args.script c.args.ended.db.parts c.args.ended.workers.items c.requires.sound c.requires.ended c.in_ok-replies.replies c.from_vec.result c.in_ok-branches.branches
    c.in_ok-replies.ensures (c.from_vec.ensures ∙ c.in_ok-order.ensures.items ∙ c.moments.ensures) c.in_ok-branches.ensures

pub returns-clause-truly : goal.returns-clause-truly
returns-clause-truly g c =
    run_truly g.D.Digester.address c.args.epoch c.args.script c.args.ended.db.parts c.args.ended.workers.items c.requires.sound c.requires.ended c.in_ok-replies.replies c.from_vec.result c.in_ok-branches.branches
    c.in_ok-replies.ensures (c.from_vec.ensures ∙ c.in_ok-order.ensures.items ∙ c.moments.ensures) c.in_ok-branches.ensures

pub returns-clause-printable : goal.returns-clause-printable
returns-clause-printable g c =
    run_printable g.D.Digester.address c.args.epoch c.args.script c.args.ended.db.parts c.args.ended.workers.items c.requires.sound c.requires.ended c.in_ok-replies.replies c.from_vec.result c.in_ok-branches.branches
    c.in_ok-replies.ensures (c.from_vec.ensures ∙ c.in_ok-order.ensures.items ∙ c.moments.ensures) c.in_ok-branches.ensures

pub returns-clause-shown : goal.returns-clause-shown
returns-clause-shown g c =
    run_shown g.D.Digester.address c.args.epoch c.args.script c.args.ended.db.parts c.args.ended.workers.items c.requires.sound c.requires.ended c.in_ok-replies.replies c.from_vec.result c.in_ok-branches.branches
    c.in_ok-replies.ensures (c.from_vec.ensures ∙ c.in_ok-order.ensures.items ∙ c.moments.ensures) c.in_ok-branches.ensures

pub returns-clause-along : goal.returns-clause-along
returns-clause-along g c = λ over.
    same_run g.D.Digester.address c.args.epoch c.args.script c.args.ended.db.parts c.args.ended.workers.items c.requires.sound over c.in_ok-replies.replies c.from_vec.result c.in_ok-branches.branches
    c.in_ok-replies.ensures (c.from_vec.ensures ∙ c.in_ok-order.ensures.items ∙ c.moments.ensures) c.in_ok-branches.ensures
