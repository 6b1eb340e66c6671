use Rattle.std.proofs.Common.{◌<◌, length, arith}
use Rattle.std.proofs.lemmas.Option.{slice_get_within}
use Rattle.run_laws.specs.Orders.{asked_order}
use Rattle.script_run.proofs.following.follow_items.Goals as goal

pub returns-clause-stopped : goal.returns-clause-stopped
returns-clause-stopped g c moment there =
    let within = slice_get_within (asked_order c.args.script.now) _ moment there in
    absurd (omega (arith, within, c.items_in-items.ensures.lists))

pub returns-then-not-follow_item-clause-stopped : goal.returns-then-not-follow_item-clause-stopped
returns-then-not-follow_item-clause-stopped g c = c.follow_item.ensures.past c.if-not-follow_item.true
