use Rattle.std.proofs.Common.{◌≡◌, ◌∙◌, sym, ap, length, map}
use Rattle.std.proofs.lemmas.List.{length-map}
use Rattle.run_laws.specs.Orders.{asked_moment, asked_moments, asked_order}
use Rattle.script_run.proofs.following.items_in.Goals as goal

pub returns-in-Some-clause-lists : goal.returns-in-Some-clause-lists
returns-in-Some-clause-lists c =
    let names = c.args.script.now.names in
    let asked : asked_order c.args.script.now ≡ map (asked_moment names) c.as_slice.result.now = ap (asked_moments names) c.in-Some.is ∙ ap (map (asked_moment names)) (sym c.as_slice.ensures) in
    ap length asked ∙ length-map c.as_slice.result.now (asked_moment names)
