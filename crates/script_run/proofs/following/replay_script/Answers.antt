use Rattle.std.proofs.Common.{◌≡◌, ◌∙◌, ◌==◌, true, false, sym, subst, length}
use Rattle.std.specs.List.{list_all}
use Rattle.std.proofs.lemmas.Bool.{and_parts as both}
use Rattle.tuple_codec.proofs.Truths.{not_both}
use Rattle.run_laws.specs.Orders.{asked_order}
use Rattle.script_run.specs.Following.{is_through}
use Rattle.script_run.proofs.ReplayLemmas.{all_followed, as_many_by, as_many_test}
use Rattle.script_run.proofs.following.replay_script.Goals as goal

pub follow_items-followed-requires-clause-opened : goal.follow_items-followed-requires-clause-opened
follow_items-followed-requires-clause-opened g c κs within = c.in_ok-playing.ensures.opened

pub go_on_all-requires-clause-playing : goal.go_on_all-requires-clause-playing
go_on_all-requires-clause-playing g c κs within = (_, c.args.script, _, c.follow_items-followed.ensures.followed)

pub run_text-requires-clause-playing : goal.run_text-requires-clause-playing
run_text-requires-clause-playing g c κs within =
    let order = asked_order c.args.script in
    let whole = both (c.follow_items-followed.result == length order) (list_all is_through c.as_slice.result.now) (sym c.is_whole.ensures ∙ c.if-is_whole.true) in
    all_followed g.D.Digester.address _ c.args.script c.follow_items-followed.result c.go_on_all.new.playing (as_many_by c.follow_items-followed.result (length order) whole.0)
    (c.go_on_all.ensures.playing _ c.args.script _ c.follow_items-followed.ensures.followed)

pub run_text-requires-clause-over : goal.run_text-requires-clause-over
run_text-requires-clause-over g c κs within =
    let order = asked_order c.args.script in
    let whole = both (c.follow_items-followed.result == length order) (list_all is_through c.as_slice.result.now) (sym c.is_whole.ensures ∙ c.if-is_whole.true) in
    subst (λ players. list_all is_through players ≡ true) c.as_slice.ensures.value whole.1

pub stop_text-requires-clause-playing : goal.stop_text-requires-clause-playing
stop_text-requires-clause-playing g c κs within = c.go_on_all.ensures.playing _ c.args.script _ c.follow_items-followed.ensures.followed

pub stop_text-requires-clause-stopped : goal.stop_text-requires-clause-stopped
stop_text-requires-clause-stopped g c κs within moment there = c.go_on_all.ensures.past moment (c.follow_items-followed.ensures.stopped moment there)

pub stop_text-requires-clause-left : goal.stop_text-requires-clause-left
stop_text-requires-clause-left g c κs within same =
    let order = asked_order c.args.script in
    subst (λ players. list_all is_through players ≡ false) c.as_slice.ensures.value
    (not_both (c.follow_items-followed.result == length order) (list_all is_through c.as_slice.result.now) (sym c.is_whole.ensures ∙ c.if-is_whole.false)
    (as_many_test c.follow_items-followed.result (length order) same))
