use Rattle.std.proofs.Common.{◌≤◌, ◌∙◌, length, arith}
use Rattle.script_run.proofs.FollowLemmas.{all_settled}
use Rattle.script_run.proofs.following.go_on_all.Goals as goal

pub go_on_at-requires-clause-playing : goal.go_on_at-requires-clause-playing
go_on_at-requires-clause-playing g c κs within =
    let was = c.requires.playing in
    (was.0, was.1, was.2, c.loop-place.invariant.playing was.0 was.1 was.2 was.3)

pub loop-place-preserved : goal.loop-place-preserved
loop-place-preserved g c = record {
  playing = λ epoch script moments was. c.go_on_at.ensures.playing epoch script moments (c.loop-place.invariant.playing epoch script moments was);
  lists = c.go_on_at.ensures.lists ∙ c.loop-place.invariant.lists;
  settled = c.go_on_at.ensures.settled c.loop-place.invariant.settled;
  past = λ moment cant. c.go_on_at.ensures.past moment (c.loop-place.invariant.past moment cant);
}

pub returns-clause-settled : goal.returns-clause-settled
returns-clause-settled g c =
    let ended = c.loop-place-test.false in
    let many : length c.loop-place.playing.players.items ≤ c.loop-place.place = omega (arith, ended, c.len-place-end.ensures, c.loop-place.invariant.lists, c.args.playing.now.players.ok.0) in
    all_settled c.loop-place.playing.players.items c.loop-place.place many c.loop-place.invariant.settled
