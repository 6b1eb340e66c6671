use Rattle.std.proofs.Common.{refl}
use Rattle.std.proofs.lemmas.List.{length-set}
use Rattle.script_run.proofs.FollowLemmas.{cant_still, found_there, settled_next, went_on}
use Rattle.script_run.proofs.LineLemmas.{found_at}
use Rattle.script_run.proofs.following.go_on_at.Goals as goal

pub go_on-requires-after_bounds : goal.go_on-requires-after_bounds
go_on-requires-after_bounds g c κs within =
    let player = c.index_mut-player.result.now in
    let players = c.args.playing.now.players.items in
    let found = found_at players players c.args.place player refl c.requires.there c.index_mut-player.ensures.value in
    let now = c.requires.playing in
    let one = found_there g.D.Digester.address now.0 now.1 now.2 c.args.playing.now c.args.place player now.3 found in
    (c.args.playing.now.lone.db.parts, now.3.shared, c.args.place, one.runner, one.is)

pub returns-clause-playing : goal.returns-clause-playing
returns-clause-playing g c epoch script moments now =
    let player = c.index_mut-player.result.now in
    let players = c.args.playing.now.players.items in
    let found = found_at players players c.args.place player refl c.requires.there c.index_mut-player.ensures.value in
    went_on g.D.Digester.address epoch script moments c.args.playing.now c.args.place player now found _ c.go_on.new.player c.law_of_orders.ensures
    (λ runner is. c.go_on.ensures.goes c.args.playing.now.lone.db.parts now.shared c.args.place runner is) refl refl now.rest c.go_on.ensures.left

pub returns-clause-lists : goal.returns-clause-lists
returns-clause-lists g c = length-set c.args.playing.now.players.items c.args.place c.go_on.new.player

pub returns-clause-settled : goal.returns-clause-settled
returns-clause-settled g c before =
    let player = c.index_mut-player.result.now in
    let players = c.args.playing.now.players.items in
    let found = found_at players players c.args.place player refl c.requires.there c.index_mut-player.ensures.value in
    settled_next players c.args.place player c.go_on.new.player found before c.go_on.ensures.settled

pub returns-clause-past : goal.returns-clause-past
returns-clause-past g c moment cant =
    let player = c.index_mut-player.result.now in
    let players = c.args.playing.now.players.items in
    let found = found_at players players c.args.place player refl c.requires.there c.index_mut-player.ensures.value in
    cant_still players c.args.place player c.go_on.new.player found moment c.go_on.ensures.same cant
