use Rattle.std.proofs.Common.{◌∙◌, ◌<◌, ℤ, refl, subst, w64}
use Rattle.std.proofs.lemmas.Int.{to_z-of_z}
use Rattle.script_run.specs.Following.{HasFollowed}
use Rattle.script_run.proofs.FollowLemmas.{cant_now, followed, found_there, went_on}
use Rattle.script_run.proofs.LineLemmas.{found_at}
use Rattle.script_run.proofs.following.follow_at.Goals as goal

pub follow-requires-clause-player : goal.follow-requires-clause-player
follow-requires-clause-player g c κs within =
    let player = c.index_mut-player.result.now in
    let players = c.args.playing.now.players.items in
    let found = found_at players players c.args.place player refl c.requires.there c.index_mut-player.ensures.value in
    let now = c.requires.playing in
    let one = found_there g.D.Digester.address c.args.epoch now.0 now.1 c.args.playing.now c.args.place player now.2 found in
    (now.2.shared, c.args.place, one.runner, one.is, now.2.room c.args.place player found)

pub follow-requires-clause-rest : goal.follow-requires-clause-rest
follow-requires-clause-rest g c κs within = c.requires.playing.2.rest

pub returns-clause-made : goal.returns-clause-made
returns-clause-made g c made script moments now =
    let player = c.index_mut-player.result.now in
    let players = c.args.playing.now.players.items in
    let found = found_at players players c.args.place player refl c.requires.there c.index_mut-player.ensures.value in
    let below = subst (λ n. c.args.place < n) (now.players.lists ∙ now.all) c.requires.there in
    followed g.D.Digester.address c.args.epoch script moments c.args.playing.now c.args.place player now found _ c.follow.new.player c.args.statement c.law_of_orders.ensures below c.ranges.statement.fits
    (λ runner is. subst (λ (e : ℤ). HasFollowed g.D.Digester.address e c.args.place c.args.statement runner now.shared c.args.playing.now.lone.db.parts c.follow.new.lone.db.parts c.follow.new.player)
    (to_z-of_z w64 c.args.epoch c.ranges.epoch) (c.follow.ensures.made made now.shared c.args.place runner is))
    refl c.follow.ensures.rest (c.follow.ensures.one_less made)

pub returns-clause-missed : goal.returns-clause-missed
returns-clause-missed g c missed script moments now =
    let player = c.index_mut-player.result.now in
    let players = c.args.playing.now.players.items in
    let found = found_at players players c.args.place player refl c.requires.there c.index_mut-player.ensures.value in
    went_on g.D.Digester.address c.args.epoch script moments c.args.playing.now c.args.place player now found _ c.follow.new.player c.law_of_orders.ensures
    (λ runner is. c.follow.ensures.missed missed now.shared c.args.place runner is) refl (c.follow.ensures.same missed) c.follow.ensures.rest c.follow.ensures.left

pub returns-clause-past : goal.returns-clause-past
returns-clause-past g c missed =
    let player = c.index_mut-player.result.now in
    let players = c.args.playing.now.players.items in
    let found = found_at players players c.args.place player refl c.requires.there c.index_mut-player.ensures.value in
    cant_now players c.args.place c.args.statement player c.follow.new.player found c.follow.ensures.settled (c.follow.ensures.past missed)
