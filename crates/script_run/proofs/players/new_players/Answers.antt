use Rattle.std.proofs.Common.{◌≡◌, ◌++◌, [], ◌∷◌, length, ap, arith}
use Rattle.std.proofs.lemmas.List.{length-append}
use Rattle.script_run.specs.declared.players.Player.{Player}
use Rattle.script_run.specs.declared.players.Stage.TheVariants as stage
use Rattle.script_run.proofs.PlayerLemmas.{each_all, each_behind, player_new}
use Rattle.script_run.proofs.players.new_players.Goals as goal

pub loop-place-preserved : goal.loop-place-preserved
loop-place-preserved g c =
    let player : Player g.row.D.Denot = record { session = c.in_ok-speaker.speaker.session; replies = c.in_ok-speaker.speaker.replies; texts = c.in_ok-texts.texts; stage = stage.Free } in
    record {
      lists = let old : length c.loop-place.players.items ≡ c.loop-place.place = c.loop-place.invariant.lists in
          let new : length c.push.new.self.items ≡ length (c.loop-place.players.items ++ player ∷ []) = ap length c.in_ok-push.ensures.items in
          omega (arith, length-append c.loop-place.players.items (player ∷ []));
      each = each_all g.D.Digester.address c.args.names.now c.args.lines.now c.args.statements.now _ _ c.in_ok-push.ensures.items
          (each_behind g.D.Digester.address c.args.names.now c.args.lines.now c.args.statements.now c.loop-place.players.items c.loop-place.place 0 c.index-names-place.result player
          c.loop-place.invariant.lists c.loop-place.invariant.each c.index-names-place.is
          (player_new g.D.Digester.address c.loop-place.place c.index-names-place.result c.args.lines.now _ c.in_ok-speaker.speaker c.in_ok-texts.texts c.in_ok-speaker.ensures c.in_ok-texts.ensures));
    }
