use Rattle.std.proofs.Common.{◌≡◌, ◌++◌, [], ◌∷◌, length, ap, arith}
use Rattle.std.proofs.lemmas.List.{length-append}
use Rattle.script_run.proofs.OpenLemmas.{each_all, each_behind}
use Rattle.script_run.proofs.opening.new_speakers.Goals as goal

pub loop-place-preserved : goal.loop-place-preserved
loop-place-preserved g c = record {
  lists = let old : length c.loop-place.speakers.items ≡ c.loop-place.place = c.loop-place.invariant.lists in
      let new : length c.push.new.self.items ≡ length (c.loop-place.speakers.items ++ c.in_ok-new_speaker.field-0 ∷ []) = ap length c.in_ok-push.ensures.items in
      omega (arith, length-append c.loop-place.speakers.items (c.in_ok-new_speaker.field-0 ∷ []));
  each = each_all g.D.Digester.address c.args.names.now c.args.statements.now _ _ c.in_ok-push.ensures.items
      (each_behind g.D.Digester.address c.args.names.now c.args.statements.now c.loop-place.speakers.items c.loop-place.place 0 c.index-names-place.result c.in_ok-new_speaker.field-0
      c.loop-place.invariant.lists c.loop-place.invariant.each c.index-names-place.is c.in_ok-new_speaker.ensures);
}
