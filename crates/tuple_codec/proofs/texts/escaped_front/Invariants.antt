use Rattle.std.proofs.Common.{◌≡◌, false, drop}
use Rattle.tuple_codec.specs.Fronts.{unescaped, with_front}
use Rattle.tuple_codec.proofs.texts.escaped_front.Given as goal

abbrev pub invariant-loop-at : goal.invariant-loop-at
invariant-loop-at l = unescaped false l.bytes ≡ with_front l.text.items (unescaped l.after_zero (drop l.at l.bytes))
