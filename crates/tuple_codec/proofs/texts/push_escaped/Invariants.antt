use Rattle.std.proofs.Common.{◌≡◌, ◌++◌, drop, length, take}
use Rattle.std.specs.List.{flat_map}
use Rattle.tuple_codec.specs.KeyBytes.{escape}
use Rattle.tuple_codec.proofs.texts.push_escaped.Given as goal

abbrev pub invariant-loop-byte : goal.invariant-loop-byte
invariant-loop-byte l = l.out.items ++ flat_map escape (drop l.byte-index l.text) ≡ l.fn.out.items ++ flat_map escape l.text
    × take (length l.fn.out.items) l.out.items ≡ l.fn.out.items
