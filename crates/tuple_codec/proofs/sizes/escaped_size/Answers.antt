use Rattle.std.proofs.Common.{◌≡◌, ℕ, ◌+◌, length, List, [], ◌∷◌, Bool, true, false, cond, refl, length-append, arith}
use Rattle.std.specs.Prelude.{count_by, ◌==◌, if◌then◌else◌}
use Rattle.std.specs.List.{flat_map}
use Rattle.std.proofs.lemmas.List.Sums.{sum_by-append}
use Rattle.tuple_codec.specs.KeyBytes.{escape}
use Rattle.tuple_codec.proofs.sizes.escaped_size.Goals as goal

one_escaped : (test : Bool) (byte : ℕ) → length (if test then 0 ∷ 255 ∷ [] else byte ∷ []) ≡ 1 + cond test 1 0
one_escaped true byte = refl
one_escaped false byte = refl

all_escaped : (text : List ℕ) → length (flat_map escape text) ≡ length text + count_by (λ byte. byte == 0) text
all_escaped [] = refl
all_escaped (byte ∷ text) =
    let here = one_escaped (byte == 0) byte in
    let rest = all_escaped text in
    let joined : length (flat_map escape (byte ∷ text)) ≡ length (escape byte) + length (flat_map escape text) = length-append (escape byte) (flat_map escape text) in
    let counted : count_by (λ other. other == 0) (byte ∷ text) ≡ 0 + cond (byte == 0) 1 0 + count_by (λ other. other == 0) text = sum_by-append (λ other. cond (other == 0) 1 0) (byte ∷ []) text in
    omega (arith, here, rest, joined, counted)

pub returns : goal.returns
returns c =
    let all = all_escaped c.args.text.now in
    let joined = length-append (flat_map escape c.args.text.now) (0 ∷ 0 ∷ []) in
    omega (arith, all, joined, c.zeros.ensures, c.saturating_add.ensures, c.saturating_add-2.ensures)
