-- Pieces that were written one behind another.
use Rattle.std.proofs.Common.{◌≡◌, ◌∙◌, sym, ap, ℕ, List, ◌++◌, append_assoc}

-- what is written behind a piece is written behind what was before it
pub behind : (out before piece more after : List ℕ) → before ≡ out ++ piece → after ≡ before ++ more → after ≡ out ++ (piece ++ more)
behind out before piece more after is then_is = then_is ∙ ap (λ (l : List ℕ). l ++ more) is ∙ append_assoc out piece more

pub both_behind : (out before piece words number after : List ℕ) → before ≡ out ++ piece → after ≡ before ++ (words ++ number) → after ≡ out ++ ((piece ++ words) ++ number)
both_behind out before piece words number after is then_is =
    behind out before piece (words ++ number) after is then_is ∙ ap (λ (l : List ℕ). out ++ l) (sym (append_assoc piece words number))
