-- What the words of the command line ask for.
use Rattle.std.specs.Prelude.{ℕ, Bool, true, false, if◌then◌else◌, List, [], ◌∷◌, codes, Option, Some, None}
use Rattle.std.specs.Str.{bytes_eq}
use Rattle.plain_machine.specs.declared.words.MomentOrder.{MomentOrder}
use Rattle.plain_machine.specs.declared.words.MomentOrder.TheVariants.{Given, OfLines}

abbrev pub order_named : List ℕ → Option MomentOrder
order_named word = if bytes_eq word (codes "ordered") then Some OfLines else (if bytes_eq word (codes "replay") then Some Given else None)

-- the one word names an order
abbrev pub order_asked : List (List ℕ) → Option MomentOrder
order_asked [] = None
order_asked (word ∷ []) = order_named word
order_asked (word ∷ other ∷ words) = None

-- whether the script gives the order of its moments
abbrev pub is_given : MomentOrder → Bool
is_given OfLines = false
is_given Given = true
