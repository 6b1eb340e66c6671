-- The changes of lists of rows, and how a count rises, computed.
use Rattle.std.proofs.Common.{◌≡◌, [], ◌∷◌, refl}
use Rattle.tuple_codec.specs.Nodes.{Item, leaf_item}
use Rattle.tuple_codec.specs.Edits.{added, changed, removed, replaced}
use Rattle.pair_walk.specs.Counts.{counted}

abbrev one : Item
one = leaf_item (1 ∷ []) (7 ∷ [])

abbrev one_again : Item
one_again = leaf_item (1 ∷ []) (8 ∷ [])

abbrev two : Item
two = leaf_item (2 ∷ []) (7 ∷ [])

a_value : changed (one ∷ two ∷ []) (one_again ∷ two ∷ []) ≡ replaced one one_again ∷ []
a_value = refl

a_key_each : changed (one ∷ []) (two ∷ []) ≡ removed one ∷ added two ∷ []
a_key_each = refl

from_none : changed [] (one ∷ two ∷ []) ≡ added one ∷ added two ∷ []
from_none = refl

stays : counted 18446744073709551614 3 ≡ 18446744073709551615
stays = refl
