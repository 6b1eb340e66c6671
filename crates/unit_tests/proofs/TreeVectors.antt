-- The definitions of `prolly_tree`, computed on two rows.
use Rattle.std.proofs.Common.{◌≡◌, [], ◌∷◌, Some, None, refl}
use Rattle.tuple_codec.specs.Nodes.{leaf_item}
use Rattle.tuple_codec.specs.Edits.{value_at}
use Rattle.prolly_tree.specs.Lists.{from_key}
use Rattle.unit_tests.specs.Samples.{two_rows}

value_there : value_at (100 ∷ []) two_rows ≡ Some (102 ∷ 111 ∷ 117 ∷ 114 ∷ [])
value_there = refl

value_between : value_at (99 ∷ []) two_rows ≡ None
value_between = refl

from_before : from_key [] two_rows ≡ two_rows
from_before = refl

from_there : from_key (98 ∷ []) two_rows ≡ two_rows
from_there = refl

from_between : from_key (99 ∷ []) two_rows ≡ leaf_item (100 ∷ []) (102 ∷ 111 ∷ 117 ∷ 114 ∷ []) ∷ []
from_between = refl

from_past : from_key (101 ∷ []) two_rows ≡ []
from_past = refl
