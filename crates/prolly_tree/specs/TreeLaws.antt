-- What follows from the definitions of trees, for proofs above.
use Rattle.std.specs.Prelude.{◌≡◌, ℕ, List, [], ◌++◌}
use Rattle.tuple_codec.specs.Nodes.{Item}
use Rattle.tuple_codec.specs.Trees.{cut}
use Rattle.prolly_tree.specs.Found.{left}

-- where the last item of the first list ends its node, two lists are cut apart as they are cut together
abbrev pub CutsApart : Type 0
CutsApart = (address : List ℕ → List ℕ) (level : ℕ) (items more : List Item) → left address level [] items ≡ []
    → cut address level (items ++ more) ≡ cut address level items ++ cut address level more
