use Rattle.std.proofs.Common.{ℕ, List, [], ◌++◌, ap, sym, ◌∙◌, subst}
use Rattle.tuple_codec.specs.KeyBytes.{key_bytes}
use Rattle.tuple_codec.specs.Spellings.{Decodes}
use Rattle.table_root.proofs.items.read_key.Goals as goal

pub returns : goal.returns
returns c = λ cells fit same.
    let read = subst (Decodes key_bytes c.args.types.now c.args.bytes.now) c.in-Some.is c.in_ok-cells.ensures in
    (c.keys_are_one_spelling.ensures c.args.types.now c.in-Some.cells cells [] [] c.requires.types read.0 fit (ap (λ (l : List ℕ). l ++ []) (read.1 ∙ sym same))).0
