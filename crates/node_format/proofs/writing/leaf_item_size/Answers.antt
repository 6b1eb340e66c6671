use Rattle.std.proofs.Common.{◌<◌, ◌^◌, length, sym, subst}
use Rattle.node_format.proofs.WritingLemmas.{row_short}
use Rattle.node_format.proofs.writing.leaf_item_size.Goals as goal

pub row_size-requires : goal.row_size-requires
row_size-requires c =
    row_short c.as_slice.result.now c.as_slice-2.result.now (subst (λ l. length l < 2 ^ 16) (sym c.as_slice.ensures) c.requires.0)
    (subst (λ l. length l < 2 ^ 16) (sym c.as_slice-2.ensures) c.requires.1)
