use Rattle.std.proofs.Common.{arith, ◌∙◌, ap}
use Rattle.tuple_codec.proofs.Lists.{all_mapped}
use Rattle.table_root.specs.Heads.{heads_rise}
use Rattle.shared_history.specs.Showing.{head_after}
use Rattle.shared_history.proofs.AheadLemmas.{heads_still_rise}
use Rattle.shared_history.proofs.settling.heads_after.Goals as goal

pub from_list-requires : goal.from_list-requires
from_list-requires c =
    let heads = c.as_slice-heads.result.now in
    let all = all_mapped (head_after c.args.branch.now c.args.change) c.loop-seen.new.items heads c.loop-seen.seen-index (omega arith) c.loop-seen.invariant in
    ap heads_rise all ∙ heads_still_rise c.args.branch.now c.args.change heads ∙ ap heads_rise c.as_slice-heads.ensures.heads ∙ c.as_slice-heads.ensures.rise
