use Rattle.std.proofs.Common.{arith, ◌∙◌, ap}
use Rattle.tuple_codec.proofs.Lists.{all_mapped as all_done}
use Rattle.table_root.specs.Heads.{heads_rise}
use Rattle.shared_db.specs.Members.{branch_head, lines_of}
use Rattle.shared_db.proofs.LineLemmas.{heads_are, heads_rise_so}
use Rattle.shared_db.proofs.branches.heads_of.Goals as goal

pub from_list-requires : goal.from_list-requires
from_list-requires c =
    let all = all_done branch_head c.loop-branch.heads.items c.args.branches.now c.loop-branch.branch-index (omega arith) c.loop-branch.invariant in
    ap heads_rise (all ∙ heads_are c.args.branches.now) ∙ heads_rise_so (lines_of c.args.branches.now) ∙ c.requires

pub returns : goal.returns
returns c =
    let all = all_done branch_head c.loop-branch.heads.items c.args.branches.now c.loop-branch.branch-index (omega arith) c.loop-branch.invariant in
    c.from_list.ensures ∙ all ∙ heads_are c.args.branches.now
