use Rattle.std.proofs.Common.{arith, ◌∙◌, ap, sym, slice_set}
use Rattle.std.proofs.lemmas.List.Edits.{map_over_more}
use Rattle.tuple_codec.proofs.Lists.{all_written}
use Rattle.shared_db.specs.Members.{lines_of, with_rec}
use Rattle.shared_db.proofs.LineLemmas.{changed_are}
use Rattle.shared_db.proofs.branches.set_record.Goals as goal

pub loop-branch-preserved : goal.loop-branch-preserved
loop-branch-preserved c =
    let change = with_rec c.args.name.now c.args.rec in
    ap (λ b. slice_set c.loop-branch.branches c.loop-branch.branch-index b) (c.with_rec.ensures ∙ ap change (sym c.branch-item.is))
    ∙ map_over_more change c.args.branches.now c.loop-branch.branches c.loop-branch.branch-index c.branch-item.result
    c.loop-branch-test.true c.loop-branch.invariant c.branch-item.is

pub returns : goal.returns
returns c =
    let all = all_written (with_rec c.args.name.now c.args.rec) c.loop-branch.branches c.args.branches.now c.loop-branch.branch-index (omega arith) c.loop-branch.invariant in
    ap lines_of all ∙ changed_are c.args.name.now c.args.rec c.args.branches.now
