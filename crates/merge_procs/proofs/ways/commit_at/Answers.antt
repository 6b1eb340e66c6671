use Rattle.std.proofs.Common.{map, ◌∙◌, sym}
use Rattle.session_state.specs.Transactions.{head_seen}
use Rattle.merge_procs.proofs.WayNames.{resolved_branch, resolved_commit}
use Rattle.merge_procs.proofs.ways.commit_at.Goals as goal

pub returns-in-Some : goal.returns-in-Some
returns-in-Some g c = λ commits there. resolved_branch (map head_seen c.args.heads.now) commits c.args.name.now c.in-Some.head.0 c.in-Some.ensures

pub returns-in-None : goal.returns-in-None
returns-in-None g c = λ commits there.
    c.commit_named.ensures commits there ∙ sym (resolved_commit (map head_seen c.args.heads.now) commits c.args.name.now c.in-None.ensures)
