use Rattle.std.proofs.Common.{◌∙◌, ap, sym}
use Rattle.chunk_store.specs.Drafts.{chunks_of}
use Rattle.prolly_tree.specs.Walks.{scan_rest}
use Rattle.violation_lists.specs.Seeking.{begins_first}
use Rattle.violation_lists.proofs.PrefixLemmas.{first_told}
use Rattle.violation_lists.proofs.TreeLemmas.{rises}
use Rattle.violation_lists.proofs.entries.begins_any.Goals as goal

pub returns-in-None : goal.returns-in-None
returns-in-None g c = λ rows tree.
    let rise = rises g.D.Digester.address (chunks_of c.args.draft.now.chunks) c.args.root.now.0 rows tree in
    let p = c.args.prefix.now in
    sym (first_told p rows (scan_rest c.in_ok-scan.scan) rise (c.in_ok-scan.ensures rows tree) ∙ ap (begins_first p) c.in-None.ensures.gives.0)

pub returns : goal.returns
returns g c = λ rows tree.
    let rise = rises g.D.Digester.address (chunks_of c.args.draft.now.chunks) c.args.root.now.0 rows tree in
    let p = c.args.prefix.now in
    c.begins.ensures ∙ sym (first_told p rows (scan_rest c.in_ok-scan.scan) rise (c.in_ok-scan.ensures rows tree) ∙ ap (begins_first p) c.in-Some.ensures.gives)
