use Rattle.std.proofs.Common.{sym, ◌∙◌}
use Rattle.chunk_region.proofs.PageLemmas.{last_taken}
use Rattle.chunk_region.proofs.region.on_last.Goals as goal

pub returns-clause-count : goal.returns-clause-count
returns-clause-count c =
    let page = c.index-pages-used in
    c.len.ensures.count ∙ sym (last_taken c.args.pages.now c.args.used page.result c.if-used-eq0.false c.requires page.is)
