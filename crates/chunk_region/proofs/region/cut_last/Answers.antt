use Rattle.chunk_region.proofs.PageLemmas.{cut_taken_last}
use Rattle.chunk_region.proofs.region.cut_last.Goals as goal

pub returns-clause-pages : goal.returns-clause-pages
returns-clause-pages c =
    cut_taken_last c.args.pages.now.items c.args.used c.args.last c.index_mut-page.result.now c.cut.new.self c.if-used-eq0.false c.requires
    c.index_mut-page.ensures.value c.cut.ensures
