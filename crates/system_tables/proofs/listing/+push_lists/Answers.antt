use Rattle.chunk_store.specs.Drafts.{chunks_of}
use Rattle.violation_lists.proofs.StandLemmas.{parts_of}
use Rattle.system_tables.proofs.SourceLemmas.{list_more}
use Rattle.system_tables.proofs.listing.+push_lists.Goals as goal

pub push_list-requires-after_bounds : goal.push_list-requires-after_bounds
push_list-requires-after_bounds g t c κs within =
    let parts = parts_of g.D.Digester.address (chunks_of c.args.draft.now.chunks) c.requires.0 c.args.tables.now c.first-item.result c.requires.1 c.first-item.is c.in-len1-up.len_at_least in
    let named = parts.named in
    (named.table, parts.at)

pub push_lists-requires-after_bounds : goal.push_lists-requires-after_bounds
push_lists-requires-after_bounds g t c κs within =
    let parts = parts_of g.D.Digester.address (chunks_of c.args.draft.now.chunks) c.requires.0 c.args.tables.now c.first-item.result c.requires.1 c.first-item.is c.in-len1-up.len_at_least in
    (parts.others, parts.there)

pub returns-in_ok-push_lists : goal.returns-in_ok-push_lists
returns-in_ok-push_lists g t c = λ database there.
    let parts = parts_of g.D.Digester.address (chunks_of c.args.draft.now.chunks) database c.args.tables.now c.first-item.result there c.first-item.is c.in-len1-up.len_at_least in
    let named = parts.named in
    list_more c.args.from.now c.args.which c.args.sources.now c.push_list.new.sources c.push_lists.new.sources c.first-item.result.name named parts.others database parts.both parts.name
    (c.in_ok-push_list.ensures named.table parts.at) (c.in_ok-push_lists.ensures parts.others parts.there)
