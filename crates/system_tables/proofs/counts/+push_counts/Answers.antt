use Rattle.chunk_store.specs.Drafts.{chunks_of}
use Rattle.violation_lists.proofs.StandLemmas.{parts_of}
use Rattle.system_tables.proofs.TableLemmas.{count_more}
use Rattle.system_tables.proofs.counts.+push_counts.Goals as goal

pub count_in-requires-after_bounds : goal.count_in-requires-after_bounds
count_in-requires-after_bounds g t c κs within =
    let parts = parts_of g.D.Digester.address (chunks_of c.args.draft.now.chunks) c.requires.0 c.args.tables.now c.first-item.result c.requires.1 c.first-item.is c.in-len1-up.len_at_least in
    let named = parts.named in
    (named.table, parts.at)

pub push_counts-requires-after_bounds : goal.push_counts-requires-after_bounds
push_counts-requires-after_bounds g t c κs within =
    let parts = parts_of g.D.Digester.address (chunks_of c.args.draft.now.chunks) c.requires.0 c.args.tables.now c.first-item.result c.requires.1 c.first-item.is c.in-len1-up.len_at_least in
    (parts.others, parts.there)

pub returns-in_ok-push_counts : goal.returns-in_ok-push_counts
returns-in_ok-push_counts g t c = λ database there.
    let parts = parts_of g.D.Digester.address (chunks_of c.args.draft.now.chunks) database c.args.tables.now c.first-item.result there c.first-item.is c.in-len1-up.len_at_least in
    let named = parts.named in
    count_more c.args.which c.args.rows.now c.push_count.new.rows c.push_counts.new.rows named parts.others database c.first-item.result.name c.in_ok-count.count parts.both parts.name
    (c.in_ok-count.ensures.is named.table parts.at) c.in_ok-push_count.ensures (c.in_ok-push_counts.ensures parts.others parts.there)
