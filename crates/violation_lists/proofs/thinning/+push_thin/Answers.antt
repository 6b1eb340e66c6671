use Rattle.std.proofs.Common.{◌∙◌, ap, map}
use Rattle.chunk_store.specs.Drafts.{chunks_of}
use Rattle.plain_writes.specs.Seen.{named_seen}
use Rattle.violation_lists.specs.Thinned.{thin_named}
use Rattle.violation_lists.proofs.StandLemmas.{parts_of, read_more}
use Rattle.violation_lists.proofs.thinning.+push_thin.Goals as goal

pub thin_read-requires-after_bounds : goal.thin_read-requires-after_bounds
thin_read-requires-after_bounds g t c κs within =
    let parts = parts_of g.D.Digester.address (chunks_of c.args.draft.now.chunks) c.requires.0 c.args.entries.now c.first-item.result c.requires.1 c.first-item.is c.in-len1-up.len_at_least in
    let named = parts.named in
    (named.table, parts.at)

pub push_thin-requires-after_bounds : goal.push_thin-requires-after_bounds
push_thin-requires-after_bounds g t c κs within =
    let parts = parts_of g.D.Digester.address (chunks_of c.args.draft.now.chunks) c.requires.0 c.args.entries.now c.first-item.result c.requires.1 c.first-item.is c.in-len1-up.len_at_least in
    (parts.others, parts.there)

pub returns-in_ok-push_thin : goal.returns-in_ok-push_thin
returns-in_ok-push_thin g t c = λ database there.
    let schemas = map named_seen c.args.schemas.now in
    let parts = parts_of g.D.Digester.address (chunks_of c.args.draft.now.chunks) database c.args.entries.now c.first-item.result there c.first-item.is c.in-len1-up.len_at_least in
    let named = parts.named in
    let seen = c.in_ok-thin_read.ensures named.table parts.at in
    read_more (thin_named schemas) c.args.tables.now c.push.new.self c.push_thin.new.tables c.in_ok-thin_read.field-0 named parts.others database parts.both
    (c.in_ok-push_thin.ensures parts.others parts.there) c.in_ok-push.ensures.ok (seen ∙ ap (λ name. thin_named schemas (record { name = name; table = named.table })) parts.name)
