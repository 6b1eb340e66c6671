use Rattle.std.proofs.Common.{◌∙◌, ap}
use Rattle.chunk_store.specs.Drafts.{chunks_of}
use Rattle.violation_lists.specs.Scanning.{empty_named, empty_table}
use Rattle.violation_lists.proofs.StandLemmas.{parts_of, read_more}
use Rattle.violation_lists.proofs.reading.+push_schemas.Goals as goal

pub named_schema-requires-after_bounds : goal.named_schema-requires-after_bounds
named_schema-requires-after_bounds g t c κs within =
    let parts = parts_of g.D.Digester.address (chunks_of c.args.draft.now.chunks) c.requires.0 c.args.entries.now c.first-item.result c.requires.1 c.first-item.is c.in-len1-up.len_at_least in
    let named = parts.named in
    (named.table, parts.at)

pub push_schemas-requires-after_bounds : goal.push_schemas-requires-after_bounds
push_schemas-requires-after_bounds g t c κs within =
    let parts = parts_of g.D.Digester.address (chunks_of c.args.draft.now.chunks) c.requires.0 c.args.entries.now c.first-item.result c.requires.1 c.first-item.is c.in-len1-up.len_at_least in
    (parts.others, parts.there)

pub returns-in_ok-push_schemas : goal.returns-in_ok-push_schemas
returns-in_ok-push_schemas g t c = λ database there.
    let parts = parts_of g.D.Digester.address (chunks_of c.args.draft.now.chunks) database c.args.entries.now c.first-item.result there c.first-item.is c.in-len1-up.len_at_least in
    let named = parts.named in
    let seen = c.in_ok-named_schema.ensures named.table parts.at in
    read_more empty_named c.args.tables.now c.push.new.self c.push_schemas.new.tables c.in_ok-named_schema.field-0 named parts.others database parts.both
    (c.in_ok-push_schemas.ensures parts.others parts.there) c.in_ok-push.ensures.ok (seen ∙ ap (λ name. record { name = name; table = empty_table named.table }) parts.name)
