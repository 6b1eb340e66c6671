use Rattle.std.proofs.Common.{◌∙◌, sym, ap, subst}
use Rattle.schema_model.specs.PlainTables as plain
use Rattle.chunk_store.specs.Drafts.{chunks_of}
use Rattle.sql_select.specs.Seeks.{ServesQuery}
use Rattle.sql_select.specs.Sources.{is_read, known_table}
use Rattle.sql_select.proofs.StandLemmas.{parts_of, passed_over, read_first}
use Rattle.sql_select.proofs.reading.+push_tables.Goals as goal
use Rattle.sql_select.proofs.reading.+push_tables.Goals.{then-is_read+in_ok-table_known+in_ok-push, else-is_read}

pub table_known-requires-after_bounds : goal.table_known-requires-after_bounds
table_known-requires-after_bounds g t c κs within =
    let parts = parts_of g.D.Digester.address (chunks_of c.args.draft.now.chunks) c.requires.0 c.args.tables.now c.first-item.result c.requires.1 c.first-item.is c.in-len1-up.len_at_least in
    let named = parts.named in
    (named.table, parts.at)

pub push_tables-requires-after_bounds : goal.push_tables-requires-after_bounds
push_tables-requires-after_bounds g t c κs within =
    let parts = parts_of g.D.Digester.address (chunks_of c.args.draft.now.chunks) c.requires.0 c.args.tables.now c.first-item.result c.requires.1 c.first-item.is c.in-len1-up.len_at_least in
    (parts.others, parts.there)

pub returns-in_ok-push_tables : goal.returns-in_ok-push_tables
returns-in_ok-push_tables g t c = λ database there.
    let parts = parts_of g.D.Digester.address (chunks_of c.args.draft.now.chunks) database c.args.tables.now c.first-item.result there c.first-item.is c.in-len1-up.len_at_least in
    let named = parts.named in
    let more = c.in_ok-push_tables.ensures parts.others parts.there in
    let read = ap (is_read c.args.query.now.from) (c.as_slice.ensures ∙ parts.name) in
    elim c.if-is_read.branch [
      | then-is_read+in_ok-table_known+in_ok-push w ↦
          read_first c.args.query.now (λ (one : plain.NamedTable). is_read c.args.query.now.from one.name) c.args.known.now c.if-is_read.known c.push_tables.new.known w.in_ok-table_known.field-0 named parts.others database parts.both
          (sym (w.if-is_read.ensures ∙ read)) more (w.known-is ∙ w.in_ok-push.ensures.ok)
          (subst (λ n. ServesQuery c.args.query.now (known_table (record { name = n; table = named.table })) w.in_ok-table_known.field-0) parts.name (w.in_ok-table_known.ensures named.table parts.at))
      | else-is_read w ↦
          passed_over c.args.query.now (λ (one : plain.NamedTable). is_read c.args.query.now.from one.name) c.args.known.now c.if-is_read.known c.push_tables.new.known named parts.others database parts.both
          (sym (w.if-is_read.ensures ∙ read)) more w.known-is
    ]
