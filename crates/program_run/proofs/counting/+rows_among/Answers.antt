use Rattle.std.proofs.Common.{◌≡◌, ◌∙◌, sym, length}
use Rattle.std.proofs.lemmas.Result.{IfOk-weaker}
use Rattle.chunk_store.specs.Drafts.{chunks_of}
use Rattle.violation_lists.proofs.StandLemmas.{parts_of}
use Rattle.program_run.specs.Loading.{load_rows_in}
use Rattle.program_run.proofs.CountLemmas.{further, here, no_rows}
use Rattle.program_run.proofs.counting.+rows_among.Goals as goal

pub rows_of-requires-after_bounds : goal.rows_of-requires-after_bounds
rows_of-requires-after_bounds g t c κs within =
    let parts = parts_of g.D.Digester.address (chunks_of c.args.draft.now.chunks) c.requires.0 c.args.tables.now c.first-item.result c.requires.1 c.first-item.is c.in-len1-up.len_at_least in
    (parts.named.table, parts.at)

pub rows_among-requires-after_bounds : goal.rows_among-requires-after_bounds
rows_among-requires-after_bounds g t c κs within =
    let parts = parts_of g.D.Digester.address (chunks_of c.args.draft.now.chunks) c.requires.0 c.args.tables.now c.first-item.result c.requires.1 c.first-item.is c.in-len1-up.len_at_least in
    (parts.others, parts.there)

pub returns-in_default : goal.returns-in_default
returns-in_default g t c = λ database there.
    no_rows g.D.Digester.address (chunks_of c.args.draft.now.chunks) database c.args.tables.now there c.in_default.len_below

pub returns-then-load : goal.returns-then-load
returns-then-load g t c = λ database there.
    let parts = parts_of g.D.Digester.address (chunks_of c.args.draft.now.chunks) database c.args.tables.now c.first-item.result there c.first-item.is c.in-len1-up.len_at_least in
    IfOk-weaker c.rows_of.result (λ rows. rows ≡ length parts.named.table.rows) (λ rows. rows ≡ load_rows_in database)
    (λ rows is. here c.first-item.result.name parts.named parts.others database rows parts.both parts.name (sym c.is_load_table-load.ensures ∙ c.if-load.true) is)
    (c.rows_of.ensures parts.named.table parts.at)

pub returns : goal.returns
returns g t c = λ database there.
    let parts = parts_of g.D.Digester.address (chunks_of c.args.draft.now.chunks) database c.args.tables.now c.first-item.result there c.first-item.is c.in-len1-up.len_at_least in
    IfOk-weaker c.rows_among.result (λ rows. rows ≡ load_rows_in parts.others) (λ rows. rows ≡ load_rows_in database)
    (λ rows is. further c.first-item.result.name parts.named parts.others database rows parts.both parts.name (sym c.is_load_table-load.ensures ∙ c.if-load.false) is)
    (c.rows_among.ensures parts.others parts.there)
