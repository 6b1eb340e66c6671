use Rattle.std.proofs.Common.{◌≡◌, ◌∙◌, List, IfOk, sym, subst}
use Rattle.std.specs.Option.{option_copied}
use Rattle.tuple_codec.specs.Rows.{Cells}
use Rattle.chunk_store.specs.Drafts.{chunks_of}
use Rattle.table_merge.specs.Merging.{IsSidePerhaps}
use Rattle.table_merge.specs.Walking.{keyed_rows}
use Rattle.table_merge.proofs.SideLemmas.{read_none, read_there, there}
use Rattle.table_merge.proofs.sides.rows_on_or_none.Goals as goal

pub rows_on-requires-after_bounds : goal.rows_on-requires-after_bounds
rows_on-requires-after_bounds g c κs within =
    let address = g.D.Digester.address in
    let chunks = chunks_of c.args.draft.now.chunks in
    there address chunks c.in-Some.table.now c.requires.0 (subst (λ t. IsSidePerhaps address chunks (option_copied t) c.requires.0) c.in-Some.is c.requires.1)

pub returns-in-Some : goal.returns-in-Some
returns-in-Some g c = λ contents side.
    let address = g.D.Digester.address in
    let chunks = chunks_of c.args.draft.now.chunks in
    read_there address chunks (λ (l : List Cells). IfOk c.rows_on.result (λ rows. rows.items ≡ keyed_rows c.args.schema.now l)) c.in-Some.table.now c.args.schema.now c.rows_on.ensures contents
    (subst (λ t. IsSidePerhaps address chunks (option_copied t) contents) c.in-Some.is side)

pub returns-in-None : goal.returns-in-None
returns-in-None g c = λ contents side.
    let address = g.D.Digester.address in
    let chunks = chunks_of c.args.draft.now.chunks in
    c.new.ensures.items ∙ sym (read_none address chunks c.args.schema.now contents (subst (λ t. IsSidePerhaps address chunks (option_copied t) contents) c.in-None.is side))
