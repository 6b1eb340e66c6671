use Rattle.std.proofs.Common.{◌≡◌, ◌∙◌, List}
use Rattle.std.proofs.lemmas.Result.{IfOk-weaker}
use Rattle.chunk_store.specs.Drafts.{chunks_of}
use Rattle.schema_merge.specs.KeyByKey.{all_keys}
use Rattle.plain_sessions.specs.Sessions.{own_root}
use Rattle.plain_sessions.specs.SystemTables as plain
use Rattle.tuple_codec.specs.Edits.{order}
use Rattle.tuple_codec.specs.Rows.{Cells}
use Rattle.system_tables.specs.Changes.{all_changed_rows, names_in}
use Rattle.system_tables.proofs.ChangeLemmas.{status_shown}
use Rattle.system_tables.proofs.changes.status_rows.Goals as goal

pub tables_of-requires-after_bounds : goal.tables_of-requires-after_bounds
tables_of-requires-after_bounds g c κs within = let states = c.requires.1 in (own_root c.requires.0, states.head_stands)

pub tables_of-requires-2-after_bounds : goal.tables_of-requires-2-after_bounds
tables_of-requires-2-after_bounds g c κs within = let t = c.requires.0 in let states = c.requires.1 in (t.own.staged, states.staged_stands)

pub tables_of-requires-3-after_bounds : goal.tables_of-requires-3-after_bounds
tables_of-requires-3-after_bounds g c κs within = let t = c.requires.0 in let states = c.requires.1 in (t.own.working, states.working_stands)

pub returns : goal.returns
returns g c = λ t states.
    let head = c.as_slice.result.now in
    let staged = c.as_slice-2.result.now in
    let working = c.as_slice-3.result.now in
    IfOk-weaker c.rows_between.result (λ (rows : List Cells). rows ≡ all_changed_rows head staged working (all_keys order (names_in head) (names_in staged) (names_in working)))
    (λ (rows : List Cells). rows ≡ (plain.status t).rows)
    (λ rows is. status_shown g.D.Digester.address (chunks_of c.args.draft.now.chunks) c.law_of_tables.ensures.tables c.law_of_sameness.ensures.tables t c.args.head.now.0 c.args.staged.now.0 c.args.working.now.0
    states head staged working rows
    (c.as_slice.ensures.value ∙ c.in_ok-head.ensures (own_root t) states.head_stands)
    (c.as_slice-2.ensures.value ∙ c.in_ok-staged.ensures t.own.staged states.staged_stands)
    (c.as_slice-3.ensures.value ∙ c.in_ok-working.ensures t.own.working states.working_stands) is)
    c.rows_between.ensures
