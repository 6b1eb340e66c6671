use Rattle.chunk_store.specs.Stores.{all_chunks}
use Rattle.program_run.proofs.CountLemmas.{kept_in_draft}
use Rattle.program_run.proofs.counting.rows_seen.Goals as goal

pub rows_at-requires-after_bounds : goal.rows_at-requires-after_bounds
rows_at-requires-after_bounds g c κs within =
    (c.requires.0, kept_in_draft g.D.Digester.address c.new-draft.result.chunks (all_chunks c.args.look.store) c.args.look.rec.working.0 c.requires.0 c.new-draft.ensures.chunks c.requires.1)

pub returns : goal.returns
returns g c = λ contents kept.
    c.rows_at.ensures contents (kept_in_draft g.D.Digester.address c.new-draft.result.chunks (all_chunks c.args.look.store) c.args.look.rec.working.0 contents c.new-draft.ensures.chunks kept)
