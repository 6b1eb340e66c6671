use Rattle.std.proofs.Common.{List, ℕ, sym, subst, ◌∙◌}
use Rattle.chunk_store.specs.Drafts.{chunks_of}
use Rattle.violation_lists.specs.Recording.{CanRecordTable}
use Rattle.violation_lists.proofs.recording.record_named.Goals as goal

pub record_table-requires-after_bounds : goal.record_table-requires-after_bounds
record_table-requires-after_bounds g c κs within = (
  c.requires.0,
  c.requires.1,
  subst (λ (n : List ℕ). CanRecordTable g.D.Digester.address (chunks_of c.args.draft.now.chunks) c.args.entry.now.table.0 n c.args.list.now c.requires.0 c.requires.1)
      (sym c.as_slice-name.ensures) c.requires.2,
)

pub returns-clause-stands : goal.returns-clause-stands
returns-clause-stands g c = λ contents found can. record {
  name = c.in_ok-from_slice.ensures ∙ c.as_slice-name.ensures;
  at = c.in_ok-table.ensures.stands contents found
      (subst (λ (n : List ℕ). CanRecordTable g.D.Digester.address (chunks_of c.args.draft.now.chunks) c.args.entry.now.table.0 n c.args.list.now contents found) (sym c.as_slice-name.ensures) can);
}
