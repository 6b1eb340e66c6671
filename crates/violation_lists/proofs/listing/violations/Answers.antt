use Rattle.std.proofs.Common.{◌∙◌, sym}
use Rattle.chunk_store.specs.Drafts.{chunks_of}
use Rattle.table_root.specs.Standing.{AreThere}
use Rattle.plain_writes.specs.CheckTexts.{checks}
use Rattle.violation_lists.proofs.ThinLemmas.{quiet_written}
use Rattle.violation_lists.proofs.listing.violations.Goals as goal

pub are_quiet-requires-after_bounds : goal.are_quiet-requires-after_bounds
are_quiet-requires-after_bounds g c κs within =
    let contents = c.requires.0 in
    let at = c.requires.1 in (
      contents,
      record {
        stand = at.stands.tables;
        listed = c.as_slice.ensures.value
            ∙ c.law_of_databases.ensures.same g.D.Digester.address (chunks_of c.args.draft.now.chunks) c.args.database.now.0 contents c.in_ok-entries.entries.items at.stands at.few c.in_ok-entries.ensures;
      },
    )

pub violations_among-requires-after_bounds : goal.violations_among-requires-after_bounds
violations_among-requires-after_bounds g c κs within =
    let contents = c.requires.0 in
    let at = c.requires.1 in (
      contents,
      record {
        stand = at.stands.tables;
        listed = c.as_slice-2.ensures.value
            ∙ c.law_of_databases.ensures.same g.D.Digester.address (chunks_of c.args.draft.now.chunks) c.args.database.now.0 contents c.in_ok-entries.entries.items at.stands at.few c.in_ok-entries.ensures;
      },
      at.stands.is_database,
    )

pub returns-then-quiet : goal.returns-then-quiet
returns-then-quiet g c = λ contents at.
    let there : AreThere g.D.Digester.address (chunks_of c.args.draft.now.chunks) contents c.as_slice.result.now = record {
      stand = at.stands.tables;
      listed = c.as_slice.ensures.value
          ∙ c.law_of_databases.ensures.same g.D.Digester.address (chunks_of c.args.draft.now.chunks) c.args.database.now.0 contents c.in_ok-entries.entries.items at.stands at.few c.in_ok-entries.ensures;
    } in
    c.new.ensures.items ∙ sym (quiet_written checks contents (sym (c.in_ok-quiet.ensures contents there) ∙ c.if-quiet.true))

pub returns : goal.returns
returns g c = λ contents at.
    let there : AreThere g.D.Digester.address (chunks_of c.args.draft.now.chunks) contents c.as_slice-2.result.now = record {
      stand = at.stands.tables;
      listed = c.as_slice-2.ensures.value
          ∙ c.law_of_databases.ensures.same g.D.Digester.address (chunks_of c.args.draft.now.chunks) c.args.database.now.0 contents c.in_ok-entries.entries.items at.stands at.few c.in_ok-entries.ensures;
    } in
    c.violations_among.ensures contents there at.stands.is_database
