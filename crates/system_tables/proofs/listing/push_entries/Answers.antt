use Rattle.std.proofs.Common.{◌∙◌, refl, sym}
use Rattle.system_tables.proofs.SessionLemmas.{working_kept}
use Rattle.system_tables.proofs.SourceLemmas.{none_added}
use Rattle.system_tables.proofs.listing.push_entries.Goals as goal

pub tables_of-requires-after_bounds : goal.tables_of-requires-after_bounds
tables_of-requires-after_bounds g c κs within =
    let (p, t, stands, there) = c.requires in
    (t.own.working, working_kept g.D.Digester.address c.args.session.now p t stands there)

pub returns-else-reads_entries : goal.returns-else-reads_entries
returns-else-reads_entries g c = λ p t stands there.
    none_added c.args.from.now t.own.working c.args.sources.now c.args.sources.now (sym c.reads_entries.ensures ∙ c.if-reads_entries.false) refl
