use Rattle.std.proofs.Common.{sym}
use Rattle.sql_write.proofs.InsertLemmas.{rise_so}
use Rattle.sql_write.proofs.edits.repeats_key.Goals as goal

pub has_any-requires-clause-rise : goal.has_any-requires-clause-rise
has_any-requires-clause-rise g c κs within = rise_so c.args.edits.now (sym c.if-not-keys_rise.ensures)
