use Rattle.std.proofs.Common.{◌∙◌, find, sym}
use Rattle.tuple_codec.proofs.Options.{none_so as none_of}
use Rattle.program_run.specs.Loading.{is_main}
use Rattle.program_run.proofs.CountLemmas.{none_in}
use Rattle.program_run.proofs.counting.count_rows.Goals as goal

pub rows_on_main-requires-clause-there : goal.rows_on_main-requires-clause-there
rows_on_main-requires-clause-there g c κs within = sym c.in_ok-there.ensures ∙ c.if-there.true

pub returns : goal.returns
returns g c = λ shared stands.
    none_in g.D.Digester.address c.args.db.now.parts shared stands (none_of (find is_main c.args.db.now.parts.branches) (sym c.in_ok-there.ensures ∙ c.if-there.false))
