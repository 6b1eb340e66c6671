use Rattle.std.proofs.Common.{[], Err}
use Rattle.std.proofs.lemmas.Result.{err_from_is_err_and}
use Rattle.table_root.specs.Databases.{written_database}
use Rattle.shared_db.proofs.OpeningLemmas.{cause_of_put, no_collision}
use Rattle.shared_db.proofs.opening.put_database.Goals as goal

pub returns-in_err-database-clause-fault : goal.returns-in_err-database-clause-fault
returns-in_err-database-clause-fault g c =
    let p = err_from_is_err_and c.from_residual.result c.from_residual.ensures.1 in
    let address = g.D.Digester.address in
    rw (p.1, p.2) (no_collision c.args.draft.now.chunks _ c.in_err-database.field-0.0 c.requires
    (cause_of_put address (written_database []) c.args.draft.now c.write_database.new.draft (Err c.in_err-database.field-0.0) c.in_err-database.ensures.puts))
