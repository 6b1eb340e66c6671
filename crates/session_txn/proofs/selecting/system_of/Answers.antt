use Rattle.std.proofs.Common.{◌≡◌, IfOk, subst, sym}
use Rattle.sql_ast.specs.declared.selects.Select.{Select}
use Rattle.session_txn.specs.Reading.{system_of}
use Rattle.session_txn.proofs.selecting.system_of.Goals as goal

pub returns-in-From : goal.returns-in-From
returns-in-From g c = λ p t stands there.
    subst (λ (s : Select). IfOk c.system_sources.result (λ system. system ≡ system_of t s)) (sym c.in-From.is) (c.system_sources.ensures p t stands there)
