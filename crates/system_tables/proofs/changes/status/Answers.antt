use Rattle.std.proofs.Common.{◌≡◌, ◌∙◌, ap}
use Rattle.std.proofs.lemmas.Result.{IfOk-weaker}
use Rattle.plain_sessions.specs.SystemTables as plain
use Rattle.plain_sql.specs.declared.sources.Known.{Known}
use Rattle.system_tables.specs.Known.{with_rows}
use Rattle.system_tables.proofs.changes.status.Goals as goal

pub returns : goal.returns
returns g c = λ t states.
    IfOk-weaker c.status_of.result (λ (shown : Known). shown ≡ with_rows (plain.status t) c.in_ok-rows.rows) (λ (shown : Known). shown ≡ plain.status t)
    (λ shown is. is ∙ ap (with_rows (plain.status t)) (c.in_ok-rows.ensures t states)) (c.status_of.ensures t)
