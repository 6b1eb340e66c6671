use Rattle.std.proofs.Common.{◌≡◌, ◌∙◌, filter, sym, ap, subst}
use Rattle.std.proofs.lemmas.Result.{IfOk-weaker}
use Rattle.sql_select.specs.Entries.{is_entered}
use Rattle.sql_select.specs.Seeking.{is_sought}
use Rattle.sql_select.specs.Choosing.{IsSeekOf, is_wanted}
use Rattle.sql_select.proofs.choosing.rows_sought.Goals as goal

pub rows_in_span-requires-clause-span : goal.rows_in_span-requires-clause-span
rows_in_span-requires-clause-span g c κs within = subst (IsSeekOf c.args.table.now.schema) c.in-Keys.is c.requires.seek

pub rows_entered-requires-clause-entries : goal.rows_entered-requires-clause-entries
rows_entered-requires-clause-entries g c κs within = subst (IsSeekOf c.args.table.now.schema) c.in-Entries.is c.requires.seek

pub returns-in-Keys : goal.returns-in-Keys
returns-in-Keys g c = λ contents of.
    IfOk-weaker c.rows_in_span.result (λ rows. rows ≡ filter (is_sought c.args.table.now.schema c.in-Keys.span) contents.rows) (λ rows. rows ≡ filter (is_wanted c.args.table.now.schema c.args.seek.now) contents.rows)
    (λ rows is. is ∙ ap (λ s. filter (is_wanted c.args.table.now.schema s) contents.rows) (sym c.in-Keys.is)) (c.rows_in_span.ensures contents of)

pub returns-in-Entries : goal.returns-in-Entries
returns-in-Entries g c = λ contents of.
    IfOk-weaker c.rows_entered.result (λ rows. rows ≡ filter (is_entered c.args.table.now.schema c.in-Entries.entries) contents.rows) (λ rows. rows ≡ filter (is_wanted c.args.table.now.schema c.args.seek.now) contents.rows)
    (λ rows is. is ∙ ap (λ s. filter (is_wanted c.args.table.now.schema s) contents.rows) (sym c.in-Entries.is)) (c.rows_entered.ensures contents of)
