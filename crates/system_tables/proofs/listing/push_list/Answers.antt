use Rattle.std.proofs.Common.{◌≡◌, ◌∙◌, ◌++◌, List, ap, sym, subst, OnOk}
use Rattle.schema_model.specs.PlainTables.{NamedTable}
use Rattle.sql_select.specs.Sources.{is_read}
use Rattle.sql_select.specs.declared.sources.NamedAnswer.{NamedAnswer}
use Rattle.system_tables.specs.Entries.{list_shown}
use Rattle.system_tables.proofs.SourceLemmas.{list_named, named_there, unnamed_left}
use Rattle.system_tables.proofs.listing.push_list.Goals as goal

pub returns-then-is_read : goal.returns-then-is_read
returns-then-is_read g c = λ table at.
    let name = c.in_ok-name.name in
    let named : NamedTable = record { name = c.args.named.now.name; table = table } in
    subst (λ (l : List NamedAnswer). OnOk c.push_shown.result (c.push_shown.new.sources ≡ c.args.sources.now ++ l))
    (named_there c.args.from.now (list_shown c.args.which named) name (list_named c.args.which named name c.in_ok-name.ensures)
    (ap (is_read c.args.from.now) (sym c.as_slice.ensures) ∙ sym c.is_read.ensures ∙ c.if-is_read.true))
    (c.push_shown.ensures table at)

pub returns : goal.returns
returns g c = λ table at.
    let name = c.in_ok-name.name in
    let named : NamedTable = record { name = c.args.named.now.name; table = table } in
    unnamed_left c.args.from.now (list_shown c.args.which named) name (list_named c.args.which named name c.in_ok-name.ensures)
    (ap (is_read c.args.from.now) (sym c.as_slice.ensures) ∙ sym c.is_read.ensures ∙ c.if-is_read.false) c.args.sources.now
