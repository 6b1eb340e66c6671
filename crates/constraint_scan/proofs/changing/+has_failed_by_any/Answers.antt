use Rattle.std.proofs.Common.{◌≡◌, ◌-◌, ap, sym, drop, length, take}
use Rattle.std.specs.List.{list_any}
use Rattle.std.proofs.lemmas.Result.{IfOk-weaker}
use Rattle.tuple_codec.proofs.Lists.{any_first, any_later, none_below as no_items}
use Rattle.schema_model.specs.declared.schemas.CheckDef.{CheckDef}
use Rattle.plain_writes.specs.CheckTexts.{checks}
use Rattle.plain_writes.specs.Violations.{breaks_check}
use Rattle.constraint_scan.proofs.PairLemmas.{by_first}
use Rattle.constraint_scan.proofs.changing.+has_failed_by_any.Goals as goal

pub returns-in_default : goal.returns-in_default
returns-in_default t c = sym (ap (list_any (λ (check : CheckDef). list_any (breaks_check (checks c.args.name.now c.args.schema.now check.text)) c.args.rows.now)) (no_items c.args.all.now c.in_default.len_below))

pub returns-then-found : goal.returns-then-found
returns-then-found t c =
    any_first (λ (check : CheckDef). list_any (breaks_check (checks c.args.name.now c.args.schema.now check.text)) c.args.rows.now) c.args.all.now c.first-item.result (take (length c.args.all.now - 1) (drop 1 c.args.all.now)) c.in_ok-found.found (by_first c.args.all.now c.first-item.result c.first-item.is c.in-len1-up.len_at_least)
    (c.in_ok-found.ensures) c.if-found.true

pub returns : goal.returns
returns t c =
    IfOk-weaker c.has_failed_by_any.result (λ rest. rest ≡ list_any (λ (check : CheckDef). list_any (breaks_check (checks c.args.name.now c.args.schema.now check.text)) c.args.rows.now) (take (length c.args.all.now - 1) (drop 1 c.args.all.now))) (λ rest. rest ≡ list_any (λ (check : CheckDef). list_any (breaks_check (checks c.args.name.now c.args.schema.now check.text)) c.args.rows.now) c.args.all.now)
    (λ rest later. any_later (λ (check : CheckDef). list_any (breaks_check (checks c.args.name.now c.args.schema.now check.text)) c.args.rows.now) c.args.all.now c.first-item.result (take (length c.args.all.now - 1) (drop 1 c.args.all.now)) c.in_ok-found.found rest
    (by_first c.args.all.now c.first-item.result c.first-item.is c.in-len1-up.len_at_least) (c.in_ok-found.ensures) c.if-found.false later)
    (c.has_failed_by_any.ensures)
