use Rattle.std.proofs.Common.{◌∙◌, List, ap}
use Rattle.std.specs.List.{list_any}
use Rattle.schema_model.specs.declared.schemas.CheckDef.{CheckDef}
use Rattle.tuple_codec.specs.Rows.{Cells}
use Rattle.plain_writes.specs.CheckTexts.{checks}
use Rattle.plain_writes.specs.Violations.{breaks_check}
use Rattle.constraint_scan.proofs.FoundLemmas.{so_found}
use Rattle.constraint_scan.proofs.MemberLemmas.{any_swapped}
use Rattle.constraint_scan.proofs.changing.has_failed_in.Goals as goal

pub returns-in-len1-up : goal.returns-in-len1-up
returns-in-len1-up c =
    let name = c.args.name.now in
    let schema = c.args.schema.now in
    let rows = c.args.rows.now in
    so_found c.has_failed_by_any.result (list_any (λ (check : CheckDef). list_any (breaks_check (checks name schema check.text)) rows) c.as_slice.result.now)
    (list_any (λ (row : Cells). list_any (λ (check : CheckDef). breaks_check (checks name schema check.text) row) schema.checks) rows)
    (ap (λ (all : List CheckDef). list_any (λ (check : CheckDef). list_any (breaks_check (checks name schema check.text)) rows) all) c.as_slice.ensures
    ∙ any_swapped (λ (check : CheckDef) (row : Cells). breaks_check (checks name schema check.text) row) schema.checks rows)
    c.has_failed_by_any.ensures
