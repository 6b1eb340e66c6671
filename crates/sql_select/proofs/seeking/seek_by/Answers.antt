use Rattle.std.proofs.Common.{◌≡◌, ◌∙◌, ap, subst, map, Some, Ok}
use Rattle.plain_sql.specs.Plans.{condition, meaning, scope_column}
use Rattle.sql_text.specs.SelectNames.{source_name}
use Rattle.sql_select.specs.Choosing.{IsSeekOf, is_wanted}
use Rattle.sql_select.specs.Seeking as seeking
use Rattle.sql_select.specs.Seeks.{SeeksBy, scope_in}
use Rattle.sql_select.specs.Sources.{typed_column}
use Rattle.sql_select.proofs.SeekLemmas.{both_ok}
use Rattle.sql_select.proofs.seeking.seek_by.Goals as goal

pub returns-in-Ok : goal.returns-in-Ok
returns-in-Ok c = λ seek.
    let source = c.args.source.now in
    let schema = c.args.schema.now in
    let test = c.in-Ok.test in
    let scope_is : c.as_slice-2.result.now ≡ scope_in source schema =
    c.as_slice-2.ensures ∙ c.in_ok-scope.ensures ∙ ap (λ name. map (scope_column name) (map typed_column c.as_slice.result.now)) (c.as_slice-name.ensures ∙ c.source_name.ensures)
    ∙ ap (λ columns. map (scope_column (source_name source)) (map typed_column columns)) c.as_slice.ensures in
    both_ok c.sought.result (λ found. found ≡ Some seek → seeking.Seeks schema test (is_wanted schema seek)) (λ found. found ≡ Some seek → IsSeekOf schema seek)
    (λ found. found ≡ Some seek → SeeksBy source c.args.filter.now schema (is_wanted schema seek) × IsSeekOf schema seek)
    (λ found passes fits e. (record { test = test; bound = subst (λ scope. condition scope c.args.filter.now ≡ Ok (meaning test)) scope_is c.in-Ok.ensures; passes = passes e }, fits e))
    (c.sought.ensures.seeks seek) (c.sought.ensures.fits seek)
