use Rattle.std.proofs.Common.{◌+◌, ap, drop, map}
use Rattle.std.proofs.lemmas.List.{drop_all}
use Rattle.std.specs.List.{enumerate_from}
use Rattle.plain_sql.specs.Plans.{all_headings, column_heading}
use Rattle.plain_sql.specs.Seen.{heading_seen}
use Rattle.plain_sql.proofs.EachLemmas.{next_is, no_memory, none_given, none_left, one_given, seen_behind}
use Rattle.plain_sql.proofs.items.all_headings.Goals as goal

pub loop-place-preserved : goal.loop-place-preserved
loop-place-preserved c =
    let scope = c.args.scope.now in
    let place = c.loop-place.place in
    one_given (column_heading scope) (enumerate_from place (drop place scope)) (enumerate_from (place + 1) (drop (place + 1) scope)) (place, c.index-scope-place.result)
    (map heading_seen c.loop-place.headings) _ (heading_seen c.in_ok-column_heading.field-0) _
    (ap (enumerate_from place) (next_is scope place c.index-scope-place.result c.loop-place-test.true c.index-scope-place.is))
    c.in_ok-column_heading.ensures (seen_behind heading_seen c.loop-place.headings _ c.in_ok-column_heading.field-0 c.in_ok-push.ensures.ok) c.loop-place.invariant

pub returns : goal.returns
returns c =
    let scope = c.args.scope.now in
    let place = c.loop-place.place in
    none_left (column_heading scope) (enumerate_from place (drop place scope)) (map heading_seen c.loop-place.headings) _
    (ap (enumerate_from place) (drop_all place scope c.loop-place-test.false)) c.loop-place.invariant

pub returns-in_err-column_heading : goal.returns-in_err-column_heading
returns-in_err-column_heading c =
    let scope = c.args.scope.now in
    let place = c.loop-place.place in
    none_given (column_heading scope) heading_seen (map heading_seen) (enumerate_from place (drop place scope)) (enumerate_from (place + 1) (drop (place + 1) scope)) (place, c.index-scope-place.result)
    (map heading_seen c.loop-place.headings) _ c.in_err-column_heading.field-0.0
    (ap (enumerate_from place) (next_is scope place c.index-scope-place.result c.loop-place-test.true c.index-scope-place.is))
    c.in_err-column_heading.ensures c.loop-place.invariant c.from_residual.result c.from_residual.ensures

pub returns-in_err-push : goal.returns-in_err-push
returns-in_err-push c = no_memory (map heading_seen) (all_headings c.args.scope.now) c.from_residual-in_err-push.result c.from_residual-in_err-push.ensures
