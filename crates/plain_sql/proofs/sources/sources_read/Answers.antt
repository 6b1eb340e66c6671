use Rattle.std.proofs.Common.{◌+◌, List, [], ap, drop, map, refl}
use Rattle.std.proofs.lemmas.List.{drop_all}
use Rattle.sql_ast.specs.declared.selects.Join.{Join}
use Rattle.sql_ast.specs.declared.selects.TableSource.{TableSource}
use Rattle.plain_sql.specs.Lists.{each}
use Rattle.plain_sql.specs.Plans.{source_read, sources_of}
use Rattle.plain_sql.proofs.EachLemmas.{begun, next_is, no_memory_for, none_left, one_given, refusal_goes_on}
use Rattle.plain_sql.proofs.sources.sources_read.Goals as goal

abbrev sources_in : List Join → List TableSource
sources_in joins = map (λ join. join.source) joins

pub loop-join-preserved : goal.loop-join-preserved
loop-join-preserved c =
    let joins = c.as_slice-joins.result.now in
    let at = c.loop-join.join-index in
    one_given (source_read c.args.known.now) (sources_in (drop at joins)) (sources_in (drop (at + 1) joins)) c.join-item.result.source c.loop-join.reads _ c.in_ok-source_read-2.field-0 _
    (ap sources_in (next_is joins at c.join-item.result c.loop-join-test.true c.join-item.is))
    c.in_ok-source_read-2.ensures c.in_ok-push-2.ensures.ok c.loop-join.invariant

pub returns : goal.returns
returns c =
    let joins = c.as_slice-joins.result.now in
    let at = c.loop-join.join-index in
    none_left (source_read c.args.known.now) (sources_in (drop at joins)) c.loop-join.reads _
    (ap sources_in (drop_all at joins c.loop-join-test.false)) c.loop-join.invariant

pub returns-in_err-source_read : goal.returns-in_err-source_read
returns-in_err-source_read c =
    let from = c.args.from.now in
    let whole = each (source_read c.args.known.now) (sources_of from) in
    refusal_goes_on (source_read c.args.known.now) (sources_of from) (sources_in from.joins) from.first [] whole c.in_err-source_read.field-0.0
    refl c.in_err-source_read.ensures (begun whole) c.from_residual.result c.from_residual.ensures

pub returns-in_err-push : goal.returns-in_err-push
returns-in_err-push c = no_memory_for (each (source_read c.args.known.now) (sources_of c.args.from.now)) c.from_residual-in_err-push.result c.from_residual-in_err-push.ensures

pub returns-in_err-source_read-2 : goal.returns-in_err-source_read-2
returns-in_err-source_read-2 c =
    let joins = c.as_slice-joins.result.now in
    let at = c.loop-join.join-index in
    refusal_goes_on (source_read c.args.known.now) (sources_in (drop at joins)) (sources_in (drop (at + 1) joins)) c.join-item.result.source c.loop-join.reads _ c.in_err-source_read-2.field-0.0
    (ap sources_in (next_is joins at c.join-item.result c.loop-join-test.true c.join-item.is))
    c.in_err-source_read-2.ensures c.loop-join.invariant c.from_residual-in_err-source_read-2.result c.from_residual-in_err-source_read-2.ensures

pub returns-in_err-push-2 : goal.returns-in_err-push-2
returns-in_err-push-2 c = no_memory_for (each (source_read c.args.known.now) (sources_of c.args.from.now)) c.from_residual-in_err-push-2.result c.from_residual-in_err-push-2.ensures
