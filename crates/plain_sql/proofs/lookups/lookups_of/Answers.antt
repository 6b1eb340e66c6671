use Rattle.std.proofs.Common.{◌+◌, List, Option, map, subst, sym, take}
use Rattle.std.specs.Option.{IfSome}
use Rattle.tuple_codec.specs.Rows.{Cells}
use Rattle.plain_sql.specs.Links.{AreServed, ServesLookup}
use Rattle.plain_sql.specs.Plans.{meaning}
use Rattle.plain_sql.specs.declared.lookups.Lookup.{Lookup}
use Rattle.plain_sql.proofs.LookupLemmas.{served_more}
use Rattle.plain_sql.proofs.lookups.lookups_of.Goals as goal

pub loop-source-preserved : goal.loop-source-preserved
loop-source-preserved c =
    let tests = map meaning c.args.tests.now in
    let sources = c.args.sources.now in
    let source = c.source-item.result in
    let lookup = c.in_ok-lookup_of.field-0 in
    let one : IfSome lookup (ServesLookup tests source.rows) = subst (λ (rows : List Cells). IfSome lookup (ServesLookup tests rows)) c.as_slice-in-loop-source.ensures c.in_ok-lookup_of.ensures in
    subst (λ (l : List (Option Lookup)). AreServed tests (take (c.loop-source.source-index + 1) sources) l) (sym c.in_ok-push.ensures.ok)
    (served_more tests sources c.loop-source.lookups c.loop-source.source-index source lookup c.loop-source-test.true c.source-item.is c.loop-source.invariant one)
