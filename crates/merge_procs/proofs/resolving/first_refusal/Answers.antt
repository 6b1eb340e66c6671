use Rattle.std.proofs.Common.{◌∙◌, sym}
use Rattle.merge_procs.proofs.JudgeLemmas.{absent_told, by_absence, by_long, by_none, by_null}
use Rattle.merge_procs.proofs.resolving.first_refusal.Goals as goal

pub returns-then-is_some : goal.returns-then-is_some
returns-then-is_some g c = λ database there.
    let told = absent_told g.D.Digester.address c.args.tables.now c.args.request.now database c.absence-absent.result there.listed c.absence-absent.ensures in
    by_absence c.args.request.now database c.absence-absent.result told (sym c.is_some.ensures ∙ c.if-is_some.true)

pub returns-then-null : goal.returns-then-null
returns-then-null g c = λ database there.
    let told = absent_told g.D.Digester.address c.args.tables.now c.args.request.now database c.absence-absent.result there.listed c.absence-absent.ensures in
    by_null c.args.request.now database c.absence-absent.result told c.in_ok-null.null (sym c.is_some.ensures ∙ c.if-is_some.false) (c.in_ok-null.ensures database there) c.if-null.true

pub returns-then-long : goal.returns-then-long
returns-then-long g c = λ database there.
    let told = absent_told g.D.Digester.address c.args.tables.now c.args.request.now database c.absence-absent.result there.listed c.absence-absent.ensures in
    by_long c.args.request.now database c.absence-absent.result told c.in_ok-null.null c.in_ok-long.long (sym c.is_some.ensures ∙ c.if-is_some.false)
    (c.in_ok-null.ensures database there) c.if-null.false (c.in_ok-long.ensures database there) c.if-long.true

pub returns : goal.returns
returns g c = λ database there.
    let told = absent_told g.D.Digester.address c.args.tables.now c.args.request.now database c.absence-absent.result there.listed c.absence-absent.ensures in
    by_none c.args.request.now database c.absence-absent.result told c.in_ok-null.null c.in_ok-long.long (sym c.is_some.ensures ∙ c.if-is_some.false)
    (c.in_ok-null.ensures database there) c.if-null.false (c.in_ok-long.ensures database there) c.if-long.false
