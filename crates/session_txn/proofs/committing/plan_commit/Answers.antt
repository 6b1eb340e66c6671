use Rattle.std.proofs.Common.{◌≡◌, ◌∙◌, Option, subst, sym}
use Rattle.std.specs.Prelude.{IfSome}
use Rattle.table_root.specs.declared.heads.Look.{Look}
use Rattle.session_state.proofs.ChangeLemmas.{record_by}
use Rattle.session_txn.proofs.UnmovedLemmas.{own_state}
use Rattle.session_txn.proofs.committing.plan_commit.Goals as goal

pub plan_own-requires-clause-unmoved : goal.plan_own-requires-clause-unmoved
plan_own-requires-clause-unmoved g c κs within =
    subst (λ (found : Option Look). IfSome found (λ start. c.args.look.now.rec ≡ start.rec)) (sym c.in-Some.is)
    (record_by c.args.look.now.rec c.in-Some.start.rec (sym c.eq.ensures ∙ c.if-eq.true))

pub plan_own-requires-clause-own : goal.plan_own-requires-clause-own
plan_own-requires-clause-own g c κs within =
    let (p, t, shared, present, d) = c.requires in own_state g.D.Digester.address c.args.session.now p t d.session_stands d.transaction

pub returns-then-eq-clause-planned : goal.returns-then-eq-clause-planned
returns-then-eq-clause-planned g c = c.plan_own.ensures.planned

pub returns-else-eq-clause-planned : goal.returns-else-eq-clause-planned
returns-else-eq-clause-planned g c = c.plan_merged.ensures.planned
