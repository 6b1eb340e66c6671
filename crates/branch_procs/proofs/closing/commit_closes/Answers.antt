use Rattle.std.proofs.Common.{sym, subst}
use Rattle.expr_eval.specs.Binding.{Outcome}
use Rattle.plain_sessions.specs.Branching.{to_commit}
use Rattle.plain_sessions.specs.Merging.{Worked}
use Rattle.plain_sessions.specs.Records.{root_of}
use Rattle.branch_procs.specs.Closing.{IsVerdict}
use Rattle.branch_procs.proofs.ClosingLemmas.{verdict_of, worked_commit}
use Rattle.branch_procs.proofs.LocalLemmas.{head_known_at, on_head}
use Rattle.session_plan.proofs.LocalLemmas.{own_in}
use Rattle.branch_procs.proofs.closing.commit_closes.Goals as goal

pub head_root-requires-after_bounds : goal.head_root-requires-after_bounds
head_root-requires-after_bounds g c κs within =
    let (p, t, stands, there) = c.requires in
    let own = own_in g.D.Digester.address c.args.session.now p t stands there in
    (t.commits, own.all_there, head_known_at g.D.Digester.address c.args.session.now.draft.chunks c.args.session.now.own t.commits t.own own)

pub commit_refusal-requires-after_bounds : goal.commit_refusal-requires-after_bounds
commit_refusal-requires-after_bounds g c κs within =
    let (p, t, stands, there) = c.requires in
    let own = own_in g.D.Digester.address c.args.session.now p t stands there in
    let known = head_known_at g.D.Digester.address c.args.session.now.draft.chunks c.args.session.now.own t.commits t.own own in (
      t.own,
      root_of t.commits t.own.head,
      on_head g.D.Digester.address c.args.session.now.draft.chunks c.args.session.now.own t.commits t.own own c.in_ok-root.root (c.in_ok-root.ensures t.commits own.all_there known),
    )

pub returns-clause-verdict : goal.returns-clause-verdict
returns-clause-verdict g c = λ p t stands there.
    let own = own_in g.D.Digester.address c.args.session.now p t stands there in
    let known = head_known_at g.D.Digester.address c.args.session.now.draft.chunks c.args.session.now.own t.commits t.own own in
    subst (λ (o : Outcome Worked). IsVerdict c.in_ok-found.found o) (sym (worked_commit p t c.args.request.now))
    (verdict_of (to_commit (root_of t.commits t.own.head) c.args.request.now t.own) c.args.request.now.message c.in_ok-found.found
    (c.in_ok-found.ensures t.own (root_of t.commits t.own.head)
    (on_head g.D.Digester.address c.args.session.now.draft.chunks c.args.session.now.own t.commits t.own own c.in_ok-root.root (c.in_ok-root.ensures t.commits own.all_there known))))
