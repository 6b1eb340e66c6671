use Rattle.std.proofs.Common.{refl}
use Rattle.plain_sessions.specs.declared.commands.Command.TheVariants as command
use Rattle.serving.proofs.FoundLemmas.{ok_each}
use Rattle.serving.proofs.MeetLemmas.{begin_goes, branches_go, checkout_goes, checkout_keeps, commit_goes, commit_opens, fails_without, switch_goes, switch_opens}
use Rattle.serving.proofs.meeting.meet_once.Goals as goal

pub begin-requires-clause-before : goal.begin-requires-clause-before
begin-requires-clause-before g c κs within = let held = c.requires.before in (held.0, held.1)

pub commit_changed-requires-clause-open : goal.commit_changed-requires-clause-open
commit_changed-requires-clause-open g c κs within =
    let held = c.requires.before in
    let t = commit_opens c.args.asked.now c.in-CommitAll.is held.0 held.1.before held.2 in
    (held.0, t.0, held.1, t.1)

pub switch_changed-requires-clause-open : goal.switch_changed-requires-clause-open
switch_changed-requires-clause-open g c κs within =
    let held = c.requires.before in
    let t = switch_opens c.args.asked.now c.in-Switch.setting c.in-Switch.is held.0 held.1.before held.2 in
    (held.0, t.0, held.1, t.1)

pub step_branches-requires-clause-before : goal.step_branches-requires-clause-before
step_branches-requires-clause-before g c κs within = let held = c.requires.before in (held.0, held.1)

pub go_to-requires-clause-before : goal.go_to-requires-clause-before
go_to-requires-clause-before g c κs within =
    let held = c.requires.before in
    (held.0, held.1, checkout_keeps c.args.asked.now c.in-Checkout.request c.in-Checkout.is held.0 held.1.before held.2)

pub returns-in-Begin-clause-went : goal.returns-in-Begin-clause-went
returns-in-Begin-clause-went g c =
    ok_each _ _ (λ reply told.
    begin_goes g.D.Digester.address c.args.epoch c.args.session.now c.begin.new.session (g.T.Meeting.tells c.args.meeting.now) (g.T.Meeting.tells c.begin.new.meeting) reply c.args.asked.now c.in-Begin.is told)
    c.begin.result c.begin.ensures.answered

pub returns-in-Begin-clause-fails : goal.returns-in-Begin-clause-fails
returns-in-Begin-clause-fails g c =
    fails_without g.D.Digester.address c.args.session.now (g.T.Meeting.tells c.args.meeting.now) c.args.asked.now command.Begin c.in-Begin.is (λ p before. refl) c.begin.result

pub returns-in-CommitAll-clause-went : goal.returns-in-CommitAll-clause-went
returns-in-CommitAll-clause-went g c =
    ok_each _ _ (λ reply told.
    commit_goes g.D.Digester.address c.args.epoch c.args.session.now c.commit_changed.new.session (g.T.Meeting.tells c.args.meeting.now) (g.T.Meeting.tells c.commit_changed.new.meeting) reply c.args.asked.now c.in-CommitAll.is told)
    c.commit_changed.result c.commit_changed.ensures.answered

pub returns-in-CommitAll-clause-fails : goal.returns-in-CommitAll-clause-fails
returns-in-CommitAll-clause-fails g c =
    fails_without g.D.Digester.address c.args.session.now (g.T.Meeting.tells c.args.meeting.now) c.args.asked.now command.CommitAll c.in-CommitAll.is (λ p before. refl) c.commit_changed.result

pub returns-in-Switch-clause-went : goal.returns-in-Switch-clause-went
returns-in-Switch-clause-went g c =
    ok_each _ _ (λ reply told.
    switch_goes g.D.Digester.address c.args.epoch c.args.session.now c.switch_changed.new.session (g.T.Meeting.tells c.args.meeting.now) (g.T.Meeting.tells c.switch_changed.new.meeting) reply c.args.asked.now c.in-Switch.setting c.in-Switch.is told)
    c.switch_changed.result c.switch_changed.ensures.answered

pub returns-in-Switch-clause-fails : goal.returns-in-Switch-clause-fails
returns-in-Switch-clause-fails g c =
    fails_without g.D.Digester.address c.args.session.now (g.T.Meeting.tells c.args.meeting.now) c.args.asked.now (command.Switch c.in-Switch.setting) c.in-Switch.is (λ p before. refl) c.switch_changed.result

pub returns-in-OnBranches-clause-went : goal.returns-in-OnBranches-clause-went
returns-in-OnBranches-clause-went g c =
    ok_each _ _ (λ reply told.
    branches_go g.D.Digester.address c.args.epoch c.args.session.now c.args.session.now (g.T.Meeting.tells c.args.meeting.now) (g.T.Meeting.tells c.step_branches.new.meeting) reply c.args.asked.now c.in-OnBranches.request c.in-OnBranches.is told)
    c.step_branches.result c.step_branches.ensures.went

pub returns-in-OnBranches-clause-fails : goal.returns-in-OnBranches-clause-fails
returns-in-OnBranches-clause-fails g c =
    fails_without g.D.Digester.address c.args.session.now (g.T.Meeting.tells c.args.meeting.now) c.args.asked.now (command.OnBranches c.in-OnBranches.request) c.in-OnBranches.is (λ p before. refl) c.step_branches.result

pub returns-in-Checkout-clause-went : goal.returns-in-Checkout-clause-went
returns-in-Checkout-clause-went g c =
    ok_each _ _ (λ reply told.
    checkout_goes g.D.Digester.address c.args.epoch c.args.session.now c.go_to.new.session (g.T.Meeting.tells c.args.meeting.now) (g.T.Meeting.tells c.go_to.new.meeting) reply c.args.asked.now c.in-Checkout.request c.in-Checkout.is told)
    c.go_to.result c.go_to.ensures.went

pub returns-in-Checkout-clause-fails : goal.returns-in-Checkout-clause-fails
returns-in-Checkout-clause-fails g c =
    fails_without g.D.Digester.address c.args.session.now (g.T.Meeting.tells c.args.meeting.now) c.args.asked.now (command.Checkout c.in-Checkout.request) c.in-Checkout.is (λ p before. refl) c.go_to.result
