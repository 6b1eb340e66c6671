use Rattle.std.proofs.Common.{ap}
use Rattle.chunk_store.specs.Drafts.{DraftParts}
use Rattle.plain_sessions.specs.Sessions as plain
use Rattle.shared_history.specs.Meeting.{Tells, started_on}
use Rattle.serving.specs.Starting.{HasStarted}
use Rattle.serving.proofs.FoundLemmas.{before_found, comes_free, comes_holds, counted_in, noted_in, on_err, started_moment, starts_holds, starts_looks}
use Rattle.serving.proofs.LookLemmas.{shows}
use Rattle.serving.proofs.StartLemmas.{has_started}
use Rattle.serving.proofs.starting.take_start.Goals as goal

pub start-requires-clause-free : goal.start-requires-clause-free
start-requires-clause-free g c = c.requires.before.1.at.seated.free

pub start-requires-clause-branch : goal.start-requires-clause-branch
start-requires-clause-branch g c = c.requires.before.1.at.seated.branch

pub start_at-requires-clause-stands : goal.start_at-requires-clause-stands
start_at-requires-clause-stands g c κs within = (c.requires.before.0, c.requires.before.1.at.stands)

pub start_at-requires-clause-look : goal.start_at-requires-clause-look
start_at-requires-clause-look g c κs within =
    let address = g.D.Digester.address in
    let session = c.args.session.now in
    let starts = c.in_ok-look.ensures.started in
    let looks = starts_looks address session c.in_ok-look.look (g.T.Meeting.tells c.args.meeting.now) (g.T.Meeting.tells c.start.new.self) starts in
    (starts.is.shared, shows c.law_of_states.ensures address session starts.found c.in_ok-look.look looks starts.is.shared starts.is.stands, looks.branch)

pub returns-clause-started : goal.returns-clause-started
returns-clause-started g c = λ p before none.
    let address = g.D.Digester.address in
    let session = c.args.session.now in
    let look = c.in_ok-look.look in
    let m : Tells = g.T.Meeting.tells c.args.meeting.now in
    let n : Tells = g.T.Meeting.tells c.start.new.self in
    let starts = c.in_ok-look.ensures.started in
    started_moment address session.branch look (λ found shared left. (t : plain.Transaction) × HasStarted address c.start_at.new.session found left p t shared) m n starts (λ shared stands.
    has_started c.law_of_states.ensures address session c.start_at.new.session starts.found (started_on starts.found m) look (starts_looks address session look m n starts)
    m.statement (counted_in address session m p before.at) (noted_in address session m p before.at starts.found) (ap (λ (d : DraftParts). d.base) c.start_at.ensures.chunks) c.start_at.ensures.started
    p shared (before_found address session m p before starts.found starts.is shared stands) none)

pub returns-clause-holds : goal.returns-clause-holds
returns-clause-holds g c =
    starts_holds g.D.Digester.address c.args.session.now.branch c.in_ok-look.look (g.T.Meeting.tells c.args.meeting.now) (g.T.Meeting.tells c.start.new.self) c.in_ok-look.ensures.started

pub returns-in_err-look-clause-waits : goal.returns-in_err-look-clause-waits
returns-in_err-look-clause-waits g c =
    on_err c.from_residual.result _
    (comes_free g.D.Digester.address (g.T.Meeting.tells c.args.meeting.now) (g.T.Meeting.tells c.start.new.self) c.requires.before.1.at.seated.free c.in_err-look.ensures.short)

pub returns-in_err-look-clause-holds : goal.returns-in_err-look-clause-holds
returns-in_err-look-clause-holds g c =
    comes_holds g.D.Digester.address (g.T.Meeting.tells c.args.meeting.now) (g.T.Meeting.tells c.start.new.self) c.in_err-look.ensures.short
