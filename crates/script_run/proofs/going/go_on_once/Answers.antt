use Rattle.std.proofs.Common.{◌≡◌, ◌∙◌, refl, sym, ap, subst, true, List, ℕ, length, arith}
use Rattle.plain_sessions.specs.Commands.{command}
use Rattle.plain_sessions.specs.Sessions.{is_before_statement}
use Rattle.session_state.specs.declared.sessions.Session.{Session}
use Rattle.script_run.specs.Scripts.{is_statement_text}
use Rattle.script_run.proofs.GoingLemmas.{answers, as_many, asked_of, before_of, fails_for, free_is, has_room, may_number, next_asks, said_of, text_of}
use Rattle.script_run.proofs.LeftLemmas.{at_less, fewer_left, said_less, settled_at_end, settled_waiting, still, unsettled}
use Rattle.script_run.proofs.going.go_on_once.Goals as goal

pub returns-then-not-is_free-clause-goes : goal.returns-then-not-is_free-clause-goes
returns-then-not-is_free-clause-goes g c = λ parts shared place runner is. still _ is

pub returns-then-not-is_free-clause-settled : goal.returns-then-not-is_free-clause-settled
returns-then-not-is_free-clause-settled g c = λ stops. settled_waiting c.args.player.now (sym c.is_free.ensures ∙ c.if-not-is_free.true)

pub returns-then-at-all-clause-goes : goal.returns-then-at-all-clause-goes
returns-then-at-all-clause-goes g c = λ parts shared place runner is. still _ is

pub returns-then-at-all-clause-settled : goal.returns-then-at-all-clause-settled
returns-then-at-all-clause-settled g c = λ stops.
    let is = c.requires.player.4 in
    let there : c.len-at.result ≡ length c.args.player.now.replies.items = c.len-at.ensures ∙ c.args.player.now.replies.ok.0 in
    let all : length c.as_slice-all.result.now ≡ length c.args.player.now.texts = ap length c.as_slice-all.ensures in
    settled_at_end c.args.player.now (omega (arith, c.if-at-all.true, as_many is, is.within))

pub asked_by-requires : goal.asked_by-requires
asked_by-requires g c =
    subst (λ (text : List ℕ). is_statement_text text ≡ true) (sym c.as_slice-2.ensures)
    (text_of c.requires.player.4 c.len-at.result c.as_slice.result.now c.index-as_slice-at.result c.as_slice.ensures
    (at_less c.args.player.now c.len-at.result c.as_slice-all.result.now c.as_slice-all.ensures c.if-at-all.false) c.index-as_slice-at.is)

pub come-requires-clause-player : goal.come-requires-clause-player
come-requires-clause-player g c κs within =
    let p = c.requires.player in
    let is = p.4 in (
      p.0,
      p.1,
      p.2,
      p.3,
      is,
      (asked_of is c.len-at.result c.as_slice.result.now c.index-as_slice-at.result c.in-Ok.asked (c.len-at.ensures ∙ c.args.player.now.replies.ok.0) c.as_slice.ensures
          (at_less c.args.player.now c.len-at.result c.as_slice-all.result.now c.as_slice-all.ensures c.if-at-all.false) c.index-as_slice-at.is (c.in-Ok.ensures.is ∙ ap command c.as_slice-2.ensures) c.in-Ok.ensures.fit),
    )

pub come-requires-clause-free : goal.come-requires-clause-free
come-requires-clause-free g c κs within = sym c.is_free.ensures ∙ c.if-not-is_free.false

pub returns-in-Ok-clause-goes : goal.returns-in-Ok-clause-goes
returns-in-Ok-clause-goes g c = λ parts shared place runner is.
    c.come.ensures.goes parts shared place runner is
    (asked_of is c.len-at.result c.as_slice.result.now c.index-as_slice-at.result c.in-Ok.asked (c.len-at.ensures ∙ c.args.player.now.replies.ok.0) c.as_slice.ensures
    (at_less c.args.player.now c.len-at.result c.as_slice-all.result.now c.as_slice-all.ensures c.if-at-all.false) c.index-as_slice-at.is (c.in-Ok.ensures.is ∙ ap command c.as_slice-2.ensures) c.in-Ok.ensures.fit)

pub returns-in-Ok-clause-settled : goal.returns-in-Ok-clause-settled
returns-in-Ok-clause-settled g c = λ stops. settled_waiting c.come.new.player (c.come.ensures.settled stops)

pub returns-in-Ok-clause-same : goal.returns-in-Ok-clause-same
returns-in-Ok-clause-same g c = λ settled.
    unsettled c.args.player.now (sym c.is_free.ensures ∙ c.if-not-is_free.false)
    (said_less c.args.player.now c.len-at.result c.as_slice-all.result.now (c.len-at.ensures ∙ c.args.player.now.replies.ok.0) c.as_slice-all.ensures c.if-at-all.false) settled

pub returns-in-Ok-clause-stops : goal.returns-in-Ok-clause-stops
returns-in-Ok-clause-stops g c = λ settled.
    unsettled c.args.player.now (sym c.is_free.ensures ∙ c.if-not-is_free.false)
    (said_less c.args.player.now c.len-at.result c.as_slice-all.result.now (c.len-at.ensures ∙ c.args.player.now.replies.ok.0) c.as_slice-all.ensures c.if-at-all.false) settled

pub returns-in-Ok-clause-more : goal.returns-in-Ok-clause-more
returns-in-Ok-clause-more g c = λ goes. said_less c.args.player.now c.len-at.result c.as_slice-all.result.now (c.len-at.ensures ∙ c.args.player.now.replies.ok.0) c.as_slice-all.ensures c.if-at-all.false

pub answer_fault-reply-requires-clause-before : goal.answer_fault-reply-requires-clause-before
answer_fault-reply-requires-clause-before g c κs within =
    let p = c.requires.player in
    let before = before_of p.4 (sym c.is_free.ensures ∙ c.if-not-is_free.false) in
    (p.3.session, before.session_stands, before.before)

pub answer_fault-reply-requires-clause-place : goal.answer_fault-reply-requires-clause-place
answer_fault-reply-requires-clause-place g c κs within =
    may_number c.requires.player.4 (said_of c.requires.player.4 (said_less c.args.player.now c.len-at.result c.as_slice-all.result.now (c.len-at.ensures ∙ c.args.player.now.replies.ok.0) c.as_slice-all.ensures c.if-at-all.false))

pub push_reserved-requires : goal.push_reserved-requires
push_reserved-requires g c =
    has_room c.requires.player.4 (said_of c.requires.player.4 (said_less c.args.player.now c.len-at.result c.as_slice-all.result.now (c.len-at.ensures ∙ c.args.player.now.replies.ok.0) c.as_slice-all.ensures c.if-at-all.false))

pub returns-in-Err-clause-goes : goal.returns-in-Err-clause-goes
returns-in-Err-clause-goes g c = λ parts shared place runner is.
    let before = before_of is (sym c.is_free.ensures ∙ c.if-not-is_free.false) in
    let next = next_asks is (said_of is (said_less c.args.player.now c.len-at.result c.as_slice-all.result.now (c.len-at.ensures ∙ c.args.player.now.replies.ok.0) c.as_slice-all.ensures c.if-at-all.false)) in
    answers is next.0 next.1.0 next.1.1 c.answer_fault-reply.result _
    (c.answer_fault-reply.ensures.alone runner.session next.0 before.session_stands before.before (fails_for is next.0))
    (ap (λ (s : Session g.row.D.Denot). s.draft.chunks.base) c.answer_fault-reply.ensures.same) (ap is_before_statement before.before) c.push_reserved.ensures.items c.push_reserved.ensures.capacity refl (free_is c.args.player.now.stage (sym c.is_free.ensures ∙ c.if-not-is_free.false))
    c.answer_fault-reply.ensures.sound c.answer_fault-reply.ensures.truly

pub returns-in-Err-clause-same : goal.returns-in-Err-clause-same
returns-in-Err-clause-same g c = λ settled.
    unsettled c.args.player.now (sym c.is_free.ensures ∙ c.if-not-is_free.false)
    (said_less c.args.player.now c.len-at.result c.as_slice-all.result.now (c.len-at.ensures ∙ c.args.player.now.replies.ok.0) c.as_slice-all.ensures c.if-at-all.false) settled

pub returns-in-Err-clause-stops : goal.returns-in-Err-clause-stops
returns-in-Err-clause-stops g c = λ settled.
    unsettled c.args.player.now (sym c.is_free.ensures ∙ c.if-not-is_free.false)
    (said_less c.args.player.now c.len-at.result c.as_slice-all.result.now (c.len-at.ensures ∙ c.args.player.now.replies.ok.0) c.as_slice-all.ensures c.if-at-all.false) settled

pub returns-in-Err-clause-left : goal.returns-in-Err-clause-left
returns-in-Err-clause-left g c =
    let fewer = fewer_left c.args.player.now (record c.args.player.now { session = c.answer_fault-reply.new.session; replies = c.push_reserved.new.self }) c.answer_fault-reply.result
    (said_less c.args.player.now c.len-at.result c.as_slice-all.result.now (c.len-at.ensures ∙ c.args.player.now.replies.ok.0) c.as_slice-all.ensures c.if-at-all.false) c.push_reserved.ensures.items refl (free_is c.args.player.now.stage (sym c.is_free.ensures ∙ c.if-not-is_free.false)) in
    omega (arith, fewer)

pub returns-in-Err-clause-more : goal.returns-in-Err-clause-more
returns-in-Err-clause-more g c = λ goes. said_less c.args.player.now c.len-at.result c.as_slice-all.result.now (c.len-at.ensures ∙ c.args.player.now.replies.ok.0) c.as_slice-all.ensures c.if-at-all.false
