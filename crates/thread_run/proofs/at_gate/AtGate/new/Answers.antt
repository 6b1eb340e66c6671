use Rattle.std.proofs.Common.{◌∙◌, ◌<◌, ◌^◌, ap, arith, refl, subst, sym}
use Rattle.seat_gate.specs.History.{HasMade, View}
use Rattle.seat_gate.specs.Told.{left_last}
use Rattle.shared_history.specs.Fitting.{seat_of}
use Rattle.shared_history.specs.declared.notes.Notes.{Notes}
use Rattle.thread_run.specs.Gate.{gate_tells}
use Rattle.thread_run.proofs.at_gate.AtGate.new.Goals as goal

pub returns-clause-ready : goal.returns-clause-ready
returns-clause-ready g c =
    let view = c.new-stand.ensures.view in
    let notes = c.first_notes-notes.ensures in
    let small : 0 < 2 ^ 32 = omega arith in
    record {
      gate = refl;
      ready = c.new-stand.ensures.ready;
      own = subst HasMade (sym view) c.requires.own;
      keeps = record { opened = refl; number = refl; joined = refl; given = refl };
      session = refl;
      numbered = ap (λ (v : View). v.number) view ∙ c.requires.numbered ∙ ap (λ (n : Notes). seat_of n.session) (sym notes);
      small = subst (λ (n : Notes). n.statement < 2 ^ 32) (sym notes) small;
      parts = c.requires.seen.0;
      spelled = c.requires.seen.2 ∙ ap (λ (v : View). left_last v.opened v.seen) (sym view);
      shared = c.requires.seen.1;
      stands = c.requires.seen.3;
    }

pub returns-clause-tells : goal.returns-clause-tells
returns-clause-tells g c = λ i. gate_tells (c.new-stand.ensures.view i) (c.new-stand.ensures.rests i) (c.first_notes-notes.ensures i)
