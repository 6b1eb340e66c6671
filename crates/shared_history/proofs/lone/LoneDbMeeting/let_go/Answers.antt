use Rattle.std.proofs.Common.{◌∙◌, ◌<◌, ◌^◌, ap, sym, subst, false}
use Rattle.shared_history.specs.declared.notes.Notes.{Notes}
use Rattle.shared_history.proofs.LoneLemmas.{alone}
use Rattle.shared_history.proofs.lone.LoneDbMeeting.let_go.Goals as goal

pub returns-clause-ready : goal.returns-clause-ready
returns-clause-ready g c = λ first at. record {
  opened = at.opened;
  log = at.log;
  fits = at.fits;
  small = subst (λ n. n < 2 ^ 32) (sym (ap (λ (n : Notes). n.statement) c.with_call-self.ensures)) at.small;
  session = ap (λ (n : Notes). n.session) c.with_call-self.ensures ∙ at.session;
}

pub returns-clause-free : goal.returns-clause-free
returns-clause-free g c = ap (λ (n : Notes). alone c.args.self.now.db false n) c.with_call-self.ensures
