use Rattle.std.proofs.Common.{◌∙◌, sym}
use Rattle.session_state.proofs.ChangeLemmas.{changed_as_told}
use Rattle.session_state.proofs.sessions.Session.is_changed.Goals as goal

pub returns-in-Some : goal.returns-in-Some
returns-in-Some g c p stands =
    c.ne.ensures ∙ changed_as_told g.D.Digester.address c.args.self.now.draft.chunks c.args.self.now.start c.in-Some.look c.args.self.now.own p.transaction
    c.law_of_records.ensures c.in-Some.is stands.transaction
