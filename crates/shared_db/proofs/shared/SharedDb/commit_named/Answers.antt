use Rattle.std.proofs.Common.{◌∙◌, ap, sym, subst}
use Rattle.session_state.specs.Changes.{StateStands}
use Rattle.shared_db.specs.Members.{lines_of}
use Rattle.shared_db.specs.Shared.{Db}
use Rattle.shared_db.specs.Stepping.{commit_at}
use Rattle.shared_db.proofs.StandLemmas.{commit_in_both}
use Rattle.shared_db.proofs.shared.SharedDb.commit_named.Goals as goal

pub returns : goal.returns
returns c = λ address shared stands.
    let s = subst (λ (db : Db). StateStands address db.parts shared) (sym c.self.view_is) stands in
    c.commit_at.ensures address shared.commits s.commits
    ∙ ap (λ l. commit_at shared.commits c.args.name.now (lines_of l)) c.as_slice.ensures.value
    ∙ commit_in_both address _ shared.commits c.args.name.now _ shared.branches s.branches
