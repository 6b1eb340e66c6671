use Rattle.std.proofs.Common.{◌≤◌, ◌∙◌, ap, refl, sym, subst}
use Rattle.schema_model.specs.Limits.{most_branches}
use Rattle.session_state.specs.Changes.{StateStands}
use Rattle.shared_db.specs.Members.{lines_of, places_of}
use Rattle.shared_db.specs.Shared.{Db}
use Rattle.shared_db.specs.Stepping.{removing}
use Rattle.shared_db.proofs.StandLemmas.{fewer_lines_rise, remove_ends}
use Rattle.shared_db.proofs.shared.SharedDb.delete.Goals as goal

pub invariant_of-self : goal.invariant_of-self
invariant_of-self c = (
  fewer_lines_rise c.args.name.now (lines_of c.self.inside.branches.items) (lines_of c.remove_branch.new.branches.items) c.remove_branch.result c.remove_branch.ensures.done
      c.remove_branch.ensures.same c.self.invariant.0,
  subst (λ n. most_branches ≤ n) (sym c.remove_branch.ensures.capacity) c.self.invariant.1,
  c.self.invariant.2,
)

pub returns-clause-plain : goal.returns-clause-plain
returns-clause-plain c = λ session address shared p stands placed.
    let s = subst (λ (db : Db). StateStands address db.parts shared) (sym c.self.view_is) stands in
    remove_ends address _ shared s c.args.name.now c.remove_branch.result _
    (c.remove_branch.ensures.reply ∙ ap (λ l. removing c.args.name.now (lines_of c.self.inside.branches.items) (places_of l)) c.as_slice.ensures.value) c.remove_branch.ensures.done refl refl
