use Rattle.std.proofs.Common.{ap, sym, ◌∙◌}
use Rattle.prolly_edit.specs.Fronts.{is_over}
use Rattle.prolly_edit.proofs.FrontLemmas.{over_path}
use Rattle.prolly_edit.proofs.paths.Path.is_empty.Goals as goal

pub returns : goal.returns
returns g c = c.is_empty.ensures ∙ sym (over_path c.self.inside.steps.items c.self.invariant) ∙ ap is_over c.self.view_is
