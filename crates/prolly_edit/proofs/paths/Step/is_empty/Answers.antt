use Rattle.std.proofs.Common.{ap, sym, ◌∙◌}
use Rattle.std.specs.Prelude.{◌==◌}
use Rattle.tuple_codec.specs.Nodes.{Node}
use Rattle.prolly_edit.specs.Fronts.{is_over}
use Rattle.prolly_edit.specs.Names.{names_from}
use Rattle.prolly_tree.specs.Fronts.{on_level}
use Rattle.prolly_edit.proofs.FrontLemmas.{over_is}
use Rattle.prolly_edit.proofs.paths.Step.is_empty.Goals as goal

pub returns : goal.returns
returns g c =
    let s = c.self.inside in
    ap (λ n. n == 0) (sym c.self.invariant.many) ∙ sym (over_is s.level (names_from s.level s.left s.start s.bytes.items))
    ∙ ap (λ (n : Node). is_over (on_level n.level n.items)) c.self.view_is
