use Rattle.std.proofs.Common.{◌≡◌, ◌∙◌, subst, sym, true}
use Rattle.sql_procedures.specs.Arguments.{is_point}
use Rattle.serving.proofs.PointLemmas.{point_is_there}
use Rattle.serving.proofs.branching.name_in.Goals as goal

pub unreachable-requires : goal.unreachable-requires
unreachable-requires c =
    point_is_there c.as_slice.result.now (subst (λ bytes. is_point bytes ≡ true) (sym c.as_slice.ensures) c.requires) (sym c.read.ensures ∙ c.in-None.is)
