use Rattle.std.proofs.Common.{◌≡◌, ◌<◌, ◌-◌, ◌++◌, length, ap, sym, subst, ◌∙◌, arith}
use Rattle.std.proofs.lemmas.Result.{IfOk-weaker}
use Rattle.tuple_codec.specs.Nodes.{Node}
use Rattle.prolly_edit.specs.Fronts.{on_level}
use Rattle.prolly_edit.proofs.applying.read_names.Goals as goal

pub push-requires-after_bounds : goal.push-requires-after_bounds
push-requires-after_bounds g c κs within =
    (omega arith, subst (λ (s : Node). 0 < length s.items) (sym (c.in_ok-step.ensures c.requires.0 c.requires.1 c.requires.2)) c.requires.3)

pub returns : goal.returns
returns g c node stored inner =
    let step = c.in_ok-step.step in
    let path = c.args.path.now in
    IfOk-weaker c.push.result (λ _. c.push.new.self ≡ on_level step.level step.items ++ path) (λ _. c.push.new.self ≡ on_level (node.level - 1) node.items ++ path)
    (λ _ come. come ∙ ap (λ (s : Node). on_level s.level s.items ++ path) (c.in_ok-step.ensures node stored inner)) c.push.ensures
