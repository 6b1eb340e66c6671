use Rattle.std.proofs.Common.{◌≡◌, ◌<◌, ◌≤◌, ℕ, length, take, ap, ◌∙◌, arith}
use Rattle.std.proofs.lemmas.List.{length-take}
use Rattle.chunk_region.specs.Holding.{Holding}
use Rattle.chunk_region.proofs.region.Region.shared_copy.Goals as goal

pub invariant_of-result : goal.invariant_of-result
invariant_of-result c =
    let items = c.self.inside.pages.items in
    let copied = ap length c.loop-at.invariant in
    let few = length-take c.loop-at.at c.args.self.now.pages in
    let seen = ap (λ (h : Holding). length h.pages) c.self.view_is in
    let used = length-take c.self.inside.used items in
    let most = c.self.invariant.1 in
    omega arith
