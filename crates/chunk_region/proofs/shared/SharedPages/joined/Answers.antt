use Rattle.std.proofs.Common.{◌≡◌, ◌<◌, ◌+◌, ℕ, List, length, drop, ap, arith}
use Rattle.std.proofs.lemmas.List.{length-append}
use Rattle.chunk_region.proofs.shared.SharedPages.joined.Goals as goal

pub invariant_of-result : goal.invariant_of-result
invariant_of-result c =
    let done = c.loop-page.pages.items in
    let items = c.as_slice-page-items.result.now in
    let all = ap length c.loop-page.invariant in
    let front = length-append done (drop c.loop-page.page-index items) in
    let both = length-append c.args.self c.args.other.now in
    let mine = ap length c.self.view_is in
    let others = ap length c.other.view_is in
    let count = c.if-count.false in
    let first = c.len.ensures.value in
    let second = c.len-2.ensures.value in
    omega arith
