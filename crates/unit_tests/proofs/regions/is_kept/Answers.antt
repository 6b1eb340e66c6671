use Rattle.std.proofs.Common.{sym, subst}
use Rattle.chunk_region.specs.Pages.{IsWritten, Pages}
use Rattle.chunk_region.proofs.PageLemmas.{is_written}
use Rattle.unit_tests.proofs.regions.is_kept.Goals as goal

pub bytes-requires : goal.bytes-requires
bytes-requires c = is_written _ c.in_ok-word.word _ (c.place-2.ensures.keeps c.in_ok-word.word _ c.in_ok-word.ensures.stands)

pub bytes-requires-2 : goal.bytes-requires-2
bytes-requires-2 c =
    let before = c.mark-mark.ensures.before c.in_ok-word.word _ c.in_ok-word.ensures.stands in
    let kept = c.place-2.ensures.keeps c.in_ok-word.word _ c.in_ok-word.ensures.stands in
    is_written _ c.in_ok-word.word _ (c.back_to.ensures.stays c.in_ok-word.word _ before kept)

pub bytes-requires-3 : goal.bytes-requires-3
bytes-requires-3 c =
    let P : Pages → Type 0 = λ pages. IsWritten pages c.in_ok-word.word in
    let before = c.mark-mark.ensures.before c.in_ok-word.word _ c.in_ok-word.ensures.stands in
    let kept = c.place-2.ensures.keeps c.in_ok-word.word _ c.in_ok-word.ensures.stands in
    subst P (sym c.seal-sealed.ensures.kept) (is_written _ c.in_ok-word.word _ (c.back_to.ensures.stays c.in_ok-word.word _ before kept))
