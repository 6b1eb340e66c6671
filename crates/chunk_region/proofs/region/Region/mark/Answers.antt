use Rattle.std.proofs.Common.{◌≡◌, ◌<◌, ◌≤◌, ◌+◌, ℕ, length, take, sym, ap, ◌∙◌, subst}
use Rattle.std.proofs.lemmas.List.{length-take-le}
use Rattle.chunk_region.specs.Holding.{Holding}
use Rattle.chunk_region.specs.Pages.{on_last_page}
use Rattle.chunk_region.proofs.PageLemmas.{ends_at}
use Rattle.chunk_region.proofs.region.Region.mark.Goals as goal

pub returns-clause-before : goal.returns-clause-before
returns-clause-before c span bytes held =
    let used = c.self.inside.used in
    let pages : used ≡ length c.args.self.now.pages =
    sym (length-take-le used c.self.inside.pages.items c.self.invariant.0) ∙ ap (λ (h : Holding). length h.pages) c.self.view_is in
    let last : c.on_last.result ≡ on_last_page c.args.self.now.pages =
    c.on_last.ensures.count ∙ ap (λ l. on_last_page (take used l)) c.deref.ensures.value ∙ ap (λ (h : Holding). on_last_page h.pages) c.self.view_is in
    let before = ends_at c.args.self.now.pages span bytes held in
    let P : ℕ → Type 0 = λ n. span.page < n in
    let Q : ℕ → Type 0 = λ n. span.start + span.len ≤ n in
    (subst P (sym pages) before.0, λ end. subst Q (sym last) (before.1 (end ∙ pages)))
