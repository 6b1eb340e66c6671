use Rattle.std.proofs.Common.{◌≡◌, length, sym, ap, ◌∙◌, subst, arith}
use Rattle.std.proofs.lemmas.List.{length-take-le}
use Rattle.chunk_region.specs.declared.mark.Mark.{Mark}
use Rattle.chunk_region.specs.Holding.{Holding}
use Rattle.chunk_region.specs.Pages.{Pages, Stands, cut}
use Rattle.chunk_region.proofs.PageLemmas.{comes_back, cut_of_taken, cut_short, stays}
use Rattle.chunk_region.proofs.region.Region.back_to.Goals as goal

pub returns-then-self-mark-clause-cut : goal.returns-then-self-mark-clause-cut
returns-then-self-mark-clause-cut c =
    let past = c.if-self-mark.true in
    let count : length c.args.self.now.pages ≡ c.self.inside.used =
    sym (ap (λ (h : Holding). length h.pages) c.self.view_is) ∙ length-take-le c.self.inside.used c.self.inside.pages.items c.self.invariant.0 in
    sym (cut_short c.args.self.now.pages c.args.mark.pages c.args.mark.last (omega arith))

pub returns-then-self-mark-clause-back : goal.returns-then-self-mark-clause-back
returns-then-self-mark-clause-back c before later is =
    returns-then-self-mark-clause-cut c ∙ ap (λ (m : Mark). cut m c.args.self.now.pages) is ∙ comes_back before c.args.self.now.pages later

pub returns-clause-cut : goal.returns-clause-cut
returns-clause-cut c =
    c.cut_last.ensures.pages
    ∙ sym (cut_of_taken c.self.inside.pages.items c.args.mark.pages c.self.inside.used c.args.mark.last c.if-self-mark.false)
    ∙ ap (λ (h : Holding). cut c.args.mark h.pages) c.self.view_is

pub returns-clause-back : goal.returns-clause-back
returns-clause-back c before later is =
    returns-clause-cut c ∙ ap (λ (m : Mark). cut m c.args.self.now.pages) is ∙ comes_back before c.args.self.now.pages later

pub returns-clause-stays : goal.returns-clause-stays
returns-clause-stays c span bytes before held =
    let P : Pages → Type 0 = λ pages. Stands pages span bytes in
    subst P (sym (returns-clause-cut c)) (stays c.args.self.now.pages c.args.mark span bytes before held)
