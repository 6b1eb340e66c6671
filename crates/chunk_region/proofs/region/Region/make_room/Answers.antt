use Rattle.std.proofs.Common.{◌≡◌, ◌≤◌, ◌++◌, ◌∷◌, [], ℕ, true, ap, ◌∙◌, Result, Ok, Err, OnOk}
use Rattle.chunk_region.specs.Pages.{Pages, has_room}
use Rattle.chunk_region.proofs.PageLemmas.{room_new}
use Rattle.chunk_region.proofs.region.Region.make_room.Goals as goal

opened : {A E : Type 0} (r : Result A E) (more : ℕ) (pages new : Pages) → more ≤ 65536 → OnOk r (new ≡ pages ++ [] ∷ []) → OnOk r (has_room more new ≡ true)
opened (Ok _) more pages new fits is = ap (has_room more) is ∙ room_new more pages fits
opened (Err _) more pages new fits is = tt

pub returns-clause-has : goal.returns-clause-has
returns-clause-has c = opened c.open_page.result c.args.more c.args.self.now.pages c.open_page.new.self.pages c.requires c.open_page.ensures.pages
