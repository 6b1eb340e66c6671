use Rattle.std.proofs.Common.{length, sym, subst, ◌∙◌}
use Rattle.chunk_region.specs.Pages.{IsLater, Pages, Stands}
use Rattle.chunk_region.proofs.PageLemmas.{later_itself, later_place, later_stands, placed_is, room_is, written_stands}
use Rattle.chunk_region.proofs.region.Region.place.Goals as goal

pub returns-in_err-make_room-clause-later : goal.returns-in_err-make_room-clause-later
returns-in_err-make_room-clause-later c =
    let P : Pages → Type 0 = IsLater c.args.self.now.pages in
    subst P (sym c.in_err-make_room.ensures.same.pages) (later_itself c.args.self.now.pages)

pub returns-clause-stands : goal.returns-clause-stands
returns-clause-stands c =
    let before = c.make_room.new.self.pages in
    let P : Pages → Type 0 = λ pages. Stands pages c.write.result c.args.bytes.now in
    subst P (sym c.write.ensures.pages)
    (written_stands before c.args.bytes.now c.write.result (room_is (length c.args.bytes.now) before c.in_ok-make_room.ensures.has).0 c.write.ensures.span)

pub returns-clause-exact : goal.returns-clause-exact
returns-clause-exact c = c.write.ensures.pages ∙ placed_is c.args.bytes.now c.args.self.now.pages c.make_room.new.self.pages c.in_ok-make_room.ensures.pages

pub returns-clause-later : goal.returns-clause-later
returns-clause-later c =
    let P : Pages → Type 0 = IsLater c.args.self.now.pages in
    subst P (sym (returns-clause-exact c)) (later_place c.args.bytes.now c.args.self.now.pages)

pub returns-clause-keeps : goal.returns-clause-keeps
returns-clause-keeps c span bytes held = later_stands c.args.self.now.pages _ span bytes (returns-clause-later c) held
