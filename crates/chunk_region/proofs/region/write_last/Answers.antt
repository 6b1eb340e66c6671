use Rattle.std.proofs.Common.{◌≤◌, ◌+◌, ℕ, length, take, subst, sym, ◌∙◌}
use Rattle.chunk_region.proofs.PageLemmas.{last_taken, room_is, used_some, written_taken}
use Rattle.chunk_region.proofs.region.write_last.Goals as goal

pub add-requires : goal.add-requires
add-requires c =
    let pages = c.args.pages.now.items in
    let room = room_is (length c.args.bytes.now) (take c.args.used pages) c.requires.room in
    let last = last_taken pages c.args.used c.index_mut-page.result.now (used_some pages c.args.used room.0) c.requires.used c.index_mut-page.ensures.value in
    let P : ℕ → Type 0 = λ n. n + length c.args.bytes.now ≤ 65536 in
    subst P last room.1

pub returns-clause-pages : goal.returns-clause-pages
returns-clause-pages c =
    let pages = c.args.pages.now.items in
    let room = room_is (length c.args.bytes.now) (take c.args.used pages) c.requires.room in
    written_taken pages c.args.used c.index_mut-page.result.now c.args.bytes.now c.add.new.self (used_some pages c.args.used room.0) c.requires.used
    c.index_mut-page.ensures.value c.add.ensures

pub returns-clause-start : goal.returns-clause-start
returns-clause-start c =
    let pages = c.args.pages.now.items in
    let room = room_is (length c.args.bytes.now) (take c.args.used pages) c.requires.room in
    let last = last_taken pages c.args.used c.index_mut-page.result.now (used_some pages c.args.used room.0) c.requires.used c.index_mut-page.ensures.value in
    c.len-start.ensures.count ∙ sym last
