use Rattle.std.proofs.Common.{◌≡◌, ◌≤◌, length, take, vec_len}
use Rattle.std.specs.Vec.{vec_capacity}
use Rattle.chunk_region.proofs.pool.add_pages.Given as goal

abbrev pub invariant-loop-page : goal.invariant-loop-page
invariant-loop-page l = record {
  front : take (length l.fn.pages.items) l.pages.items ≡ l.fn.pages.items;
  count : vec_len l.pages ≡ l._page;
  before : length l.fn.pages.items ≤ length l.pages.items;
  room : l.count ≤ vec_capacity l.pages;
}
