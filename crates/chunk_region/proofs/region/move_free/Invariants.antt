use Rattle.std.proofs.Common.{◌≡◌, ◌≤◌, ◌+◌, ◌-◌, length, take, vec_len}
use Rattle.std.specs.Vec.{vec_capacity}
use Rattle.chunk_region.proofs.region.move_free.Given as goal

abbrev pub invariant-pages : goal.invariant-pages
invariant-pages l = record {
  front : take l.used l.pages.items ≡ take l.used l.fn.pages.items;
  used : l.used ≤ length l.pages.items;
  all : length l.fn.pages.items - l.used ≤ vec_capacity l.fn.free → length l.free.items + length l.pages.items ≡ length l.fn.pages.items;
  most : length l.free.items + length l.pages.items ≤ length l.fn.pages.items;
  room : vec_capacity l.fn.free ≤ vec_capacity l.free;
}

abbrev pub decreases-pages : goal.decreases-pages
decreases-pages l = vec_len l.pages
