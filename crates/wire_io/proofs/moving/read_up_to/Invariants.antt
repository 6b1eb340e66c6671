use Rattle.std.proofs.Common.{◌≡◌, ◌<◌, ◌≤◌, ◌-◌, ◌^◌, true, vec_len, vec_capacity}
use Rattle.std.specs.Io.KnownBytes.{Consumes}
use Rattle.wire_io.proofs.moving.read_up_to.Given as goal

abbrev pub invariant-turns : goal.invariant-turns
invariant-turns g l = record {
  consumes : Consumes (g.S.Source.left l.fn.source) (g.S.Source.left l.source) l.bytes.items;
  size : vec_len l.bytes ≤ l.most;
  room : l.most ≤ vec_capacity l.bytes;
  later : g.S.Source.faults l.fn.source ≤ g.S.Source.faults l.source;
  within : g.S.Source.faults l.fn.source < 2 ^ 64 → g.S.Source.faults l.source < 2 ^ 64;
  calm : g.S.Source.steady l.fn.source ≡ true → g.S.Source.faults l.source ≡ g.S.Source.faults l.fn.source;
  steady : g.S.Source.steady l.fn.source ≡ true → g.S.Source.steady l.source ≡ true;
}

abbrev pub decreases-turns : goal.decreases-turns
decreases-turns g l = l.most - vec_len l.bytes
