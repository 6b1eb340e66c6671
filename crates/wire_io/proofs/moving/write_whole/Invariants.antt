use Rattle.std.proofs.Common.{length, ◌-◌, ◌≡◌, ◌<◌, ◌≤◌, ◌+◌, ◌^◌, take}
use Rattle.std.specs.Io.KnownBytes.{Appends}
use Rattle.wire_io.proofs.moving.write_whole.Given as goal

abbrev pub invariant-turns : goal.invariant-turns
invariant-turns g l = record {
  within_bytes : l.at ≤ length l.bytes;
  appends : Appends (g.K.Sink.held l.fn.sink) (g.K.Sink.held l.sink) (take l.at l.bytes);
  later : g.K.Sink.faults l.fn.sink ≤ g.K.Sink.faults l.sink;
  within : g.K.Sink.faults l.fn.sink < 2 ^ 64 → g.K.Sink.faults l.sink < 2 ^ 64;
  room : g.K.Sink.room l.fn.sink ≤ g.K.Sink.room l.sink + l.at;
  calm : length l.bytes ≤ g.K.Sink.room l.fn.sink → g.K.Sink.faults l.sink ≡ g.K.Sink.faults l.fn.sink;
}

abbrev pub decreases-turns : goal.decreases-turns
decreases-turns g l = length l.bytes - l.at
