-- What a source and a sink in memory are, and what one call makes of them.
use Rattle.std.specs.Prelude.{ℕ, ◌-◌, ◌^◌, ◌==◌, ◌++◌, Bool, ◌&&◌, ◌||◌, not, if◌then◌else◌, List, [], length, take, drop, min}
use Rattle.std.specs.List.{list_any}
use Rattle.wire_io.specs.Causes.{counted}

-- a source; calls are numbered from 0
pub record Supply : Type 0 where
  pub left : List ℕ  -- the bytes left
  pub most : ℕ  -- how many bytes a call moves at most
  pub failing : List ℕ  -- the numbers of the calls that fail
  pub calls : ℕ  -- the number of the next call
  pub faults : ℕ  -- the failures so far

-- a sink
pub record Holding : Type 0 where
  pub held : List ℕ  -- the bytes held
  pub room : ℕ  -- for how many more bytes room is left
  pub most : ℕ  -- how many bytes a call takes at most
  pub failing : List ℕ  -- the numbers of the calls that fail, room or not
  pub calls : ℕ  -- the number of the next call
  pub faults : ℕ  -- the failures so far

-- call `number` is one of those listed
abbrev pub is_listed : ℕ → List ℕ → Bool
is_listed number listed = list_any (λ other. other == number) listed

-- a source with these bytes, whose first call comes next
abbrev pub supply : List ℕ → ℕ → List ℕ → Supply
supply bytes most failing = record { left = bytes; most = most; failing = failing; calls = 0; faults = 0 }

-- a sink that is empty
abbrev pub holding : ℕ → ℕ → List ℕ → Holding
holding room most failing = record { held = []; room = room; most = most; failing = failing; calls = 0; faults = 0 }

-- a limit that no call meets, since no buffer and no piece is longer
abbrev pub no_limit : ℕ
no_limit = 2 ^ 64 - 1

-- the next read fails
abbrev pub read_fails : Supply → Bool
read_fails source = is_listed source.calls source.failing

-- how many bytes a read that doesn't fail moves into `space` bytes
abbrev pub read_count : Supply → ℕ → ℕ
read_count source space = min (min source.most space) (length source.left)

-- the source after a read into `space` bytes
abbrev pub after_read : Supply → ℕ → Supply
after_read source space = if read_fails source
    then record source { calls = counted source.calls; faults = counted source.faults }
    else record source { left = drop (read_count source space) source.left; calls = counted source.calls }

-- the next write fails: it is listed, or there is something to take and no room
abbrev pub write_fails : Holding → List ℕ → Bool
write_fails sink piece = is_listed sink.calls sink.failing || (not (length piece == 0) && (sink.room == 0))

-- how many bytes of `piece` a write that doesn't fail takes
abbrev pub write_count : Holding → List ℕ → ℕ
write_count sink piece = min (min sink.most (length piece)) sink.room

-- the sink after a write of `piece`
abbrev pub after_write : Holding → List ℕ → Holding
after_write sink piece = if write_fails sink piece
    then record sink { calls = counted sink.calls; faults = counted sink.faults }
    else record sink {
      held = sink.held ++ take (write_count sink piece) piece;
      room = sink.room - write_count sink piece;
      calls = counted sink.calls;
    }

-- no call is listed to fail
abbrev pub is_steady : List ℕ → Bool
is_steady failing = length failing == 0

-- the room that a sink promises: all that is left where no call is listed to fail
abbrev pub promised_room : Holding → ℕ
promised_room sink = if is_steady sink.failing then sink.room else 0
