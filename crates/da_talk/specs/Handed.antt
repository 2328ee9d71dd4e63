-- What is handed of a frame to what replies to it.
use Rattle.std.specs.Prelude.{ℕ, List, Bool, ◌==◌, ◌&&◌, not, length, nat_le, Option, Some, None, is_some, if◌then◌else◌}
use Rattle.std.specs.List.{filter}
use Rattle.frame_payloads.specs.kinds.State.{state_at}
use Rattle.da_wire.specs.Spelling.{state_kind}
use Rattle.da_wire.specs.Reading.{Raw}

-- a frame, where its payload has at most so many bytes
abbrev pub if_within : ℕ → Raw → Option Raw
if_within longest frame = if nat_le (length frame.payload) longest then Some frame else None

-- whether a frame asks how things stand: it is a state of the grammar
abbrev pub asks_state : Raw → Bool
asks_state frame = (frame.kind == state_kind) && is_some (state_at frame.payload)

-- the frames that don't ask, in their order
abbrev pub fed : List Raw → List Raw
fed frames = filter (λ frame. not (asks_state frame)) frames
