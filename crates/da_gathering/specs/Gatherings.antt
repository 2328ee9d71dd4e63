-- A repair that is fed frame by frame, as contracts see it.
use Rattle.std.specs.Prelude.{◌≡◌, ◌≢◌, ◌⊎◌, ℕ, ◌+◌, ◌*◌, max, List, Bool, true, false, Option}
use Rattle.namespace_id.specs.declared.cells.Cell.{Cell}
use Rattle.namespace_id.specs.Cells.{is_width, is_in_square}
use Rattle.namespace_id.specs.Sizes.{share_size}
use Rattle.data_header.specs.Headers.{Roots}
use Rattle.axis_roots.specs.declared.message.messages.Message.{Message}
use Rattle.repair_queue.specs.SessionParts.{SessionParts, is_known, SessionStands}
use Rattle.repair_queue.specs.Sessions.{session_state}
use Rattle.repair_queue.specs.declared.sessions.SessionState.TheVariants as state
use Rattle.frame_payloads.specs.kinds.Message.{most_message}
use Rattle.da_status.specs.declared.status.Status.{Status}

-- a repair under a header: the session that it feeds, until it ends; how many frames were lies; whether it is over; and the
-- status that goes with its last words, once they are written
pub record Gathering : Type 0 where
  pub header : Roots
  pub session : Option SessionParts
  pub lies : ℕ
  pub is_over : Bool
  pub status : Option Status

-- every cell of the square is known
abbrev pub KnowsAll : SessionParts → Type 0
KnowsAll s = (cell : Cell) → is_in_square s.header.k cell ≡ true → is_known s cell ≡ true

-- a session is over where it found a fraud proof or a collision, or knows all cells, and else it isn't
abbrev pub IsSessionOver : Bool → SessionParts → Type 0
IsSessionOver true s = (session_state s ≢ state.Open) ⊎ KnowsAll s
IsSessionOver false s = (session_state s ≡ state.Open) × (KnowsAll s → ⊥)

-- a session under a header stands for some samples, and it is told whether it is over
pub record IsGatheringSession (header : Roots) (over : Bool) (s : SessionParts) : Type 0 where
  pub width : is_width header.k ≡ true
  pub under : s.header ≡ header
  pub ms : List Message
  pub stands : SessionStands s ms
  pub tells : IsSessionOver over s

-- the most bytes of what it writes at once: those of a square or of a claim of k cells. The frames of missing cells and of a
-- collision have fewer
abbrev pub most_gathered : ℕ → ℕ
most_gathered k = 5 + max (2 + share_size * (k * k)) (6 + most_message * k)
