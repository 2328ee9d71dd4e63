-- What is proved of the lists for which a session stands.
use Rattle.std.proofs.Common.{◌≡◌, List}
use Rattle.namespace_id.specs.declared.cells.Cell.{Cell}
use Rattle.data_header.specs.Headers.{Roots}
use Rattle.axis_roots.specs.declared.message.messages.Message.{Message}
use Rattle.repair_queue.specs.declared.sessions.SessionState.TheVariants as state
use Rattle.repair_queue.specs.Closures.{Covers}
use Rattle.repair_queue.specs.Settled.{IsSettled}
use Rattle.repair_queue.specs.SessionParts.{SessionParts, SessionEnd, going, accused, collided, IsShownBy, StandsOpen, StandsBy, SessionStands}
use Rattle.repair_queue.specs.Sessions.{state_by, session_state}
use Rattle.repair_queue.proofs.Facts.ClosureLemmas.{half_grows, fact_grows}
use Rattle.repair_queue.proofs.Facts.GrowthLemmas.{decided_grows, settled_same, fraud_grows, clash_grows}

-- nothing has ended an open session
by_open : (s : SessionParts) (ms : List Message) (end : SessionEnd) → state_by end ≡ state.Open → StandsBy s ms end → StandsOpen s ms
by_open s ms going is stand = stand
by_open s ms (accused claim) is stand = absurd cc
by_open s ms (collided left right) is stand = absurd cc

pub open_stands_open : (s : SessionParts) (ms : List Message) → session_state s ≡ state.Open → SessionStands s ms → StandsOpen s ms
open_stands_open s ms is stand = by_open s ms s.ended is stand

-- the samples of an open session are settled
pub session_settled : (s : SessionParts) (ms : List Message) → session_state s ≡ state.Open → SessionStands s ms → IsSettled s.header ms
session_settled s ms is stand = (open_stands_open s ms is stand).settled

-- ---- only the proved samples count

-- what shows a cell shows it in each list with the same proved samples
shown_in : (header : Roots) (ms others : List Message) (cell : Cell) (m : Message) → Covers header ms others → IsShownBy header ms cell m
    → IsShownBy header others cell m
shown_in header ms others cell m covers by = record { listed = covers m by.listed by.proved; proved = by.proved; cell_is = by.cell_is }

-- an open session stands for each of them
open_same : (s : SessionParts) (ms others : List Message) → Covers s.header ms others → Covers s.header others ms → StandsOpen s ms → StandsOpen s others
open_same s ms others to from stand = record {
  known = λ cell inside. (
    (λ is. half_grows s.header ms others to cell ((stand.known cell inside).0 is)),
    λ half. (stand.known cell inside).1 (half_grows s.header others ms from cell half),
  );
  settled = settled_same s.header ms others to from stand.settled;
  decided = λ axis i within. (
    (λ on. decided_grows s.header ms others axis i to ((stand.decided axis i within).0 on)),
    λ d. (stand.decided axis i within).1 (decided_grows s.header others ms axis i from d),
  );
  shares = λ cell inside on. fact_grows s.header ms others to cell _ (stand.shares cell inside on);
  kept = λ axis cell m off e. shown_in s.header ms others cell m to (stand.kept axis cell m off e);
  shown = λ cell m off by. stand.shown cell m off (shown_in s.header others ms cell m from by);
}

by_same : (s : SessionParts) (ms others : List Message) (end : SessionEnd) → Covers s.header ms others → Covers s.header others ms → StandsBy s ms end
    → StandsBy s others end
by_same s ms others going to from stand = open_same s ms others to from stand
by_same s ms others (accused claim) to from stand = fraud_grows s.header ms others claim to stand
by_same s ms others (collided left right) to from stand = clash_grows s.header ms others left right to stand

-- so does any other
pub session_same : (s : SessionParts) (ms others : List Message) → Covers s.header ms others → Covers s.header others ms → SessionStands s ms
    → SessionStands s others
session_same s ms others to from stand = by_same s ms others s.ended to from stand
