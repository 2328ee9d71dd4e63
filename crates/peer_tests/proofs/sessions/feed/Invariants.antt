use Rattle.std.proofs.Common.{◌≡◌}
use Rattle.peer_tests.proofs.sessions.feed.Given as goal

-- the room is for the square of the session's header
abbrev pub invariant-loop-row : goal.invariant-loop-row
invariant-loop-row g l = l.room.k ≡ l.session.header.k
