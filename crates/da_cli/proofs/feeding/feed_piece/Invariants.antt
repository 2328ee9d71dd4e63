use Rattle.std.proofs.Common.{◌≡◌, ◌+◌, ◌≤◌, length}
use Rattle.repair_queue.specs.SessionParts.{SessionStands}
use Rattle.da_cli.proofs.FeedingLemmas.{IsPart}
use Rattle.da_cli.proofs.feeding.feed_piece.Given as goal

-- of the piece so many bytes are done
abbrev pub invariant-loop-rest : goal.invariant-loop-rest
invariant-loop-rest l = record {
  header : l.session.header ≡ l.header;
  part : IsPart l.fn.stream l.stream (SessionStands l.fn.session) (SessionStands l.session) l.header l.piece l.rest l.lies;
  few : l.lies + length l.rest ≤ length l.piece;
  taken : l.stream.taken + length l.rest ≡ l.fn.stream.taken + length l.piece;
}

abbrev pub decreases-loop-rest : goal.decreases-loop-rest
decreases-loop-rest l = length l.rest
