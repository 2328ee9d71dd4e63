use Rattle.std.proofs.Common.{◌≡◌, ◌≤◌, ◌+◌, ◌*◌, length}
use Rattle.da_wire.specs.Walks.{walk_from}
use Rattle.da_script.specs.Scripts.{move_at}
use Rattle.da_script.specs.Plays.{pooling, put_bytes}
use Rattle.da_script.specs.Parts.{payload_sizes}
use Rattle.da_script.proofs.reading.count_moves.Given as goal

-- the events so far were counted
abbrev pub invariant-loop-one : goal.invariant-loop-one
invariant-loop-one l = record {
  few : l.counts.moves + length l.rest ≤ length l.moves;
  fewer : l.counts.pooling ≤ l.counts.moves;
  light : l.counts.bytes ≤ 18446744073709551615 * l.counts.moves;
  all : l.counts.moves + length (walk_from (move_at (length l.frames)) 0 l.rest) ≡ length (walk_from (move_at (length l.frames)) 0 l.moves);
  some : l.counts.pooling + pooling (walk_from (move_at (length l.frames)) 0 l.rest) ≡ pooling (walk_from (move_at (length l.frames)) 0 l.moves);
  bytes : l.counts.bytes + put_bytes (payload_sizes l.frames) (walk_from (move_at (length l.frames)) 0 l.rest)
      ≡ put_bytes (payload_sizes l.frames) (walk_from (move_at (length l.frames)) 0 l.moves);
}

-- how many bytes are left
abbrev pub decreases-loop-one : goal.decreases-loop-one
decreases-loop-one l = length l.rest
