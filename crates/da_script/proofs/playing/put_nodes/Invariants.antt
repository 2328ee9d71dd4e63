use Rattle.std.proofs.Common.{◌≡◌}
use Rattle.da_script.specs.Plays.{AreNodeLines}
use Rattle.da_script.specs.Parts.{Adds}
use Rattle.da_script.proofs.playing.put_nodes.Given as goal

-- the lines of the nodes so far were added
abbrev pub invariant-loop-node : goal.invariant-loop-node
invariant-loop-node g l = record {
  room : l.room.k ≡ l.net.header.k;
  lines : Adds (AreNodeLines l.net l.node) l.fn.text.items l.text.items;
}
