use Rattle.std.proofs.Common.{List, length}
use Rattle.da_wire.specs.Walks.{walk_from}
use Rattle.da_net.specs.declared.items.Item.{Item}
use Rattle.da_net.specs.Nets.{IsSameNet}
use Rattle.da_script.specs.Scripts.{move_at}
use Rattle.da_script.specs.Parts.{AreFramesOf}
use Rattle.da_script.proofs.PlayLemmas.{Gone}
use Rattle.da_script.proofs.playing.go_on.Given as goal

-- the network was taken through the events so far
abbrev pub invariant-loop-one : goal.invariant-loop-one
invariant-loop-one g l = record {
  gone : (items : List Item) → AreFramesOf l.frames items
      → Gone items l.fn.net (walk_from (move_at (length l.frames)) 0 l.moves) (walk_from (move_at (length l.frames)) 0 l.rest) l.net l.fn.text.items l.text.items;
  kept : IsSameNet l.fn.net l.net;
}

-- how many bytes are left
abbrev pub decreases-loop-one : goal.decreases-loop-one
decreases-loop-one g l = length l.rest
