use Rattle.std.proofs.Common.{◌+◌, ◌≤◌, List, length}
use Rattle.blob_feed.specs.Feeds.{Height}
use Rattle.da_following.specs.Follow.{items_in}
use Rattle.da_following.specs.Heights.{IsOnWay, begun}
use Rattle.da_following.proofs.follow.hand_over.Given as goal

-- the headers and answers before were handed over, each a byte at least
abbrev pub invariant-loop-found : goal.invariant-loop-found
invariant-loop-found l = record {
  way : (all : List Height) → IsOnWay l.names all l.fn.way (items_in l.answers) → IsOnWay l.names all l.way (items_in l.rest);
  few : begun l.way + length l.rest ≤ length l.answers;
  fits : l.way.told.missing ≤ length l.way.told.text.items;
}

-- how many bytes are left
abbrev pub decreases-loop-found : goal.decreases-loop-found
decreases-loop-found l = length l.rest
