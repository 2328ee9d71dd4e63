use Rattle.std.proofs.Common.{◌≤◌, length}
use Rattle.da_following.specs.Follow.{RunFeed, places_at}
use Rattle.da_following.specs.Heights.{AreSaid}
use Rattle.da_following.proofs.FeedLineLemmas.{IsLeft}
use Rattle.da_following.proofs.heights.put_height.Given as goal

-- the namespaces before were told
abbrev pub invariant-loop-name : goal.invariant-loop-name
invariant-loop-name l = record {
  left : (feed : RunFeed) → AreSaid feed l.number l.height l.names
      → IsLeft feed (places_at l.names l.number) l.fn.told (places_at l.rest l.number) l.told × AreSaid feed l.number l.height l.rest;
  fits : l.told.missing ≤ length l.told.text.items;
}

-- how many namespaces are left
abbrev pub decreases-loop-name : goal.decreases-loop-name
decreases-loop-name l = length l.rest
