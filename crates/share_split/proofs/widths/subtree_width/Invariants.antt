use Rattle.std.proofs.Common.{◌≡◌, ◌<◌, ◌^◌, ◌/◌, ◌-◌, false}
use Rattle.std.specs.Int.{IsPowerOfTwo}
use Rattle.share_split.specs.Widths.{is_wide_enough, subtree_width_of}
use Rattle.namespace_id.proofs.DoublingLemmas.{IsOnTheWay}
use Rattle.share_split.proofs.widths.subtree_width.Given as goal

-- a width on the way to the one that is looked for: a power of two, half of which isn't enough
abbrev pub invariant-loop-width : goal.invariant-loop-width
invariant-loop-width l = record {
  way : IsOnTheWay (is_wide_enough l.count) (2 ^ 28) (subtree_width_of l.count) l.width;
  power : IsPowerOfTwo l.width;
  bound : l.width < 2 ^ 29;
  least : 1 < l.width → is_wide_enough l.count (l.width / 2) ≡ false;
}

abbrev pub decreases-loop-width : goal.decreases-loop-width
decreases-loop-width l = 2 ^ 29 - l.width
