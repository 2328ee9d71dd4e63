use Rattle.std.proofs.Common.{length, ◌-◌, ◌≡◌}
use Rattle.share_split.specs.Units.{starts_on}
use Rattle.share_split.specs.Texts.{IsNextOf, starts_of}
use Rattle.share_split.proofs.texts.next_on.Given as goal

-- the units passed start before the place
abbrev pub invariant-loop-next : goal.invariant-loop-next
invariant-loop-next l = record {
  starts : starts_on l.from (starts_of l.units l.next) ≡ starts_on l.from (starts_of l.units l.fn.next);
  next : IsNextOf l.units l.next;
}

abbrev pub decreases-loop-next : goal.decreases-loop-next
decreases-loop-next l = length l.units - l.next.index
