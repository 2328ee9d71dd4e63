use Rattle.std.proofs.Common.{◌≡◌, suc, ◌+◌, ◌-◌, ◌≤◌, ◌++◌, vec_len, vec_capacity}
use Rattle.share_split.specs.Units.{later_compact_shares, starts_from}
use Rattle.share_split.specs.Texts.{starts_of, IsNextOf}
use Rattle.share_split.proofs.compact.put_later_compact.Given as goal

-- what is there and what is left are all, and there is capacity for what is left
abbrev pub invariant-loop-i : goal.invariant-loop-i
invariant-loop-i l = record {
  all : l.out.items ++ later_compact_shares (l.count - l.i) l.namespace (suc l.i) (starts_of l.units l.next) l.rest
      ≡ l.fn.out.items ++ later_compact_shares l.count l.namespace 1 (starts_from 0 l.units) l.text;
  next : IsNextOf l.units l.next;
  len : vec_len l.out + (l.count - l.i) ≡ vec_len l.fn.out + l.count;
  capacity : vec_capacity l.fn.out ≤ vec_capacity l.out;
}
