use Rattle.std.proofs.Common.{◌≡◌, ◌+◌, ◌-◌, ◌≤◌, ◌++◌, vec_len, vec_capacity}
use Rattle.share_split.specs.Blobs.{later_shares}
use Rattle.share_split.proofs.blobs.put_later.Given as goal

-- what is there and what is left are all, and there is capacity for what is left
abbrev pub invariant-loop : goal.invariant-loop
invariant-loop l = record {
  all : l.out.items ++ later_shares (l.count - l.counter) l.namespace l.version l.rest ≡ l.fn.out.items ++ later_shares l.count l.namespace l.version l.bytes;
  len : vec_len l.out + (l.count - l.counter) ≡ vec_len l.fn.out + l.count;
  capacity : vec_capacity l.fn.out ≤ vec_capacity l.out;
}
