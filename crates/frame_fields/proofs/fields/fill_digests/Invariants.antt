use Rattle.std.proofs.Common.{◌≡◌, ◌+◌, ◌-◌, ◌*◌, ◌≤◌, ◌++◌, length, vec_len, vec_capacity}
use Rattle.frame_fields.specs.Fields.{digests_of}
use Rattle.frame_fields.proofs.fields.fill_digests.Given as goal

-- the digests so far and those of the rest are all, and no capacity was lost
abbrev pub invariant-loop : goal.invariant-loop
invariant-loop l = record {
  done : l.list.items ++ digests_of (l.count - l.counter) l.rest ≡ l.fn.list.items ++ digests_of l.count l.bytes;
  len : vec_len l.list ≡ vec_len l.fn.list + l.counter;
  left : length l.rest ≡ 90 * (l.count - l.counter);
  capacity : vec_capacity l.fn.list ≤ vec_capacity l.list;
}
