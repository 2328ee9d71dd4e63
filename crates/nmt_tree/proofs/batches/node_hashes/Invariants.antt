use Rattle.std.proofs.Common.{◌≡◌, ◌<◌, ℕ, [], length, take, slice_index_or}
use Rattle.nmt_tree.specs.Batches.{node_bytes}
use Rattle.nmt_tree.proofs.batches.node_hashes.Given as goal

-- the messages so far
abbrev pub invariant-messages : goal.invariant-messages
invariant-messages l = record {
  count : length l.messages ≡ 8;
  done : (j : ℕ) → j < l.j → take 181 (slice_index_or l.messages j []) ≡ node_bytes l.level j;
}
