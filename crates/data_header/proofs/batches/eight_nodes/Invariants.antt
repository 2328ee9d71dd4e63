use Rattle.std.proofs.Common.{◌≡◌, ◌<◌, ◌+◌, ◌*◌, ◌++◌, ℕ, [], ◌∷◌, length, take, slice_index_or}
use Rattle.data_header.specs.HashTrees.{hash_at}
use Rattle.data_header.proofs.batches.eight_nodes.Given as goal

-- the messages so far
abbrev pub invariant-messages : goal.invariant-messages
invariant-messages l = record {
  count : length l.messages ≡ 8;
  done : (j : ℕ) → j < l.j → take 65 (slice_index_or l.messages j []) ≡ 1 ∷ hash_at l.level (2 * j) ++ hash_at l.level (2 * j + 1);
}
