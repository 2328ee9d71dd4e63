use Rattle.std.proofs.Common.{◌≡◌, ◌<◌, ℕ, [], ◌∷◌, length, take, get_or, slice_index_or}
use Rattle.namespace_id.specs.Digests.{no_digest}
use Rattle.data_header.proofs.batches.eight_leaves.Given as goal

-- the messages so far
abbrev pub invariant-messages : goal.invariant-messages
invariant-messages l = record {
  count : length l.messages ≡ 8;
  done : (j : ℕ) → j < l.j → take 91 (slice_index_or l.messages j []) ≡ 0 ∷ (get_or l.leaves j no_digest).0;
}
