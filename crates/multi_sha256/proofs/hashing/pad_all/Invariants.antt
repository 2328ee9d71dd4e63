use Rattle.std.proofs.Common.{◌≡◌, ◌≤◌, ◌<◌, ℕ, [], length, take, slice_index_or}
use Rattle.sha2.specs.Sha256.{padded_message}
use Rattle.multi_sha256.proofs.hashing.pad_all.Given as goal

-- the messages that have their padding, and those that are left
abbrev pub invariant-messages : goal.invariant-messages
invariant-messages g l = record {
  count : length l.messages ≡ 8;
  sizes : (j : ℕ) → j < l.j → length (slice_index_or l.fn.messages j []) ≡ g.row.N;
  done : (j : ℕ) → j < l.j → slice_index_or l.messages j [] ≡ padded_message (take l.size (slice_index_or l.fn.messages j []));
  left : (j : ℕ) → l.j ≤ j → slice_index_or l.messages j [] ≡ slice_index_or l.fn.messages j [];
}
