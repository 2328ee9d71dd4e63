use Rattle.std.proofs.Common.{◌≡◌, ◌<◌, ℕ, [], slice_index_or}
use Rattle.sha2.specs.Sha256.{hash_after, initial_hash_256}
use Rattle.multi_sha256.specs.Lanes.{lane}
use Rattle.multi_sha256.proofs.hashing.final_states.Given as goal

-- the blocks so far
abbrev pub invariant-blocks-2 : goal.invariant-blocks-2
invariant-blocks-2 g l = (j : ℕ) → j < 8 → lane j l.states ≡ hash_after initial_hash_256 (slice_index_or l.messages j []) l.block
