use Rattle.std.proofs.Common.{◌≡◌, ℕ, ◌<◌, ◌*◌, [], length, take, drop, slice_index, slice_index_or}
use Rattle.sha2.specs.Sha256.{word_at}
use Rattle.multi_sha256.specs.Lanes.{lane_words}
use Rattle.multi_sha256.proofs.rounds.load_blocks.Given as goal

-- the words so far
abbrev pub invariant-load : goal.invariant-load
invariant-load g l = (length l.w ≡ 16) × ((j k : ℕ) → j < 8 → k < l.t
    → slice_index (lane_words j l.w) k ≡ word_at (take 64 (drop l.at (slice_index_or l.messages j []))) (4 * k))
