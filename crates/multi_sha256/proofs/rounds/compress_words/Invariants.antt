use Rattle.std.proofs.Common.{ℕ, ◌<◌, ◌*◌, List}
use Rattle.sha2.specs.Sha256.{IsRoundsAt, IsWindow, schedule}
use Rattle.multi_sha256.specs.Lanes.{lane, lane_words}
use Rattle.multi_sha256.proofs.rounds.compress_words.Given as goal

-- the rounds so far
abbrev pub invariant-schedule : goal.invariant-schedule
invariant-schedule l = (j : ℕ) (b : List ℕ) → j < 8 → IsWindow (lane_words j l.fn.w) (schedule b 48) 16
    → IsRoundsAt b (lane j l.fn.state) (lane_words j l.w) (lane j l.v) (16 * l.turn)
