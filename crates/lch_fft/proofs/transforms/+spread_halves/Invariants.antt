use Rattle.std.proofs.Common.{length}
use Rattle.lch_fft.proofs.transforms.+spread_halves.Given as goal

-- a half is shorter
abbrev pub decreases-spread_halves : goal.decreases-spread_halves
decreases-spread_halves g l = length l.shares.now
