use Rattle.std.proofs.Common.{length}
use Rattle.lch_fft.proofs.transforms.+gather_halves.Given as goal

-- a half is shorter
abbrev pub decreases-gather_halves : goal.decreases-gather_halves
decreases-gather_halves g l = length l.shares.now
