use Rattle.std.proofs.Common.{length}
use Rattle.lch_fft.proofs.derivatives.+derive_halves.Given as goal

-- a half is shorter
abbrev pub decreases-derive_halves : goal.decreases-derive_halves
decreases-derive_halves g l = length l.shares.now
