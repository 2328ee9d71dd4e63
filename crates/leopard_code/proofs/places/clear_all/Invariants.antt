use Rattle.std.proofs.Common.{◌≡◌, ℕ, ◌<◌}
use Rattle.lch_fft.proofs.ColumnLemmas.{byte}
use Rattle.leopard_code.proofs.places.clear_all.Given as goal

-- the shares so far are cleared
abbrev pub invariant-loop-i : goal.invariant-loop-i
invariant-loop-i g l = (i b : ℕ) → i < l.i → b < g.M.Factor.reading.columns → byte g.M.Factor.reading l.shares i b ≡ 0
