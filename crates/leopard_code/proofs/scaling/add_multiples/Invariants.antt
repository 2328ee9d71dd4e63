use Rattle.std.proofs.Common.{◌≡◌, ◌≢◌, ℕ, ◌<◌, get_or}
use Rattle.std.specs.Prelude.{bit_xor}
use Rattle.gf_cantor.specs.Field.{product}
use Rattle.lch_fft.specs.Readings.{LabelReading}
use Rattle.lch_fft.proofs.ColumnLemmas.{byte}
use Rattle.leopard_code.specs.Locators.{label_of_power}
use Rattle.leopard_code.proofs.scaling.add_multiples.Given as goal

-- the multiples so far are added at their positions, and the other positions are as they were
abbrev pub invariant-loop-i : goal.invariant-loop-i
invariant-loop-i g l =
    let r : LabelReading = g.M.Factor.reading in
    record {
      known : (b j : ℕ) → b < r.columns → j < l.i → byte r l.all (get_or l.known j 0) b
          ≡ bit_xor (byte r l.fn.all (get_or l.known j 0) b)
          (product r.field (label_of_power r.field (get_or l.exponents (get_or l.known j 0) 0)) (byte r l.shares j b));
      others : (b pos : ℕ) → b < r.columns → ((j : ℕ) → j < l.i → get_or l.known j 0 ≢ pos)
          → byte r l.all pos b ≡ byte r l.fn.all pos b;
    }
