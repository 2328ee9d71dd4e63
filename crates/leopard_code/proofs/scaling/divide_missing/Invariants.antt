use Rattle.std.proofs.Common.{◌≡◌, ◌≢◌, ℕ, ◌<◌, ◌≤◌, length, get_or}
use Rattle.gf_cantor.specs.Field.{product, size}
use Rattle.lch_fft.specs.Readings.{LabelReading}
use Rattle.lch_fft.proofs.ColumnLemmas.{byte}
use Rattle.leopard_code.specs.Locators.{label_of_power}
use Rattle.leopard_code.proofs.scaling.divide_missing.Given as goal

-- the missing ones so far are divided, and those behind are as they were
abbrev pub invariant-loop-pos : goal.invariant-loop-pos
invariant-loop-pos g l =
    let r : LabelReading = g.M.Factor.reading in
    record {
      done : (p b y : ℕ) → p < l.pos → b < r.columns → y < size r.field
          → ((i : ℕ) → i < length l.known → get_or l.known i 0 ≢ p)
          → byte r l.fn.all p b ≡ product r.field y (label_of_power r.field (get_or l.exponents p 0)) → byte r l.all p b ≡ y;
      left : (p b : ℕ) → l.pos ≤ p → b < r.columns → byte r l.all p b ≡ byte r l.fn.all p b;
    }
