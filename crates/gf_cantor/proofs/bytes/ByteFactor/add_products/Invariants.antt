use Rattle.std.proofs.Common.{◌≡◌, ℕ, ◌*◌, ◌<◌, ◌≤◌, get_or}
use Rattle.std.specs.Prelude.{bit_xor}
use Rattle.gf_cantor.specs.Field.{product, byte_field}
use Rattle.gf_cantor.proofs.bytes.ByteFactor.add_products.Given as goal

-- the bytes so far have gained their products, and the others are as they were
abbrev pub invariant-loop-i : goal.invariant-loop-i
invariant-loop-i l = record {
  done : (k : ℕ) → k < 64 * l.i → get_or l.acc k 0 ≡ bit_xor (get_or l.fn.acc k 0) (product byte_field l.self (get_or l.row k 0));
  left : (k : ℕ) → 64 * l.i ≤ k → get_or l.acc k 0 ≡ get_or l.fn.acc k 0;
}
