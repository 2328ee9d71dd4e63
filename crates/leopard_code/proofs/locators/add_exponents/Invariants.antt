use Rattle.std.proofs.Common.{◌≡◌, ℕ, ◌+◌, ◌*◌, ◌<◌, ◌≤◌, get_or}
use Rattle.gf_cantor.specs.Field.{Field, product}
use Rattle.leopard_code.specs.Locators.{label_of_power, difference}
use Rattle.leopard_code.proofs.locators.add_exponents.Given as goal

-- the exponents so far have gained one, and the others are as they were
abbrev pub invariant-loop-x : goal.invariant-loop-x
invariant-loop-x g l =
    let f : Field = g.M.Factor.reading.field in
    record {
      done : (y : ℕ) → y < l.x
          → label_of_power f (get_or l.exponents y 0) ≡ product f (label_of_power f (get_or l.fn.exponents y 0)) (difference y l.pos);
      bound : (y : ℕ) → y < l.x → get_or l.exponents y 0 ≤ 65534 * (l.pos + 1);
      left : (y : ℕ) → l.x ≤ y → get_or l.exponents y 0 ≡ get_or l.fn.exponents y 0;
    }
