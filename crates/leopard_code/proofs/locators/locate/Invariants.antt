use Rattle.std.proofs.Common.{◌≡◌, ℕ, ◌+◌, ◌*◌, ◌<◌, ◌≤◌, drop, length, get_or}
use Rattle.gf_cantor.specs.Field.{Field, product}
use Rattle.leopard_code.specs.Locators.{missing_from, label_of_power, apart_from}
use Rattle.leopard_code.proofs.locators.locate.Given as goal

-- what is done and what is left make the whole product, and one exponent more fits in the sums
abbrev pub invariant-loop-pos : goal.invariant-loop-pos
invariant-loop-pos g l =
    let f : Field = g.M.Factor.reading.field in
    record {
      parts : (left x : ℕ) → l.pos + left ≡ length l.fn.exponents → x < length l.fn.exponents
          → product f (label_of_power f (get_or l.exponents x 0)) (apart_from f (missing_from l.pos left (drop l.next l.known)) x)
          ≡ apart_from f (missing_from 0 (length l.fn.exponents) l.known) x;
      bound : (x : ℕ) → x < length l.fn.exponents → get_or l.exponents x 0 ≤ 65534 * l.pos;
    }
