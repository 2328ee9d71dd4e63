use Rattle.std.proofs.Common.{ℕ, ◌-◌, ◌%◌, ◌≤◌, ◌^◌, arith}
use Rattle.std.proofs.Math.Nat.{pow-le-pow_right}
use Rattle.proto_fields.proofs.Varint.Powers.{pow_least, pow_next}
use Rattle.proto_fields.proofs.varints.+number_within.Goals as goal

-- nine bytes state no more than 2 ^ 63
nine : (most : ℕ) → most ≤ 9 → 128 ^ most ≤ 128 ^ 9
nine most few = pow-le-pow_right (omega arith) few

-- one byte states less than 128
pub returns-then-byte-lt-RADIX-clause-bound : goal.returns-then-byte-lt-RADIX-clause-bound
returns-then-byte-lt-RADIX-clause-bound t c = pow_least c.args.most c.from-byte.result (omega arith) (omega arith)

-- nine bytes leave room for one more
pub overflow_mul-result : goal.overflow_mul-result
overflow_mul-result t c = omega (arith, nine (c.args.most - 1) (omega arith), c.in_ok-high.ensures.bound)

pub overflow_add-result : goal.overflow_add-result
overflow_add-result t c = omega (arith, nine (c.args.most - 1) (omega arith), c.in_ok-high.ensures.bound)

-- one byte more states 128 times as many
pub returns-clause-bound : goal.returns-clause-bound
returns-clause-bound t c = pow_next c.args.most (c.from-byte.result % 128) c.in_ok-high.high (omega arith) (omega arith) c.in_ok-high.ensures.bound
