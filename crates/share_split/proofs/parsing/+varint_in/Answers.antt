use Rattle.std.proofs.Common.{◌-◌, arith}
use Rattle.proto_fields.proofs.Varint.Powers.{pow_least, pow_next, pow_few}
use Rattle.share_split.proofs.parsing.+varint_in.Goals as goal

-- one byte states less than 128
pub returns-then-byte-lt-RADIX-clause-bound : goal.returns-then-byte-lt-RADIX-clause-bound
returns-then-byte-lt-RADIX-clause-bound t c = pow_least c.args.most c.from-byte.result (omega arith) (omega arith)

-- four bytes state less than 2 ^ 28
pub overflow_mul-result : goal.overflow_mul-result
overflow_mul-result t c = omega (arith, pow_few (c.args.most - 1) c.in_ok-high.high (omega arith) c.in_ok-high.ensures.bound)

pub overflow_add-result : goal.overflow_add-result
overflow_add-result t c = omega (arith, pow_few (c.args.most - 1) c.in_ok-high.high (omega arith) c.in_ok-high.ensures.bound)

-- one byte more states 128 times as many
pub returns-clause-bound : goal.returns-clause-bound
returns-clause-bound t c = pow_next c.args.most (c.from-byte.result - 128) c.in_ok-high.high (omega arith) (omega arith) c.in_ok-high.ensures.bound
