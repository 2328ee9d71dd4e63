use Rattle.std.proofs.Common.{arith}
use Rattle.proto_fields.proofs.Varint.Shortest.{varint_shorter}
use Rattle.share_split.proofs.Reading.Unit.{unit_read}
use Rattle.share_split.proofs.parsing.unit_at.Goals as goal

-- what is behind the unit is a part of the text
pub overflow_sub-result : goal.overflow_sub-result
overflow_sub-result c =
    omega (arith, c.split_at.ensures.back_len, varint_shorter 5 c.args.text.now c.in_ok-len.len c.in_ok-len.rest.now c.in_ok-len.ensures.value)

-- the length was read, and the unit is all there
pub returns-clause-value : goal.returns-clause-value
returns-clause-value c =
    unit_read c.args.text.now c.in_ok-len.rest.now c.split_at.result.0.now c.split_at.result.1.now c.in_ok-len.len
    c.in_ok-len.ensures.value c.if-len-gt-MAX_UNIT_LENGTH.false c.if-len-rest.false c.split_at.ensures.front c.split_at.ensures.back_len

-- a length takes at least a byte
pub returns-clause-some : goal.returns-clause-some
returns-clause-some c =
    omega (arith, c.split_at.ensures.back_len, varint_shorter 5 c.args.text.now c.in_ok-len.len c.in_ok-len.rest.now c.in_ok-len.ensures.value)
