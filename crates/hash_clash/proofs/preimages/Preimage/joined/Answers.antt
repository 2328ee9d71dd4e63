use Rattle.std.proofs.Common.{◌+◌, ◌∷◌, ◌++◌, length, arith, length-append}
use Rattle.hash_clash.specs.Preimages.{longest}
use Rattle.hash_clash.proofs.WritingLemmas.{three_parts, written, used}
use Rattle.hash_clash.proofs.preimages.Preimage.joined.Goals as goal

pub invariant_of-result : goal.invariant_of-result
invariant_of-result c =
    let sum = length-append c.args.left.now c.args.right.now in
    written (c.args.prefix ∷ c.args.left.now ++ c.args.right.now) c.write_at-3.new.bytes (1 + length c.args.left.now + length c.args.right.now)
    (omega (arith, sum)) (omega (arith, sum, c.requires))
    (three_parts longest c.blank-bytes.result c.args.prefix c.args.left.now c.args.right.now c.write_at.new.bytes c.write_at-2.new.bytes c.write_at-3.new.bytes
    c.blank-bytes.ensures c.write_at.ensures c.write_at-2.ensures c.write_at-3.ensures)

pub returns : goal.returns
returns c =
    let sum = length-append c.args.left.now c.args.right.now in
    used (c.args.prefix ∷ c.args.left.now ++ c.args.right.now) c.write_at-3.new.bytes (1 + length c.args.left.now + length c.args.right.now)
    (omega (arith, sum))
    (three_parts longest c.blank-bytes.result c.args.prefix c.args.left.now c.args.right.now c.write_at.new.bytes c.write_at-2.new.bytes c.write_at-3.new.bytes
    c.blank-bytes.ensures c.write_at.ensures c.write_at-2.ensures c.write_at-3.ensures)
