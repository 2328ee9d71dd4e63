use Rattle.std.proofs.Common.{length, refl}
use Rattle.hash_clash.specs.Preimages.{longest}
use Rattle.hash_clash.proofs.WritingLemmas.{one_part, written, used}
use Rattle.hash_clash.proofs.preimages.Preimage.of.Goals as goal

pub invariant_of-result : goal.invariant_of-result
invariant_of-result c =
    written c.args.bytes.now c.write_at.new.bytes (length c.args.bytes.now) refl c.if-bytes-gt-LONGEST_STRING.false
    (one_part longest c.blank-all.result c.args.bytes.now c.write_at.new.bytes c.blank-all.ensures c.write_at.ensures)

pub returns-clause-value : goal.returns-clause-value
returns-clause-value c =
    used c.args.bytes.now c.write_at.new.bytes (length c.args.bytes.now) refl
    (one_part longest c.blank-all.result c.args.bytes.now c.write_at.new.bytes c.blank-all.ensures c.write_at.ensures)
