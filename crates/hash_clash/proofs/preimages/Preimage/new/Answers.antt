use Rattle.std.proofs.Common.{[], refl, arith}
use Rattle.hash_clash.proofs.WritingLemmas.{written}
use Rattle.hash_clash.proofs.preimages.Preimage.new.Goals as goal

pub invariant_of-result : goal.invariant_of-result
invariant_of-result c = written [] c.blank.result 0 refl (omega arith) c.blank.ensures
