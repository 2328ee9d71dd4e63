use Rattle.befp_verify.proofs.SetLemmas.{compacted_set}
use Rattle.befp_verify.proofs.compacting.compact_laws.Goals as goal

pub returns : goal.returns
returns c = record { set = compacted_set }
