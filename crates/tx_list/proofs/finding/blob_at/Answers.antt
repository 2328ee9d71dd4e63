use Rattle.tx_list.proofs.FindLemmas.{one_held}
use Rattle.tx_list.proofs.finding.blob_at.Goals as goal

pub returns-in-Ok-clause-held : goal.returns-in-Ok-clause-held
returns-in-Ok-clause-held c =
    one_held c.sequence_at.result.now c.in-Ok.blobs.items c.the_one.result c.in-Ok.ensures.blobs c.the_one.ensures
