use Rattle.da_judging.specs.Compact.{WritesMade, Compacts}
use Rattle.da_status.proofs.EndLemmas.{once_within}
use Rattle.da_judging.proofs.compact.give_compacted.Goals as goal

-- what is written is what the claim was made into
pub returns-in-Ok : goal.returns-in-Ok
returns-in-Ok g c =
    once_within (WritesMade c.in-Ok.made) (Compacts c.args.header.now c.args.upheld) _ _ _ _ _ _
    (λ w s writes. (c.in-Ok.made, c.in-Ok.ensures, writes)) c.give_made.ensures
