use Rattle.std.proofs.Common.{subst}
use Rattle.befp_verify.specs.Compacting.{IsCompacted}
use Rattle.da_judging.proofs.CompactLemmas.{made_short, made_full}
use Rattle.da_judging.proofs.compact.give_made.Goals as goal

-- what is accepted can be written
pub claim_frame-requires : goal.claim_frame-requires
claim_frame-requires g c =
    made_short c.args.header.now c.requires.made.0 c.in-Claim.claim c.requires.made.1
    (subst (IsCompacted c.args.header.now c.requires.made.0) c.in-Claim.is c.requires.made.2)

-- and so can the collision
pub clash_frame-requires : goal.clash_frame-requires
clash_frame-requires g c =
    made_full c.args.header.now c.requires.made.0 c.in-Clash.clash (subst (IsCompacted c.args.header.now c.requires.made.0) c.in-Clash.is c.requires.made.2).1
