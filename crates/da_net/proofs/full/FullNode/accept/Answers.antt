use Rattle.std.proofs.Common.{◌∷◌, ◌++◌, [], sym, subst}
use Rattle.std.specs.Prelude.{Some}
use Rattle.axis_roots.specs.Claims.{ClaimParts}
use Rattle.da_net.specs.declared.items.Item.TheVariants as item
use Rattle.da_net.specs.declared.full.End.TheVariants as end
use Rattle.da_net.specs.Nodes.{IsFullNode}
use Rattle.da_net.proofs.FullLemmas.{full_kept, full_accepts, accepted_nodes}
use Rattle.da_net.proofs.full.FullNode.accept.Goals as goal

-- it rejects already
pub returns-then-has_claim-clause-stands : goal.returns-then-has_claim-clause-stands
returns-then-has_claim-clause-stands c = λ items is.
    full_kept c.args.header.now items c.args.claim.now c.args.self.now (c.has_claim.ensures.yes c.if-has_claim.true) is

-- there is capacity for the nodes of its set
pub copy_claim-copy-requires-clause-few : goal.copy_claim-copy-requires-clause-few
copy_claim-copy-requires-clause-few c = accepted_nodes c.args.header.now c.args.claim.now c.requires.accepts

-- or it does by this claim
pub returns-clause-stands : goal.returns-clause-stands
returns-clause-stands c = λ items is.
    subst (λ (d : ClaimParts). IsFullNode c.args.header.now (items ++ item.Claim c.args.claim.now ∷ [])
    (record { session = c.args.self.now.session; end = Some (end.Rejected d) })) (sym c.copy_claim-copy.ensures)
    (full_accepts c.args.header.now items c.args.claim.now c.requires.accepts c.args.self.now.session)
