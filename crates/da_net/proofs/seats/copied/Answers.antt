use Rattle.std.proofs.Common.{Some, option_copied, subst}
use Rattle.std.specs.Prelude.{Option, IfSome}
use Rattle.axis_roots.specs.Claims.{Accepts}
use Rattle.da_net.proofs.FullLemmas.{accepted_nodes}
use Rattle.da_net.proofs.NetLemmas.{claim_accepts}
use Rattle.da_net.proofs.seats.copied.Goals as goal

-- the claim is accepted, so there is capacity for the nodes of its set
pub copy_claim-requires-clause-few : goal.copy_claim-requires-clause-few
copy_claim-requires-clause-few g c =
    let accepts = claim_accepts g.F.Picker.picks c.args.header.now c.requires.seat.0 c.args.seat.now.node (option_copied c.claim.result) c.claim.ensures
    c.requires.seat.1.is_node in
    let here : IfSome (option_copied (Some c.unwrap.result)) (Accepts c.args.header.now) =
    subst (λ (o : Option _). IfSome (option_copied o) (Accepts c.args.header.now)) c.unwrap.ensures accepts in
    accepted_nodes c.args.header.now c.unwrap.result.now here
