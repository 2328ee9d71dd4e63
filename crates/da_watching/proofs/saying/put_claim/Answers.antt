use Rattle.std.proofs.Common.{◌≡◌, ◌≤◌, ℕ, List, length, false, arith, sym, ap, subst}
use Rattle.axis_roots.specs.Claims.{ClaimParts}
use Rattle.frame_payloads.specs.kinds.Fraud.{fraud_payload, is_unwritten}
use Rattle.da_watching.specs.Sizes.{most_claim}
use Rattle.da_watching.proofs.ClaimLengths.{claim_size}
use Rattle.da_watching.proofs.saying.put_claim.Goals as goal

-- a claim that is accepted has no longer payload than any
pub put_fraud-requires-clause-capacity : goal.put_fraud-requires-clause-capacity
put_fraud-requires-clause-capacity c =
    let accepted = c.claim-claim.ensures.accepted in
    let written = subst (λ (claim : ClaimParts). is_unwritten claim ≡ false) (sym c.claim-claim.ensures.value)
    (c.wire_laws.ensures.accepted accepted.0 c.args.upheld.now accepted.1) in
    let few : length (fraud_payload c.claim-claim.result.now) ≤ most_claim = claim_size c.claim-claim.result.now c.claim_law.ensures written in
    omega (arith, few, c.args.text.now.ok.0, ap (λ (l : List ℕ). length l) c.requires.empty, c.append.ensures.len, c.append-2.ensures.len, c.append.ensures.capacity, c.append-2.ensures.capacity)
