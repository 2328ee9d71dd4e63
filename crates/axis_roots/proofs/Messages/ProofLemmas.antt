-- Fraud proofs under a header.
use Rattle.std.proofs.Common.{◌≡◌, ℕ, List, false, sym, ap, subst}
use Rattle.std.specs.Prelude.{Option, None, IfSome, ◌↔◌}
use Rattle.std.specs.List.{AllByRecursion}
use Rattle.namespace_id.specs.declared.digests.Digest.{Digest}
use Rattle.data_header.specs.Headers.{Roots}
use Rattle.axis_roots.specs.Openings.{IsProved}
use Rattle.axis_roots.specs.Sets.{is_shown, fits_set, OpensSet}
use Rattle.axis_roots.specs.Claims.{ClaimParts, ProofParts, ShowsBad, claimed_root, IsFraudProof, is_set_cell, Accepts}
use Rattle.axis_roots.proofs.Messages.SetLemmas.{each_by}

-- a claim without a set is accepted where its samples are proved and it shows its axis to be bad
plain_to : (header : Roots) (claim : ClaimParts) → claim.set ≡ None → AllByRecursion (IsProved header) claim.cells × ShowsBad header.k claim (claimed_root header claim) → Accepts header claim
plain_to header claim e h = record {
  set_shape = ap (λ (s : Option (List Digest)). fits_set header.k claim.axis claim.cells s) e;
  proved = each_by (IsProved header) (λ m. is_set_cell claim m ≡ false → IsProved header m) claim.cells (λ m p _. p) h.0;
  set = subst (λ (s : Option (List Digest)). IfSome s (λ nodes. OpensSet header.k claim.axis claim.cells nodes (claimed_root header claim))) (sym e) tt;
  bad = h.1;
}

-- and only there
plain_from : (header : Roots) (claim : ClaimParts) → claim.set ≡ None → Accepts header claim → AllByRecursion (IsProved header) claim.cells × ShowsBad header.k claim (claimed_root header claim)
plain_from header claim e accepts = (
  each_by (λ m. is_set_cell claim m ≡ false → IsProved header m) (IsProved header) claim.cells
      (λ m p. p (ap (λ (s : Option (List Digest)). is_shown s claim.axis m) e)) accepts.proved,
  accepts.bad,
)

pub plain_accepted : (header : Roots) (claim : ClaimParts) → claim.set ≡ None
    → (AllByRecursion (IsProved header) claim.cells × ShowsBad header.k claim (claimed_root header claim)) ↔ Accepts header claim
plain_accepted header claim e = (plain_to header claim e, plain_from header claim e)

-- the claim of a fraud proof is accepted where its samples are proved and the root is the header's
pub proof_accepted : (header : Roots) (proof : ProofParts) → IsFraudProof proof → header.k ≡ proof.k → claimed_root header proof.claim ≡ proof.root
    → AllByRecursion (IsProved header) proof.claim.cells → Accepts header proof.claim
proof_accepted header proof is width root proved =
    plain_to header proof.claim is.plain (
      proved,
      subst (λ (k : ℕ). ShowsBad k proof.claim (claimed_root header proof.claim)) (sym width)
          (subst (λ (r : Digest). ShowsBad proof.k proof.claim r) (sym root) is.bad),
    )
