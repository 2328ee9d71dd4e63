-- What the command compact answers.
use Rattle.std.proofs.Common.{◌≡◌, ℕ, List, Some, None, false, sym, ap, subst, inl, inr}
use Rattle.std.specs.declared.option.Option.{Option}
use Rattle.hash_clash.specs.Collisions.{Strings}
use Rattle.data_header.specs.Headers.{Roots}
use Rattle.square_layout.specs.Blocks.{SquareShares}
use Rattle.axis_roots.specs.Grids.{IsHeaderOf}
use Rattle.axis_roots.specs.Own.{opened_by}
use Rattle.axis_roots.specs.Claims.{ClaimParts, Accepts, IsFalseClaim}
use Rattle.befp_verify.specs.declared.verifying.FraudRefusal.{FraudRefusal}
use Rattle.befp_verify.specs.declared.compacting.Compacted.{Compacted}
use Rattle.befp_verify.specs.declared.compacting.Compacted.TheVariants as made
use Rattle.befp_verify.specs.Refusals.{HasFraudCause}
use Rattle.befp_verify.specs.Compacting.{IsCompacted, NamesTwo}
use Rattle.frame_payloads.specs.kinds.Clash.{has_empty}
use Rattle.frame_payloads.specs.kinds.Fraud.{is_unwritten}
use Rattle.frame_payloads.proofs.AcceptedClaims.{accepted_written}
use Rattle.da_status.specs.declared.status.Status.{Status}
use Rattle.da_status.specs.Statuses.{status_kind, output}
use Rattle.da_files.specs.Frames.{header_in, claim_in}
use Rattle.da_files.specs.Forms.{Over}
use Rattle.da_judging.specs.Compact.{claim_file, WritesMade, CompactsBy, CompactsJudged, CompactsOwn, CompactOf}
use Rattle.da_files.specs.Contents.{header_file}
use Rattle.da_files.proofs.FormLemmas.{over_each}
use Rattle.da_judging.proofs.ClashLemmas.{found_full}

-- what a claim was made into is a complete output
made_kind : (one : Compacted) (w : List ℕ) (status : Status) → WritesMade one w status → status_kind status ≡ output
made_kind (made.Claim claim) w status h = ap status_kind h.1
made_kind (made.Clash clash) w status h = ap status_kind h.1

-- so is what is written for a claim
judged_kind : (header : Roots) (claim : ClaimParts) (why : Option FraudRefusal) (w : List ℕ) (status : Status) → CompactsBy header claim why w status → status_kind status ≡ output
judged_kind header claim None w status h = made_kind h.0 w status h.2
judged_kind header claim (Some why) w status h = ap status_kind h.1

-- what compact answers comes with a complete output
pub compact_last : (files : List (List ℕ)) (w : List ℕ) (status : Status) → CompactOf files w status → status_kind status ≡ output
compact_last files w status h =
    let Complete : Type 0 = status_kind status ≡ output in
    over_each (λ header. Over (claim_in (claim_file files)) (λ claim. CompactsJudged header claim)) (header_in (header_file files)) w status Complete
    (λ header. over_each (λ claim. CompactsJudged header claim) (claim_in (claim_file files)) w status Complete
    (λ claim made. judged_kind header claim made.0 w status made.2)) h

-- ---- what can be written

-- a claim that an accepted one was made into
pub made_short : (header : Roots) (claim one : ClaimParts) → Accepts header claim → IsCompacted header claim (made.Claim one) → is_unwritten one ≡ false
made_short header claim one accepts (inl same) = accepted_written header one (subst (Accepts header) (sym same.1) accepts)
made_short header claim one accepts (inr short) = accepted_written header one short.2

-- the collision that two cells of a claim name
pub made_full : (header : Roots) (claim : ClaimParts) (clash : Strings) → NamesTwo header.k claim clash → has_empty clash ≡ false
made_full header claim clash names = found_full (opened_by header.k names.left) (opened_by header.k names.right) clash.left clash.right names.found

-- ---- the header of a square

-- a claim that isn't refused names a collision, by what is known of claims that are accepted
pub compacts_own : ((h : Roots) (claim : ClaimParts) → Accepts h claim → IsFalseClaim h claim)
    → (header : Roots) (claim : ClaimParts) (square : SquareShares) (w : List ℕ) (status : Status)
    → IsHeaderOf header square → CompactsJudged header claim w status → CompactsOwn claim square status
compacts_own accused header claim square w status of h = by_cause h.0 h.1 h.2
  where
    by_cause : (why : Option FraudRefusal) → HasFraudCause header claim why → CompactsBy header claim why w status → CompactsOwn claim square status
    by_cause None accepts made done = accused header claim accepts square of
    by_cause (Some why) cause told done = absurd (done told.1)
