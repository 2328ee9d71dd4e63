-- Claims that have messages have frames.
use Rattle.std.proofs.Common.{◌≡◌, ◌≤◌, ℕ, Bool, true, false, not, ◌||◌, List, length, Option, Ok, ap₂, arith}
use Rattle.namespace_id.specs.declared.digests.Digest.{Digest}
use Rattle.namespace_id.specs.Bytes.{AreBytes}
use Rattle.namespace_id.proofs.WidthLemmas.{is_width-le}
use Rattle.axis_roots.specs.Claims.{ClaimParts}
use Rattle.frame_payloads.specs.kinds.Fraud.{fits_form, is_unwritten}
use Rattle.celestia_pb.specs.Befp.{claim_has_message, befp_value}
use Rattle.celestia_pb.specs.BefpLaws.{ReadIsBefp}
use Rattle.celestia_pb.proofs.BefpLemmas.{tested}
use Rattle.da_exchanging.proofs.AnswerLemmas.{not_above}

-- a claim that has a message has no set, and few cells
message_written : (k : ℕ) (claim : ClaimParts) → claim_has_message k claim ≡ true → is_unwritten claim ≡ false
message_written k claim has =
    let is = tested k claim has in
    let few : length claim.cells ≤ 512 = omega (arith, is.count, is_width-le k is.width) in
    ap₂ (λ (o : Option (List Digest)) (b : Bool). not (fits_form claim o) || b) is.plain (not_above (length claim.cells) few)

-- so a claim that is read of a message has a frame
pub claim_written : ReadIsBefp → (hash : List ℕ) (height : ℕ) (bytes : List ℕ) (claim : ClaimParts) → AreBytes bytes → befp_value hash height bytes ≡ Ok claim
    → is_unwritten claim ≡ false
claim_written law hash height bytes claim fits e =
    let is = law hash height bytes claim fits e in message_written is.k claim is.has.has
