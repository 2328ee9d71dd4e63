-- How long the payload of a fraud claim is.
use Rattle.std.proofs.Common.{◌≡◌, ◌∙◌, ℕ, ◌+◌, ◌*◌, ◌≤◌, Bool, true, false, List, ◌++◌, length, Option, None, Some, map, ◌∷◌, refl, sym, ap, ap₂, subst, inl, inr, arith}
use Rattle.std.specs.Prelude.{IsSome, IfSome}
use Rattle.std.specs.Int.{w16, to_be_bytes}
use Rattle.std.specs.List.{flat_map}
use Rattle.std.proofs.lemmas.Bool.{cases_Bool}
use Rattle.std.proofs.lemmas.List.{length-append, length-map}
use Rattle.std.proofs.lemmas.List.Folds.{flat_map-map}
use Rattle.axis_roots.specs.declared.message.proved.Proved.{Proved}
use Rattle.axis_roots.specs.Proved.{kept_message}
use Rattle.namespace_id.specs.declared.cells.Axis.{Axis}
use Rattle.namespace_id.specs.declared.digests.Digest.{Digest}
use Rattle.namespace_id.specs.Digests.{AreDigests}
use Rattle.namespace_id.specs.Shares.{IsShare}
use Rattle.axis_roots.specs.declared.message.messages.Message.{Message}
use Rattle.axis_roots.specs.Messages.{IsMessage}
use Rattle.axis_roots.specs.Sets.{is_along}
use Rattle.axis_roots.specs.Claims.{ClaimParts, IsClaim}
use Rattle.frame_payloads.specs.Payloads.{max_payload, IsWithin, IsSize}
use Rattle.frame_payloads.specs.codec.Texts.{list_bytes, digest_list}
use Rattle.frame_payloads.specs.kinds.Message.{message_payload, most_message}
use Rattle.frame_payloads.specs.kinds.Fraud.{plain_form, accused_bytes, most_cells, is_unwritten, fits_form, cell_payload, plain_payload, set_payload, payload_by, fraud_payload}
use Rattle.frame_payloads.proofs.Fields.Digests.{length-digest_bytes}
use Rattle.frame_payloads.proofs.Fields.Lengths.{texts_few, written_within, written_beyond}
use Rattle.frame_payloads.proofs.Forms.AccusedForm.{text}
use Rattle.frame_payloads.proofs.Forms.CellParts.{path_text}
use Rattle.frame_payloads.proofs.Forms.FraudForm.{written_parts, fits_parts}
use Rattle.frame_payloads.proofs.MessageLengths.{length-message_payload}

-- ---- cells

-- a cell of a claim with a set has 515 bytes, and those of its path
pub length-cell : (axis : Axis) (m : Message) → IsShare m.share → length (cell_payload axis m) ≡ 515 + length (path_text (is_along axis m) m.path)
length-cell axis m share = omega (arith, length-append m.share.0 (path_text (is_along axis m) m.path), share.size_is)

-- a path that isn't written has none
pub length-path_shown : (along : Bool) (path : List Digest) → along ≡ true → length (path_text along path) ≡ 0
length-path_shown along path t = ap (λ (b : Bool). length (path_text b path)) t

-- one that is written has a byte, and 90 for each node
pub length-path_text : (along : Bool) (path : List Digest) → along ≡ false → AreDigests path → length (path_text along path) ≡ 1 + 90 * length path
length-path_text along path f all =
    let written : length (path_text false path) ≡ 1 + 90 * length path = omega (arith, length-digest_bytes path all) in
    ap (λ (b : Bool). length (path_text b path)) f ∙ written

-- so such a cell has fewer bytes than the longest payload of a sample
cell_few : (axis : Axis) (m : Message) → IsMessage m → length (cell_payload axis m) ≤ most_message
cell_few axis m is = elim (cases_Bool (is_along axis m)) [
  | inl t ↦ omega (arith, length-cell axis m is.share, length-path_shown (is_along axis m) m.path t)
  | inr f ↦ omega (arith, is.few, length-cell axis m is.share, length-path_text (is_along axis m) m.path f is.nodes)
]

-- ---- payloads

-- how long the payload of a claim without a set is
pub length-plain : (claim : ClaimParts) → length (plain_payload claim) ≡ 6 + length (flat_map message_payload claim.cells)
length-plain claim = omega (arith, length-append (text 1 (claim.axis, claim.index)) (list_bytes w16 message_payload claim.cells))

-- how long that of a claim with one is
pub length-set : (claim : ClaimParts) (nodes : List Digest)
    → length (set_payload claim nodes) ≡ 8 + length (flat_map (cell_payload claim.axis) claim.cells) + length (flat_map (λ d. d.0) nodes)
length-set claim nodes =
    let front : List ℕ = text 2 (claim.axis, claim.index) in
    let list : List ℕ = list_bytes w16 (cell_payload claim.axis) claim.cells in
    omega (arith, length-append (front ++ list) (digest_list nodes), length-append front list)

-- the payload of a claim without a set
pub plain_text : (claim : ClaimParts) → claim.set ≡ None → fraud_payload claim ≡ plain_payload claim
plain_text claim e = ap (payload_by claim) e

-- that of a fraud proof's claim, by the certificates that the proof keeps
pub proof_text : (claim : ClaimParts) (axis : Axis) (index : ℕ) (cells : List Proved) → claim.set ≡ None → axis ≡ claim.axis → index ≡ claim.index → map kept_message cells ≡ claim.cells
    → fraud_payload claim ≡ plain_form ∷ accused_bytes axis index ++ list_bytes w16 (λ (p : Proved). message_payload (kept_message p)) cells
proof_text claim axis index cells plain same_axis same_index same =
    let listed : list_bytes w16 message_payload (map kept_message cells) ≡ list_bytes w16 (λ (p : Proved). message_payload (kept_message p)) cells
    = ap₂ (λ (n : ℕ) (l : List ℕ). to_be_bytes w16 n ++ l) (length-map cells kept_message) (flat_map-map message_payload kept_message cells) in
    plain_text claim plain ∙ ap₂ (λ (front list : List ℕ). plain_form ∷ front ++ list) (ap₂ accused_bytes (sym same_axis) (sym same_index))
    (ap (λ (l : List Message). list_bytes w16 message_payload l) (sym same) ∙ listed)

-- the payload by whether there is a set is within the limit
few_by : (claim : ClaimParts) (set : Option (List Digest)) → claim.set ≡ set → IsClaim claim → fits_form claim set ≡ true → length claim.cells ≤ most_cells → length (payload_by claim set) ≤ max_payload
few_by claim None same is fits few = omega (arith, few, length-plain claim, texts_few message_payload IsMessage most_message length-message_payload claim.cells is.messages)
few_by claim (Some nodes) same is fits few =
    let digests : AreDigests nodes = subst (λ (s : Option (List Digest)). IfSome s AreDigests) same is.digests in
    omega (
      arith,
      few,
      (fits_parts claim nodes fits).few,
      length-set claim nodes,
      length-digest_bytes nodes digests,
      texts_few (cell_payload claim.axis) IsMessage most_message (cell_few claim.axis) claim.cells is.messages,
    )

-- a claim that can be written has a payload within its limit
pub fraud_few : (claim : ClaimParts) → IsClaim claim → is_unwritten claim ≡ false → length (fraud_payload claim) ≤ max_payload
fraud_few claim is written =
    let parts = written_parts claim written in
    few_by claim claim.set refl is parts.0 parts.1

-- ---- the length that is told

-- a length within the limit is told
pub within_told : (n : ℕ) (within : Option ℕ) → IsWithin n within → n ≤ max_payload → IsSome within
within_told n (Some size) is few = refl
within_told n None beyond few = absurd (omega (arith, beyond, few))

-- the length of the payload of a claim that can be written is told
pub fraud_sized : (claim : ClaimParts) (within : Option ℕ) → is_unwritten claim ≡ false → IsWithin (length (fraud_payload claim)) within → IsSize (is_unwritten claim) (fraud_payload claim) within
fraud_sized claim None short beyond = written_beyond (is_unwritten claim) (length (fraud_payload claim)) (fraud_payload claim) short refl beyond
fraud_sized claim (Some n) short is = (is.0, written_within (is_unwritten claim) n (fraud_payload claim) short is.0 is.1)
