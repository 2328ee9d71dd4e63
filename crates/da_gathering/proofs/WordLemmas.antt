-- Frames whose payload's length is told, and how long they are at most.
use Rattle.std.proofs.Common.{◌≡◌, ◌∙◌, ℕ, ◌+◌, ◌*◌, ◌≤◌, Bool, true, false, cond, List, [], ◌∷◌, ◌++◌, length, length-append, Some, None, refl, sym, ap, arith}
use Rattle.std.specs.Prelude.{nat_lt, IsSome}
use Rattle.std.specs.declared.option.Option.{Option}
use Rattle.std.specs.Int.{w16, w32, to_be_bytes}
use Rattle.namespace_id.specs.Shares.{AreShares}
use Rattle.square_layout.specs.Blocks.{SquareShares, IsSquare}
use Rattle.axis_roots.specs.Messages.{IsMessage}
use Rattle.axis_roots.specs.Claims.{ClaimParts, IsClaim}
use Rattle.hash_clash.specs.Preimages.{longest}
use Rattle.hash_clash.specs.Collisions.{Strings}
use Rattle.frame_payloads.specs.Payloads.{max_payload, IsSize}
use Rattle.frame_payloads.specs.codec.Texts.{text_bytes}
use Rattle.frame_payloads.specs.kinds.Square.{square_payload}
use Rattle.frame_payloads.specs.kinds.Message.{message_payload, most_message}
use Rattle.frame_payloads.specs.kinds.Fraud.{fraud_payload, plain_payload}
use Rattle.frame_payloads.specs.kinds.Clash.{clash_payload}
use Rattle.frame_payloads.proofs.Fields.Lengths.{texts_few}
use Rattle.frame_payloads.proofs.Fields.Shares.{length-share_bytes}
use Rattle.frame_payloads.proofs.Forms.FraudSizes.{length-plain, plain_text}
use Rattle.frame_payloads.proofs.MessageLengths.{length-message_payload}
use Rattle.da_wire.specs.Spelling.{frame, spelled}

-- ---- spellings

-- what is written of a payload is spelled of its frame
by_tests : (unwritten long : Bool) (payload text : List ℕ) → ◌≡◌ {A = Option (List ℕ)} (cond unwritten None (cond long None (Some payload))) (Some payload)
    → ◌≡◌ {A = Option (List ℕ)} (cond unwritten None (cond long None (Some text))) (Some text)
by_tests true long payload text e = absurd cc
by_tests false true payload text e = absurd cc
by_tests false false payload text e = refl

-- the head of a frame and its payload, whose length is told, are its spelling
pub sized_frame : (unwritten : Bool) (kind n : ℕ) (payload old head text : List ℕ) → IsSize unwritten payload (Some n) → old ≡ []
    → head ≡ old ++ kind ∷ to_be_bytes w32 n → text ≡ head ++ payload → cond unwritten None (spelled kind payload) ≡ Some text
sized_frame unwritten kind n payload old head text size none begun made =
    let whole : frame kind payload ≡ text =
    ap (λ (m : ℕ). kind ∷ to_be_bytes w32 m ++ payload) (sym size.0) ∙ sym (made ∙ ap (λ (l : List ℕ). l ++ payload) (begun ∙ ap (λ (l : List ℕ). l ++ kind ∷ to_be_bytes w32 n) none)) in
    by_tests unwritten (nat_lt max_payload (length payload)) payload (frame kind payload) size.1 ∙ ap Some whole

-- a value that has a spelling has a length that is told
size_by : (unwritten long : Bool) (payload text : List ℕ) → ◌≡◌ {A = Option (List ℕ)} (cond unwritten None (cond long None (Some payload))) None
    → IsSome (cond unwritten None (cond long None (Some text))) → ⊥
size_by true long payload text e some = absurd cc
size_by false true payload text e some = absurd cc
size_by false false payload text e some = absurd cc

pub told_size : (unwritten : Bool) (kind : ℕ) (payload : List ℕ) (size : Option ℕ) → IsSize unwritten payload size
    → IsSome (cond unwritten None (spelled kind payload)) → IsSome size
told_size unwritten kind payload (Some n) told some = refl
told_size unwritten kind payload None told some = absurd (size_by unwritten (nat_lt max_payload (length payload)) payload (frame kind payload) told some)

-- ---- lengths

-- the payload of a square
pub square_few : (s : SquareShares) → IsSquare s → AreShares s.shares → length (square_payload s) ≤ 2 + 512 * (s.k * s.k)
square_few s is shares = omega (arith, length-share_bytes s.shares shares, is.count)

-- that of a claim without a set, by how many cells it has
pub claim_few : (claim : ClaimParts) → IsClaim claim → claim.set ≡ None → length (fraud_payload claim) ≤ 6 + most_message * length claim.cells
claim_few claim is plain =
    let cells = texts_few message_payload IsMessage most_message length-message_payload claim.cells is.messages in
    let same : length (fraud_payload claim) ≡ length (plain_payload claim) = ap length (plain_text claim plain) in
    omega (arith, same, length-plain claim, cells)

-- that of a collision
pub pair_few : (pair : Strings) → length pair.left ≤ longest → length pair.right ≤ longest → length (clash_payload pair) ≤ 6 + most_message
pair_few pair left right = omega (arith, length-append (text_bytes w16 pair.left) (text_bytes w16 pair.right), left, right)
