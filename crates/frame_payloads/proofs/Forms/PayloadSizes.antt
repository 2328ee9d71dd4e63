-- The length of each payload.
use Rattle.std.proofs.Common.{◌≡◌, ◌∙◌, ℕ, ◌+◌, ◌*◌, ◌<◌, ◌≤◌, false, ◌∷◌, length, length-append, Some, None, refl, arith}
use Rattle.std.specs.Prelude.{◌==◌}
use Rattle.std.proofs.Math.Nat.{mul-le-mul_left}
use Rattle.std.proofs.lemmas.Bool.Decides.{nat_tests}
use Rattle.namespace_id.specs.declared.namespaces.Namespace.{Namespace}
use Rattle.namespace_id.specs.Shares.{IsShare, AreShares}
use Rattle.namespace_id.specs.Digests.{AreDigests}
use Rattle.namespace_id.specs.Cells.{CellList}
use Rattle.namespace_id.specs.Sizes.{greatest_width, most_depth}
use Rattle.data_header.specs.Headers.{Roots, AreRoots}
use Rattle.axis_roots.specs.declared.message.messages.Message as sent
use Rattle.square_layout.specs.Blocks.{SquareShares, IsSquare}
use Rattle.frame_payloads.specs.Payloads.{max_payload, IsSize}
use Rattle.frame_payloads.specs.codec.Texts.{digest_bytes}
use Rattle.frame_payloads.specs.kinds.Header.{header_payload}
use Rattle.frame_payloads.specs.kinds.Square.{square_payload}
use Rattle.frame_payloads.specs.kinds.Message.{message_payload}
use Rattle.frame_payloads.specs.kinds.Missing.{missing_payload}
use Rattle.frame_payloads.specs.kinds.Requests.{request_payload}
use Rattle.frame_payloads.proofs.Fields.Digests.{length-digest_bytes}
use Rattle.namespace_id.proofs.WidthLemmas.{is_width-le}
use Rattle.frame_payloads.proofs.Forms.MissingForm.{length-missing}
use Rattle.frame_payloads.proofs.Forms.SquareForm.{length-share_bytes}
use Rattle.frame_payloads.proofs.Fields.Lengths.{written_within, written_beyond}

-- the payload of a header has two bytes, and 360 for each k
length-header : (h : Roots) → AreRoots h → AreDigests h.rows → AreDigests h.cols → 2 + 360 * h.k ≡ length (header_payload h)
length-header h roots rows cols =
    omega (arith, length-append (digest_bytes h.rows) (digest_bytes h.cols), length-digest_bytes h.rows rows, length-digest_bytes h.cols cols, roots.rows, roots.cols)

-- a header has a spelling, and this is its payload's length
pub header_sized : (h : Roots) (n : ℕ) → AreRoots h → AreDigests h.rows → AreDigests h.cols → n ≡ 2 + 360 * h.k → IsSize false (header_payload h) (Some n)
header_sized h n roots rows cols e =
    let size : n ≡ length (header_payload h) = e ∙ length-header h roots rows cols in
    let small : h.k ≤ greatest_width = is_width-le h.k roots.width in
    (size, written_within false n (header_payload h) refl size (omega arith))

-- the payload of a square has two bytes, and 512 for each share
length-square : (s : SquareShares) → IsSquare s → AreShares s.shares → 2 + 512 * (s.k * s.k) ≡ length (square_payload s)
length-square s is shares = omega (arith, length-share_bytes s is shares)

-- a square has no more shares than one of the greatest width
pub square_few : (k : ℕ) → k ≤ greatest_width → k * k ≤ greatest_width * greatest_width
square_few k h = let by_k : k * k ≤ k * greatest_width = mul-le-mul_left k h in omega arith

-- a square has a spelling, and this is its payload's length
pub square_sized : (s : SquareShares) (n : ℕ) → IsSquare s → AreShares s.shares → n ≡ 2 + 512 * (s.k * s.k) → IsSize false (square_payload s) (Some n)
square_sized s n is shares e =
    let size : n ≡ length (square_payload s) = e ∙ length-square s is shares in
    let few : s.k * s.k ≤ greatest_width * greatest_width = square_few s.k (is_width-le s.k is.width) in
    (size, written_within false n (square_payload s) refl size (omega arith))

-- the payload of a sample has 518 bytes, and 90 for each node
pub length-message : (m : sent.Message) → IsShare m.share → AreDigests m.path → 518 + 90 * length m.path ≡ length (message_payload m)
length-message m share nodes =
    omega (arith, length-append m.share.0 (length m.path ∷ digest_bytes m.path), share.size_is, length-digest_bytes m.path nodes)

-- a sample has a spelling, and this is its payload's length
pub message_sized : (m : sent.Message) (n : ℕ) → IsShare m.share → AreDigests m.path → length m.path ≤ most_depth → n ≡ 518 + 90 * length m.path → IsSize false (message_payload m) (Some n)
message_sized m n share nodes few e =
    let size : n ≡ length (message_payload m) = e ∙ length-message m share nodes in
    (size, written_within false n (message_payload m) refl size (omega arith))

-- cells that are some pass the test of none
some_cells : (n : ℕ) → (n ≡ 0 → ⊥) → (n == 0) ≡ false
some_cells n h = grind (arith, nat_tests)

-- some missing cells within the limit have a spelling, and this is their payload's length
pub missing_sized : (cells : CellList) (n : ℕ) → (length cells.list ≡ 0 → ⊥) → 6 + 4 * length cells.list ≤ max_payload → n ≡ 6 + 4 * length cells.list
    → IsSize (length cells.list == 0) (missing_payload cells) (Some n)
missing_sized cells n some few e =
    let size : n ≡ length (missing_payload cells) = e ∙ length-missing cells in
    (size, written_within (length cells.list == 0) n (missing_payload cells) (some_cells (length cells.list) some) size (omega arith))

-- missing cells above the limit have no spelling
pub missing_beyond : (cells : CellList) → (length cells.list ≡ 0 → ⊥) → max_payload < 6 + 4 * length cells.list → IsSize (length cells.list == 0) (missing_payload cells) None
missing_beyond cells some many =
    written_beyond (length cells.list == 0) (6 + 4 * length cells.list) (missing_payload cells) (some_cells (length cells.list) some) (length-missing cells) (omega arith)

-- a request for a namespace has a spelling, and this is its payload's length
pub request_sized : (name : Namespace) (n : ℕ) → n ≡ length name.0 → n ≤ 29 → IsSize false (request_payload name) (Some n)
request_sized name n e few = (e, written_within false n (request_payload name) refl e (omega arith))
