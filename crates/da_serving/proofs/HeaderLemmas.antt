-- What the command header answers.
use Rattle.std.proofs.Common.{◌≡◌, ◌∙◌, ℕ, ◌+◌, ◌*◌, Bool, true, false, cond, List, length, Some, None, sym, ap, subst, inl, inr, arith, length-append}
use Rattle.std.specs.Prelude.{nat_lt}
use Rattle.std.specs.declared.option.Option.{Option}
use Rattle.namespace_id.specs.declared.digests.Digest.{Digest}
use Rattle.namespace_id.specs.Digests.{AreDigests}
use Rattle.data_header.specs.Headers.{Roots, AreRoots}
use Rattle.namespace_id.specs.declared.shares.Share.{Share}
use Rattle.square_layout.specs.Blocks.{SquareShares, IsSquare}
use Rattle.axis_roots.specs.Grids.{Extends, header_of_grid, IsHeaderOf}
use Rattle.da_wire.specs.declared.frames.Frame.{Frame}
use Rattle.da_wire.specs.declared.frames.Frame.TheVariants.{Header}
use Rattle.da_wire.specs.Spelling.{spelling, header_kind, frame as framed}
use Rattle.frame_payloads.specs.Payloads.{max_payload}
use Rattle.frame_payloads.specs.codec.Texts.{digest_bytes}
use Rattle.frame_payloads.specs.kinds.Header.{header_payload}
use Rattle.frame_payloads.proofs.MessageLengths.{length-digest_bytes}
use Rattle.da_status.specs.declared.status.Status.{Status}
use Rattle.da_status.specs.Statuses.{status_kind}
use Rattle.da_files.specs.Frames.{square_in, Writes}
use Rattle.da_serving.specs.Header.{Heads, HeaderOf}
use Rattle.da_files.specs.Contents.{square_file}
use Rattle.da_status.proofs.EndLemmas.{IsAnswer, status_answers}
use Rattle.da_files.proofs.FormLemmas.{over_each}

-- what header answers to a square is an answer
heads_answers : (square : SquareShares) (w : List ℕ) (status : Status) → Heads square w status → IsAnswer (status_kind status)
heads_answers square w status (inl h) = status_answers status _ h.2.1 tt
heads_answers square w status (inr h) = status_answers status _ h.1.1 tt

-- what header answers to its files is an answer
pub header_answers : (files : List (List ℕ)) (w : List ℕ) (status : Status) → HeaderOf files w status → IsAnswer (status_kind status)
header_answers files w status h =
    over_each Heads (square_in (square_file files)) w status (IsAnswer (status_kind status)) (λ square. heads_answers square w status) h

-- the header of a square's extension is the square's
pub own_header : (square : SquareShares) (k : ℕ) (grid : List Share) (header : Roots) → IsSquare square → k ≡ square.k
    → Extends square.k square.shares grid → Some header ≡ header_of_grid k grid → IsHeaderOf header square
own_header square k grid header whole same extends is = record {
  whole = whole;
  grid = grid;
  extends = extends;
  roots = ap (λ (n : ℕ). header_of_grid n grid) (sym same) ∙ sym is;
}

-- the frame of the square's header
pub heads_header : (square : SquareShares) (header : Roots) (frame : Frame) → IsHeaderOf header square → frame ≡ Header header
    → (w : List ℕ) (status : Status) → Writes frame w status → Heads square w status
heads_header square header frame own is w status gives = inl (header, own, (ap spelling (sym is) ∙ gives.0, gives.1))

-- ---- the length of a header's spelling

-- a spelling has five bytes before its payload
length-spelled : (long : Bool) (kind : ℕ) (payload text : List ℕ) → ◌≡◌ {A = Option (List ℕ)} (cond long None (Some (framed kind payload))) (Some text)
    → length text ≡ 5 + length payload
length-spelled true kind payload text e = absurd cc
length-spelled false kind payload text e =
    let same : framed kind payload ≡ text = cc in subst (λ (t : List ℕ). length t ≡ 5 + length payload) same (omega arith)

-- that of a header has seven bytes, and 360 for each k
pub length-header : (h : Roots) → AreRoots h → AreDigests h.rows → AreDigests h.cols → (text : List ℕ) → spelling (Header h) ≡ Some text
    → length text ≡ 7 + 360 * h.k
length-header h roots rows cols text e =
    omega (
      arith,
      length-spelled (nat_lt max_payload (length (header_payload h))) header_kind (header_payload h) text e,
      length-append (digest_bytes h.rows) (digest_bytes h.cols),
      length-digest_bytes h.rows rows,
      length-digest_bytes h.cols cols,
      roots.rows,
      roots.cols,
    )

-- by what the fields of a header are
pub sized_header : (h : Roots) (k : ℕ) (rows cols : List Digest) → record { k = k; rows = rows; cols = cols } ≡ h
    → AreRoots (record { k = k; rows = rows; cols = cols }) → AreDigests rows → AreDigests cols
    → (text : List ℕ) → spelling (Header h) ≡ Some text → length text ≡ 7 + 360 * h.k
sized_header h k rows cols seen are rows_are cols_are =
    subst (λ (h : Roots). (text : List ℕ) → spelling (Header h) ≡ Some text → length text ≡ 7 + 360 * h.k) seen
    (length-header (record { k = k; rows = rows; cols = cols }) are rows_are cols_are)
