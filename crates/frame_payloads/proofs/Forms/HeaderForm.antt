-- A header that is read of a payload is what the payload spells, and the payload that a header has is read.
use Rattle.std.proofs.Common.{refl, ◌≡◌, ◌∙◌, ℕ, ◌+◌, ◌*◌, ◌^◌, ◌≤◌, true, not, eqb, cond, List, ◌++◌, length, take, drop, None, Some, sym, ap, ap₂, subst, arith, length-take-le, eqb-true, eq-eqb}
use Rattle.std.specs.Int.{w16, to_be_bytes}
use Rattle.std.proofs.lemmas.Bool.{not-false, not_from_true}
use Rattle.std.proofs.lemmas.List.{take_at, drop_at, take-append-drop, length-append, length-drop}
use Rattle.std.proofs.lemmas.Option.{cond_some}
use Rattle.namespace_id.specs.declared.digests.Digest.{Digest}
use Rattle.namespace_id.specs.Bytes.{AreBytes}
use Rattle.namespace_id.specs.Cells.{is_width}
use Rattle.namespace_id.specs.Sizes.{greatest_width}
use Rattle.namespace_id.proofs.StringLemmas.{AreBytes-take, AreBytes-drop}
use Rattle.namespace_id.proofs.WidthLemmas.{is_width-le}
use Rattle.data_header.specs.Headers.{Roots, IsHeader}
use Rattle.frame_fields.specs.Fields.{big_endian_at, digests_of}
use Rattle.frame_payloads.specs.codec.Texts.{digest_bytes}
use Rattle.frame_payloads.specs.kinds.Header.{header_payload, header_at}
use Rattle.frame_payloads.proofs.Fields.Readers.{bind_some, bind_again, if_false, if_false_again, if_true_again}
use Rattle.frame_payloads.proofs.Fields.Numbers.{wide16, number_takes, number_again}
use Rattle.frame_payloads.proofs.Fields.Digests.{length-digests_of, are_digests_of, digest_bytes-of, length-digest_bytes, digests_of-spelled}
use Rattle.frame_payloads.proofs.Forms.Form.{IsForm, never}

-- the header of this width and these roots
abbrev roots : ℕ → List Digest → List Digest → Roots
roots k rows cols = record { k = k; rows = rows; cols = cols }

-- the header of this width whose digests the bytes are
abbrev roots_in : ℕ → List ℕ → Roots
roots_in k bytes = roots k (digests_of (2 * k) (take (180 * k) bytes)) (digests_of (2 * k) (drop (180 * k) bytes))

-- ---- read

-- a width and the bytes of its roots are a header, and spell it
is_header : (k : ℕ) (bytes : List ℕ) → is_width k ≡ true → AreBytes bytes → length bytes ≡ 360 * k → IsHeader (roots_in k bytes) × (to_be_bytes w16 k ++ bytes ≡ header_payload (roots_in k bytes))
is_header k bytes width fits len =
    let front : length (take (180 * k) bytes) ≡ 180 * k = length-take-le (180 * k) bytes (omega arith) in
    let behind : length (drop (180 * k) bytes) ≡ 180 * k = omega (arith, length-drop (180 * k) bytes) in
    let front_is : digest_bytes (digests_of (2 * k) (take (180 * k) bytes)) ≡ take (180 * k) bytes = digest_bytes-of (2 * k) (take (180 * k) bytes) (omega arith) in
    let behind_is : digest_bytes (digests_of (2 * k) (drop (180 * k) bytes)) ≡ drop (180 * k) bytes = digest_bytes-of (2 * k) (drop (180 * k) bytes) (omega arith) in
    let both : digest_bytes (digests_of (2 * k) (take (180 * k) bytes)) ++ digest_bytes (digests_of (2 * k) (drop (180 * k) bytes)) ≡ bytes =
    ap₂ (λ (x y : List ℕ). x ++ y) front_is behind_is ∙ take-append-drop (180 * k) bytes in (
      record {
        roots = record { width = width; rows = length-digests_of (2 * k) (take (180 * k) bytes); cols = length-digests_of (2 * k) (drop (180 * k) bytes) };
        rows = are_digests_of (2 * k) (take (180 * k) bytes) (AreBytes-take (180 * k) bytes fits) (omega arith);
        cols = are_digests_of (2 * k) (drop (180 * k) bytes) (AreBytes-drop (180 * k) bytes fits) (omega arith);
      },
      ap (λ (l : List ℕ). to_be_bytes w16 k ++ l) (sym both),
    )

-- a header that is read of a payload is what the payload spells
pub header_takes : (payload : List ℕ) (h : Roots) → AreBytes payload → header_at payload ≡ Some h → IsHeader h × (payload ≡ header_payload h)
unfolding header_at
header_takes payload h fits e =
    let a = bind_some (big_endian_at w16 payload) _ h e in
    let t = number_takes w16 (2 ^ 16) wide16 payload a.0.0 a.0.1 fits a.1 in
    let b = if_false (not (is_width a.0.0)) (cond (eqb (length a.0.1) (360 * a.0.0)) (Some (roots_in a.0.0 a.0.1)) None) h a.2 in
    let g = cond_some (eqb (length a.0.1) (360 * a.0.0)) (roots_in a.0.0 a.0.1) h b.1 in
    let made = is_header a.0.0 a.0.1 (not-false (is_width a.0.0) b.0) t.0.rest_fits (eqb-true (length a.0.1) (360 * a.0.0) g.0) in
    subst (λ (r : Roots). IsHeader r × (payload ≡ header_payload r)) g.1 (made.0, t.0.parts ∙ made.1)

-- ---- spelled

-- the digests that a header is written as
abbrev body : Roots → List ℕ
body h = digest_bytes h.rows ++ digest_bytes h.cols

-- the rows of a header have 180 bytes for each k, its rows and columns 360
body_length : (h : Roots) → IsHeader h → (length (digest_bytes h.rows) ≡ 180 * h.k) × (length (body h) ≡ 360 * h.k)
body_length h is =
    let rows : length (digest_bytes h.rows) ≡ 90 * length h.rows = length-digest_bytes h.rows is.rows in
    let cols : length (digest_bytes h.cols) ≡ 90 * length h.cols = length-digest_bytes h.cols is.cols in
    let sum : length (body h) ≡ length (digest_bytes h.rows) + length (digest_bytes h.cols) = length-append (digest_bytes h.rows) (digest_bytes h.cols) in
    (omega (arith, rows, is.roots.rows), omega (arith, rows, cols, sum, is.roots.rows, is.roots.cols))

-- the payload of a header is read as the header
pub header_again : (h : Roots) → IsHeader h → header_at (header_payload h) ≡ Some h
unfolding header_at
header_again h is =
    let len = body_length h is in
    let few : h.k ≤ greatest_width = is_width-le h.k is.roots.width in
    let front : take (180 * h.k) (body h) ≡ digest_bytes h.rows = take_at (digest_bytes h.rows) (digest_bytes h.cols) (180 * h.k) len.0 in
    let behind : drop (180 * h.k) (body h) ≡ digest_bytes h.cols = drop_at (digest_bytes h.rows) (digest_bytes h.cols) (180 * h.k) len.0 in
    let rows : digests_of (2 * h.k) (take (180 * h.k) (body h)) ≡ h.rows = digests_of-spelled (2 * h.k) (take (180 * h.k) (body h)) h.rows is.rows is.roots.rows front in
    let cols : digests_of (2 * h.k) (drop (180 * h.k) (body h)) ≡ h.cols = digests_of-spelled (2 * h.k) (drop (180 * h.k) (body h)) h.cols is.cols is.roots.cols behind in
    let same : roots_in h.k (body h) ≡ h = ap₂ (λ (r c : List Digest). roots h.k r c) rows cols in
    bind_again (big_endian_at w16 (header_payload h)) _ (h.k, body h) h
    (number_again w16 (2 ^ 16) wide16 h.k (body h) (omega (arith, few)))
    (if_false_again (not (is_width h.k)) (cond (eqb (length (body h)) (360 * h.k)) (Some (roots_in h.k (body h))) None) h (not_from_true (is_width h.k) is.roots.width)
    (if_true_again (eqb (length (body h)) (360 * h.k)) (Some (roots_in h.k (body h))) h
    (eq-eqb _ _ len.1) (ap (λ (r : Roots). Some r) same)))

-- the form of this kind
pub header_form : IsForm IsHeader header_at header_payload never
header_form = record {
  takes = λ bytes x fits e. let t = header_takes bytes x fits e in (t.0, t.1, refl);
  again = λ x is some few. header_again x is;
}
