-- A square that is read of a payload is what the payload spells, and the payload that a square has is read.
use Rattle.std.proofs.Common.{◌≡◌, ◌∙◌, ℕ, ◌*◌, ◌^◌, ◌≤◌, true, not, eqb, cond, List, ◌++◌, length, None, Some, refl, sym, ap, subst, arith, eqb-true, eq-eqb}
use Rattle.std.specs.Int.{w16, to_be_bytes}
use Rattle.std.proofs.lemmas.Bool.{not-false, not_from_true}
use Rattle.std.proofs.lemmas.Option.{cond_some}
use Rattle.namespace_id.specs.declared.shares.Share.{Share}
use Rattle.namespace_id.specs.Bytes.{AreBytes}
use Rattle.namespace_id.specs.Shares.{AreShares, share_of, share_bytes}
use Rattle.namespace_id.specs.Cells.{is_width}
use Rattle.namespace_id.specs.Sizes.{greatest_width}
use Rattle.square_layout.specs.Blocks.{SquareShares, IsSquare}
use Rattle.frame_fields.specs.Fields.{big_endian_at, shares_of}
use Rattle.frame_payloads.specs.kinds.Square.{square_payload, square_at}
use Rattle.frame_payloads.proofs.Fields.Readers.{bind_some, bind_again, if_false, if_false_again, if_true_again}
use Rattle.frame_payloads.proofs.Fields.Numbers.{wide16, number_takes, number_again}
use Rattle.namespace_id.proofs.WidthLemmas.{is_width-le}
use Rattle.frame_payloads.proofs.Fields.Shares.{text, texts}
use Rattle.frame_payloads.proofs.Fields.Split.{length-split_into, are_values_of, value_bytes-of, length-value_bytes, split_into-spelled}
use Rattle.frame_payloads.proofs.Forms.Form.{IsForm, never}

-- the square of this width and these shares
abbrev square : ℕ → List Share → SquareShares
square k shares = record { k = k; shares = shares }

-- the square of this width whose shares the bytes are
abbrev square_in : ℕ → List ℕ → SquareShares
square_in k bytes = square k (shares_of (k * k) bytes)

-- ---- read

-- a width and the bytes of its shares are a square, and spell it
is_square : (k : ℕ) (bytes : List ℕ) → is_width k ≡ true → AreBytes bytes → length bytes ≡ 512 * (k * k)
    → (IsSquare (square_in k bytes) × AreShares (shares_of (k * k) bytes)) × (to_be_bytes w16 k ++ bytes ≡ square_payload (square_in k bytes))
is_square k bytes width fits len =
    let long : 512 * (k * k) ≤ length bytes = omega arith in (
      (
        record { width = width; count = length-split_into share_of 512 (k * k) bytes },
        are_values_of share_of text texts 512 (k * k) bytes fits long,
      ),
      ap (λ (l : List ℕ). to_be_bytes w16 k ++ l) (sym (value_bytes-of share_of text texts 512 (k * k) bytes len)),
    )

-- a square that is read of a payload is what the payload spells
pub square_takes : (payload : List ℕ) (s : SquareShares) → AreBytes payload → square_at payload ≡ Some s → (IsSquare s × AreShares s.shares) × (payload ≡ square_payload s)
unfolding square_at
square_takes payload s fits e =
    let a = bind_some (big_endian_at w16 payload) _ s e in
    let t = number_takes w16 (2 ^ 16) wide16 payload a.0.0 a.0.1 fits a.1 in
    let b = if_false (not (is_width a.0.0)) (cond (eqb (length a.0.1) (512 * (a.0.0 * a.0.0))) (Some (square_in a.0.0 a.0.1)) None) s a.2 in
    let g = cond_some (eqb (length a.0.1) (512 * (a.0.0 * a.0.0))) (square_in a.0.0 a.0.1) s b.1 in
    let made = is_square a.0.0 a.0.1 (not-false (is_width a.0.0) b.0) t.0.rest_fits (eqb-true (length a.0.1) (512 * (a.0.0 * a.0.0)) g.0) in
    subst (λ (x : SquareShares). (IsSquare x × AreShares x.shares) × (payload ≡ square_payload x)) g.1 (made.0, t.0.parts ∙ made.1)

-- ---- spelled

-- the shares of a square have 512 bytes each
pub length-share_bytes : (s : SquareShares) → IsSquare s → AreShares s.shares → length (share_bytes s.shares) ≡ 512 * (s.k * s.k)
length-share_bytes s is shares = length-value_bytes text 512 s.shares shares ∙ ap (λ (n : ℕ). 512 * n) is.count

-- the payload of a square is read as the square
pub square_again : (s : SquareShares) → IsSquare s → AreShares s.shares → square_at (square_payload s) ≡ Some s
unfolding square_at
square_again s is shares =
    let bytes : List ℕ = share_bytes s.shares in
    let few : s.k ≤ greatest_width = is_width-le s.k is.width in
    let same : square_in s.k bytes ≡ s = ap (λ (l : List Share). square s.k l) (split_into-spelled share_of text texts 512 (s.k * s.k) bytes s.shares shares is.count refl) in
    bind_again (big_endian_at w16 (square_payload s)) _ (s.k, bytes) s
    (number_again w16 (2 ^ 16) wide16 s.k bytes (omega (arith, few)))
    (if_false_again (not (is_width s.k)) (cond (eqb (length bytes) (512 * (s.k * s.k))) (Some (square_in s.k bytes)) None) s (not_from_true (is_width s.k) is.width)
    (if_true_again (eqb (length bytes) (512 * (s.k * s.k))) (Some (square_in s.k bytes)) s
    (eq-eqb _ _ (length-share_bytes s is shares)) (ap (λ (x : SquareShares). Some x) same)))

-- the form of this kind
pub square_form : IsForm (λ s. IsSquare s × AreShares s.shares) square_at square_payload never
square_form = record {
  takes = λ bytes x fits e. let t = square_takes bytes x fits e in (t.0, t.1, refl);
  again = λ x is some few. square_again x is.0 is.1;
}
