-- A block that is read of a payload is what the payload spells, and the payload that a block has is read.
use Rattle.std.proofs.Common.{◌≡◌, ℕ, Bool, ◌^◌, ◌<◌, true, false, eqb, cond, List, Option, None, Some, IfSome, refl, sym, ap, arith, eqb-true}
use Rattle.std.specs.List.{AllByRecursion}
use Rattle.share_split.specs.Blobs.{NamedBytes, IsNamed}
use Rattle.square_layout.specs.Blocks.{BlockParts, IsBlock}
use Rattle.frame_payloads.specs.kinds.Block.{blob_bytes, width_number, asks_for_zero, block_payload, blob_at, asked_width, block_at}
use Rattle.frame_payloads.specs.kinds.Units.{counted_at, counted_bytes}
use Rattle.frame_payloads.proofs.Forms.Units.{counted_field, units}
use Rattle.frame_payloads.proofs.Forms.Blobs.{blob_field}
use Rattle.frame_payloads.proofs.Fields.Fields.{Fields, AreMaps, ◌▸◌, as_field}
use Rattle.frame_payloads.proofs.Fields.Bases.{number16, field}
use Rattle.frame_payloads.proofs.Forms.Form.{IsForm, IsSpelled, form_of}

-- blobs behind their count are a field
abbrev blobs : Fields BlockParts (List NamedBytes)
blobs = field (counted_at blob_at) (counted_bytes blob_bytes) (λ xs. AllByRecursion IsNamed xs) (counted_field blob_at blob_bytes IsNamed blob_field)

-- ---- the width

-- the number that a width is read of, and it isn't 0
width_by : (k : ℕ) (zero : Bool) → k < 2 ^ 16 → eqb k 0 ≡ zero
    → (width_number (asked_width k) ≡ k) × (asks_for_zero (asked_width k) ≡ false) × IfSome (asked_width k) (λ n. n < 2 ^ 16)
width_by k true lt e = rw e (sym (eqb-true k 0 e), refl, tt)
width_by k false lt e = rw e (refl, e, lt)

-- a number that is read is the one that its width is written as, and no width is 0
width_is : (k : ℕ) → k < 2 ^ 16 → (width_number (asked_width k) ≡ k) × (asks_for_zero (asked_width k) ≡ false) × IfSome (asked_width k) (λ n. n < 2 ^ 16)
width_is k lt = width_by k (eqb k 0) lt refl

-- the number that a width is written as asks for the width
asked_again : (width : Option ℕ) → asks_for_zero width ≡ false → asked_width (width_number width) ≡ width
asked_again None some = refl
asked_again (Some k) some = ap (λ (b : Bool). cond b None (Some k)) some

-- the number that a width is written as fits two bytes
width_few : (width : Option ℕ) → IfSome width (λ n. n < 2 ^ 16) → width_number width < 2 ^ 16
width_few None few = omega arith
width_few (Some k) few = few

-- a width is a field
abbrev width : Fields BlockParts (Option ℕ)
width = as_field number16 asked_width width_number (λ width. IfSome width (λ n. n < 2 ^ 16) × (asks_for_zero width ≡ false)) (record {
  there = λ k lt. let w = width_is k lt in ((w.2, w.1), w.0);
  back = λ width is. (width_few width is.0, asked_again width is.1);
})

-- ---- the block

-- a block is a width, units, those of payments, and blobs
maps : AreMaps (width ▸ units ▸ units ▸ blobs) (λ x. record { width = x.0.0.0; units = x.0.0.1; pay_units = x.0.1; blobs = x.1 }) (λ b. (((b.width, b.units), b.pay_units), b.blobs))
    (IsSpelled IsBlock (λ b. asks_for_zero b.width))
maps = record {
  there = λ x is. ((record { units = is.0.0.1; pay_units = is.0.1; blobs = is.1; width = is.0.0.0.0 }, is.0.0.0.1), refl);
  back = λ b is. (((((is.0.width, is.1), is.0.units), is.0.pay_units), is.0.blobs), refl);
}

-- the form of this kind
pub block_form : IsForm IsBlock block_at block_payload (λ b. asks_for_zero b.width)
unfolding block_at
block_form = form_of maps (λ bytes. refl) (λ b. refl)
