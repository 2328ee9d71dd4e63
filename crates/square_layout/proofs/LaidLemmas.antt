-- Lemmas on all shares of a square.
use Rattle.std.proofs.Common.{false, ◌≡◌, ◌∙◌, ℕ, ◌+◌, ◌-◌, ◌*◌, ◌≤◌, max, true, List, [], ◌++◌, length, replicate, sym, ap, ap₂, subst, arith, inl, inr, length-append}
use Rattle.std.proofs.lemmas.List.{length-replicate}
use Rattle.std.proofs.lemmas.Bool.{cases_lt}
use Rattle.std.proofs.lemmas.Bool.Decides.{nat_tests}
use Rattle.std.proofs.lemmas.Nat.{mul-le}
use Rattle.namespace_id.specs.Cells.{is_width}
use Rattle.namespace_id.specs.Sizes.{greatest_width}
use Rattle.namespace_id.specs.declared.shares.Share.{Share}
use Rattle.namespace_id.specs.Names.{transaction, pay_for_blob, primary_reserved_padding, tail_padding}
use Rattle.share_split.specs.Blobs.{NamedBytes}
use Rattle.share_split.specs.Units.{unit_shares_of}
use Rattle.share_split.specs.Joined.{padding_share}
use Rattle.share_split.proofs.Writing.UnitLaws.{unit_shares_are_counted}
use Rattle.square_layout.specs.Blocks.{BlockParts}
use Rattle.square_layout.specs.Layout.{in_order, end_of, placed, placed_behind, compact_part, compact_end, laid, needed}
use Rattle.square_layout.specs.Refusals.{max_shares}
use Rattle.square_layout.proofs.PlaceLemmas.{end_of-ge, length-placed}
use Rattle.square_layout.proofs.SizeLemmas.{at_least_one}

-- ---- how many there are

-- how many compact shares a block has
pub length-compact_part : (block : BlockParts) → length (compact_part block) ≡ compact_end block
length-compact_part block =
    length-append (unit_shares_of transaction block.units) (unit_shares_of pay_for_blob block.pay_units)
    ∙ ap₂ (λ (m n : ℕ). m + n) (unit_shares_are_counted transaction block.units) (unit_shares_are_counted pay_for_blob block.pay_units)

-- how many shares a layout has
pub length-laid : (block : BlockParts) → length (laid block) ≡ end_of (compact_end block) (in_order block.blobs)
length-laid block =
    length-append (compact_part block) (placed primary_reserved_padding (compact_end block) (in_order block.blobs))
    ∙ ap (λ (n : ℕ). n + length (placed primary_reserved_padding (compact_end block) (in_order block.blobs))) (length-compact_part block)
    ∙ length-placed false (padding_share primary_reserved_padding) (compact_end block) (in_order block.blobs)

-- a number or 1 is the greater of both
at_least_one-max : (n : ℕ) → at_least_one n ≡ max 1 n
at_least_one-max n = elim (cases_lt 0 n) [
  | inl some ↦ (let same : at_least_one n ≡ n = grind (arith, nat_tests) in omega (arith, same, some))
  | inr none ↦ (let zero_is : n ≡ 0 = omega (arith, none) in ap at_least_one zero_is ∙ sym (ap (λ (k : ℕ). max 1 k) zero_is))
]

-- the layout is as long as is needed, or empty where 1 is
pub needed_is : (block : BlockParts) → needed block ≡ max 1 (length (laid block))
needed_is block = at_least_one-max (end_of (compact_end block) (in_order block.blobs)) ∙ ap (λ (n : ℕ). max 1 n) (sym (length-laid block))

-- the layout and the padding behind it
pub length-padded : (shares : List Share) (pad : Share) (size : ℕ) → length shares ≤ size → length (shares ++ replicate (size - length shares) pad) ≡ size
length-padded shares pad size h =
    omega (arith, length-append shares (replicate (size - length shares) pad), length-replicate (size - length shares) pad, h)

-- the parts of a layout whose shares are few are few
pub end_fits : (block : BlockParts) (most : ℕ) → needed block ≤ most → end_of (compact_end block) (in_order block.blobs) ≤ most
end_fits block most h =
    let end : ℕ = end_of (compact_end block) (in_order block.blobs) in
    let is : needed block ≡ max 1 end = at_least_one-max end in omega (arith, is, h)

-- the compact shares fit where the layout does
pub compact_fits : (block : BlockParts) (most : ℕ) → needed block ≤ most → compact_end block ≤ most
compact_fits block most h = omega (arith, end_of-ge (compact_end block) (in_order block.blobs), end_fits block most h)

-- the layout fits where so many shares as it needs do
pub laid_fits : (block : BlockParts) (most : ℕ) → needed block ≤ most → length (laid block) ≤ most
laid_fits block most h = omega (arith, length-laid block, end_fits block most h)

-- no square has more shares than the greatest
pub square_fits : (k : ℕ) → is_width k ≡ true → k * k ≤ max_shares
square_fits k h =
    let low : k ≤ greatest_width = grind (arith, nat_tests) in
    let square = mul-le k k greatest_width greatest_width low low in omega (arith, square)

-- ---- the parts, one behind another

-- first the compact shares
pub compact_there : (block : BlockParts) (none out : List Share) → none ≡ [] → out ≡ none ++ compact_part block → out ≡ compact_part block
compact_there block none out n o = o ∙ ap (λ (l : List Share). l ++ compact_part block) n

-- the blobs fit behind the compact shares where the layout does
pub blobs_fit : (block : BlockParts) (out : List Share) (blobs : List NamedBytes) (most : ℕ) → out ≡ compact_part block → blobs ≡ in_order block.blobs
    → needed block ≤ most → end_of (length out) blobs ≤ most
blobs_fit block out blobs most o b h =
    subst (λ (n : ℕ). n ≤ most) (sym (ap₂ end_of (ap length o ∙ length-compact_part block) b)) (end_fits block most h)

-- then the blobs
pub laid_there : (block : BlockParts) (gap : Share) (out new : List Share) (blobs : List NamedBytes) → gap ≡ padding_share primary_reserved_padding
    → out ≡ compact_part block → blobs ≡ in_order block.blobs → new ≡ out ++ placed_behind false gap (length out) blobs → new ≡ laid block
laid_there block gap out new blobs g o b n =
    n ∙ ap (λ (s : Share). out ++ placed_behind false s (length out) blobs) g
    ∙ ap₂ (λ (l : List Share) (e : ℕ). l ++ placed primary_reserved_padding e blobs) o (ap length o ∙ length-compact_part block)
    ∙ ap (λ (l : List NamedBytes). compact_part block ++ placed primary_reserved_padding (compact_end block) l) b

-- and the padding behind them
pub padded_there : (block : BlockParts) (pad : Share) (before all : List Share) (size to : ℕ) → pad ≡ padding_share tail_padding
    → before ≡ laid block → to ≡ size → all ≡ before ++ replicate (to - length before) pad
    → all ≡ laid block ++ replicate (size - length (laid block)) (padding_share tail_padding)
padded_there block pad before all size to p b t a =
    a ∙ ap (λ (s : Share). before ++ replicate (to - length before) s) p
    ∙ ap₂ (λ (l : List Share) (n : ℕ). l ++ replicate (n - length l) (padding_share tail_padding)) b t
