-- Lemmas on how many shares a layout has, and on the width that holds them.
use Rattle.std.proofs.Common.{◌≡◌, ◌∙◌, ℕ, ◌+◌, ◌*◌, ◌<◌, ◌≤◌, ◌==◌, min, max, true, if◌then◌else◌, List, sym, ap, ap₂, arith, inl, inr}
use Rattle.std.proofs.lemmas.Bool.{cases_lt}
use Rattle.std.proofs.lemmas.Bool.Decides.{nat_tests}
use Rattle.std.proofs.lemmas.Nat.{mul-le}
use Rattle.namespace_id.specs.Cells.{is_width}
use Rattle.namespace_id.specs.Sizes.{greatest_width}
use Rattle.share_split.specs.Blobs.{NamedBytes}
use Rattle.square_layout.specs.Layout.{end_of}
use Rattle.square_layout.specs.Refusals.{most_named, max_shares}
use Rattle.square_layout.proofs.CountLemmas.{told_end}

-- ---- how many shares

-- the end of the layout, or 1
abbrev pub at_least_one : ℕ → ℕ
at_least_one n = if n == 0 then 1 else n

-- a sum of counts that are told is told
told_sum : (a b : ℕ) → min (min a most_named + min b most_named) most_named ≡ min (a + b) most_named
told_sum a b = omega arith

-- a count that is told, or 1
told_one : (n : ℕ) → max (min n most_named) 1 ≡ min (at_least_one n) most_named
told_one n = elim (cases_lt 0 n) [
  | inl some ↦ (let same : at_least_one n ≡ n = grind (arith, nat_tests) in omega (arith, same, some))
  | inr none ↦ (let zero_is : n ≡ 0 = omega (arith, none) in ap (λ (k : ℕ). max (min k most_named) 1) zero_is ∙ sym (ap (λ (k : ℕ). min (at_least_one k) most_named) zero_is))
]

-- how many shares a layout has is told, up to the greatest count
pub needed_told : (a b x y sum end : ℕ) (blobs others : List NamedBytes) → x ≡ min a most_named → y ≡ min b most_named
    → sum ≡ min (x + y) most_named → end ≡ min (end_of sum others) most_named → others ≡ blobs
    → max end 1 ≡ min (at_least_one (end_of (a + b) blobs)) most_named
needed_told a b x y sum end blobs others ex ey es ee same =
    ap (λ (n : ℕ). max n 1)
    (ee ∙ ap₂ (λ (s : ℕ) (l : List NamedBytes). min (end_of s l) most_named) (es ∙ ap₂ (λ (m n : ℕ). min (m + n) most_named) ex ey ∙ told_sum a b) same
    ∙ told_end (a + b) blobs)
    ∙ told_one (end_of (a + b) blobs)

-- ---- the width

-- a width whose square doesn't hold what the greatest holds is below the greatest
pub below_greatest : (count k : ℕ) → count ≤ max_shares → k * k < count → k < greatest_width
below_greatest count k h lt = elim (cases_lt k greatest_width) [
  | inl below ↦ below
  | inr above ↦ (let square = mul-le greatest_width greatest_width k k above above in omega (arith, square, h, lt))
]

-- a width below the greatest, doubled
pub is_width-double : (k : ℕ) → is_width k ≡ true → k < greatest_width → is_width (k * 2) ≡ true
is_width-double k h lt = grind (arith, nat_tests)
