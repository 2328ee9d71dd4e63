-- How wide the subtrees over so many shares are.
use Rattle.std.proofs.Common.{◌≡◌, ◌⊎◌, ◌∙◌, ℕ, suc, ◌+◌, ◌-◌, ◌*◌, ◌%◌, ◌^◌, ◌≤◌, true, IsTrue, refl, sym, ap, subst, arith, inl, inr}
use Rattle.std.specs.Int.{IsPowerOfTwo, div_ceil}
use Rattle.std.proofs.lemmas.Bool.{cases_lt}
use Rattle.std.proofs.lemmas.Nat.{mul-le, pow-add, pow_pos}
use Rattle.std.proofs.lemmas.Grind.{div_ceil_times}
use Rattle.std.proofs.Math.Nat.{pow-suc, mul-mod_left}
use Rattle.std.proofs.Math.Pow.{pow_mono}
use Rattle.namespace_id.specs.Cells.{is_width}
use Rattle.namespace_id.proofs.PowerLemmas.{width_power}
use Rattle.nmt_tree.specs.Roots.{is_leaf_count, halvings}
use Rattle.nmt_tree.proofs.CountLemmas.{leaf_count_power, power_halvings}
use Rattle.share_split.specs.Widths.{subtree_width_of}
use Rattle.share_split.proofs.Width.Laws.{width_is_lesser, least_power, least_root}
use Rattle.square_layout.specs.Refusals.{max_shares}
use Rattle.square_layout.proofs.LaidLemmas.{square_fits}
use Rattle.namespace_id.specs.Sizes.{greatest_width}
use Rattle.blob_commit.specs.Bounds.{most_halvings, most_levels}

-- of two powers of two the lesser divides the greater
power_divides : (a b : ℕ) → IsPowerOfTwo a → IsPowerOfTwo b → a ≤ b → b % a ≡ 0
power_divides a b (i, a_is) (j, b_is) le =
    let order : i ≤ j = elim (cases_lt j i) [
      | inl lt ↦
          let next : suc j ≤ i = omega (arith, lt) in
          let up : 2 ^ suc j ≤ 2 ^ i = pow_mono next in absurd (omega (arith, up, pow-suc 2 j, pow_pos j, a_is, b_is, le))
      | inr ge ↦ ge
    ] in
    let sum : j ≡ j - i + i = omega (arith, order) in
    let times : b ≡ 2 ^ (j - i) * a =
    b_is ∙ ap (λ (m : ℕ). 2 ^ m) sum ∙ pow-add 2 (j - i) i ∙ ap (λ (m : ℕ). 2 ^ (j - i) * m) (sym a_is) in
    ap (λ (m : ℕ). m % a) times ∙ mul-mod_left (2 ^ (j - i)) a

-- what the standard's formula says of the width over n shares
record IsWidth (n width : ℕ) : Type 0 where
  -- it is a power of two
  power : IsPowerOfTwo width
  -- no square whose width is a lesser power of two holds the shares
  least : (k : ℕ) → IsPowerOfTwo k → n ≤ k * k → width ≤ k
  -- 64 subtrees hold them, or a square of this width
  holds : (n ≤ 64 * width) ⊎ (n ≤ width * width)

formula : (n : ℕ) → n ≤ 2 ^ 56 → IsWidth n (subtree_width_of n)
formula n small =
    let threshold = least_power (div_ceil n 64) in
    let root = least_root n in
    let side = least_power root.0 in
    let lesser = width_is_lesser n root.0 threshold.0 side.0 small threshold.1 root.1 side.1 in
    let rounded = div_ceil_times n 64 (omega arith) in
    let within : (k : ℕ) → IsPowerOfTwo k → n ≤ k * k → side.0 ≤ k = λ k power holds. side.1.none_below k power (root.1.none_below k holds) in
    elim (cases_lt threshold.0 side.0) [
      | inl lt ↦
          let is : subtree_width_of n ≡ threshold.0 = omega (arith, lesser, lt) in record {
            power = subst IsPowerOfTwo (sym is) threshold.1.is_power;
            least = λ k power holds. omega (arith, within k power holds, is, lt);
            holds = inl (omega (arith, is, rounded.0, threshold.1.holds));
          }
      | inr ge ↦
          let is : subtree_width_of n ≡ side.0 = omega (arith, lesser, ge) in
          let square : root.0 * root.0 ≤ side.0 * side.0 = mul-le root.0 root.0 side.0 side.0 side.1.holds side.1.holds in
          let holds : n ≤ side.0 * side.0 = omega (arith, root.1.holds, square) in record {
            power = subst IsPowerOfTwo (sym is) side.1.is_power;
            least = λ k power holds. omega (arith, within k power holds, is);
            holds = inr (subst (λ (w : ℕ). n ≤ w * w) (sym is) holds);
          }
    ]

-- ---- of shares that a square holds

-- no square has more shares than the greatest
pub square_bound : (k n : ℕ) → is_width k ≡ true → n ≤ k * k → n ≤ max_shares
square_bound k n width le =
    omega (arith, le, square_fits k width)

-- the width is a count of leaves, and no more subtrees of it than the greatest square has shares in a row hold them
pub width_count : (n : ℕ) → n ≤ max_shares → IsTrue (is_leaf_count (subtree_width_of n)) × (subtree_width_of n ≤ greatest_width) × (n ≤ greatest_width * subtree_width_of n)
width_count n most =
    let w : ℕ = subtree_width_of n in
    let is : IsWidth n w = formula n (omega (arith, most)) in
    let j : ℕ = is.power.0 in
    let narrow : w ≤ greatest_width = is.least greatest_width (most_halvings, refl) (omega (arith, most)) in
    let low : j ≤ most_halvings = elim (cases_lt most_halvings j) [
      | inl lt ↦
          let next : most_levels ≤ j = omega (arith, lt) in
          let up : 2 ^ most_levels ≤ 2 ^ j = pow_mono next in absurd (omega (arith, up, is.power.1, narrow))
      | inr ge ↦ ge
    ] in (
      subst (λ (m : ℕ). IsTrue (is_leaf_count m)) (sym is.power.1) (leaf_count_power j (omega (arith, low))).0,
      narrow,
      elim is.holds [
        | inl threshold ↦ omega (arith, threshold)
        | inr square ↦ let wide : w * w ≤ greatest_width * w = mul-le w w greatest_width w narrow (omega arith) in omega (arith, square, wide)
      ],
    )

-- it divides the width of each square that holds the shares
pub width_divides : (k n : ℕ) → is_width k ≡ true → n ≤ k * k → k % subtree_width_of n ≡ 0
width_divides k n width le =
    let is : IsWidth n (subtree_width_of n) = formula n (omega (arith, square_bound k n width le)) in
    let power : IsPowerOfTwo k = (halvings k, sym (power_halvings k (width_power k width))) in
    power_divides (subtree_width_of n) k is.power power (is.least k power le)
