-- Powers of x: products are sums of exponents, and exponents count modulo one less than the number of labels.
use Rattle.std.proofs.Common.{◌≡◌, ℕ, zero, suc, ◌+◌, ◌-◌, ◌*◌, ◌/◌, ◌%◌, ◌^◌, ◌<◌, refl, sym, ap, ap₂, ◌∙◌, arith, zero-add, subst}
use Rattle.std.proofs.Math.Nat.{two-pow-succ, div-eq_of_lt, mul_assoc, suc-mul}
use Rattle.std.proofs.lemmas.Nat.{pow_pos, pow-add, div-add-mod'}
use Rattle.std.specs.Int.Bits.{xor_zero_r}
use Rattle.std.specs.Prelude.{bit_xor}
use Rattle.gf_cantor.specs.Field.{Field, element, label, times_x, shift, power, times, product}
use Rattle.gf_cantor.proofs.Facts.{IsCantor}
use Rattle.gf_cantor.proofs.Times.{times_x-lt, times_low-times_x, times_low-one}
use Rattle.gf_cantor.proofs.Product.{element-label, label-lt, product_comm, one-product}
use Rattle.gf_cantor.proofs.Inverse.{conjugate, conjugate_is, product_cancels}

-- x and x^i change places
pub shift-times_x : (f : Field) (i p : ℕ) → shift f i (times_x f p) ≡ times_x f (shift f i p)
unfolding shift
shift-times_x f zero p = refl
shift-times_x f (suc i) p = ap (times_x f) (shift-times_x f i p)

-- x^(i + j) is x^i times x^j
pub shift-add : (f : Field) (i j p : ℕ) → shift f (i + j) p ≡ shift f i (shift f j p)
unfolding shift
shift-add f zero j p = ap (λ (k : ℕ). shift f k p) (zero-add j)
shift-add f (suc i) j p =
    let e : suc i + j ≡ suc (i + j) = omega arith in
    ap (λ (k : ℕ). shift f k p) e ∙ ap (times_x f) (shift-add f i j p)

module _ (f : Field) (levels : ℕ) (h : IsCantor f levels) where
  -- x^i times a polynomial is one
  pub shift-lt : (i p : ℕ) → p < 2 ^ suc f.top → shift f i p < 2 ^ suc f.top
  unfolding shift
  shift-lt zero p l = l
  shift-lt (suc i) p l = let labels = h.are_labels in times_x-lt f labels.modulus _ (shift-lt i p l)

  -- 1 is a polynomial
  pub one-lt : 1 < 2 ^ suc f.top
  one-lt = omega (arith, two-pow-succ f.top, pow_pos f.top)

  -- a power of x is a polynomial
  pub power-lt : (i : ℕ) → power f i < 2 ^ suc f.top
  power-lt i = shift-lt i 1 one-lt

  -- x^i may be taken out of the first factor
  shift-times : (i p q : ℕ) → p < 2 ^ suc f.top → times f (shift f i p) q ≡ shift f i (times f p q)
  unfolding shift times
  shift-times zero p q l = refl
  shift-times (suc i) p q l =
      let labels = h.are_labels in
      times_low-times_x f labels.modulus (suc f.top) (shift f i p) q (shift-lt i p l) ∙ ap (times_x f) (shift-times i p q l)

  -- 1 times a polynomial is that polynomial
  one-times : (q : ℕ) → q < 2 ^ suc f.top → times f 1 q ≡ q
  unfolding times
  one-times q l = let labels = h.are_labels in times_low-one f labels.modulus (suc f.top) q (omega arith) l

  -- a power of x times a polynomial is that polynomial shifted
  power-times : (i q : ℕ) → q < 2 ^ suc f.top → times f (power f i) q ≡ shift f i q
  power-times i q l = shift-times i 1 q one-lt ∙ ap (shift f i) (one-times q l)

  -- the product of two powers of x is the power of the sum
  pub power-times-power : (i j : ℕ) → times f (power f i) (power f j) ≡ power f (i + j)
  power-times-power i j = power-times i (power f j) (power-lt j) ∙ sym (shift-add f i j 1)

  -- the same of the labels
  pub label-powers : (i j : ℕ) → product f (label f (power f i)) (label f (power f j)) ≡ label f (power f (i + j))
  unfolding product
  label-powers i j =
      let labels = h.are_labels in
      ap (label f) (ap₂ (times f) (element-label f labels (power f i) (power-lt i)) (element-label f labels (power f j) (power-lt j)) ∙ power-times-power i j)

  -- the power 2^(2^t) of a power of x
  conjugate-power : (t i : ℕ) → conjugate f t (label f (power f i)) ≡ label f (power f (i * 2 ^ (2 ^ t)))
  unfolding conjugate
  conjugate-power zero i =
      let twice : i + i ≡ i * 2 ^ (2 ^ 0) = omega arith in
      label-powers i i ∙ ap (λ k. label f (power f k)) twice
  conjugate-power (suc t) i =
      let k : ℕ = 2 ^ (2 ^ t) in
      let doubled : 2 ^ t + 2 ^ t ≡ 2 ^ suc t = sym (two-pow-succ t) in
      let whole : i * k * k ≡ i * 2 ^ (2 ^ suc t) =
      mul_assoc i k k ∙ ap (λ m. i * m) (sym (pow-add 2 (2 ^ t) (2 ^ t)) ∙ ap (λ m. 2 ^ m) doubled) in
      ap (conjugate f t) (conjugate-power t i) ∙ conjugate-power t (i * k) ∙ ap (λ k. label f (power f k)) whole

  -- x to the number of labels is x
  whole_turn : label f (power f (2 ^ suc f.top)) ≡ label f (power f 1)
  whole_turn =
      let labels = h.are_labels in
      let x : ℕ = label f (power f 1) in
      let wide = h.wide in
      let low : x < 2 ^ suc f.top = label-lt f labels (power f 1) in
      let none : x / 2 ^ (2 ^ levels) ≡ 0 = div-eq_of_lt (subst (λ m. x < 2 ^ m) wide low) in
      let one : 1 * 2 ^ (2 ^ levels) ≡ 2 ^ suc f.top = omega (arith, ap (λ m. 2 ^ m) wide) in
      sym (conjugate-power levels 1 ∙ ap (λ k. label f (power f k)) one)
      ∙ conjugate_is f levels h levels x low
      ∙ ap (bit_xor x) none ∙ xor_zero_r x

  -- x to one less is 1, where x isn't 0
  pub turn : 0 < label f (power f 1) → power f (2 ^ suc f.top - 1) ≡ 1
  turn some =
      let labels = h.are_labels in
      let n : ℕ = 2 ^ suc f.top - 1 in
      let x : ℕ = label f (power f 1) in
      let y : ℕ = label f (power f (2 ^ suc f.top - 1)) in
      let next : 2 ^ suc f.top - 1 + 1 ≡ 2 ^ suc f.top = omega (arith, pow_pos (suc f.top)) in
      let same : product f x y ≡ product f x 1 =
      product_comm f labels x y ∙ label-powers (2 ^ suc f.top - 1) 1 ∙ ap (λ k. label f (power f k)) next ∙ whole_turn
      ∙ sym (product_comm f labels x 1 ∙ one-product f labels x (label-lt f labels (power f 1))) in
      let is_one : y ≡ 1 = product_cancels f levels h x y 1 some (label-lt f labels (power f 1)) (label-lt f labels (power f (2 ^ suc f.top - 1))) one-lt same in
      sym (element-label f labels (power f (2 ^ suc f.top - 1)) (power-lt (2 ^ suc f.top - 1))) ∙ ap (element f) is_one ∙ labels.one

  -- so whole turns may be left out
  turns : (n m i : ℕ) → power f m ≡ 1 → power f (n * m + i) ≡ power f i
  turns zero m i e = let first : 0 * m + i ≡ i = omega arith in ap (λ (k : ℕ). power f k) first
  turns (suc n) m i e =
      let next : suc n * m + i ≡ (n * m + i) + m = omega (arith, suc-mul n m) in
      ap (λ (k : ℕ). power f k) next ∙ shift-add f (n * m + i) m 1 ∙ ap (shift f (n * m + i)) e ∙ turns n m i e

  -- exponents count modulo m where x^m is 1
  pub period : (m i : ℕ) → power f m ≡ 1 → power f (i % m) ≡ power f i
  period m i e =
      sym (ap (λ (k : ℕ). power f k) (sym (div-add-mod' i m)) ∙ turns (i / m) m (i % m) e)
