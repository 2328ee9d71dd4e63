-- Each label but 0 has an inverse. The labels below 2, 4, 16, 256 and 65,536 are fields within each other: the power
-- 2^(2^t) adds to a label the label shifted by 2^t bits, so it keeps exactly those below 2^(2^t), and it is
-- multiplicative. An inverse is found from two of the field below.
use Rattle.std.proofs.Common.{◌≡◌, ℕ, zero, suc, ◌+◌, ◌*◌, ◌/◌, ◌^◌, ◌<◌, ◌≤◌, inl, inr, refl, sym, ap, ap₂, ◌∙◌, subst, arith}
use Rattle.std.proofs.lemmas.Bool.{cases_lt}
use Rattle.std.proofs.lemmas.Nat.{pow_pos, shr_le, shr-shr, xor_comm, xor_shr, xor_lt}
use Rattle.std.proofs.Math.Pow.{pow_mono, shr_lt}
use Rattle.std.proofs.Math.Nat.{two-pow-succ, div-eq_of_lt, lt-div-mul-add, mul-div-le, div-lt_self}
use Rattle.std.specs.Int.Bits.{xor_assoc, xor_self, xor_zero_r}
use Rattle.std.specs.Prelude.{bit_xor}
use Rattle.gf_cantor.specs.Field.{Field, product}
use Rattle.gf_cantor.proofs.Facts.{IsCantor}
use Rattle.gf_cantor.proofs.Linear.{IsAdditive, xor_swap_middle, xor_twice, other_part, agree_from_powers}
use Rattle.gf_cantor.proofs.Product.{product-lt, product_comm, product_assoc, product_swap, xor-product, product-xor, product-zero, zero-product, one-product}

-- the power 2^(2^t)
unfoldable pub conjugate : Field → ℕ → ℕ → ℕ
conjugate f zero a = product f a a
conjugate f (suc t) a = conjugate f t (conjugate f t a)

-- a number below a power of 2 has nothing above it
above_zero : (k a : ℕ) → a < 2 ^ k → a / 2 ^ k ≡ 0
above_zero k a h = div-eq_of_lt h

-- and it is below where there is nothing above
below_from_zero : (k a : ℕ) → a / 2 ^ k ≡ 0 → a < 2 ^ k
below_from_zero k a e =
    let least : a < 0 * 2 ^ k + 2 ^ k = subst (λ q. a < q * 2 ^ k + 2 ^ k) e (lt-div-mul-add {a = a} {b = 2 ^ k} (pow_pos k)) in
    omega arith

module _ (f : Field) (levels : ℕ) (h : IsCantor f levels) where
  -- the square of a label, added to it, is additive
  square_sum : (a b : ℕ) → bit_xor (product f (bit_xor a b) (bit_xor a b)) (bit_xor a b) ≡ bit_xor (bit_xor (product f a a) a) (bit_xor (product f b b) b)
  square_sum a b =
      let l = h.are_labels in
      let mixed : ℕ = product f a b in
      let first : product f (bit_xor a b) a ≡ bit_xor (product f a a) mixed =
      xor-product f l a b a ∙ ap (bit_xor (product f a a)) (product_comm f l b a) in
      let second : product f (bit_xor a b) b ≡ bit_xor mixed (product f b b) = xor-product f l a b b in
      ap (λ x. bit_xor x (bit_xor a b))
      (product-xor f l (bit_xor a b) a b ∙ ap₂ bit_xor first second
      ∙ xor_assoc (product f a a) mixed (bit_xor mixed (product f b b)) ∙ ap (bit_xor (product f a a)) (xor_twice mixed (product f b b)))
      ∙ xor_swap_middle (product f a a) (product f b b) a b

  -- the basis is a Cantor basis: the square of a label, added to it, is the label at half
  pub square_halves : (a : ℕ) → a < 2 ^ suc f.top → bit_xor (product f a a) a ≡ a / 2
  square_halves a l =
      let halving : IsAdditive (λ x. x / 2) = (refl, λ x y. xor_shr x y 1) in
      let squaring : IsAdditive (λ x. bit_xor (product f x x) x) = (ap (λ y. bit_xor y 0) (zero-product f h.are_labels 0), square_sum) in
      agree_from_powers (λ x. bit_xor (product f x x) x) (λ x. x / 2) squaring halving (suc f.top) h.halves a l

  -- the square of a label
  pub square_is : (a : ℕ) → a < 2 ^ suc f.top → product f a a ≡ bit_xor a (a / 2)
  square_is a l = other_part a (product f a a) (a / 2) (xor_comm a (product f a a) ∙ square_halves a l)

  -- a shifted label is a label
  shifted-lt : (k a : ℕ) → a < 2 ^ suc f.top → a / 2 ^ k < 2 ^ suc f.top
  shifted-lt k a l = omega (arith, shr_le a k)

  -- the power 2^(2^t) adds the label shifted by 2^t bits
  pub conjugate_is : (t a : ℕ) → a < 2 ^ suc f.top → conjugate f t a ≡ bit_xor a (a / 2 ^ (2 ^ t))
  unfolding conjugate
  conjugate_is zero a l = square_is a l
  conjugate_is (suc t) a l =
      let k : ℕ = 2 ^ t in
      let s : ℕ = a / 2 ^ k in
      let sum : ℕ = bit_xor a s in
      let twice : 2 ^ suc t ≡ k + k = two-pow-succ t in
      let below : sum < 2 ^ suc f.top = xor_lt (suc f.top) a s l (shifted-lt k a l) in
      ap (conjugate f t) (conjugate_is t a l)
      ∙ conjugate_is t sum below
      ∙ ap (bit_xor sum) (xor_shr a s k ∙ ap (bit_xor s) (shr-shr a k k ∙ ap (λ m. a / 2 ^ m) (sym twice)))
      ∙ xor_assoc a s (bit_xor s (a / 2 ^ (2 ^ suc t)))
      ∙ ap (bit_xor a) (xor_twice s (a / 2 ^ (2 ^ suc t)))

  -- it is multiplicative
  pub conjugate-product : (t a b : ℕ) → conjugate f t (product f a b) ≡ product f (conjugate f t a) (conjugate f t b)
  unfolding conjugate
  conjugate-product zero a b =
      let l = h.are_labels in
      product_assoc f l a b (product f a b) ∙ ap (product f a) (product_swap f l b a b) ∙ sym (product_assoc f l a a (product f b b))
  conjugate-product (suc t) a b = ap (conjugate f t) (conjugate-product t a b) ∙ conjugate-product t (conjugate f t a) (conjugate f t b)

  -- it keeps the labels below 2^(2^t)
  kept : (t a : ℕ) → a < 2 ^ (2 ^ t) → a < 2 ^ suc f.top → conjugate f t a ≡ a
  kept t a low l = conjugate_is t a l ∙ ap (bit_xor a) (above_zero (2 ^ t) a low) ∙ xor_zero_r a

  -- a label that it keeps is one of them
  below_from_kept : (t a : ℕ) → a < 2 ^ suc f.top → conjugate f t a ≡ a → a < 2 ^ (2 ^ t)
  below_from_kept t a l e =
      below_from_zero (2 ^ t) a (other_part a (a / 2 ^ (2 ^ t)) a (sym (conjugate_is t a l) ∙ e) ∙ xor_self a)

  -- those have no other products
  pub closed : (t a b : ℕ) → 2 ^ t ≤ suc f.top → a < 2 ^ (2 ^ t) → b < 2 ^ (2 ^ t) → product f a b < 2 ^ (2 ^ t)
  closed t a b le ha hb =
      let most : 2 ^ (2 ^ t) ≤ 2 ^ suc f.top = pow_mono {i = 2 ^ t} {j = suc f.top} le in
      below_from_kept t (product f a b) (product-lt f h.are_labels a b)
      (conjugate-product t a b ∙ ap₂ (product f) (kept t a ha (omega arith)) (kept t b hb (omega arith)))

  -- an inverse below a bound
  pub record HasInverse (bound a : ℕ) : Type 0 where
    pub inverse : ℕ
    pub below : inverse < bound
    pub is_one : product f a inverse ≡ 1

  -- a label that has something above 2^t bits, by the inverse of that
  above_inverse : (t a : ℕ) → 2 ^ suc t ≤ suc f.top → a < 2 ^ (2 ^ suc t)
      → ((v : ℕ) → 0 < v → v < 2 ^ (2 ^ t) → HasInverse (2 ^ (2 ^ t)) v)
      → 0 < a / 2 ^ (2 ^ t) → HasInverse (2 ^ (2 ^ suc t)) a
  above_inverse t a le ha below pos =
      let l = h.are_labels in
      let k : ℕ = 2 ^ t in
      let v : ℕ = a / 2 ^ k in
      let twice : 2 ^ suc t ≡ k + k = two-pow-succ t in
      let most : 2 ^ (2 ^ suc t) ≤ 2 ^ suc f.top = pow_mono {i = 2 ^ suc t} {j = suc f.top} le in
      let wider : 2 ^ k ≤ 2 ^ (2 ^ suc t) = pow_mono {i = k} {j = 2 ^ suc t} (omega arith) in
      let bit : 1 ≤ k = pow_pos t in
      let even : 2 ^ 1 ≤ 2 ^ k = pow_mono {i = 1} {j = k} bit in
      let a_low : a < 2 ^ suc f.top = omega arith in
      let v_low : v < 2 ^ k = shr_lt k k (subst (λ m. a < 2 ^ m) twice ha) in
      let w = below v pos v_low in
      let w_low : w.inverse < 2 ^ k = w.below in
      let z : ℕ = product f a w.inverse in
      let z_low : z < 2 ^ suc f.top = product-lt f l a w.inverse in
      let z_within : z < 2 ^ (2 ^ suc t) = closed (suc t) a w.inverse le ha (omega arith) in
      let moved : conjugate f t z ≡ bit_xor z 1 =
      conjugate-product t a w.inverse
      ∙ ap₂ (product f) (conjugate_is t a a_low) (kept t w.inverse w_low (omega arith))
      ∙ xor-product f l a v w.inverse
      ∙ ap (bit_xor z) w.is_one in
      let one_above : z / 2 ^ k ≡ 1 =
      other_part z (z / 2 ^ k) (bit_xor z 1) (sym (conjugate_is t z z_low) ∙ moved) ∙ xor_twice z 1 in
      let least : 2 ^ k * 1 ≤ z = subst (λ q. 2 ^ k * q ≤ z) one_above (mul-div-le z (2 ^ k)) in
      let greatest : z < 1 * 2 ^ k + 2 ^ k = subst (λ q. z < q * 2 ^ k + 2 ^ k) one_above (lt-div-mul-add {a = z} {b = 2 ^ k} (pow_pos k)) in
      let u = below (z / 2) (omega arith) (omega arith) in
      let u_low : u.inverse < 2 ^ k = u.below in
      let beside : ℕ = bit_xor z 1 in
      let beside_within : beside < 2 ^ (2 ^ suc t) = xor_lt (2 ^ suc t) z 1 z_within (omega arith) in
      let half : product f z beside ≡ z / 2 =
      product-xor f l z z 1 ∙ ap (bit_xor (product f z z)) (product_comm f l z 1 ∙ one-product f l z z_low) ∙ square_halves z z_low in
      record {
        inverse = product f (product f w.inverse beside) u.inverse;
        below = closed (suc t) (product f w.inverse beside) u.inverse le (closed (suc t) w.inverse beside le (omega arith) beside_within) (omega arith);
        is_one =
            sym (product_assoc f l a (product f w.inverse beside) u.inverse)
            ∙ ap (λ x. product f x u.inverse) (sym (product_assoc f l a w.inverse beside) ∙ half)
            ∙ u.is_one;
      }

  -- each of them but 0 has an inverse among them
  pub inverses : (t a : ℕ) → 2 ^ t ≤ suc f.top → 0 < a → a < 2 ^ (2 ^ t) → HasInverse (2 ^ (2 ^ t)) a
  inverses zero a le pos ha =
      let two : 2 ≤ 2 ^ suc f.top = pow_mono {i = 1} {j = suc f.top} (omega arith) in
      let one : a ≡ 1 = omega arith in
      record {
        inverse = 1;
        below = omega arith;
        is_one = ap (λ x. product f x 1) one ∙ one-product f h.are_labels 1 (omega arith);
      }
  inverses (suc t) a le pos ha =
      let twice : 2 ^ suc t ≡ 2 ^ t + 2 ^ t = two-pow-succ t in
      let less : 2 ^ t ≤ suc f.top = omega arith in
      let wider : 2 ^ (2 ^ t) ≤ 2 ^ (2 ^ suc t) = pow_mono {i = 2 ^ t} {j = 2 ^ suc t} (omega arith) in
      elim (cases_lt 0 (a / 2 ^ (2 ^ t))) [
        | inl g ↦ above_inverse t a le ha (λ v p l. inverses t v less p l) g
        | inr z ↦
            let none : a / 2 ^ (2 ^ t) ≡ 0 = omega arith in
            let found = inverses t a less pos (below_from_zero (2 ^ t) a none) in
            let small = found.below in
            record { inverse = found.inverse; below = omega arith; is_one = found.is_one }
      ]

  -- a label but 0 has an inverse
  pub has_inverse : (a : ℕ) → 0 < a → a < 2 ^ suc f.top → HasInverse (2 ^ (2 ^ levels)) a
  has_inverse a pos l =
      let wide = h.wide in
      inverses levels a (omega arith) pos (subst (λ m. a < 2 ^ m) wide l)

  -- a factor that is not 0 may be left out of both sides
  pub product_cancels : (a b c : ℕ) → 0 < a → a < 2 ^ suc f.top → b < 2 ^ suc f.top → c < 2 ^ suc f.top → product f a b ≡ product f a c → b ≡ c
  product_cancels a b c pos ha hb hc e =
      let v = has_inverse a pos ha in
      back v b hb ∙ ap (product f v.inverse) e ∙ sym (back v c hc)
    where
      back : (v : HasInverse (2 ^ (2 ^ levels)) a) (x : ℕ) → x < 2 ^ suc f.top → x ≡ product f v.inverse (product f a x)
      back v x hx =
          let l = h.are_labels in
          sym (sym (product_assoc f l v.inverse a x)
          ∙ ap (λ y. product f y x) (product_comm f l v.inverse a ∙ v.is_one)
          ∙ one-product f l x hx)

  -- the product of a label and its conjugate has half as many bits
  pub norm-lt : (t a : ℕ) → 2 ^ suc t ≤ suc f.top → a < 2 ^ (2 ^ suc t) → product f a (conjugate f t a) < 2 ^ (2 ^ t)
  unfolding conjugate
  norm-lt t a le ha =
      let l = h.are_labels in
      let most : 2 ^ (2 ^ suc t) ≤ 2 ^ suc f.top = pow_mono {i = 2 ^ suc t} {j = suc f.top} le in
      let twice_kept : conjugate f t (conjugate f t a) ≡ a = kept (suc t) a ha (omega arith) in
      below_from_kept t (product f a (conjugate f t a)) (product-lt f l a (conjugate f t a))
      (conjugate-product t a (conjugate f t a)
      ∙ ap (product f (conjugate f t a)) twice_kept
      ∙ product_comm f l (conjugate f t a) a)

  -- and isn't 0
  pub norm_pos : (t a : ℕ) → 0 < a → a < 2 ^ suc f.top → 0 < product f a (bit_xor a (a / 2 ^ (2 ^ t)))
  norm_pos t a pos l =
      let k : ℕ = 2 ^ t in
      let s : ℕ = a / 2 ^ k in
      let c : ℕ = bit_xor a s in
      let bit : 1 ≤ k = pow_pos t in
      let even : 2 ^ 1 ≤ 2 ^ k = pow_mono {i = 1} {j = k} bit in
      let less : s < a = div-lt_self {n = a} {k = 2 ^ k} pos (omega arith) in
      let below : c < 2 ^ suc f.top = xor_lt (suc f.top) a s l (shifted-lt k a l) in
      elim (cases_lt 0 (product f a c)) [
        | inl g ↦ g
        | inr z ↦
            let none : product f a c ≡ product f a 0 = omega (arith, product-zero f h.are_labels a) in
            let c_zero : c ≡ 0 = product_cancels a c 0 pos l below (pow_pos (suc f.top)) none in
            let same : s ≡ bit_xor a 0 = other_part a s 0 c_zero in
            absurd (omega (arith, xor_zero_r a))
      ]
