-- The subspace polynomials shift labels, and the product over the bits of a number.
use Rattle.std.proofs.Common.{◌≡◌, ◌∙◌, ℕ, zero, suc, ◌+◌, ◌/◌, ◌%◌, ◌^◌, ◌<◌, ◌==◌, refl, sym, ap, ap₂, arith}
use Rattle.std.specs.Prelude.{bit_xor, if◌then◌else◌}
use Rattle.std.proofs.lemmas.Nat.{shr-shr}
use Rattle.gf_cantor.proofs.Laws.{size-above, product-lt, product_swap, one-product, square_halves}
use Rattle.lch_fft.specs.Transforms.{subspace, product_over}
use Rattle.gf_cantor.specs.Field.{Field, product, size}
use Rattle.gf_cantor.specs.Laws.{AreFieldLaws}

-- half of a shifted number is the number shifted by one place more
halved_again : (i x : ℕ) → x / 2 ^ i / 2 ≡ x / 2 ^ suc i
halved_again i x =
    let next : i + 1 ≡ suc i = omega arith in shr-shr x i 1 ∙ ap (λ (k : ℕ). x / 2 ^ k) next

module _ (F : Field) (L : AreFieldLaws F) where
  -- a shifted label is a label
  shifted-lt : (i x : ℕ) → x < size F → x / 2 ^ i < size F
  shifted-lt zero x h = omega arith
  shifted-lt (suc i) x h = omega (arith, halved_again i x, shifted-lt i x h)

  -- s_i shifts a label right by i places
  pub subspace_shifts : (i x : ℕ) → x < size F → subspace F i x ≡ x / 2 ^ i
  unfolding subspace
  subspace_shifts zero x h = omega arith
  subspace_shifts (suc i) x h =
      ap (λ (s : ℕ). bit_xor (product F s s) s) (subspace_shifts i x h)
      ∙ square_halves F L (x / 2 ^ i) (shifted-lt i x h)
      ∙ halved_again i x

  -- a product over bits is a label
  pub product_over-lt : (n i j x : ℕ) → product_over F n i j x < size F
  unfolding product_over
  product_over-lt zero i j x = size-above F L
  product_over-lt (suc n) i j x = product-lt F L (if j % 2 == 1 then subspace F i x else 1) (product_over F n (suc i) (j / 2) x)

  -- no bit is set in 0
  pub product_over-zero : (n i x : ℕ) → product_over F n i 0 x ≡ 1
  unfolding product_over
  product_over-zero zero i x = refl
  product_over-zero (suc n) i x = one-product F L (product_over F n (suc i) 0 x) (product_over-lt n (suc i) 0 x) ∙ product_over-zero n (suc i) x

  -- one bit more, above those of a number, is one factor more
  pub product_over-bit : (b n i j x : ℕ) → b < n → j < 2 ^ b → product_over F n i (2 ^ b + j) x ≡ product F (subspace F (i + b) x) (product_over F n i j x)
  unfolding product_over
  product_over-bit b zero i j x h l = absurd (omega arith)
  product_over-bit zero (suc n) i j x h l =
      let none : j ≡ 0 = omega arith in
      let place : i ≡ i + 0 = omega arith in
      let rest : product_over F n (suc i) 0 x ≡ product F 1 (product_over F n (suc i) 0 x) =
      sym (one-product F L (product_over F n (suc i) 0 x) (product_over-lt n (suc i) 0 x)) in
      ap (λ (k : ℕ). product_over F (suc n) i (1 + k) x) none
      ∙ ap (product F (subspace F i x)) rest
      ∙ ap (λ (k : ℕ). product F (subspace F k x) (product_over F (suc n) i 0 x)) place
      ∙ ap (λ (k : ℕ). product F (subspace F (i + 0) x) (product_over F (suc n) i k x)) (sym none)
  product_over-bit (suc b) (suc n) i j x h l =
      let half : (2 ^ suc b + j) / 2 ≡ 2 ^ b + j / 2 = omega arith in
      let low : (2 ^ suc b + j) % 2 ≡ j % 2 = omega arith in
      let place : suc i + b ≡ i + suc b = omega arith in
      let factor : ℕ = if j % 2 == 1 then subspace F i x else 1 in
      ap₂ (λ (r q : ℕ). product F (if r == 1 then subspace F i x else 1) (product_over F n (suc i) q x)) low half
      ∙ ap (product F factor) (product_over-bit b n (suc i) (j / 2) x (omega arith) (omega arith))
      ∙ product_swap F L factor (subspace F (suc i + b) x) (product_over F n (suc i) (j / 2) x)
      ∙ ap (λ (k : ℕ). product F (subspace F k x) (product_over F (suc n) i j x)) place
