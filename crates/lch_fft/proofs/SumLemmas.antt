-- The sum of d_j * X_j: it is linear in the coefficients, and splits into halves.
use Rattle.std.proofs.Common.{◌≡◌, ◌∙◌, ℕ, suc, ◌+◌, ◌/◌, ◌^◌, ◌<◌, ◌≤◌, List, [], ◌∷◌, ◌++◌, length, refl, sym, ap, ap₂, arith}
use Rattle.std.specs.Prelude.{bit_xor}
use Rattle.std.specs.Int.Bits.{xor_assoc, xor_zero_r}
use Rattle.std.proofs.lemmas.Nat.{xor_lt}
use Rattle.gf_cantor.proofs.Linear.{xor_swap_middle}
use Rattle.gf_cantor.proofs.Laws.{size-pos, product-lt, product_comm, product_assoc, product_swap, xor-product, product-xor, product-zero, one-product}
use Rattle.lch_fft.specs.Transforms.{subspace, novel, sum_from, value}
use Rattle.lch_fft.specs.Butterflies.{bytes_sum, multiple}
use Rattle.lch_fft.proofs.ByteLemmas.{length-bytes_sum, length-multiple}
use Rattle.lch_fft.proofs.SubspaceLemmas.{subspace_shifts, product_over-zero, product_over-bit}
use Rattle.gf_cantor.specs.Field.{Field, product, bits, size}
use Rattle.gf_cantor.specs.Laws.{AreFieldLaws}

module _ (F : Field) (L : AreFieldLaws F) where
  -- a sum is a label, whatever the coefficients are
  pub sum_from-lt : (j : ℕ) (ds : List ℕ) (x : ℕ) → sum_from F j ds x < size F
  unfolding sum_from
  sum_from-lt j [] x = size-pos F L
  sum_from-lt j (d ∷ ds) x = xor_lt (bits F) (product F d (novel F j x)) (sum_from F (suc j) ds x) (product-lt F L d (novel F j x)) (sum_from-lt (suc j) ds x)

  -- the sum of two lists of coefficients has the sum of their values
  pub sum_from-sum : (j : ℕ) (ps qs : List ℕ) (x : ℕ) → length ps ≡ length qs
      → sum_from F j (bytes_sum ps qs) x ≡ bit_xor (sum_from F j ps x) (sum_from F j qs x)
  unfolding sum_from bytes_sum
  sum_from-sum j [] [] x e = refl
  sum_from-sum j [] (q ∷ qs) x e = absurd (omega arith)
  sum_from-sum j (p ∷ ps) [] x e = absurd (omega arith)
  sum_from-sum j (p ∷ ps) (q ∷ qs) x e =
      ap₂ bit_xor (xor-product F L p q (novel F j x)) (sum_from-sum (suc j) ps qs x (omega arith))
      ∙ xor_swap_middle (product F p (novel F j x)) (product F q (novel F j x)) (sum_from F (suc j) ps x) (sum_from F (suc j) qs x)

  -- the multiple of a list of coefficients has the multiple of its value
  pub sum_from-multiple : (j c : ℕ) (ps : List ℕ) (x : ℕ) → sum_from F j (multiple F c ps) x ≡ product F c (sum_from F j ps x)
  unfolding sum_from
  sum_from-multiple j c [] x = sym (product-zero F L c)
  sum_from-multiple j c (p ∷ ps) x =
      ap₂ bit_xor (product_assoc F L c p (novel F j x)) (sum_from-multiple (suc j) c ps x)
      ∙ sym (product-xor F L c (product F p (novel F j x)) (sum_from F (suc j) ps x))

  -- the coefficients behind others begin at a later X_j
  pub sum_from-append : (j : ℕ) (ps qs : List ℕ) (x : ℕ)
      → sum_from F j (ps ++ qs) x ≡ bit_xor (sum_from F j ps x) (sum_from F (j + length ps) qs x)
  unfolding sum_from
  sum_from-append j [] qs x =
      let same : j ≡ j + 0 = omega arith in ap (λ (k : ℕ). sum_from F k qs x) same
  sum_from-append j (p ∷ ps) qs x =
      let next : suc j + length ps ≡ j + suc (length ps) = omega arith in
      ap (bit_xor (product F p (novel F j x))) (sum_from-append (suc j) ps qs x)
      ∙ sym (xor_assoc (product F p (novel F j x)) (sum_from F (suc j) ps x) (sum_from F (suc j + length ps) qs x))
      ∙ ap (λ (k : ℕ). bit_xor (bit_xor (product F p (novel F j x)) (sum_from F (suc j) ps x)) (sum_from F k qs x)) next

  -- the sum from 2^b on is s_b times the sum from the beginning
  pub sum_from-later : (b j : ℕ) (ds : List ℕ) (x : ℕ) → b < bits F → j + length ds ≤ 2 ^ b
      → sum_from F (2 ^ b + j) ds x ≡ product F (subspace F b x) (sum_from F j ds x)
  unfolding sum_from
  sum_from-later b j [] x h l = sym (product-zero F L (subspace F b x))
  sum_from-later b j (d ∷ ds) x h l =
      let next : suc (2 ^ b + j) ≡ 2 ^ b + suc j = omega arith in
      let place : 0 + b ≡ b = omega arith in
      let here : product F d (novel F (2 ^ b + j) x) ≡ product F (subspace F b x) (product F d (novel F j x)) =
      ap (product F d) (product_over-bit F L b (bits F) 0 j x h (omega arith) ∙ ap (λ (k : ℕ). product F (subspace F k x) (novel F j x)) place)
      ∙ product_swap F L d (subspace F b x) (novel F j x) in
      ap₂ bit_xor here (ap (λ (k : ℕ). sum_from F k ds x) next ∙ sum_from-later b (suc j) ds x h (omega arith))
      ∙ sym (product-xor F L (subspace F b x) (product F d (novel F j x)) (sum_from F (suc j) ds x))

  -- the value by halves: that of the front, and x shifted by b places times that of the back
  pub value_halves : (b : ℕ) (front back : List ℕ) (x : ℕ) → b < bits F → x < size F → length front ≡ 2 ^ b → length back ≡ 2 ^ b
      → value F (front ++ back) x ≡ bit_xor (value F front x) (product F (x / 2 ^ b) (value F back x))
  value_halves b front back x hb hx hf hk =
      let later : 0 + length front ≡ 2 ^ b + 0 = omega arith in
      sum_from-append 0 front back x
      ∙ ap (bit_xor (value F front x))
      (ap (λ (k : ℕ). sum_from F k back x) later
      ∙ sum_from-later b 0 back x hb (omega arith)
      ∙ ap (λ (s : ℕ). product F s (value F back x)) (subspace_shifts F L b x hx))

  -- one coefficient is the value
  pub value_one : (d x : ℕ) → d < size F → value F (d ∷ []) x ≡ d
  unfolding sum_from
  value_one d x h =
      xor_zero_r (product F d (novel F 0 x)) ∙ ap (product F d) (product_over-zero F L (bits F) 0 x) ∙ product_comm F L d 1 ∙ one-product F L d h

  -- a stage of butterflies, at the lower half of a block of points
  pub stage_low : (b c : ℕ) (front back : List ℕ) (x : ℕ) → b < bits F → x < size F → length front ≡ 2 ^ b → length back ≡ 2 ^ b → x / 2 ^ b ≡ c
      → value F (bytes_sum front (multiple F c back)) x ≡ value F (front ++ back) x
  stage_low b c front back x hb hx hf hk e =
      sum_from-sum 0 front (multiple F c back) x (omega (arith, length-multiple F L c back))
      ∙ ap (bit_xor (value F front x)) (sum_from-multiple 0 c back x ∙ ap (λ (k : ℕ). product F k (value F back x)) (sym e))
      ∙ sym (value_halves b front back x hb hx hf hk)

  -- and at the upper half
  pub stage_high : (b c : ℕ) (front back : List ℕ) (x : ℕ) → b < bits F → x < size F → length front ≡ 2 ^ b → length back ≡ 2 ^ b → x / 2 ^ b ≡ bit_xor c 1
      → value F (bytes_sum (bytes_sum front (multiple F c back)) back) x ≡ value F (front ++ back) x
  stage_high b c front back x hb hx hf hk e =
      let v : ℕ = value F back x in
      sum_from-sum 0 (bytes_sum front (multiple F c back)) back x
      (length-bytes_sum front (multiple F c back) (2 ^ b) hf (length-multiple F L c back ∙ hk) ∙ sym hk)
      ∙ ap (λ (m : ℕ). bit_xor m v)
      (sum_from-sum 0 front (multiple F c back) x (hf ∙ sym (length-multiple F L c back ∙ hk)) ∙ ap (bit_xor (value F front x)) (sum_from-multiple 0 c back x))
      ∙ xor_assoc (value F front x) (product F c v) v
      ∙ ap (bit_xor (value F front x))
      (ap (bit_xor (product F c v)) (sym (one-product F L v (sum_from-lt 0 back x))) ∙ sym (xor-product F L c 1 v) ∙ ap (λ (k : ℕ). product F k v) (sym e))
      ∙ sym (value_halves b front back x hb hx hf hk)
