-- The transform by halves gives the values at the points of its block.
use Rattle.std.proofs.Common.{◌≡◌, ◌∙◌, ℕ, zero, suc, ◌+◌, ◌-◌, ◌*◌, ◌/◌, ◌^◌, ◌<◌, ◌≤◌, List, [], ◌∷◌, length, take, drop, get_or, sym, ap, ap₂, arith, ⊎_elim, length-append, take-append-drop}
use Rattle.std.specs.Prelude.{bit_xor}
use Rattle.std.proofs.lemmas.Bool.{cases_lt}
use Rattle.std.proofs.lemmas.List.{get_or_append_left, get_or-append_right}
use Rattle.lch_fft.proofs.ByteLemmas.{AllLabels}
use Rattle.lch_fft.specs.Transforms.{value}
use Rattle.lch_fft.specs.Butterflies.{bytes_sum, multiple, spread}
use Rattle.lch_fft.proofs.ByteLemmas.{length-bytes_sum, length-multiple, AllLabels-bytes_sum, AllLabels-multiple}
use Rattle.lch_fft.proofs.ByteLemmas.{AllLabels-take, AllLabels-drop}
use Rattle.lch_fft.proofs.SumLemmas.{stage_low, stage_high, value_one}
use Rattle.lch_fft.proofs.PlaceLemmas.{double, half_front, half_back, block, block_first, block_low, block_high, even_one}
use Rattle.gf_cantor.specs.Field.{Field, bits, size}
use Rattle.gf_cantor.specs.Laws.{AreFieldLaws}

module _ (F : Field) (L : AreFieldLaws F) where
  -- the coefficients of the lower half of the points
  abbrev pub lower : ℕ → List ℕ → ℕ → List ℕ
  lower b d s = bytes_sum (take (2 ^ b) d) (multiple F (s / 2 ^ b) (drop (2 ^ b) d))

  -- the coefficients of the upper half
  abbrev pub upper : ℕ → List ℕ → ℕ → List ℕ
  upper b d s = bytes_sum (lower b d s) (drop (2 ^ b) d)

  -- the lower half has half of the coefficients
  pub length-lower : (b : ℕ) (d : List ℕ) (s : ℕ) → length d ≡ 2 ^ suc b → length (lower b d s) ≡ 2 ^ b
  length-lower b d s h =
      length-bytes_sum (take (2 ^ b) d) (multiple F (s / 2 ^ b) (drop (2 ^ b) d)) (2 ^ b) (half_front b d h)
      (length-multiple F L (s / 2 ^ b) (drop (2 ^ b) d) ∙ half_back b d h)

  -- the upper half has as many
  pub length-upper : (b : ℕ) (d : List ℕ) (s : ℕ) → length d ≡ 2 ^ suc b → length (upper b d s) ≡ 2 ^ b
  length-upper b d s h = length-bytes_sum (lower b d s) (drop (2 ^ b) d) (2 ^ b) (length-lower b d s h) (half_back b d h)

  -- there are as many values as coefficients
  pub length-spread : (b : ℕ) (d : List ℕ) (s : ℕ) → length d ≡ 2 ^ b → length (spread F b d s) ≡ 2 ^ b
  unfolding spread
  length-spread zero d s h = h
  length-spread (suc b) d s h =
      length-append (spread F b (lower b d s) s) (spread F b (upper b d s) (s + 2 ^ b))
      ∙ ap₂ (λ (x y : ℕ). x + y)
      (length-spread b (lower b d s) s (length-lower b d s h))
      (length-spread b (upper b d s) (s + 2 ^ b) (length-upper b d s h))
      ∙ sym (double b)

  -- the lower half has labels as coefficients
  AreBytes-lower : (b : ℕ) (d : List ℕ) (s : ℕ) → AllLabels F d → AllLabels F (lower b d s)
  AreBytes-lower b d s k =
      AllLabels-bytes_sum F L (take (2 ^ b) d) (multiple F (s / 2 ^ b) (drop (2 ^ b) d))
      (AllLabels-take F L (2 ^ b) d k) (AllLabels-multiple F L (s / 2 ^ b) (drop (2 ^ b) d))

  -- the upper half has labels as coefficients
  AreBytes-upper : (b : ℕ) (d : List ℕ) (s : ℕ) → AllLabels F d → AllLabels F (upper b d s)
  AreBytes-upper b d s k = AllLabels-bytes_sum F L (lower b d s) (drop (2 ^ b) d) (AreBytes-lower b d s k) (AllLabels-drop F L (2 ^ b) d k)

  -- one coefficient is its value at the one point
  spread_one : (d : List ℕ) (s i : ℕ) → length d ≡ 1 → AllLabels F d → i < 1 → get_or d i 0 ≡ value F d (s + i)
  spread_one [] s i h k l = absurd (omega arith)
  spread_one (c ∷ []) s zero h k l = sym (value_one F L c (s + 0) (k 0))
  spread_one (c ∷ []) s (suc i) h k l = absurd (omega arith)
  spread_one (c ∷ e ∷ d) s i h k l = absurd (omega arith)

  -- the values of the lower half's coefficients are the values at the lower half of the block
  lower-value : (b : ℕ) (d : List ℕ) (s m i : ℕ) → b < bits F → length d ≡ 2 ^ suc b → s ≡ m * 2 ^ suc b → s + 2 ^ suc b ≤ size F → i < 2 ^ b
      → value F (lower b d s) (s + i) ≡ value F d (s + i)
  lower-value b d s m i hb h e f l =
      let even : s ≡ (m + m) * 2 ^ b = block_low b m s e in
      stage_low F L b (s / 2 ^ b) (take (2 ^ b) d) (drop (2 ^ b) d) (s + i) hb (omega (arith, double b)) (half_front b d h) (half_back b d h)
      (block b (m + m) s i even l ∙ sym (block_first b (m + m) s even))
      ∙ ap (λ (ds : List ℕ). value F ds (s + i)) (take-append-drop (2 ^ b) d)

  -- and those of the upper half's at the upper half
  upper-value : (b : ℕ) (d : List ℕ) (s m i : ℕ) → b < bits F → length d ≡ 2 ^ suc b → s ≡ m * 2 ^ suc b → s + 2 ^ suc b ≤ size F → i < 2 ^ b
      → value F (upper b d s) (s + 2 ^ b + i) ≡ value F d (s + 2 ^ b + i)
  upper-value b d s m i hb h e f l =
      let even : s ≡ (m + m) * 2 ^ b = block_low b m s e in
      stage_high F L b (s / 2 ^ b) (take (2 ^ b) d) (drop (2 ^ b) d) (s + 2 ^ b + i) hb (omega (arith, double b)) (half_front b d h) (half_back b d h)
      (block b (m + m + 1) (s + 2 ^ b) i (block_high b m s e) l ∙ even_one m ∙ ap (λ (c : ℕ). bit_xor c 1) (sym (block_first b (m + m) s even)))
      ∙ ap (λ (ds : List ℕ). value F ds (s + 2 ^ b + i)) (take-append-drop (2 ^ b) d)

  -- entry i of the transform is the value at the point shift + i
  pub spread-value : (b : ℕ) (d : List ℕ) (s m i : ℕ) → b ≤ bits F → length d ≡ 2 ^ b → AllLabels F d → s ≡ m * 2 ^ b → s + 2 ^ b ≤ size F → i < 2 ^ b
      → get_or (spread F b d s) i 0 ≡ value F d (s + i)
  unfolding spread
  spread-value zero d s m i hb h k e f l = spread_one d s i h k l
  spread-value (suc b) d s m i hb h k e f l =
      let low : List ℕ = spread F b (lower b d s) s in
      let high : List ℕ = spread F b (upper b d s) (s + 2 ^ b) in
      let low_len : length low ≡ 2 ^ b = length-spread b (lower b d s) s (length-lower b d s h) in
      ⊎_elim
      (λ (below : i < 2 ^ b).
      get_or_append_left low high 0 i (omega arith)
      ∙ spread-value b (lower b d s) s (m + m) i (omega arith) (length-lower b d s h) (AreBytes-lower b d s k) (block_low b m s e) (omega (arith, double b)) below
      ∙ lower-value b d s m i (omega arith) h e f below)
      (λ (above : 2 ^ b ≤ i).
      let j : ℕ = i - 2 ^ b in
      let within : i - 2 ^ b < 2 ^ b = omega (arith, double b) in
      let place : s + 2 ^ b + (i - 2 ^ b) ≡ s + i = omega arith in
      get_or-append_right low high (2 ^ b) i 0 low_len above
      ∙ spread-value b (upper b d s) (s + 2 ^ b) (m + m + 1) j (omega arith) (length-upper b d s h) (AreBytes-upper b d s k) (block_high b m s e) (omega (arith, double b)) within
      ∙ upper-value b d s m j (omega arith) h e f within
      ∙ ap (value F d) place)
      (cases_lt i (2 ^ b))
