-- The inverse transform by halves undoes the transform, and the transform undoes it.
use Rattle.std.proofs.Common.{◌≡◌, ◌∙◌, ℕ, zero, suc, ◌+◌, ◌/◌, ◌^◌, List, ◌++◌, length, take, drop, refl, sym, ap, ap₂, length-append, take-append-drop}
use Rattle.namespace_id.proofs.StringLemmas.{front, behind}
use Rattle.lch_fft.specs.Butterflies.{bytes_sum, multiple, spread, gather}
use Rattle.lch_fft.proofs.ByteLemmas.{length-bytes_sum, length-multiple, added_twice, added_to_sum}
use Rattle.lch_fft.proofs.PlaceLemmas.{double, half_front, half_back}
use Rattle.lch_fft.proofs.SpreadLemmas.{lower, upper, length-lower, length-upper, length-spread}
use Rattle.gf_cantor.specs.Field.{Field}
use Rattle.gf_cantor.specs.Laws.{AreFieldLaws}

module _ (F : Field) (L : AreFieldLaws F) where
  -- there are as many coefficients as values
  pub length-gather : (b : ℕ) (v : List ℕ) (s : ℕ) → length v ≡ 2 ^ b → length (gather F b v s) ≡ 2 ^ b
  unfolding gather
  length-gather zero v s h = h
  length-gather (suc b) v s h =
      let n : ℕ = 2 ^ b in
      let lo : List ℕ = gather F b (take n v) s in
      let llo : length lo ≡ n = length-gather b (take n v) s (half_front b v h) in
      let hi : List ℕ = bytes_sum lo (gather F b (drop n v) (s + n)) in
      let lhi : length hi ≡ n = length-bytes_sum lo (gather F b (drop n v) (s + n)) n llo (length-gather b (drop n v) (s + n) (half_back b v h)) in
      length-append (bytes_sum lo (multiple F (s / n) hi)) hi
      ∙ ap₂ (λ (x y : ℕ). x + y) (length-bytes_sum lo (multiple F (s / n) hi) n llo (length-multiple F L (s / n) hi ∙ lhi)) lhi
      ∙ sym (double b)

  -- the transform undoes the inverse
  pub spread-gather : (b : ℕ) (v : List ℕ) (s : ℕ) → length v ≡ 2 ^ b → spread F b (gather F b v s) s ≡ v
  unfolding spread gather
  spread-gather zero v s h = refl
  spread-gather (suc b) v s h =
      let n : ℕ = 2 ^ b in
      let c : ℕ = s / 2 ^ b in
      let lo : List ℕ = gather F b (take n v) s in
      let up : List ℕ = gather F b (drop n v) (s + n) in
      let llo : length lo ≡ n = length-gather b (take n v) s (half_front b v h) in
      let lup : length up ≡ n = length-gather b (drop n v) (s + n) (half_back b v h) in
      let hi : List ℕ = bytes_sum lo up in
      let lhi : length hi ≡ n = length-bytes_sum lo up n llo lup in
      let low : List ℕ = bytes_sum lo (multiple F c hi) in
      let llow : length low ≡ n = length-bytes_sum lo (multiple F c hi) n llo (length-multiple F L c hi ∙ lhi) in
      let one : bytes_sum low (multiple F c hi) ≡ lo = added_twice lo (multiple F c hi) n llo (length-multiple F L c hi ∙ lhi) in
      ap₂ (λ (t u : List ℕ). spread F b (bytes_sum t (multiple F c u)) s ++ spread F b (bytes_sum (bytes_sum t (multiple F c u)) u) (s + n))
      (front low hi n llow) (behind low hi n llow)
      ∙ ap (λ (t : List ℕ). spread F b t s ++ spread F b (bytes_sum t hi) (s + n)) one
      ∙ ap (λ (t : List ℕ). spread F b lo s ++ spread F b t (s + n)) (added_to_sum lo up n llo lup)
      ∙ ap₂ (λ (t u : List ℕ). t ++ u) (spread-gather b (take n v) s (half_front b v h)) (spread-gather b (drop n v) (s + n) (half_back b v h))
      ∙ take-append-drop n v

  -- the inverse undoes the transform
  pub gather-spread : (b : ℕ) (d : List ℕ) (s : ℕ) → length d ≡ 2 ^ b → gather F b (spread F b d s) s ≡ d
  unfolding spread gather
  gather-spread zero d s h = refl
  gather-spread (suc b) d s h =
      let n : ℕ = 2 ^ b in
      let c : ℕ = s / 2 ^ b in
      let t : List ℕ = take n d in
      let u : List ℕ = drop n d in
      let lt : length (take (2 ^ b) d) ≡ 2 ^ b = half_front b d h in
      let lu : length (drop (2 ^ b) d) ≡ 2 ^ b = half_back b d h in
      let lo : List ℕ = lower F L b d s in
      let llo : length lo ≡ n = length-lower F L b d s h in
      let up : List ℕ = upper F L b d s in
      let lup : length up ≡ n = length-upper F L b d s h in
      let f : List ℕ = spread F b lo s in
      let g : List ℕ = spread F b up (s + n) in
      let lf : length f ≡ n = length-spread F L b lo s llo in
      let a : gather F b (take n (f ++ g)) s ≡ lo = ap (λ (z : List ℕ). gather F b z s) (front f g n lf) ∙ gather-spread b lo s llo in
      let e : gather F b (drop n (f ++ g)) (s + n) ≡ up = ap (λ (z : List ℕ). gather F b z (s + n)) (behind f g n lf) ∙ gather-spread b up (s + n) lup in
      ap₂ (λ (x y : List ℕ). bytes_sum x (multiple F c (bytes_sum x y)) ++ bytes_sum x y) a e
      ∙ ap (λ (z : List ℕ). bytes_sum lo (multiple F c z) ++ z) (added_to_sum lo u n llo lu)
      ∙ ap (λ (z : List ℕ). z ++ u) (added_twice t (multiple F c u) n lt (length-multiple F L c u ∙ lu))
      ∙ take-append-drop n d
