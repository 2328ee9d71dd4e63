-- A transform of shares from the transforms of both halves.
use Rattle.std.proofs.Common.{◌≡◌, ◌∙◌, ℕ, suc, ◌+◌, ◌/◌, ◌^◌, ◌<◌, List, ◌++◌, length, take, drop, sym, ap, ap₂, IsTrue}
use Rattle.namespace_id.specs.declared.shares.Share.{Share}
use Rattle.lch_fft.specs.Transforms.{column, is_count}
use Rattle.lch_fft.specs.Butterflies.{bytes_sum, multiple, spread, gather, transform_halvings}
use Rattle.lch_fft.proofs.ColumnLemmas.{column-append, column-take, column-drop}
use Rattle.lch_fft.proofs.CountLemmas.{count-half, not_one, halvings_half, halvings_one, power_halvings}
use Rattle.lch_fft.specs.Readings.{LabelReading, AreReadingLaws}

module _ (R : LabelReading) (L : AreReadingLaws R) where
  -- the transform of one coefficient
  pub spread-one : (n : ℕ) (d : List ℕ) (s : ℕ) → IsTrue (is_count n) → n / 2 ≡ 0 → d ≡ spread R.field (transform_halvings n) d s
  unfolding spread
  spread-one n d s h one = sym (ap (λ (k : ℕ). spread R.field k d s) (halvings_one n h one))

  -- the inverse of one value
  pub gather-one : (n : ℕ) (d : List ℕ) (s : ℕ) → IsTrue (is_count n) → n / 2 ≡ 0 → d ≡ gather R.field (transform_halvings n) d s
  unfolding gather
  gather-one n d s h one = sym (ap (λ (k : ℕ). gather R.field k d s) (halvings_one n h one))

  -- what a stage of butterflies and the transforms of the halves make
  spread-suc : (b n : ℕ) (d low high : List ℕ) (s : ℕ) → 2 ^ b ≡ n
      → low ≡ bytes_sum (take n d) (multiple R.field (s / n) (drop n d)) → high ≡ bytes_sum low (drop n d)
      → spread R.field b low s ++ spread R.field b high (s + n) ≡ spread R.field (suc b) d s
  unfolding spread
  spread-suc b n d low high s e el eh =
      let stage : ℕ → List ℕ = λ m. bytes_sum (take m d) (multiple R.field (s / m) (drop m d)) in
      ap₂ (λ (x y : List ℕ). spread R.field b x s ++ spread R.field b y (s + n)) el (eh ∙ ap (λ (x : List ℕ). bytes_sum x (drop n d)) el)
      ∙ ap (λ (m : ℕ). spread R.field b (bytes_sum (take m d) (multiple R.field (s / m) (drop m d))) s
      ++ spread R.field b (bytes_sum (bytes_sum (take m d) (multiple R.field (s / m) (drop m d))) (drop m d)) (s + m)) (sym e)

  -- the transform of shares, from what the calls on both halves made
  pub spread-halves : (old low high low2 high2 low3 high3 : List Share) (s b : ℕ)
      → IsTrue (is_count (length old)) → 0 < length old / 2
      → low ≡ take (length old / 2) old → high ≡ drop (length old / 2) old
      → length low2 ≡ length old / 2 → length high2 ≡ length old / 2
      → column R b low2 ≡ bytes_sum (column R b low) (multiple R.field (s / (length old / 2)) (column R b high))
      → column R b high2 ≡ bytes_sum (column R b low2) (column R b high)
      → column R b low3 ≡ spread R.field (transform_halvings (length low2)) (column R b low2) s
      → column R b high3 ≡ spread R.field (transform_halvings (length high2)) (column R b high2) (s + length old / 2)
      → column R b (low3 ++ high3) ≡ spread R.field (transform_halvings (length old)) (column R b old) s
  spread-halves old low high low2 high2 low3 high3 s b count several el eh ll lh sl sh rl rh =
      let n : ℕ = length old / 2 in
      let d : ℕ = transform_halvings (length old / 2) in
      let half = count-half (length old) count (not_one (length old) several) in
      let cl : column R b low ≡ take n (column R b old) = ap (column R b) el ∙ column-take R L b n old in
      let ch : column R b high ≡ drop n (column R b old) = ap (column R b) eh ∙ column-drop R L b n old in
      column-append R L b low3 high3
      ∙ ap₂ (λ (x y : List ℕ). x ++ y)
      (rl ∙ ap (λ (k : ℕ). spread R.field (transform_halvings k) (column R b low2) s) ll)
      (rh ∙ ap (λ (k : ℕ). spread R.field (transform_halvings k) (column R b high2) (s + n)) lh)
      ∙ spread-suc d n (column R b old) (column R b low2) (column R b high2) s (power_halvings n half.0)
      (sl ∙ ap₂ (λ (x y : List ℕ). bytes_sum x (multiple R.field (s / n) y)) cl ch)
      (sh ∙ ap (λ (x : List ℕ). bytes_sum (column R b low2) x) ch)
      ∙ ap (λ (k : ℕ). spread R.field k (column R b old) s) (sym (halvings_half (length old) count (not_one (length old) several)))

  -- what the inverses of the halves and a stage undone make
  gather-suc : (b n : ℕ) (v low high : List ℕ) (s : ℕ) → 2 ^ b ≡ n
      → high ≡ bytes_sum (gather R.field b (take n v) s) (gather R.field b (drop n v) (s + n))
      → low ≡ bytes_sum (gather R.field b (take n v) s) (multiple R.field (s / n) high)
      → low ++ high ≡ gather R.field (suc b) v s
  unfolding gather
  gather-suc b n v low high s e eh el =
      ap₂ (λ (x y : List ℕ). x ++ y) (el ∙ ap (λ (x : List ℕ). bytes_sum (gather R.field b (take n v) s) (multiple R.field (s / n) x)) eh) eh
      ∙ ap (λ (m : ℕ). bytes_sum (gather R.field b (take m v) s) (multiple R.field (s / m) (bytes_sum (gather R.field b (take m v) s) (gather R.field b (drop m v) (s + m))))
      ++ bytes_sum (gather R.field b (take m v) s) (gather R.field b (drop m v) (s + m))) (sym e)

  -- the inverse of shares, from what the calls on both halves made
  pub gather-halves : (old low high low2 high2 low3 high3 : List Share) (s b : ℕ)
      → IsTrue (is_count (length old)) → 0 < length old / 2
      → low ≡ take (length old / 2) old → high ≡ drop (length old / 2) old
      → length low ≡ length old / 2 → length high ≡ length old / 2
      → column R b low2 ≡ gather R.field (transform_halvings (length low)) (column R b low) s
      → column R b high2 ≡ gather R.field (transform_halvings (length high)) (column R b high) (s + length old / 2)
      → column R b high3 ≡ bytes_sum (column R b low2) (column R b high2)
      → column R b low3 ≡ bytes_sum (column R b low2) (multiple R.field (s / (length old / 2)) (column R b high3))
      → column R b (low3 ++ high3) ≡ gather R.field (transform_halvings (length old)) (column R b old) s
  gather-halves old low high low2 high2 low3 high3 s b count several el eh ll lh rl rh sh sl =
      let n : ℕ = length old / 2 in
      let d : ℕ = transform_halvings (length old / 2) in
      let half = count-half (length old) count (not_one (length old) several) in
      let cl : column R b low2 ≡ gather R.field d (take n (column R b old)) s =
      rl ∙ ap₂ (λ (k : ℕ) (x : List ℕ). gather R.field (transform_halvings k) x s) ll (ap (column R b) el ∙ column-take R L b n old) in
      let ch : column R b high2 ≡ gather R.field d (drop n (column R b old)) (s + n) =
      rh ∙ ap₂ (λ (k : ℕ) (x : List ℕ). gather R.field (transform_halvings k) x (s + n)) lh (ap (column R b) eh ∙ column-drop R L b n old) in
      column-append R L b low3 high3
      ∙ gather-suc d n (column R b old) (column R b low3) (column R b high3) s (power_halvings n half.0)
      (sh ∙ ap₂ bytes_sum cl ch)
      (sl ∙ ap (λ (x : List ℕ). bytes_sum x (multiple R.field (s / n) (column R b high3))) cl)
      ∙ ap (λ (k : ℕ). gather R.field k (column R b old) s) (sym (halvings_half (length old) count (not_one (length old) several)))
