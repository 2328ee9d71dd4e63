-- The derivative of shares from those of both halves.
use Rattle.std.proofs.Common.{◌≡◌, ◌∙◌, ℕ, suc, ◌+◌, ◌-◌, ◌/◌, ◌^◌, ◌<◌, ◌≤◌, List, [], ◌∷◌, ◌++◌, length, take, drop, get_or, set, sym, ap, ap₂, IsTrue, arith}
use Rattle.std.proofs.lemmas.Grind.{same_number_lists}
use Rattle.namespace_id.specs.declared.shares.Share.{Share}
use Rattle.lch_fft.specs.Transforms.{column, is_count}
use Rattle.lch_fft.specs.Butterflies.{bytes_sum, transform_halvings}
use Rattle.lch_fft.specs.Derivatives.{raised, slopes, IsDerived}
use Rattle.lch_fft.proofs.ColumnLemmas.{length-column, column-append, column-take, column-drop}
use Rattle.lch_fft.proofs.CountLemmas.{count-pos, count-half, not_one, halvings_half, halvings_one, halvings-most, halvings-lt, power_halvings}
use Rattle.lch_fft.proofs.SlopeLemmas.{length-slopes, slopes-at, raised-more}
use Rattle.lch_fft.specs.Readings.{LabelReading, AreReadingLaws}

-- the derivative of one coefficient
slopes-one : (n : ℕ) (d : List ℕ) → IsTrue (is_count n) → n / 2 ≡ 0 → 0 ∷ [] ≡ slopes (transform_halvings n) d
unfolding slopes
slopes-one n d h one = sym (ap (λ (k : ℕ). slopes k d) (halvings_one n h one))

module _ (R : LabelReading) (L : AreReadingLaws R) where
  -- and of one share
  one_share : (ss : List Share) (s : Share) (b : ℕ) → length ss ≡ 1 → R.label_at s.0 b ≡ 0 → column R b (set ss 0 s) ≡ 0 ∷ []
  unfolding column
  one_share [] s b e z = absurd (omega arith)
  one_share (t ∷ []) s b e z = ap (λ (x : ℕ). x ∷ []) z
  one_share (t ∷ u ∷ ss) s b e z = absurd (omega arith)

  -- the derivative of a list of one share, which is cleared
  pub slopes-cleared : (old : List Share) (s : Share) (b : ℕ) → IsTrue (is_count (length old)) → length old / 2 ≡ 0 → R.label_at s.0 b ≡ 0
      → column R b (set old 0 s) ≡ slopes (transform_halvings (length old)) (column R b old)
  slopes-cleared old s b count one z =
      one_share old s b (omega (arith, one, count-pos (length old) count)) z ∙ slopes-one (length old) (column R b old) count one

  -- what the derivatives of both halves make, with the high half added to the low one
  slopes-suc : (b n : ℕ) (d low high : List ℕ) → 2 ^ b ≡ n
      → low ≡ bytes_sum (slopes b (take n d)) (drop n d) → high ≡ slopes b (drop n d) → low ++ high ≡ slopes (suc b) d
  unfolding slopes
  slopes-suc b n d low high e el eh =
      ap₂ (λ (x y : List ℕ). x ++ y) el eh
      ∙ ap (λ (m : ℕ). bytes_sum (slopes b (take m d)) (drop m d) ++ slopes b (drop m d)) (sym e)

  -- the derivative of shares, from what the calls on both halves made
  pub slopes-halves : (old low high low2 low3 high2 : List Share) (b : ℕ)
      → IsTrue (is_count (length old)) → 0 < length old / 2
      → low ≡ take (length old / 2) old → high ≡ drop (length old / 2) old
      → length low ≡ length old / 2 → length high ≡ length old / 2
      → column R b low2 ≡ slopes (transform_halvings (length low)) (column R b low)
      → column R b low3 ≡ bytes_sum (column R b low2) (column R b high)
      → column R b high2 ≡ slopes (transform_halvings (length high)) (column R b high)
      → column R b (low3 ++ high2) ≡ slopes (transform_halvings (length old)) (column R b old)
  slopes-halves old low high low2 low3 high2 b count several el eh ll lh rl sl rh =
      let n : ℕ = length old / 2 in
      let d : ℕ = transform_halvings (length old / 2) in
      let half = count-half (length old) count (not_one (length old) several) in
      let cl : column R b low ≡ take n (column R b old) = ap (column R b) el ∙ column-take R L b n old in
      let ch : column R b high ≡ drop n (column R b old) = ap (column R b) eh ∙ column-drop R L b n old in
      let made : column R b low2 ≡ slopes d (take n (column R b old)) =
      rl ∙ ap₂ (λ (k : ℕ) (x : List ℕ). slopes (transform_halvings k) x) ll cl in
      column-append R L b low3 high2
      ∙ slopes-suc d n (column R b old) (column R b low3) (column R b high2) (power_halvings n half.0)
      (sl ∙ ap₂ bytes_sum made ch)
      (rh ∙ ap₂ (λ (k : ℕ) (x : List ℕ). slopes (transform_halvings k) x) lh ch)
      ∙ ap (λ (k : ℕ). slopes k (column R b old)) (sym (halvings_half (length old) count (not_one (length old) several)))

  -- the derivative by halves is the derivative
  pub derived : (old new : List Share) → IsTrue (is_count (length old)) → length new ≡ length old
      → ((b : ℕ) → b < R.columns → column R b new ≡ slopes (transform_halvings (length old)) (column R b old)) → IsDerived R old new
  derived old new h e made =
      let d : ℕ = transform_halvings (length old) in
      let power : 2 ^ transform_halvings (length old) ≡ length old = power_halvings (length old) h in
      let few : transform_halvings (length old) ≤ 10 = halvings-most (length old) in
      let less : transform_halvings (length old) < length old = halvings-lt (length old) h in
      let all : transform_halvings (length old) + (length old - transform_halvings (length old)) ≡ length old = omega arith in
      record {
        count = e;
        labels = λ b m hb hm.
            ap (λ (ys : List ℕ). get_or ys m 0) (made b hb)
            ∙ slopes-at d (column R b old) m few (length-column R L b old ∙ sym power) (omega arith)
            ∙ sym (raised-more d (length old - d) (column R b old) m (omega (arith, length-column R L b old)))
            ∙ ap (λ (k : ℕ). raised k (column R b old) m) (all ∙ sym e);
      }

  -- and the derivative is the derivative by halves
  pub is_slopes : (old new : List Share) (b : ℕ) → IsTrue (is_count (length old)) → IsDerived R old new → b < R.columns
      → column R b new ≡ slopes (transform_halvings (length old)) (column R b old)
  is_slopes old new b h given hb =
      let d : ℕ = transform_halvings (length old) in
      let power : 2 ^ transform_halvings (length old) ≡ length old = power_halvings (length old) h in
      let few : transform_halvings (length old) ≤ 10 = halvings-most (length old) in
      let less : transform_halvings (length old) < length old = halvings-lt (length old) h in
      let all : transform_halvings (length old) + (length old - transform_halvings (length old)) ≡ length old = omega arith in
      let as_many : length (column R b old) ≡ 2 ^ transform_halvings (length old) = length-column R L b old ∙ sym power in
      same_number_lists (column R b new) (slopes d (column R b old))
      (length-column R L b new ∙ given.count ∙ sym (length-slopes d (column R b old) as_many ∙ power))
      (λ m l.
      let within : m < length new = omega (arith, length-column R L b new) in
      given.labels b m hb within
      ∙ sym (slopes-at d (column R b old) m few as_many (omega (arith, given.count))
      ∙ sym (raised-more d (length old - d) (column R b old) m (omega (arith, length-column R L b old)))
      ∙ ap (λ (k : ℕ). raised k (column R b old) m) (all ∙ sym given.count)))
