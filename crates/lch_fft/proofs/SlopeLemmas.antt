-- The derivative by halves has the sums of the raised entries.
use Rattle.std.proofs.Common.{◌≡◌, ◌∙◌, ℕ, zero, suc, ◌+◌, ◌-◌, ◌/◌, ◌%◌, ◌^◌, ◌<◌, ◌≤◌, ◌==◌, Bool, true, false, cond, List, length, take, drop, get_or, refl, sym, ap, ap₂, arith, ⊎_elim, length-append}
use Rattle.std.specs.Prelude.{bit_xor}
use Rattle.std.specs.Int.Bits.{xor_zero_r}
use Rattle.std.proofs.lemmas.Bool.{cases_lt}
use Rattle.std.proofs.lemmas.List.{get_or-take, get_or-drop, get_or_append_left, get_or-append_right, get_or_past}
use Rattle.std.proofs.Math.Nat.{div-eq_of_lt}
use Rattle.std.proofs.Math.Pow.{pow_mono}
use Rattle.lch_fft.specs.Butterflies.{bytes_sum}
use Rattle.lch_fft.specs.Derivatives.{raised, slopes}
use Rattle.lch_fft.proofs.BitLemmas.{bit_fits, bit_same}
use Rattle.lch_fft.proofs.ByteLemmas.{length-bytes_sum, get_or-bytes_sum}
use Rattle.lch_fft.proofs.PlaceLemmas.{double, half_front, half_back, block}

-- a derivative has as many entries
pub length-slopes : (b : ℕ) (ds : List ℕ) → length ds ≡ 2 ^ b → length (slopes b ds) ≡ 2 ^ b
unfolding slopes
length-slopes zero ds h = refl
length-slopes (suc b) ds h =
    length-append (bytes_sum (slopes b (take (2 ^ b) ds)) (drop (2 ^ b) ds)) (slopes b (drop (2 ^ b) ds))
    ∙ ap₂ (λ (x y : ℕ). x + y)
    (length-bytes_sum (slopes b (take (2 ^ b) ds)) (drop (2 ^ b) ds) (2 ^ b) (length-slopes b (take (2 ^ b) ds) (half_front b ds h)) (half_back b ds h))
    (length-slopes b (drop (2 ^ b) ds) (half_back b ds h))
    ∙ sym (double b)

-- what a test picks is the same where it holds
picks_same : (t : Bool) (x y : ℕ) → (t ≡ true → x ≡ y) → cond t x 0 ≡ cond t y 0
picks_same true x y h = h refl
picks_same false x y h = refl

-- what a test picks of 0
picks_zero : (t : Bool) (x : ℕ) → x ≡ 0 → cond t x 0 ≡ 0
picks_zero true x h = h
picks_zero false x h = refl

-- the sums of the lower half's raised entries stay in that half
raised-front : (b i : ℕ) (ds : List ℕ) (m : ℕ) → b ≤ 10 → i ≤ b → m < 2 ^ b → raised i (take (2 ^ b) ds) m ≡ raised i ds m
unfolding raised
raised-front b zero ds m hb hi hm = refl
raised-front b (suc i) ds m hb hi hm =
    ap₂ bit_xor (raised-front b i ds m hb (omega arith) hm)
    (picks_same (m / 2 ^ i % 2 == 0) (get_or (take (2 ^ b) ds) (m + 2 ^ i) 0) (get_or ds (m + 2 ^ i) 0)
    (λ unset. get_or-take (2 ^ b) ds (m + 2 ^ i) 0 (bit_fits b i m hb (omega arith) hm unset)))

-- and those of the upper half's in that one
raised-back : (b i : ℕ) (ds : List ℕ) (m : ℕ) → b ≤ 10 → i ≤ b → m < 2 ^ b → raised i (drop (2 ^ b) ds) m ≡ raised i ds (2 ^ b + m)
unfolding raised
raised-back b zero ds m hb hi hm = refl
raised-back b (suc i) ds m hb hi hm =
    let place : 2 ^ b + (m + 2 ^ i) ≡ 2 ^ b + m + 2 ^ i = omega arith in
    ap₂ bit_xor (raised-back b i ds m hb (omega arith) hm)
    (ap₂ (λ (r x : ℕ). cond (r == 0) x 0) (sym (bit_same b i m hb (omega arith) hm))
    (get_or-drop (2 ^ b) ds (m + 2 ^ i) 0 ∙ ap (λ (k : ℕ). get_or ds k 0) place))

-- the upper half is the lower half's raised entry of its highest bit
raised-low : (b : ℕ) (ds : List ℕ) (m : ℕ) → m < 2 ^ b → raised (suc b) ds m ≡ bit_xor (raised b ds m) (get_or (drop (2 ^ b) ds) m 0)
unfolding raised
raised-low b ds m hm =
    let none : m / 2 ^ b ≡ 0 = div-eq_of_lt hm in
    let place : m + 2 ^ b ≡ 2 ^ b + m = omega arith in
    ap (bit_xor (raised b ds m))
    (ap₂ (λ (q x : ℕ). cond (q % 2 == 0) x 0) none
    (ap (λ (k : ℕ). get_or ds k 0) place ∙ sym (get_or-drop (2 ^ b) ds m 0)))

-- the upper half has none
raised-high : (b : ℕ) (ds : List ℕ) (m : ℕ) → m < 2 ^ b → raised (suc b) ds (2 ^ b + m) ≡ raised b ds (2 ^ b + m)
unfolding raised
raised-high b ds m hm =
    let one : (2 ^ b + m) / 2 ^ b ≡ 1 = block b 1 (2 ^ b) m (omega arith) hm in
    ap (λ (q : ℕ). bit_xor (raised b ds (2 ^ b + m)) (cond (q % 2 == 0) (get_or ds (2 ^ b + m + 2 ^ b) 0) 0)) one
    ∙ xor_zero_r (raised b ds (2 ^ b + m))

-- the derivative of one coefficient is 0
slopes_one : (ds : List ℕ) (m : ℕ) → m < 1 → get_or (slopes 0 ds) m 0 ≡ raised 0 ds m
unfolding slopes raised
slopes_one ds zero h = refl
slopes_one ds (suc m) h = absurd (omega arith)

-- entry m of the derivative by halves
pub slopes-at : (b : ℕ) (ds : List ℕ) (m : ℕ) → b ≤ 10 → length ds ≡ 2 ^ b → m < 2 ^ b → get_or (slopes b ds) m 0 ≡ raised b ds m
unfolding slopes
slopes-at zero ds m hb h hm = slopes_one ds m (omega arith)
slopes-at (suc b) ds m hb h hm =
    let front : List ℕ = take (2 ^ b) ds in
    let back : List ℕ = drop (2 ^ b) ds in
    let lf : length (slopes b front) ≡ 2 ^ b = length-slopes b front (half_front b ds h) in
    let lb : length (drop (2 ^ b) ds) ≡ 2 ^ b = half_back b ds h in
    let low : List ℕ = bytes_sum (slopes b front) back in
    let ll : length low ≡ 2 ^ b = length-bytes_sum (slopes b front) back (2 ^ b) lf lb in
    ⊎_elim
    (λ (below : m < 2 ^ b).
    get_or_append_left low (slopes b back) 0 m (omega arith)
    ∙ get_or-bytes_sum (slopes b front) back m (omega arith) (omega arith)
    ∙ ap (λ (x : ℕ). bit_xor x (get_or back m 0))
    (slopes-at b front m (omega arith) (half_front b ds h) below ∙ raised-front b b ds m (omega arith) (omega arith) below)
    ∙ sym (raised-low b ds m below))
    (λ (above : 2 ^ b ≤ m).
    let within : m - 2 ^ b < 2 ^ b = omega (arith, double b) in
    let place : 2 ^ b + (m - 2 ^ b) ≡ m = omega arith in
    get_or-append_right low (slopes b back) (2 ^ b) m 0 ll above
    ∙ slopes-at b back (m - 2 ^ b) (omega arith) lb within
    ∙ raised-back b b ds (m - 2 ^ b) (omega arith) (omega arith) within
    ∙ sym (raised-high b ds (m - 2 ^ b) within)
    ∙ ap (raised (suc b) ds) place)
    (cases_lt m (2 ^ b))

-- more bits raise past the end
pub raised-more : (b k : ℕ) (ds : List ℕ) (m : ℕ) → length ds ≤ 2 ^ b → raised (b + k) ds m ≡ raised b ds m
unfolding raised
raised-more b zero ds m h = let same : b + 0 ≡ b = omega arith in ap (λ (n : ℕ). raised n ds m) same
raised-more b (suc k) ds m h =
    let next : b + suc k ≡ suc (b + k) = omega arith in
    let grows : 2 ^ b ≤ 2 ^ (b + k) = pow_mono (omega arith) in
    ap (λ (n : ℕ). raised n ds m) next
    ∙ ap (bit_xor (raised (b + k) ds m)) (picks_zero (m / 2 ^ (b + k) % 2 == 0) (get_or ds (m + 2 ^ (b + k)) 0) (get_or_past ds (m + 2 ^ (b + k)) 0 (omega arith)))
    ∙ xor_zero_r (raised (b + k) ds m)
    ∙ raised-more b k ds m h
