-- The lanes of vectors of eight words.
use Rattle.std.proofs.Common.{◌≡◌, ℕ, zero, suc, ◌<◌, ◌+◌, ◌*◌, List, [], length, take, drop, replicate, slice_index, slice_index_or, slice_set, refl, ap, ◌∙◌, arith, inl, inr, ◌^◌, w32, Fits}
use Rattle.std.specs.Simd.Lanes.{Each1, zip2}
use Rattle.std.proofs.Math.ListN.{get_or-map}
use Rattle.std.proofs.lemmas.List.{map-set, length-map, get_or-take, get_or-drop, get_or-set_same, get_or-set_other}
use Rattle.std.proofs.lemmas.Bool.{cases_lt}
use Rattle.std.proofs.lemmas.Simd.{Each1-get_or, get_or-zip2, get_or-replicate}
use Rattle.sha2.specs.Sha256.{word_at}
use Rattle.multi_sha256.specs.Lanes.{lane, lane_at, lane_words}

-- a lane is a word
pub lane_fits : (x : List ℕ) (j : ℕ) → (length x ≡ 8) × Each1 (Fits w32) x → j < 8 → slice_index x j < 2 ^ 32
lane_fits x j fits h = (Each1-get_or (Fits w32) x j 0 (omega (arith, fits.0)) fits.1).fits

-- a lane of an operation with a splat
pub splat_at : (f : ℕ → ℕ → ℕ) (x : List ℕ) (n j : ℕ) → length x ≡ 8 → j < 8 → slice_index (zip2 f x (replicate 8 n)) j ≡ f (slice_index x j) n
splat_at f x n j len h =
    get_or-zip2 f x (replicate 8 n) j 0 0 0 (omega arith) h ∙ ap (f (slice_index x j)) (get_or-replicate 8 j n 0 h)

-- a word of a message
pub words_at : (x : List (List ℕ)) (j k : ℕ) → slice_index (lane_words j x) k ≡ slice_index (slice_index_or x k []) j
words_at x j k = get_or-map (λ (v : List ℕ). slice_index v j) x k []

-- a ring into which a word of each message was written
pub words_set : (x : List (List ℕ)) (v : List ℕ) (j i : ℕ) → lane_words j (slice_set x i v) ≡ slice_set (lane_words j x) i (slice_index v j)
words_set x v j i = map-set (λ (w : List ℕ). slice_index w j) x i v

-- a word of the states
pub state_at : (x : List (List ℕ)) (j k : ℕ) → k < 8 → slice_index (lane j x) k ≡ lane_at x k j
state_at x j zero h = refl
state_at x j (suc zero) h = refl
state_at x j (suc (suc zero)) h = refl
state_at x j (suc (suc (suc zero))) h = refl
state_at x j (suc (suc (suc (suc zero)))) h = refl
state_at x j (suc (suc (suc (suc (suc zero))))) h = refl
state_at x j (suc (suc (suc (suc (suc (suc zero)))))) h = refl
state_at x j (suc (suc (suc (suc (suc (suc (suc zero))))))) h = refl
state_at x j (suc (suc (suc (suc (suc (suc (suc (suc k)))))))) h = absurd (omega arith)

-- a byte of a block
byte_of_block : (b : List ℕ) (p i k : ℕ) → i < 64 → p + i ≡ k → slice_index (take 64 (drop p b)) i ≡ slice_index b k
byte_of_block b p i k h e = get_or-take 64 (drop p b) i 0 h ∙ get_or-drop p b i 0 ∙ ap (slice_index b) e

-- a word of a block
pub word_of_block : (b : List ℕ) (p t : ℕ) → t < 16 → word_at (take 64 (drop p b)) (4 * t) ≡ word_at b (p + 4 * t)
word_of_block b p t h =
    rw (
      byte_of_block b p (4 * t) (p + 4 * t) (omega arith) refl,
      byte_of_block b p (4 * t + 1) (p + 4 * t + 1) (omega arith) (omega arith),
      byte_of_block b p (4 * t + 2) (p + 4 * t + 2) (omega arith) (omega arith),
      byte_of_block b p (4 * t + 3) (p + 4 * t + 3) (omega arith) (omega arith),
    ) refl

-- the words of messages that begin with those of a block
pub load_more : (w : List (List ℕ)) (v b : List ℕ) (j i : ℕ) → length w ≡ 16 → i < 16 → slice_index v j ≡ word_at b (4 * i)
    → ((k : ℕ) → k < i → slice_index (lane_words j w) k ≡ word_at b (4 * k))
    → (k : ℕ) → k < i + 1 → slice_index (lane_words j (slice_set w i v)) k ≡ word_at b (4 * k)
load_more w v b j i len fits new before k h =
    let long : i < length (lane_words j w) = omega (arith, length-map w (λ (x : List ℕ). slice_index x j)) in
    rw (words_set w v j i)
    (elim (cases_lt k i) [
      | inl a ↦ get_or-set_other (lane_words j w) i k (slice_index v j) 0 (omega arith) ∙ before k a
      | inr c ↦
          let e : i ≡ k = omega arith in
          rw (← e) (get_or-set_same (lane_words j w) i (slice_index v j) 0 long ∙ new)
    ])

-- what holds of each of eight messages
pub below_eight : (P : ℕ → Type 0) → P 0 → P 1 → P 2 → P 3 → P 4 → P 5 → P 6 → P 7 → (j : ℕ) → j < 8 → P j
below_eight P p0 p1 p2 p3 p4 p5 p6 p7 zero h = p0
below_eight P p0 p1 p2 p3 p4 p5 p6 p7 (suc zero) h = p1
below_eight P p0 p1 p2 p3 p4 p5 p6 p7 (suc (suc zero)) h = p2
below_eight P p0 p1 p2 p3 p4 p5 p6 p7 (suc (suc (suc zero))) h = p3
below_eight P p0 p1 p2 p3 p4 p5 p6 p7 (suc (suc (suc (suc zero)))) h = p4
below_eight P p0 p1 p2 p3 p4 p5 p6 p7 (suc (suc (suc (suc (suc zero))))) h = p5
below_eight P p0 p1 p2 p3 p4 p5 p6 p7 (suc (suc (suc (suc (suc (suc zero)))))) h = p6
below_eight P p0 p1 p2 p3 p4 p5 p6 p7 (suc (suc (suc (suc (suc (suc (suc zero))))))) h = p7
below_eight P p0 p1 p2 p3 p4 p5 p6 p7 (suc (suc (suc (suc (suc (suc (suc (suc j)))))))) h = absurd (omega arith)
