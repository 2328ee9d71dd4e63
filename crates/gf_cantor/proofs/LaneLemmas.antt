-- What the operations on vectors of 32 bytes hold at each lane.
use Rattle.std.proofs.Common.{◌≡◌, ℕ, ◌+◌, ◌-◌, ◌*◌, ◌/◌, ◌%◌, ◌^◌, ◌<◌, ◌≤◌, List, ◌++◌, length, length-drop, take, drop, inl, inr, subst, get_or, map, replicate, zero-add, refl, sym, ap, ap₂, ◌∙◌, arith, w8, Fits, bit_and}
use Rattle.std.proofs.lemmas.Bool.{cases_lt}
use Rattle.std.proofs.lemmas.List.{append-nil, take_all, drop_all, get_or_append_left, get_or-take, get_or-drop, length-take-le}
use Rattle.std.proofs.lemmas.List.FromFn.{get_or-map-range_with_len}
use Rattle.std.proofs.lemmas.Nat.{and_mask}
use Rattle.std.proofs.lemmas.Simd.{Each1-get_or, Each1-from_get_or, length-zip2, get_or-zip2, get_or-replicate, get_or-chunk, length-chunk, put_chunk_is, swz_l, SwzOk, SwzOk-from_below, get_or-swz_l_below}
use Rattle.std.specs.Simd.Lanes.{zip2, Each1, chunk, put_chunk}
use Rattle.std.specs.List.{range_with_len}

-- v has 32 lanes, and lane k holds f k
pub record HasLanes (v : List ℕ) (f : ℕ → ℕ) : Type 0 where
  long : length v ≡ 32
  each : (k : ℕ) → k < 32 → get_or v k 0 ≡ f k

-- an operator on a vector and a splat
HasLanes-splat : (f : ℕ → ℕ → ℕ) (v : List ℕ) (x : ℕ) → length v ≡ 32 → HasLanes (zip2 f v (replicate 32 x)) (λ k. f (get_or v k 0) x)
HasLanes-splat f v x long = record {
  long = length-zip2 f v (replicate 32 x) long ∙ long;
  each = λ k l.
      get_or-zip2 f v (replicate 32 x) k 0 0 0 (omega arith) l
      ∙ ap (f (get_or v k 0)) (get_or-replicate 32 k x 0 l);
}

-- the low half of each lane
pub low_halves : (v : List ℕ) → length v ≡ 32 → HasLanes (zip2 bit_and v (replicate 32 15)) (λ k. get_or v k 0 % 16)
low_halves v long =
    let masked = HasLanes-splat bit_and v 15 long in
    record { long = masked.long; each = λ k l. masked.each k l ∙ and_mask (get_or v k 0) 4 }

-- the high half of each lane
pub high_halves : (v : List ℕ) → length v ≡ 32 → HasLanes (zip2 (λ a b. a / 2 ^ b) v (replicate 32 4)) (λ k. get_or v k 0 / 16)
high_halves v long = HasLanes-splat (λ a b. a / 2 ^ b) v 4 long

-- the high half of a byte is below 16
pub high_half-lt : (v : List ℕ) → length v ≡ 32 → Each1 (Fits w8) v → (k : ℕ) → k < 32 → get_or v k 0 / 16 < 16
high_half-lt v long fits k l = omega (arith, (Each1-get_or (Fits w8) v k 0 (omega arith) fits).fits)

module _ (js : List ℕ) (f : ℕ → ℕ) (h : HasLanes js f) (small : (k : ℕ) → k < 32 → f k < 16) where
  -- numbers below 16 may be looked up
  pub look_up_allowed : SwzOk w8 16 32 0 js
  look_up_allowed =
      let long = h.long in
      SwzOk-from_below w8 16 2 32 0 js refl (omega arith) (Each1-from_get_or (λ j. j < 16) js 0 (λ k l. omega (arith, h.each k (omega arith), small k (omega arith))))

  -- what a look-up gives, in a vector that holds entries twice
  pub looked_up : (twice : List ℕ) (entry : ℕ → ℕ) → ((k : ℕ) → k < 32 → get_or twice k 0 ≡ entry (k % 16))
      → (k : ℕ) → k < 32 → get_or (swz_l w8 16 twice 0 js) k 0 ≡ entry (f k)
  looked_up twice entry copies k l =
      let long = h.long in
      let e = h.each k l in
      let below = small k l in
      get_or-swz_l_below w8 16 twice 0 js k (omega arith) (omega arith)
      ∙ ap (λ j. get_or twice j 0) (omega arith)
      ∙ copies (16 * (k / 16) + f k) (omega arith)
      ∙ ap entry (omega arith)

-- 16 bytes from a on, twice over
pub doubled : (a : ℕ) (bytes : List ℕ) → a + 16 ≤ length bytes → (k : ℕ) → k < 32
    → get_or (map (λ j. get_or (chunk 0 16 (drop a bytes) ++ chunk 0 16 (drop a bytes)) (j % 16) 0) (range_with_len 0 32)) k 0 ≡ get_or bytes (a + k % 16) 0
doubled a bytes le k l =
    let part = drop a bytes in
    let half = chunk 0 16 part in
    let half_long : length half ≡ 16 = length-chunk 0 16 part (omega (arith, length-drop a bytes)) in
    get_or-map-range_with_len (λ j. get_or (half ++ half) (j % 16) 0) 0 32 k k 0 l (omega arith)
    ∙ get_or_append_left half half 0 (k % 16) (omega arith)
    ∙ get_or-chunk 0 16 part (k % 16) 0 (omega arith)
    ∙ ap (λ j. get_or part j 0) (zero-add (k % 16))
    ∙ get_or-drop a bytes (k % 16) 0

-- the lane of a load from the bytes from a on
pub loaded : (a n : ℕ) (xs : List ℕ) (k : ℕ) → a + n ≡ length xs → k < 32 → 32 ≤ n → get_or (chunk 0 32 (take n (drop a xs))) k 0 ≡ get_or xs (a + k) 0
loaded a n xs k e l le =
    let long : length (take n (drop a xs)) ≡ n = length-take-le n (drop a xs) (omega (arith, length-drop a xs)) in
    get_or-chunk 0 32 (take n (drop a xs)) k 0 l
    ∙ ap (λ j. get_or (take n (drop a xs)) j 0) (zero-add k)
    ∙ get_or-take n (drop a xs) k 0 (omega arith) ∙ get_or-drop a xs k 0

-- a store at the head of the bytes from a on is a store at a
pub stored : (a n : ℕ) (xs v : List ℕ) → a + n ≡ length xs → length v ≤ n
    → take a xs ++ (put_chunk 0 (take n (drop a xs)) v ++ drop n (drop a xs)) ≡ put_chunk a xs v
stored a n xs v e le =
    let rest : List ℕ = drop a xs in
    let long : length rest ≡ n = omega (arith, length-drop a xs) in
    ap (λ l. take a xs ++ l)
    (ap₂ (λ l m. put_chunk 0 l v ++ m) (take_all n rest (omega arith)) (drop_all n rest (omega arith))
    ∙ append-nil (put_chunk 0 rest v) ∙ put_chunk_is 0 rest v (omega arith))
    ∙ sym (put_chunk_is a xs v (omega arith))

-- what is known below a, and of the next n, is known below a + n
pub below_more_by : (P : ℕ → Type 0) (a n : ℕ) → ((k : ℕ) → k < a → P k) → ((k : ℕ) → k < n → P (a + k)) → (k : ℕ) → k < a + n → P k
below_more_by P a n before next k h =
    elim (cases_lt k a) [
      | inl l ↦ before k l
      | inr g ↦
          let back : a + (k - a) ≡ k = omega arith in
          subst P back (next (k - a) (omega arith))
    ]
