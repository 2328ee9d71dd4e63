-- Sums and multiples of lists of labels, or of bytes.
use Rattle.std.proofs.Common.{◌≡◌, ◌∙◌, ℕ, zero, suc, ◌+◌, ◌<◌, List, [], ◌∷◌, length, take, drop, get_or, refl, sym, ap, ap₂, subst, arith}
use Rattle.std.specs.Prelude.{bit_xor}
use Rattle.std.specs.Int.Bits.{xor_assoc, xor_self, xor_zero_r}
use Rattle.std.proofs.lemmas.Nat.{xor_lt}
use Rattle.std.proofs.lemmas.List.{length-map, get_or-drop}
use Rattle.gf_cantor.specs.Field.{Field, product, bits, size}
use Rattle.gf_cantor.specs.Laws.{AreFieldLaws}
use Rattle.gf_cantor.proofs.Laws.{size-pos, product-lt}
use Rattle.lch_fft.specs.Butterflies.{bytes_sum, multiple}

-- a sum of lists is as long as they are
pub length-bytes_sum : (xs ys : List ℕ) (n : ℕ) → length xs ≡ n → length ys ≡ n → length (bytes_sum xs ys) ≡ n
unfolding bytes_sum
length-bytes_sum [] ys n h k = h
length-bytes_sum (x ∷ xs) [] n h k = k
length-bytes_sum (x ∷ xs) (y ∷ ys) n h k = ap suc (length-bytes_sum xs ys (length xs) refl (omega arith)) ∙ h

-- the number at a place of a sum
pub get_or-bytes_sum : (xs ys : List ℕ) (i : ℕ) → i < length xs → i < length ys → get_or (bytes_sum xs ys) i 0 ≡ bit_xor (get_or xs i 0) (get_or ys i 0)
unfolding bytes_sum
get_or-bytes_sum [] ys i hx hy = absurd (omega arith)
get_or-bytes_sum (x ∷ xs) [] i hx hy = absurd (omega arith)
get_or-bytes_sum (x ∷ xs) (y ∷ ys) zero hx hy = refl
get_or-bytes_sum (x ∷ xs) (y ∷ ys) (suc i) hx hy = get_or-bytes_sum xs ys i (omega arith) (omega arith)

-- a list that was added twice falls out
pub added_twice : (xs ys : List ℕ) (n : ℕ) → length xs ≡ n → length ys ≡ n → bytes_sum (bytes_sum xs ys) ys ≡ xs
unfolding bytes_sum
added_twice [] ys n h k = refl
added_twice (x ∷ xs) [] n h k = absurd (omega arith)
added_twice (x ∷ xs) (y ∷ ys) n h k =
    ap₂ (λ (z : ℕ) (zs : List ℕ). z ∷ zs)
    (xor_assoc x y y ∙ ap (bit_xor x) (xor_self y) ∙ xor_zero_r x)
    (added_twice xs ys (length xs) refl (omega arith))

-- also at the front
pub added_to_sum : (xs ys : List ℕ) (n : ℕ) → length xs ≡ n → length ys ≡ n → bytes_sum xs (bytes_sum xs ys) ≡ ys
unfolding bytes_sum
added_to_sum [] [] n h k = refl
added_to_sum [] (y ∷ ys) n h k = absurd (omega arith)
added_to_sum (x ∷ xs) [] n h k = absurd (omega arith)
added_to_sum (x ∷ xs) (y ∷ ys) n h k =
    ap₂ (λ (z : ℕ) (zs : List ℕ). z ∷ zs)
    (sym (xor_assoc x x y) ∙ ap (λ (z : ℕ). bit_xor z y) (xor_self x))
    (added_to_sum xs ys (length xs) refl (omega arith))

-- each number is a label
abbrev pub AllLabels : Field → List ℕ → Type 0
AllLabels f xs = (i : ℕ) → get_or xs i 0 < size f

module _ (F : Field) (L : AreFieldLaws F) where
  -- a multiple of a list is as long as it
  pub length-multiple : (c : ℕ) (xs : List ℕ) → length (multiple F c xs) ≡ length xs
  length-multiple c xs = length-map xs (product F c)

  -- a sum of lists of labels has labels
  pub AllLabels-bytes_sum : (xs ys : List ℕ) → AllLabels F xs → AllLabels F ys → AllLabels F (bytes_sum xs ys)
  unfolding bytes_sum
  AllLabels-bytes_sum [] ys hx hy i = size-pos F L
  AllLabels-bytes_sum (x ∷ xs) [] hx hy i = size-pos F L
  AllLabels-bytes_sum (x ∷ xs) (y ∷ ys) hx hy zero = xor_lt (bits F) x y (hx 0) (hy 0)
  AllLabels-bytes_sum (x ∷ xs) (y ∷ ys) hx hy (suc i) = AllLabels-bytes_sum xs ys (λ j. hx (suc j)) (λ j. hy (suc j)) i

  -- a multiple has labels
  pub AllLabels-multiple : (c : ℕ) (xs : List ℕ) → AllLabels F (multiple F c xs)
  AllLabels-multiple c [] i = size-pos F L
  AllLabels-multiple c (x ∷ xs) zero = product-lt F L c x
  AllLabels-multiple c (x ∷ xs) (suc i) = AllLabels-multiple c xs i

  -- the first labels are labels
  pub AllLabels-take : (n : ℕ) (xs : List ℕ) → AllLabels F xs → AllLabels F (take n xs)
  AllLabels-take zero xs h i = size-pos F L
  AllLabels-take (suc n) [] h i = size-pos F L
  AllLabels-take (suc n) (x ∷ xs) h zero = h 0
  AllLabels-take (suc n) (x ∷ xs) h (suc i) = AllLabels-take n xs (λ j. h (suc j)) i

  -- and those behind them
  pub AllLabels-drop : (n : ℕ) (xs : List ℕ) → AllLabels F xs → AllLabels F (drop n xs)
  AllLabels-drop n xs h i = subst (λ (x : ℕ). x < size F) (sym (get_or-drop n xs i 0)) (h (n + i))
