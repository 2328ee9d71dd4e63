-- Sums and multiples of polynomials.
use Rattle.std.proofs.Common.{◌≡◌, ℕ, suc, ◌<◌, max, List, [], ◌∷◌, length, refl, sym, ap, ◌∙◌, arith}
use Rattle.std.specs.Prelude.{bit_xor}
use Rattle.std.specs.Int.Bits.{xor_assoc, xor_self, xor_zero_r}
use Rattle.std.proofs.lemmas.Nat.{xor_comm, xor_lt}
use Rattle.gf_cantor.proofs.Linear.{xor_swap_middle}
use Rattle.gf_cantor.proofs.Laws.{size-pos, product-lt, product_swap, product-xor, product-zero}
use Rattle.label_polynomial.specs.Polynomial.{value_at, AreCoefficients}
use Rattle.gf_cantor.specs.Field.{Field, product, bits, size}
use Rattle.gf_cantor.specs.Laws.{AreFieldLaws}

-- a pair that is there twice falls out
pub xor_cancel : (a b c : ℕ) → bit_xor (bit_xor a b) (bit_xor a c) ≡ bit_xor b c
xor_cancel a b c = xor_swap_middle a b a c ∙ ap (λ (x : ℕ). bit_xor x (bit_xor b c)) (xor_self a)

-- a number that is added twice is gone
pub xor_back : (a b : ℕ) → bit_xor a (bit_xor b a) ≡ b
xor_back a b = ap (bit_xor a) (xor_comm b a) ∙ sym (xor_assoc a a b) ∙ ap (λ (x : ℕ). bit_xor x b) (xor_self a)

-- a xor of two numbers is 0 only where they are one
pub xor_zero-same : (a b : ℕ) → bit_xor a b ≡ 0 → a ≡ b
xor_zero-same a b e = sym (xor_back b a) ∙ ap (bit_xor b) e ∙ xor_zero_r b

-- the sum of two polynomials, coefficient by coefficient
unfoldable pub sum : List ℕ → List ℕ → List ℕ
sum [] qs = qs
sum (p ∷ ps) [] = p ∷ ps
sum (p ∷ ps) (q ∷ qs) = bit_xor p q ∷ sum ps qs

module _ (F : Field) (L : AreFieldLaws F) where
  -- a multiple of a polynomial, coefficient by coefficient
  unfoldable pub scaled : ℕ → List ℕ → List ℕ
  scaled c [] = []
  scaled c (p ∷ ps) = product F c p ∷ scaled c ps

  -- the value of a sum is the sum of the values
  pub value_at-sum : (ps qs : List ℕ) (x : ℕ) → value_at F (sum ps qs) x ≡ bit_xor (value_at F ps x) (value_at F qs x)
  unfolding sum value_at
  value_at-sum [] qs x = refl
  value_at-sum (p ∷ ps) [] x = sym (xor_zero_r (value_at F (p ∷ ps) x))
  value_at-sum (p ∷ ps) (q ∷ qs) x =
      ap (λ (v : ℕ). bit_xor (bit_xor p q) (product F x v)) (value_at-sum ps qs x)
      ∙ ap (bit_xor (bit_xor p q)) (product-xor F L x (value_at F ps x) (value_at F qs x))
      ∙ xor_swap_middle p q (product F x (value_at F ps x)) (product F x (value_at F qs x))

  -- the value of a multiple is the multiple of the value
  pub value_at-scaled : (c : ℕ) (ps : List ℕ) (x : ℕ) → value_at F (scaled c ps) x ≡ product F c (value_at F ps x)
  unfolding scaled value_at
  value_at-scaled c [] x = sym (product-zero F L c)
  value_at-scaled c (p ∷ ps) x =
      ap (λ (v : ℕ). bit_xor (product F c p) (product F x v)) (value_at-scaled c ps x)
      ∙ ap (bit_xor (product F c p)) (product_swap F L x c (value_at F ps x))
      ∙ sym (product-xor F L c p (product F x (value_at F ps x)))

  -- a multiple has as many coefficients
  pub length-scaled : (c : ℕ) (ps : List ℕ) → length (scaled c ps) ≡ length ps
  unfolding scaled
  length-scaled c [] = refl
  length-scaled c (p ∷ ps) = ap suc (length-scaled c ps)

  -- a sum has as many coefficients as the longer one
  pub length-sum : (ps qs : List ℕ) → length (sum ps qs) ≡ max (length ps) (length qs)
  unfolding sum
  length-sum [] qs = omega arith
  length-sum (p ∷ ps) [] = omega arith
  length-sum (p ∷ ps) (q ∷ qs) = omega (arith, length-sum ps qs)

  -- a sum has labels as coefficients
  pub AreCoefficients-sum : (ps qs : List ℕ) → AreCoefficients F ps → AreCoefficients F qs → AreCoefficients F (sum ps qs)
  unfolding sum AreCoefficients
  AreCoefficients-sum [] qs hp hq = hq
  AreCoefficients-sum (p ∷ ps) [] hp hq = hp
  AreCoefficients-sum (p ∷ ps) (q ∷ qs) hp hq = (xor_lt (bits F) p q hp.0 hq.0, AreCoefficients-sum ps qs hp.1 hq.1)

  -- a multiple has labels as coefficients
  pub AreCoefficients-scaled : (c : ℕ) (ps : List ℕ) → AreCoefficients F (scaled c ps)
  unfolding scaled AreCoefficients
  AreCoefficients-scaled c [] = tt
  AreCoefficients-scaled c (p ∷ ps) = (product-lt F L c p, AreCoefficients-scaled c ps)

  -- the value of a polynomial is a label
  pub value_at-lt : (ps : List ℕ) (x : ℕ) → AreCoefficients F ps → value_at F ps x < size F
  unfolding value_at AreCoefficients
  value_at-lt [] x h = size-pos F L
  value_at-lt (p ∷ ps) x h = xor_lt (bits F) p (product F x (value_at F ps x)) h.0 (product-lt F L x (value_at F ps x))
