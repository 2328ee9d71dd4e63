-- A polynomial of n coefficients that is 0 at n points is 0 everywhere.
use Rattle.std.proofs.Common.{◌≡◌, ◌≢◌, ℕ, ◌<◌, ◌≤◌, List, [], ◌∷◌, length, refl, sym, ap, ap₂, ◌∙◌, arith}
use Rattle.std.specs.Prelude.{bit_xor}
use Rattle.std.specs.Int.Bits.{xor_self, xor_zero_r}
use Rattle.std.proofs.lemmas.Nat.{xor_comm, xor_lt}
use Rattle.gf_cantor.proofs.Laws.{product_swap, product-xor, xor-product, product-zero, zero_factor}
use Rattle.label_polynomial.specs.Polynomial.{value_at, AreCoefficients, Avoids, ArePoints, PassesThrough}
use Rattle.label_polynomial.proofs.Sums.{sum, scaled, value_at-sum, value_at-scaled, length-sum, length-scaled, AreCoefficients-sum, AreCoefficients-scaled, value_at-lt, xor_cancel, xor_zero-same}
use Rattle.gf_cantor.specs.Field.{Field, product, bits, size}
use Rattle.gf_cantor.specs.Laws.{AreFieldLaws}

module _ (F : Field) (L : AreFieldLaws F) where
  -- the quotient by x - r
  unfoldable pub quotient : ℕ → List ℕ → List ℕ
  quotient r [] = []
  quotient r (c ∷ cs) = sum cs (scaled F L r (quotient r cs))

  -- a quotient by x - r has a coefficient less
  length-quotient : (r c : ℕ) (cs : List ℕ) → length (quotient r (c ∷ cs)) ≤ length cs
  unfolding quotient
  length-quotient r c [] = omega (arith, length-sum F L [] (scaled F L r []), length-scaled F L r [])
  length-quotient r c (d ∷ cs) =
      omega (arith, length-sum F L (d ∷ cs) (scaled F L r (quotient r (d ∷ cs))), length-scaled F L r (quotient r (d ∷ cs)), length-quotient r d cs)

  -- a quotient has labels as coefficients
  AreCoefficients-quotient : (r c : ℕ) (cs : List ℕ) → AreCoefficients F cs → AreCoefficients F (quotient r (c ∷ cs))
  unfolding quotient
  AreCoefficients-quotient r c cs h = AreCoefficients-sum F L cs (scaled F L r (quotient r cs)) h (AreCoefficients-scaled F L r (quotient r cs))

  -- (x + r) (p + r q) is x p + r s, where (x + r) q is p + s
  factor_step : (x r p s q : ℕ) → bit_xor p s ≡ product F (bit_xor x r) q → product F (bit_xor x r) (bit_xor p (product F r q)) ≡ bit_xor (product F x p) (product F r s)
  factor_step x r p s q e =
      let second : product F (bit_xor x r) (product F r q) ≡ bit_xor (product F r p) (product F r s) =
      product_swap F L (bit_xor x r) r q ∙ ap (product F r) (sym e) ∙ product-xor F L r p s in
      product-xor F L (bit_xor x r) p (product F r q)
      ∙ ap₂ bit_xor (xor-product F L x r p ∙ xor_comm (product F x p) (product F r p)) second
      ∙ xor_cancel (product F r p) (product F x p) (product F r s)

  -- a polynomial less its value at r is x - r times the quotient
  pub factor : (cs : List ℕ) (r x : ℕ) → bit_xor (value_at F cs x) (value_at F cs r) ≡ product F (bit_xor x r) (value_at F (quotient r cs) x)
  unfolding value_at quotient
  factor [] r x = sym (product-zero F L (bit_xor x r))
  factor (c ∷ cs) r x =
      xor_cancel c (product F x (value_at F cs x)) (product F r (value_at F cs r))
      ∙ sym (factor_step x r (value_at F cs x) (value_at F cs r) (value_at F (quotient r cs) x) (factor cs r x))
      ∙ ap (λ (v : ℕ). product F (bit_xor x r) (bit_xor (value_at F cs x) v)) (sym (value_at-scaled F L r (quotient r cs) x))
      ∙ ap (product F (bit_xor x r)) (sym (value_at-sum F L cs (scaled F L r (quotient r cs)) x))

  -- the value is 0 at each point
  unfoldable pub AreRoots : List ℕ → List ℕ → Type 0
  AreRoots cs [] = Unit {0}
  AreRoots cs (r ∷ rs) = (value_at F cs r ≡ 0) × AreRoots cs rs

  -- the value by the quotient at a root
  at_root : (cs : List ℕ) (r x : ℕ) → value_at F cs r ≡ 0 → value_at F cs x ≡ product F (bit_xor x r) (value_at F (quotient r cs) x)
  at_root cs r x e = sym (xor_zero_r (value_at F cs x)) ∙ ap (bit_xor (value_at F cs x)) (sym e) ∙ factor cs r x

  -- the other roots of a polynomial are roots of its quotient
  quotient_roots : (c : ℕ) (cs : List ℕ) (r : ℕ) (rs : List ℕ) → AreCoefficients F (c ∷ cs) → r < size F → value_at F (c ∷ cs) r ≡ 0 → Avoids r rs → ArePoints F rs → AreRoots (c ∷ cs) rs
      → AreRoots (quotient r (c ∷ cs)) rs
  unfolding AreRoots Avoids ArePoints AreCoefficients
  quotient_roots c cs r [] bytes hr e away points roots = tt
  quotient_roots c cs r (s ∷ rs) bytes hr e away points roots =
      let none : product F (bit_xor s r) (value_at F (quotient r (c ∷ cs)) s) ≡ 0 = sym (at_root (c ∷ cs) r s e) ∙ roots.0 in
      let apart : bit_xor s r ≢ 0 = λ same. away.0 (sym (xor_zero-same s r same)) in (
        zero_factor F L (bit_xor s r) (value_at F (quotient r (c ∷ cs)) s) (omega arith) (xor_lt (bits F) s r points.0 hr)
            (value_at-lt F L (quotient r (c ∷ cs)) s (AreCoefficients-quotient r c cs bytes.1)) none,
        quotient_roots c cs r rs bytes hr e away.1 points.2 roots.1,
      )

  -- a polynomial with as many roots as coefficients is 0 everywhere
  pub zero_everywhere : (cs rs : List ℕ) → length cs ≤ length rs → AreCoefficients F cs → ArePoints F rs → AreRoots cs rs → (x : ℕ) → value_at F cs x ≡ 0
  unfolding value_at AreRoots ArePoints AreCoefficients
  zero_everywhere [] rs few bytes points roots x = refl
  zero_everywhere (c ∷ cs) [] few bytes points roots x = absurd (omega arith)
  zero_everywhere (c ∷ cs) (r ∷ rs) few bytes points roots x =
      at_root (c ∷ cs) r x roots.0
      ∙ ap (product F (bit_xor x r))
      (zero_everywhere (quotient r (c ∷ cs)) rs (omega (arith, length-quotient r c cs)) (AreCoefficients-quotient r c cs bytes.1) points.2
      (quotient_roots c cs r rs bytes points.0 roots.0 points.1 points.2 roots.1) x)
      ∙ product-zero F L (bit_xor x r)

  -- the sum of polynomials that take the same values has roots there
  sum_roots : (ps qs xs ys : List ℕ) → PassesThrough F ps xs ys → PassesThrough F qs xs ys → AreRoots (sum ps qs) xs
  unfolding PassesThrough AreRoots
  sum_roots ps qs [] [] hp hq = tt
  sum_roots ps qs [] (y ∷ ys) hp hq = tt
  sum_roots ps qs (x ∷ xs) [] hp hq = elim hp [ ]
  sum_roots ps qs (x ∷ xs) (y ∷ ys) hp hq =
      (value_at-sum F L ps qs x ∙ ap₂ bit_xor hp.0 hq.0 ∙ xor_self y, sum_roots ps qs xs ys hp.1 hq.1)

  -- two polynomials of at most n coefficients that take the same values at n points are alike everywhere
  pub one_polynomial : (ps qs xs ys : List ℕ) → length ps ≤ length xs → length qs ≤ length xs → AreCoefficients F ps → AreCoefficients F qs → ArePoints F xs
      → PassesThrough F ps xs ys → PassesThrough F qs xs ys → (x : ℕ) → value_at F ps x ≡ value_at F qs x
  one_polynomial ps qs xs ys hp hq bp bq points tp tq x =
      xor_zero-same (value_at F ps x) (value_at F qs x)
      (sym (value_at-sum F L ps qs x)
      ∙ zero_everywhere (sum ps qs) xs (omega (arith, length-sum F L ps qs)) (AreCoefficients-sum F L ps qs bp bq) points (sum_roots ps qs xs ys tp tq) x)
