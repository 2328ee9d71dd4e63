-- There is a polynomial of n coefficients through n points.
use Rattle.std.proofs.Common.{◌≡◌, ◌≢◌, ℕ, suc, ◌<◌, List, [], ◌∷◌, length, refl, sym, ap, ◌∙◌, arith}
use Rattle.std.specs.Prelude.{bit_xor}
use Rattle.std.specs.Int.Bits.{xor_self, xor_zero_r}
use Rattle.std.proofs.lemmas.Nat.{xor_lt}
use Rattle.gf_cantor.proofs.Laws.{size-pos, size-above, product_comm, product_assoc, xor-product, product-zero, zero-product, one-product, has_inverse, zero_factor}
use Rattle.label_polynomial.specs.Polynomial.{value_at, AreCoefficients, Avoids, ArePoints, PassesThrough}
use Rattle.label_polynomial.proofs.Sums.{sum, scaled, value_at-sum, value_at-scaled, length-sum, length-scaled, AreCoefficients-sum, AreCoefficients-scaled, value_at-lt, xor_back, xor_zero-same}
use Rattle.label_polynomial.proofs.Roots.{AreRoots}
use Rattle.gf_cantor.specs.Field.{Field, product, bits, size}
use Rattle.gf_cantor.specs.Laws.{AreFieldLaws}

module _ (F : Field) (L : AreFieldLaws F) where
  -- the product of x - r over the points
  unfoldable pub vanishing : List ℕ → List ℕ
  vanishing [] = 1 ∷ []
  vanishing (r ∷ rs) = sum (0 ∷ vanishing rs) (scaled F L r (vanishing rs))

  -- a vanishing polynomial has a coefficient more than points
  pub length-vanishing : (rs : List ℕ) → length (vanishing rs) ≡ suc (length rs)
  unfolding vanishing
  length-vanishing [] = refl
  length-vanishing (r ∷ rs) =
      omega (arith, length-sum F L (0 ∷ vanishing rs) (scaled F L r (vanishing rs)), length-scaled F L r (vanishing rs), length-vanishing rs)

  -- a vanishing polynomial has labels as coefficients
  pub AreCoefficients-vanishing : (rs : List ℕ) → AreCoefficients F (vanishing rs)
  unfolding vanishing AreCoefficients
  AreCoefficients-vanishing [] = (size-above F L, tt)
  AreCoefficients-vanishing (r ∷ rs) =
      AreCoefficients-sum F L (0 ∷ vanishing rs) (scaled F L r (vanishing rs)) (size-pos F L, AreCoefficients-vanishing rs) (AreCoefficients-scaled F L r (vanishing rs))

  -- one point more is one factor more
  pub value_at-vanishing : (r : ℕ) (rs : List ℕ) (x : ℕ) → value_at F (vanishing (r ∷ rs)) x ≡ product F (bit_xor x r) (value_at F (vanishing rs) x)
  unfolding vanishing value_at
  value_at-vanishing r rs x =
      value_at-sum F L (0 ∷ vanishing rs) (scaled F L r (vanishing rs)) x
      ∙ ap (bit_xor (product F x (value_at F (vanishing rs) x))) (value_at-scaled F L r (vanishing rs) x)
      ∙ sym (xor-product F L x r (value_at F (vanishing rs) x))

  -- of no points it is 1
  pub value_at-vanishing_none : (x : ℕ) → value_at F (vanishing []) x ≡ 1
  unfolding vanishing value_at
  value_at-vanishing_none x = ap (bit_xor 1) (product-zero F L x)

  -- it is not 0 elsewhere
  pub vanishing_elsewhere : (rs : List ℕ) (x : ℕ) → x < size F → ArePoints F rs → Avoids x rs → value_at F (vanishing rs) x ≢ 0
  unfolding ArePoints Avoids
  vanishing_elsewhere [] x hx points away e = absurd (omega (arith, value_at-vanishing_none x))
  vanishing_elsewhere (r ∷ rs) x hx points away e =
      vanishing_elsewhere rs x hx points.2 away.1
      (zero_factor F L (bit_xor x r) (value_at F (vanishing rs) x)
      (let apart : bit_xor x r ≢ 0 = λ same. away.0 (xor_zero-same x r same) in omega arith)
      (xor_lt (bits F) x r hx points.0) (value_at-lt F L (vanishing rs) x (AreCoefficients-vanishing rs))
      (sym (value_at-vanishing r rs x) ∙ e))

  -- with one point more it still vanishes at the others
  vanishing_more : (r : ℕ) (rs xs : List ℕ) → AreRoots F L (vanishing rs) xs → AreRoots F L (vanishing (r ∷ rs)) xs
  unfolding AreRoots
  vanishing_more r rs [] h = tt
  vanishing_more r rs (x ∷ xs) h =
      (value_at-vanishing r rs x ∙ ap (product F (bit_xor x r)) h.0 ∙ product-zero F L (bit_xor x r), vanishing_more r rs xs h.1)

  -- a vanishing polynomial vanishes at its points
  pub vanishes : (rs : List ℕ) → AreRoots F L (vanishing rs) rs
  unfolding AreRoots
  vanishes [] = tt
  vanishes (r ∷ rs) = (
    value_at-vanishing r rs r ∙ ap (λ (v : ℕ). product F v (value_at F (vanishing rs) r)) (xor_self r) ∙ zero-product F L (value_at F (vanishing rs) r),
    vanishing_more r rs rs (vanishes rs),
  )

  -- adding a multiple of a polynomial that vanishes keeps the values
  pub takes_still : (cs ns : List ℕ) (c : ℕ) (xs ys : List ℕ) → AreRoots F L ns xs → PassesThrough F cs xs ys → PassesThrough F (sum cs (scaled F L c ns)) xs ys
  unfolding AreRoots PassesThrough
  takes_still cs ns c [] [] none takes = tt
  takes_still cs ns c [] (y ∷ ys) none takes = takes
  takes_still cs ns c (x ∷ xs) [] none takes = takes
  takes_still cs ns c (x ∷ xs) (y ∷ ys) none takes = (
    value_at-sum F L cs (scaled F L c ns) x
        ∙ ap (bit_xor (value_at F cs x)) (value_at-scaled F L c ns x ∙ ap (product F c) none.0 ∙ product-zero F L c)
        ∙ xor_zero_r (value_at F cs x) ∙ takes.0,
    takes_still cs ns c xs ys none.1 takes.1,
  )

  -- the multiple that mends the value at one more point
  mended : (y v d u : ℕ) → y < size F → v < size F → product F d u ≡ 1 → bit_xor v (product F (product F (bit_xor y v) u) d) ≡ y
  mended y v d u hy hv e =
      ap (bit_xor v)
      (product_assoc F L (bit_xor y v) u d ∙ ap (product F (bit_xor y v)) (product_comm F L u d ∙ e)
      ∙ product_comm F L (bit_xor y v) 1 ∙ one-product F L (bit_xor y v) (xor_lt (bits F) y v hy hv))
      ∙ xor_back v y

  -- through n labels at n points goes a polynomial of n coefficients
  pub through : (xs ys : List ℕ) → length xs ≡ length ys → ArePoints F xs → AreCoefficients F ys → (cs : List ℕ) × (length cs ≡ length xs) × AreCoefficients F cs × PassesThrough F cs xs ys
  unfolding ArePoints AreCoefficients PassesThrough
  through [] [] same points bytes = ([], refl, tt, tt)
  through [] (y ∷ ys) same points bytes = absurd (omega arith)
  through (x ∷ xs) [] same points bytes = absurd (omega arith)
  through (x ∷ xs) (y ∷ ys) same points bytes =
      let rest = through xs ys (omega arith) points.2 bytes.1 in
      let cs : List ℕ = rest.0 in
      let ns : List ℕ = vanishing xs in
      let d : ℕ = value_at F ns x in
      let apart : d ≢ 0 = vanishing_elsewhere xs x points.0 points.2 points.1 in
      let u = has_inverse F L d (omega arith) (value_at-lt F L ns x (AreCoefficients-vanishing xs)) in
      let c : ℕ = product F (bit_xor y (value_at F cs x)) u.0 in (
        sum cs (scaled F L c ns),
        omega (arith, length-sum F L cs (scaled F L c ns), length-scaled F L c ns, length-vanishing xs, rest.1),
        AreCoefficients-sum F L cs (scaled F L c ns) rest.2 (AreCoefficients-scaled F L c ns),
        (
          value_at-sum F L cs (scaled F L c ns) x ∙ ap (bit_xor (value_at F cs x)) (value_at-scaled F L c ns x)
              ∙ mended y (value_at F cs x) d u.0 bytes.0 (value_at-lt F L cs x rest.2) u.2,
          takes_still cs ns c xs ys (vanishes xs) rest.3,
        ),
      )
