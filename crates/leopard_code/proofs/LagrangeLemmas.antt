-- A polynomial's value is the sum of its values at the points with Lagrange's weights.
use Rattle.std.proofs.Common.{◌≡◌, ◌≢◌, ℕ, ◌+◌, ◌<◌, ◌≤◌, List, [], ◌∷◌, ◌++◌, length, refl, sym, ap, ap₂, subst, ◌∙◌, arith, append_assoc, length-append}
use Rattle.std.specs.Prelude.{bit_xor}
use Rattle.std.proofs.lemmas.Nat.{xor_comm}
use Rattle.gf_cantor.proofs.Laws.{product-lt, product_comm, product_assoc, product-zero, one-product, has_inverse}
use Rattle.label_polynomial.specs.Polynomial.{value_at, AreCoefficients, Avoids, ArePoints, PassesThrough}
use Rattle.label_polynomial.proofs.Sums.{sum, scaled, value_at-sum, value_at-scaled, length-sum, length-scaled, AreCoefficients-sum, AreCoefficients-scaled, value_at-lt}
use Rattle.label_polynomial.proofs.Through.{vanishing, length-vanishing, AreCoefficients-vanishing, value_at-vanishing, value_at-vanishing_none, vanishing_elsewhere, vanishes, takes_still}
use Rattle.label_polynomial.proofs.Roots.{one_polynomial, AreRoots}
use Rattle.leopard_code.specs.Codewords.{weighted}
use Rattle.leopard_code.proofs.DifferenceLemmas.{away}
use Rattle.gf_cantor.specs.Field.{Field, product, size}
use Rattle.gf_cantor.specs.Laws.{AreFieldLaws}

module _ (F : Field) (L : AreFieldLaws F) where
  -- Lagrange's weights of points at x, where the points of `before` stand before them: a weight times
  -- the differences of its own point and all others gives the differences of x and all others
  unfoldable pub AreWeights : List ℕ → List ℕ → ℕ → List ℕ → Type 0
  AreWeights before [] x [] = Unit {0}
  AreWeights before [] x (w ∷ ws) = ⊥
  AreWeights before (p ∷ ps) x [] = ⊥
  AreWeights before (p ∷ ps) x (w ∷ ws) =
      (product F w (away F L (before ++ ps) p) ≡ away F L (before ++ ps) x)
      × AreWeights (before ++ p ∷ []) ps x ws

  -- the product of the differences is the value of the vanishing polynomial
  pub away-is : (rs : List ℕ) (x : ℕ) → value_at F (vanishing F L rs) x ≡ away F L rs x
  unfolding away
  away-is [] x = value_at-vanishing_none F L x
  away-is (r ∷ rs) x = value_at-vanishing F L r rs x ∙ ap (product F (bit_xor x r)) (away-is rs x)

  -- a point that is not among some is none of them, nor in the middle
  avoids_middle : (x p : ℕ) (before ps : List ℕ) → Avoids x (before ++ p ∷ ps) → (x ≢ p) × Avoids x (before ++ ps)
  unfolding Avoids
  avoids_middle x p [] ps h = h
  avoids_middle x p (b ∷ before) ps h =
      let rest = avoids_middle x p before ps h.1 in (rest.0, (h.0, rest.1))

  -- a point in the middle, and the others
  pub points_middle : (before : List ℕ) (p : ℕ) (ps : List ℕ) → ArePoints F (before ++ p ∷ ps) → (p < size F) × Avoids p (before ++ ps) × ArePoints F (before ++ ps)
  unfolding ArePoints Avoids
  points_middle [] p ps h = h
  points_middle (b ∷ before) p ps h =
      let rest = points_middle before p ps h.2 in
      let apart = avoids_middle b p before ps h.1 in
      (rest.0, ((λ e. apart.0 (sym e)), rest.1), (h.0, apart.1, rest.2))

  -- a polynomial that vanishes at two lists of points vanishes at each
  vanishes-append : (cs xs ys : List ℕ) → AreRoots F L cs (xs ++ ys) → AreRoots F L cs xs × AreRoots F L cs ys
  unfolding AreRoots
  vanishes-append cs [] ys h = (tt, h)
  vanishes-append cs (x ∷ xs) ys h = let rest = vanishes-append cs xs ys h.1 in ((h.0, rest.0), rest.1)

  -- a sum with a multiple vanishes where both polynomials do
  vanishes_still : (cs ns : List ℕ) (c : ℕ) (xs : List ℕ) → AreRoots F L cs xs → AreRoots F L ns xs → AreRoots F L (sum cs (scaled F L c ns)) xs
  unfolding AreRoots
  vanishes_still cs ns c [] h g = tt
  vanishes_still cs ns c (x ∷ xs) h g = (
    value_at-sum F L cs (scaled F L c ns) x ∙ ap₂ bit_xor h.0 (value_at-scaled F L c ns x ∙ ap (product F c) g.0 ∙ product-zero F L c),
    vanishes_still cs ns c xs h.1 g.1,
  )

  -- the zero polynomial vanishes everywhere
  zero_vanishes : (xs : List ℕ) → AreRoots F L [] xs
  unfolding AreRoots value_at
  zero_vanishes [] = tt
  zero_vanishes (x ∷ xs) = (refl, zero_vanishes xs)

  -- y u d is y, where d u is 1
  pub undone : (y u d : ℕ) → y < size F → product F d u ≡ 1 → product F (product F y u) d ≡ y
  undone y u d h e = product_assoc F L y u d ∙ ap (product F y) (product_comm F L u d ∙ e) ∙ product_comm F L y 1 ∙ one-product F L y h

  -- the weight's term, from the multiple that the polynomial has
  term : (w y u d n : ℕ) → product F d u ≡ 1 → product F w d ≡ n → product F w y ≡ product F (product F y u) n
  term w y u d n e weight =
      sym (one-product F L (product F w y) (product-lt F L w y))
      ∙ ap (λ (v : ℕ). product F v (product F w y)) (sym e)
      ∙ product_assoc F L d u (product F w y) ∙ product_comm F L d (product F u (product F w y))
      ∙ ap (λ (v : ℕ). product F v d) (ap (product F u) (product_comm F L w y) ∙ sym (product_assoc F L u y w) ∙ ap (λ (v : ℕ). product F v w) (product_comm F L u y))
      ∙ product_assoc F L (product F y u) w d ∙ ap (product F (product F y u)) weight

  -- where no point is left, no weight is
  none_left : (before : List ℕ) (x : ℕ) (ws : List ℕ) → AreWeights before [] x ws → weighted F ws [] ≡ 0
  unfolding AreWeights weighted
  none_left before x [] h = refl
  none_left before x (w ∷ ws) h = refl

  -- where a point is left, its weight and those of the others are
  more_left : (before : List ℕ) (p : ℕ) (ps : List ℕ) (y : ℕ) (ys : List ℕ) (c : ℕ) (cs : List ℕ) (x : ℕ) (ws : List ℕ) → AreWeights before (p ∷ ps) x ws
      → ((x : ℕ) (ws : List ℕ) → AreWeights (before ++ p ∷ []) ps x ws → weighted F ws ys ≡ value_at F cs x)
      → ((w : ℕ) → product F w (away F L (before ++ ps) p) ≡ away F L (before ++ ps) x → product F w y ≡ product F c (away F L (before ++ ps) x))
      → weighted F ws (y ∷ ys) ≡ value_at F (sum cs (scaled F L c (vanishing F L (before ++ ps)))) x
  unfolding AreWeights weighted
  more_left before p ps y ys c cs x [] h rest first = elim h [ ]
  more_left before p ps y ys c cs x (w ∷ ws) h rest first =
      ap₂ bit_xor (first w h.0 ∙ ap (product F c) (sym (away-is (before ++ ps) x))) (rest x ws h.1)
      ∙ xor_comm (product F c (value_at F (vanishing F L (before ++ ps)) x)) (value_at F cs x)
      ∙ ap (bit_xor (value_at F cs x)) (sym (value_at-scaled F L c (vanishing F L (before ++ ps)) x))
      ∙ sym (value_at-sum F L cs (scaled F L c (vanishing F L (before ++ ps))) x)

  -- a polynomial through the points that is 0 at those before, whose values the weights give
  lagrange_from : (before xs ys : List ℕ) → length xs ≡ length ys → ArePoints F (before ++ xs) → AreCoefficients F ys
      → (cs : List ℕ) × (length cs ≤ length before + length xs) × AreCoefficients F cs × AreRoots F L cs before × PassesThrough F cs xs ys
      × ((x : ℕ) (ws : List ℕ) → AreWeights before xs x ws → weighted F ws ys ≡ value_at F cs x)
  unfolding AreCoefficients PassesThrough AreWeights weighted value_at AreRoots
  lagrange_from before [] [] same points bytes = ([], omega arith, tt, zero_vanishes before, tt, λ x ws h. none_left before x ws h)
  lagrange_from before [] (y ∷ ys) same points bytes = absurd (omega arith)
  lagrange_from before (p ∷ ps) [] same points bytes = absurd (omega arith)
  lagrange_from before (p ∷ ps) (y ∷ ys) same points bytes =
      let middle = points_middle before p ps points in
      let moved : ArePoints F (before ++ p ∷ [] ++ ps) = subst (ArePoints F) (sym (append_assoc before (p ∷ []) ps)) points in
      let rest = lagrange_from (before ++ p ∷ []) ps ys (omega arith) moved bytes.1 in
      let ns : List ℕ = vanishing F L (before ++ ps) in
      let d : ℕ = value_at F ns p in
      let apart : d ≢ 0 = vanishing_elsewhere F L (before ++ ps) p middle.0 middle.2 middle.1 in
      let u = has_inverse F L d (omega arith) (value_at-lt F L ns p (AreCoefficients-vanishing F L (before ++ ps))) in
      let c : ℕ = product F y u.0 in
      let there = vanishes-append ns before ps (vanishes F L (before ++ ps)) in
      let there_rest = vanishes-append rest.0 before (p ∷ []) rest.3 in (
        sum rest.0 (scaled F L c ns),
        omega (arith, length-sum F L rest.0 (scaled F L c ns), length-scaled F L c ns, length-vanishing F L (before ++ ps), length-append before ps, length-append before (p ∷ []), rest.1),
        AreCoefficients-sum F L rest.0 (scaled F L c ns) rest.2 (AreCoefficients-scaled F L c ns),
        vanishes_still rest.0 ns c before there_rest.0 there.0,
        (
          value_at-sum F L rest.0 (scaled F L c ns) p ∙ ap₂ bit_xor there_rest.1.0 (value_at-scaled F L c ns p ∙ undone y u.0 d bytes.0 u.2),
          takes_still F L rest.0 ns c ps ys there.1 rest.4,
        ),
        λ x ws h. more_left before p ps y ys c rest.0 x ws h rest.5 (λ w weight. term w y u.0 d (away F L (before ++ ps) x) u.2 (ap (product F w) (away-is (before ++ ps) p) ∙ weight)),
      )

  -- the value of any polynomial of at most n coefficients, from its values at n points
  pub lagrange : (cs xs ys ws : List ℕ) (x : ℕ) → length xs ≡ length ys → length cs ≤ length xs → ArePoints F xs → AreCoefficients F cs → AreCoefficients F ys
      → PassesThrough F cs xs ys → AreWeights [] xs x ws → weighted F ws ys ≡ value_at F cs x
  lagrange cs xs ys ws x same few points bytes values takes weights =
      let found = lagrange_from [] xs ys same points values in
      found.5 x ws weights
      ∙ one_polynomial F L found.0 cs xs ys (omega (arith, found.1)) few found.2 bytes points found.4 takes x
