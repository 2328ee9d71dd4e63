-- The product of two polynomials: additive, and a product with x may be taken out. So factors may be grouped and
-- ordered as one likes.
use Rattle.std.proofs.Common.{◌≡◌, ℕ, zero, suc, ◌+◌, ◌-◌, ◌*◌, ◌/◌, ◌%◌, ◌^◌, ◌<◌, ◌≤◌, inl, inr, Bool, true, false, cond, refl, sym, ap, ap₂, ◌∙◌, subst, arith, eqb}
use Rattle.std.proofs.lemmas.Nat.{xor_shr, xor_lt, xor_block, pow_pos}
use Rattle.std.specs.Int.Bits.{xor_zero_r}
use Rattle.std.specs.Prelude.{bit_xor}
use Rattle.std.proofs.lemmas.Bool.{cases_lt, lt-ltb, le-ltb}
use Rattle.std.proofs.Math.Pow.{pow_mono}
use Rattle.std.proofs.Math.Nat.{two-pow-succ, div-eq_of_lt, div-eq_of_lt-le}
use Rattle.gf_cantor.specs.Field.{Field, times_x, times_low, times}
use Rattle.gf_cantor.proofs.Facts.{IsModulus}
use Rattle.gf_cantor.proofs.Linear.{xor_swap_middle, double_xor, bit_and_double, pick_xor_bits, bit_picked, pick-lt, pick-zero}

-- of a number below twice t, the quotient by t is one bit
bit-lt : (t p : ℕ) → p < 2 * t → p / t < 2
bit-lt t p h =
    elim (cases_lt p t) [
      | inl l ↦ let z : p / t ≡ zero = div-eq_of_lt l in omega arith
      | inr g ↦ let z : p / t ≡ suc zero = div-eq_of_lt-le {k = suc zero} t (omega arith) (omega arith) in omega arith
    ]

module _ (f : Field) where
  -- x times a polynomial by its highest bit
  pub times_x-is : (p : ℕ) → p < 2 * 2 ^ f.top → times_x f p ≡ bit_xor (2 * p) (cond (eqb (p / 2 ^ f.top) 1) f.modulus 0)
  unfolding times_x
  times_x-is p h =
      elim (cases_lt p (2 ^ f.top)) [
        | inl l ↦
            let z : p / 2 ^ f.top ≡ zero = div-eq_of_lt l in
            ap (λ b. cond b (2 * p) (bit_xor (2 * p) f.modulus)) (lt-ltb p (2 ^ f.top) l)
            ∙ sym (xor_zero_r (2 * p))
            ∙ ap (λ q. bit_xor (2 * p) (cond (eqb q 1) f.modulus 0)) (sym z)
        | inr g ↦
            let z : p / 2 ^ f.top ≡ suc zero = div-eq_of_lt-le {k = suc zero} (2 ^ f.top) (omega arith) (omega arith) in
            ap (λ b. cond b (2 * p) (bit_xor (2 * p) f.modulus)) (le-ltb p (2 ^ f.top) g)
            ∙ ap (λ q. bit_xor (2 * p) (cond (eqb q 1) f.modulus 0)) (sym z)
      ]

  -- x times 0
  pub times_x-zero : times_x f 0 ≡ 0
  unfolding times_x
  times_x-zero = ap (λ b. cond b 0 (bit_xor 0 f.modulus)) (lt-ltb 0 (2 ^ f.top) (pow_pos f.top))

  -- x times a polynomial of a degree below the highest
  pub times_x-low : (p : ℕ) → p < 2 ^ f.top → times_x f p ≡ 2 * p
  unfolding times_x
  times_x-low p l = ap (λ b. cond b (2 * p) (bit_xor (2 * p) f.modulus)) (lt-ltb p (2 ^ f.top) l)

  -- x times a sum is the sum of both products
  pub times_x-xor : (p q : ℕ) → p < 2 ^ suc f.top → q < 2 ^ suc f.top → times_x f (bit_xor p q) ≡ bit_xor (times_x f p) (times_x f q)
  times_x-xor p q hp hq =
      let twice : 2 ^ suc f.top ≡ 2 ^ f.top + 2 ^ f.top = two-pow-succ f.top in
      let t : ℕ = 2 ^ f.top in
      let hp2 : p < 2 * 2 ^ f.top = omega arith in
      let hq2 : q < 2 * 2 ^ f.top = omega arith in
      let hx : bit_xor p q < 2 * 2 ^ f.top = omega (arith, xor_lt (suc f.top) p q hp hq) in
      times_x-is (bit_xor p q) hx
      ∙ ap₂ bit_xor (double_xor p q)
      (ap (λ r. cond (eqb r 1) f.modulus 0) (xor_shr p q f.top)
      ∙ pick_xor_bits (p / 2 ^ f.top) (q / 2 ^ f.top) f.modulus (bit-lt (2 ^ f.top) p hp2) (bit-lt (2 ^ f.top) q hq2))
      ∙ xor_swap_middle (2 * p) (2 * q) (cond (eqb (p / 2 ^ f.top) 1) f.modulus 0) (cond (eqb (q / 2 ^ f.top) 1) f.modulus 0)
      ∙ sym (ap₂ bit_xor (times_x-is p hp2) (times_x-is q hq2))

  -- a bit picks of a sum the sum of what it picks
  pick-xor_first : (b : Bool) (p q : ℕ) → cond b (bit_xor p q) 0 ≡ bit_xor (cond b p 0) (cond b q 0)
  pick-xor_first true p q = refl
  pick-xor_first false p q = refl

  -- a bit picks of x times p what x times its pick is
  pick-times_x : (b : Bool) (p : ℕ) → cond b (times_x f p) 0 ≡ times_x f (cond b p 0)
  pick-times_x true p = refl
  pick-times_x false p = sym times_x-zero

module _ (f : Field) (m : IsModulus f) where
  -- x times a polynomial is one
  pub times_x-lt : (p : ℕ) → p < 2 ^ suc f.top → times_x f p < 2 ^ suc f.top
  unfolding times_x
  times_x-lt p h =
      let twice : 2 ^ suc f.top ≡ 2 ^ f.top + 2 ^ f.top = two-pow-succ f.top in
      let least = m.least in
      let greatest = m.greatest in
      elim (cases_lt p (2 ^ f.top)) [
        | inl l ↦ subst (λ x. x < 2 ^ suc f.top) (sym (times_x-low f p l)) (omega arith)
        | inr g ↦
            let r : ℕ = 2 * p - 2 ^ suc f.top in
            let s : ℕ = f.modulus - 2 ^ suc f.top in
            let er : 2 * p ≡ suc zero * 2 ^ suc f.top + r = omega arith in
            let es : f.modulus ≡ suc zero * 2 ^ suc f.top + s = omega arith in
            let hr : r < 2 ^ suc f.top = omega arith in
            let hs : s < 2 ^ suc f.top = omega arith in
            let e : bit_xor (2 * p) f.modulus ≡ bit_xor r s =
            ap₂ bit_xor er es ∙ xor_block (suc f.top) (suc zero) (suc zero) r s hr hs ∙ omega arith in
            subst (λ x. x < 2 ^ suc f.top)
            (sym (ap (λ b. cond b (2 * p) (bit_xor (2 * p) f.modulus)) (le-ltb p (2 ^ f.top) g) ∙ e))
            (xor_lt (suc f.top) r s hr hs)
      ]

  -- a product with the n lowest bits is a polynomial
  pub times_low-lt : (n p q : ℕ) → p < 2 ^ suc f.top → times_low f n p q < 2 ^ suc f.top
  unfolding times_low
  times_low-lt zero p q h = pow_pos (suc f.top)
  times_low-lt (suc n) p q h =
      xor_lt (suc f.top) (cond (eqb (q % 2) 1) p 0) (times_x f (times_low f n p (q / 2))) (pick-lt (suc f.top) (eqb (q % 2) 1) p h (pow_pos (suc f.top)))
      (times_x-lt _ (times_low-lt n p (q / 2) h))

  -- a product is additive in its first factor
  pub times_low-xor : (n p q r : ℕ) → p < 2 ^ suc f.top → q < 2 ^ suc f.top → times_low f n (bit_xor p q) r ≡ bit_xor (times_low f n p r) (times_low f n q r)
  unfolding times_low
  times_low-xor zero p q r hp hq = refl
  times_low-xor (suc n) p q r hp hq =
      let rest : times_x f (times_low f n (bit_xor p q) (r / 2)) ≡ bit_xor (times_x f (times_low f n p (r / 2))) (times_x f (times_low f n q (r / 2))) =
      ap (times_x f) (times_low-xor n p q (r / 2) hp hq)
      ∙ times_x-xor f _ _ (times_low-lt n p (r / 2) hp) (times_low-lt n q (r / 2) hq) in
      ap₂ bit_xor (pick-xor_first f (eqb (r % 2) 1) p q) rest
      ∙ xor_swap_middle (cond (eqb (r % 2) 1) p 0) (cond (eqb (r % 2) 1) q 0) (times_x f (times_low f n p (r / 2))) (times_x f (times_low f n q (r / 2)))

  -- x may be taken out of the first factor
  pub times_low-times_x : (n p q : ℕ) → p < 2 ^ suc f.top → times_low f n (times_x f p) q ≡ times_x f (times_low f n p q)
  unfolding times_low
  times_low-times_x zero p q h = sym (times_x-zero f)
  times_low-times_x (suc n) p q h =
      ap₂ bit_xor (pick-times_x f (eqb (q % 2) 1) p) (ap (times_x f) (times_low-times_x n p (q / 2) h))
      ∙ sym (times_x-xor f (cond (eqb (q % 2) 1) p 0) (times_x f (times_low f n p (q / 2)))
      (pick-lt (suc f.top) (eqb (q % 2) 1) p h (pow_pos (suc f.top))) (times_x-lt _ (times_low-lt n p (q / 2) h)))

  -- 0 times a polynomial is 0
  pub times_low-zero : (n q : ℕ) → times_low f n 0 q ≡ 0
  unfolding times_low
  times_low-zero zero q = refl
  times_low-zero (suc n) q = ap₂ bit_xor (pick-zero (eqb (q % 2) 1)) (ap (times_x f) (times_low-zero n (q / 2)) ∙ times_x-zero f)

  -- a bit picks of a product with p what the product with its pick is
  pick-times_low : (n q : ℕ) (b : Bool) (p : ℕ) → times_low f n (cond b p 0) q ≡ cond b (times_low f n p q) 0
  pick-times_low n q true p = refl
  pick-times_low n q false p = times_low-zero n q

  -- two factors of a polynomial change places
  pub times_low-swap : (n k p q r : ℕ) → p < 2 ^ suc f.top → times_low f n (times_low f k p r) q ≡ times_low f k (times_low f n p q) r
  unfolding times_low
  times_low-swap n zero p q r h = times_low-zero n q
  times_low-swap n (suc k) p q r h =
      times_low-xor n (cond (eqb (r % 2) 1) p 0) (times_x f (times_low f k p (r / 2))) q
      (pick-lt (suc f.top) (eqb (r % 2) 1) p h (pow_pos (suc f.top))) (times_x-lt _ (times_low-lt k p (r / 2) h))
      ∙ ap₂ bit_xor (pick-times_low n q (eqb (r % 2) 1) p)
      (times_low-times_x n (times_low f k p (r / 2)) q (times_low-lt k p (r / 2) h) ∙ ap (times_x f) (times_low-swap n k p q (r / 2) h))

  -- 1 times a polynomial is that polynomial
  pub times_low-one : (k q : ℕ) → k ≤ suc f.top → q < 2 ^ k → times_low f k 1 q ≡ q
  unfolding times_low
  times_low-one zero q l h = omega arith
  times_low-one (suc k) q l h =
      let half : q / 2 < 2 ^ k = omega (arith, two-pow-succ k) in
      let within : k ≤ f.top = omega arith in
      let more : 2 ^ k ≤ 2 ^ f.top = pow_mono {i = k} {j = f.top} within in
      let low : q / 2 < 2 ^ f.top = omega arith in
      ap₂ bit_xor (bit_picked (q % 2) (omega arith)) (ap (times_x f) (times_low-one k (q / 2) (omega arith) half) ∙ times_x-low f (q / 2) low)
      ∙ bit_and_double (q % 2) (q / 2) (omega arith)
      ∙ omega arith

  -- the factors of a product change places
  pub times_comm : (p q : ℕ) → p < 2 ^ suc f.top → q < 2 ^ suc f.top → times f p q ≡ times f q p
  unfolding times
  times_comm p q hp hq =
      let one : 1 < 2 ^ suc f.top = omega (arith, two-pow-succ f.top, pow_pos f.top) in
      ap (λ x. times_low f (suc f.top) x q) (sym (times_low-one (suc f.top) p (omega arith) hp))
      ∙ times_low-swap (suc f.top) (suc f.top) 1 q p one
      ∙ ap (λ x. times_low f (suc f.top) x p) (times_low-one (suc f.top) q (omega arith) hq)

  -- a product is a polynomial
  pub times-lt : (p q : ℕ) → p < 2 ^ suc f.top → times f p q < 2 ^ suc f.top
  unfolding times
  times-lt p q h = times_low-lt (suc f.top) p q h

  -- two factors of a polynomial change places
  pub times_swap : (p q r : ℕ) → p < 2 ^ suc f.top → times f (times f p q) r ≡ times f (times f p r) q
  unfolding times
  times_swap p q r h = times_low-swap (suc f.top) (suc f.top) p r q h

  -- factors are grouped as one likes
  pub times_assoc : (p q r : ℕ) → p < 2 ^ suc f.top → q < 2 ^ suc f.top → r < 2 ^ suc f.top → times f (times f p q) r ≡ times f p (times f q r)
  times_assoc p q r hp hq hr =
      ap (λ x. times f x r) (times_comm p q hp hq) ∙ times_swap q p r hq ∙ times_comm (times f q r) p (times-lt q r hq) hp
