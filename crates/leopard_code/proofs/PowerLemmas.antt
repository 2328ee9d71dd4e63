-- Products of differences as powers of x.
use Rattle.std.proofs.Common.{◌≡◌, ◌≢◌, ◌∙◌, ℕ, ◌+◌, ◌-◌, ◌%◌, ◌<◌, ◌≤◌, ◌^◌, List, get_or, sym, ap, subst, arith, below_more}
use Rattle.std.specs.Prelude.{bit_xor}
use Rattle.std.proofs.lemmas.Nat.{xor_lt}
use Rattle.std.proofs.Math.Nat.{mod-lt, mod_self}
use Rattle.gf_cantor.specs.Field.{Field, product, bits, size}
use Rattle.gf_cantor.specs.Laws.{AreFieldLaws, ArePowerLaws}
use Rattle.gf_cantor.proofs.Laws.{size-above, product-lt, product_comm}
use Rattle.label_polynomial.proofs.Sums.{xor_zero-same}
use Rattle.leopard_code.specs.Locators.{label_of_power, difference}
use Rattle.leopard_code.proofs.LocatorLemmas.{difference-other, difference_kept, inverse_undoes}

-- what an exponent is asked of is a difference of two positions: a label but 0
pub record IsDifference (f : Field) (d : ℕ) : Type 0 where
  pub least : 0 < d
  pub below : d < size f
  pub position : d < 1024

-- two positions have such a difference
pub positions_differ : (f : Field) (x pos n : ℕ) → x ≢ pos → x < n → pos < n → n ≤ size f → n ≤ 1024 → IsDifference f (bit_xor x pos)
positions_differ f x pos n other hx hp few short =
    let apart : bit_xor x pos ≢ 0 = λ e. other (xor_zero-same x pos e) in
    record {
      least = omega arith;
      below = xor_lt (bits f) x pos (omega arith) (omega arith);
      position = let low : bit_xor x pos < 2 ^ 10 = xor_lt 10 x pos (omega arith) (omega arith) in low;
    }

module _ (F : Field) (L : AreFieldLaws F) (P : ArePowerLaws F) where
  -- the label of a power is a label
  pub label_of_power-lt : (e : ℕ) → label_of_power F e < size F
  label_of_power-lt e =
      let same : e + 0 ≡ e = omega arith in
      subst (λ (y : ℕ). y < size F) (sym (P.sum e 0) ∙ ap (label_of_power F) same) (product-lt F L (label_of_power F e) (label_of_power F 0))

  -- the exponent 0 is that of the product of no labels
  pub no_exponent : (e : ℕ) → e ≡ 0 → label_of_power F e ≡ 1
  no_exponent e none = ap (label_of_power F) none ∙ P.start

  -- one that gains that of a difference is that of the product with it
  pub exponent_added : (x pos e n : ℕ) → x ≢ pos → label_of_power F n ≡ bit_xor x pos
      → label_of_power F (e + n) ≡ product F (label_of_power F e) (difference x pos)
  exponent_added x pos e n other is = P.sum e n ∙ ap (product F (label_of_power F e)) (is ∙ sym (difference-other x pos other))

  -- one that stays is that of the product with 1, the difference of a place and itself
  pub exponent_kept : (x pos e : ℕ) → x ≡ pos → label_of_power F e ≡ product F (label_of_power F e) (difference x pos)
  exponent_kept x pos e same = difference_kept F L x pos (label_of_power F e) (label_of_power-lt e) same

  -- the exponents so far are those of the products with the differences to a position
  pub products_more : (exponents new old : List ℕ) (x pos : ℕ) → ((y : ℕ) → y ≢ x → get_or new y 0 ≡ get_or exponents y 0)
      → label_of_power F (get_or new x 0) ≡ product F (label_of_power F (get_or old x 0)) (difference x pos)
      → ((y : ℕ) → y < x → label_of_power F (get_or exponents y 0) ≡ product F (label_of_power F (get_or old y 0)) (difference y pos))
      → (y : ℕ) → y < x + 1 → label_of_power F (get_or new y 0) ≡ product F (label_of_power F (get_or old y 0)) (difference y pos)
  products_more exponents new old x pos kept here before =
      below_more _ _ (λ y h. ap (label_of_power F) (kept y (omega arith)) ∙ before y h) here

  -- where x to the order is 1, the power of the order less an exponent takes that of the exponent back
  turned_back : (order : ℕ) → 0 < order → ((i : ℕ) → label_of_power F (i % order) ≡ label_of_power F i)
      → (e : ℕ) → product F (label_of_power F (order - e % order)) (label_of_power F e) ≡ 1
  turned_back order some turns e =
      let whole : order - e % order + e % order ≡ order = omega (arith, mod-lt e some) in
      ap (product F (label_of_power F (order - e % order))) (sym (turns e))
      ∙ sym (P.sum (order - e % order) (e % order))
      ∙ ap (label_of_power F) whole
      ∙ sym (turns order)
      ∙ no_exponent (order % order) (mod_self order)

  -- so a label that is a multiple by a power is divided by it
  pub divided : (order e y new old : ℕ) → order ≡ size F - 1 → y < size F
      → new ≡ product F (label_of_power F (order - e % order)) old → old ≡ product F y (label_of_power F e) → new ≡ y
  divided order e y new old is hy made multiple =
      made ∙ ap (product F (label_of_power F (order - e % order))) multiple
      ∙ inverse_undoes F L (label_of_power F e) (label_of_power F (order - e % order)) y hy
      (product_comm F L (label_of_power F e) (label_of_power F (order - e % order))
      ∙ turned_back order (omega (arith, is, size-above F L)) (λ i. ap (λ (o : ℕ). label_of_power F (i % o)) is ∙ P.order i) e)
