-- What follows from the laws of a field.
use Rattle.std.proofs.Common.{◌≡◌, ℕ, suc, ◌/◌, ◌<◌, sym, ap, ap₂, ◌∙◌, arith}
use Rattle.std.proofs.lemmas.Nat.{pow_pos}
use Rattle.std.proofs.Math.Nat.{two-pow-succ}
use Rattle.std.specs.Int.Bits.{xor_zero_r}
use Rattle.std.specs.Prelude.{bit_xor}
use Rattle.gf_cantor.specs.Field.{Field, product, size}
use Rattle.gf_cantor.specs.Laws.{AreFieldLaws}

module _ (F : Field) (L : AreFieldLaws F) where
  -- 0 is a label
  pub size-pos : 0 < size F
  size-pos = pow_pos (suc F.top)

  -- so is 1
  pub size-above : 1 < size F
  size-above = omega (arith, two-pow-succ F.top, pow_pos F.top)

  -- a product is a label
  pub product-lt : (a b : ℕ) → product F a b < size F
  product-lt = L.closed

  -- the factors of a product change places
  pub product_comm : (a b : ℕ) → product F a b ≡ product F b a
  product_comm = L.commutative

  -- products are grouped as one likes
  pub product_assoc : (a b c : ℕ) → product F (product F a b) c ≡ product F a (product F b c)
  product_assoc = L.associative

  -- two factors change places
  pub product_swap : (a b c : ℕ) → product F a (product F b c) ≡ product F b (product F a c)
  product_swap a b c = sym (product_assoc a b c) ∙ ap (λ (x : ℕ). product F x c) (product_comm a b) ∙ product_assoc b a c

  -- a label times a sum is the sum of both products
  pub product-xor : (a b c : ℕ) → product F a (bit_xor b c) ≡ bit_xor (product F a b) (product F a c)
  product-xor = L.distributive

  -- a sum times a label is the sum of both products
  pub xor-product : (a b c : ℕ) → product F (bit_xor a b) c ≡ bit_xor (product F a c) (product F b c)
  xor-product a b c = product_comm (bit_xor a b) c ∙ product-xor c a b ∙ ap₂ bit_xor (product_comm c a) (product_comm c b)

  -- 0 times a label is 0
  pub zero-product : (b : ℕ) → product F 0 b ≡ 0
  zero-product = L.zero

  -- a label times 0 is 0
  pub product-zero : (a : ℕ) → product F a 0 ≡ 0
  product-zero a = product_comm a 0 ∙ zero-product a

  -- 1 times a label is that label
  pub one-product : (a : ℕ) → a < size F → product F 1 a ≡ a
  one-product = L.one

  -- the square of a label, added to it, is the label at half: the basis is a Cantor basis
  pub square_halves : (a : ℕ) → a < size F → bit_xor (product F a a) a ≡ a / 2
  square_halves = L.cantor

  -- a label but 0 has an inverse
  pub has_inverse : (a : ℕ) → 0 < a → a < size F → (b : ℕ) × (b < size F) × (product F a b ≡ 1)
  has_inverse = L.inverse

  -- the inverse of a label takes back a product with it
  inverse_takes_back : (a b v : ℕ) → b < size F → product F a v ≡ 1 → product F v (product F a b) ≡ b
  inverse_takes_back a b v hb e =
      sym (product_assoc v a b) ∙ ap (λ (x : ℕ). product F x b) (product_comm v a ∙ e) ∙ one-product b hb

  -- a factor that is not 0 may be left out of both sides
  pub product_cancels : (a b c : ℕ) → 0 < a → a < size F → b < size F → c < size F → product F a b ≡ product F a c → b ≡ c
  product_cancels a b c pos ha hb hc e =
      let v = has_inverse a pos ha in
      sym (inverse_takes_back a b v.0 hb v.2) ∙ ap (product F v.0) e ∙ inverse_takes_back a c v.0 hc v.2

  -- a product is 0 only where a factor is
  pub zero_factor : (a b : ℕ) → 0 < a → a < size F → b < size F → product F a b ≡ 0 → b ≡ 0
  zero_factor a b pos ha hb e = product_cancels a b 0 pos ha hb size-pos (e ∙ sym (product-zero a))

  -- a label has one inverse at most
  pub one_inverse : (a b c : ℕ) → b < size F → c < size F → product F a b ≡ 1 → product F a c ≡ 1 → b ≡ c
  one_inverse a b c hb hc eb ec =
      sym (inverse_takes_back a b c hb ec) ∙ ap (product F c) (eb ∙ sym ec) ∙ inverse_takes_back a c c hc ec

  -- what gains the product with 0 stays
  pub nothing_added : (by old x : ℕ) → by ≡ 0 → old ≡ bit_xor old (product F by x)
  nothing_added by old x none =
      sym (ap (λ (k : ℕ). bit_xor old (product F k x)) none ∙ ap (bit_xor old) (zero-product x) ∙ xor_zero_r old)
