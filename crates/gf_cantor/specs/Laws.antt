-- What holds of the labels of a field.
use Rattle.std.specs.Prelude.{◌≡◌, ℕ, ◌+◌, ◌-◌, ◌/◌, ◌%◌, ◌<◌, bit_xor}
use Rattle.gf_cantor.specs.Field.{Field, element, label, times, power, product, size}

-- the labels are a field over a Cantor basis, with xor as the sum. A law that names no bound holds of all numbers: a
-- greater one counts as the label of its lowest bits
pub record AreFieldLaws (f : Field) : Type 0 where
  -- what a product is: a label is told by its element
  pub product_element : (a b : ℕ) → element f (product f a b) ≡ times f (element f a) (element f b)
  pub same_element : (a b : ℕ) → a < size f → b < size f → element f a ≡ element f b → a ≡ b
  pub closed : (a b : ℕ) → product f a b < size f
  -- a field
  pub commutative : (a b : ℕ) → product f a b ≡ product f b a
  pub associative : (a b c : ℕ) → product f (product f a b) c ≡ product f a (product f b c)
  pub distributive : (a b c : ℕ) → product f a (bit_xor b c) ≡ bit_xor (product f a b) (product f a c)
  pub zero : (a : ℕ) → product f 0 a ≡ 0
  pub one : (a : ℕ) → a < size f → product f 1 a ≡ a
  pub inverse : (a : ℕ) → 0 < a → a < size f → (b : ℕ) × (b < size f) × (product f a b ≡ 1)
  -- a label's square and the label itself sum to the label at half
  pub cantor : (a : ℕ) → a < size f → bit_xor (product f a a) a ≡ a / 2

-- the exponents of powers of x add, and x to the number of all labels but one is 1: so they count modulo that number
pub record ArePowerLaws (f : Field) : Type 0 where
  pub start : label f (power f 0) ≡ 1
  pub sum : (i j : ℕ) → label f (power f (i + j)) ≡ product f (label f (power f i)) (label f (power f j))
  pub order : (i : ℕ) → label f (power f (i % (size f - 1))) ≡ label f (power f i)
