-- What is computed of a field: of the basis and of the powers of x alone, and not of each label.
use Rattle.std.proofs.Common.{◌≡◌, ℕ, suc, ◌*◌, ◌/◌, ◌^◌, ◌<◌, ◌≤◌, true, map, ltb}
use Rattle.std.specs.Prelude.{bit_xor}
use Rattle.std.specs.List.{list_all}
use Rattle.gf_cantor.specs.Field.{Field, element, label, product}
use Rattle.gf_cantor.proofs.Linear.{powers}

-- the modulus has one degree more than an element may have
pub record IsModulus (f : Field) : Type 0 where
  pub least : 2 ^ suc f.top ≤ f.modulus
  pub greatest : f.modulus < 2 * 2 ^ suc f.top

-- labels and elements are told by each other
pub record AreLabels (f : Field) : Type 0 where
  pub modulus : IsModulus f
  pub basis : list_all (λ b. ltb b (2 ^ suc f.top)) f.basis ≡ true
  pub power_labels : list_all (λ b. ltb b (2 ^ suc f.top)) f.power_labels ≡ true
  pub one : element f 1 ≡ 1
  pub labels : map (label f) f.basis ≡ powers (suc f.top)
  pub elements : map (element f) f.power_labels ≡ powers (suc f.top)

-- each power of 2 squared and added to itself is its half, and there are 2^levels bits
pub record IsCantor (f : Field) (levels : ℕ) : Type 0 where
  pub are_labels : AreLabels f
  pub wide : suc f.top ≡ 2 ^ levels
  pub halves : map (λ a. bit_xor (product f a a) a) (powers (suc f.top)) ≡ map (λ a. a / 2) (powers (suc f.top))
