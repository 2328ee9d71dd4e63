-- The values of a locator, and of its derivative at its points.
use Rattle.std.proofs.Common.{◌≡◌, ◌≢◌, ◌∙◌, ℕ, ◌<◌, Bool, List, [], ◌∷◌, ◌++◌, if◌then◌else◌, refl, sym, ap, ap₂}
use Rattle.std.specs.Prelude.{bit_xor}
use Rattle.std.proofs.lemmas.Bool.{eq-eqb, ne_eqb}
use Rattle.gf_cantor.proofs.Laws.{size-above, product-lt, product_comm, product_swap, one-product}
use Rattle.label_polynomial.specs.Polynomial.{Avoids, ArePoints}
use Rattle.leopard_code.proofs.DifferenceLemmas.{away}
use Rattle.leopard_code.specs.Locators.{difference, apart_from}
use Rattle.leopard_code.proofs.LagrangeLemmas.{points_middle}
use Rattle.gf_cantor.specs.Field.{Field, product, size}
use Rattle.gf_cantor.specs.Laws.{AreFieldLaws}

-- the difference of a point and itself counts as 1
pub difference-same : (x r : ℕ) → x ≡ r → difference x r ≡ 1
difference-same x r e = ap (λ (t : Bool). if t then 1 else bit_xor x r) (eq-eqb x r e)

-- any other is a sum
pub difference-other : (x r : ℕ) → x ≢ r → difference x r ≡ bit_xor x r
difference-other x r e = ap (λ (t : Bool). if t then 1 else bit_xor x r) (ne_eqb x r e)

module _ (F : Field) (L : AreFieldLaws F) where
  -- a product of differences is a label
  pub apart_from-lt : (rs : List ℕ) (x : ℕ) → apart_from F rs x < size F
  unfolding apart_from
  apart_from-lt [] x = size-above F L
  apart_from-lt (r ∷ rs) x = product-lt F L (difference x r) (apart_from F rs x)

  -- at none of the points it is the locator's value
  pub apart_from-avoids : (rs : List ℕ) (x : ℕ) → Avoids x rs → apart_from F rs x ≡ away F L rs x
  unfolding apart_from away Avoids
  apart_from-avoids [] x h = refl
  apart_from-avoids (r ∷ rs) x h = ap₂ (product F) (difference-other x r h.0) (apart_from-avoids rs x h.1)

  -- at one of them it is the product of the differences to the others
  apart_middle : (before after : List ℕ) (x : ℕ) → Avoids x (before ++ after) → apart_from F (before ++ x ∷ after) x ≡ away F L (before ++ after) x
  unfolding apart_from away Avoids
  apart_middle [] after x h =
      ap (λ (d : ℕ). product F d (apart_from F after x)) (difference-same x x refl)
      ∙ one-product F L (apart_from F after x) (apart_from-lt after x) ∙ apart_from-avoids after x h
  apart_middle (p ∷ before) after x h = ap₂ (product F) (difference-other x p h.0) (apart_middle before after x h.1)

  -- the same of points that are different
  pub apart_from-middle : (before after : List ℕ) (x : ℕ) → ArePoints F (before ++ x ∷ after) → apart_from F (before ++ x ∷ after) x ≡ away F L (before ++ after) x
  apart_from-middle before after x points = apart_middle before after x (points_middle F L before x after points).1

  -- q (y d) is y, where d q is 1
  pub inverse_undoes : (d q y : ℕ) → y < size F → product F d q ≡ 1 → product F q (product F y d) ≡ y
  inverse_undoes d q y h e = product_swap F L q y d ∙ ap (product F y) (product_comm F L q d ∙ e) ∙ product_comm F L y 1 ∙ one-product F L y h

  -- a label times the difference of a point and itself stays
  pub difference_kept : (x r v : ℕ) → v < size F → x ≡ r → v ≡ product F v (difference x r)
  difference_kept x r v h e = sym (ap (product F v) (difference-same x r e) ∙ product_comm F L v 1 ∙ one-product F L v h)
