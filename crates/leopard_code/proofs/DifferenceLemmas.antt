-- Products of differences, by parts.
use Rattle.std.proofs.Common.{◌≡◌, ℕ, ◌<◌, List, [], ◌∷◌, ◌++◌, sym, ap, ◌∙◌}
use Rattle.std.specs.Prelude.{bit_xor}
use Rattle.gf_cantor.proofs.Laws.{size-above, product-lt, product_assoc, one-product}
use Rattle.gf_cantor.specs.Field.{Field, product, size}
use Rattle.gf_cantor.specs.Laws.{AreFieldLaws}

module _ (F : Field) (L : AreFieldLaws F) where
  -- the product of the differences of x and the points
  unfoldable pub away : List ℕ → ℕ → ℕ
  away [] x = 1
  away (r ∷ rs) x = product F (bit_xor x r) (away rs x)

  -- a product of differences is a label
  pub away-lt : (rs : List ℕ) (x : ℕ) → away rs x < size F
  unfolding away
  away-lt [] x = size-above F L
  away-lt (r ∷ rs) x = product-lt F L (bit_xor x r) (away rs x)

  -- the differences of two lists of points are the product of those of each
  pub away-append : (ps qs : List ℕ) (x : ℕ) → away (ps ++ qs) x ≡ product F (away ps x) (away qs x)
  unfolding away
  away-append [] qs x = sym (one-product F L (away qs x) (away-lt qs x))
  away-append (p ∷ ps) qs x = ap (product F (bit_xor x p)) (away-append ps qs x) ∙ sym (product_assoc F L (bit_xor x p) (away ps x) (away qs x))
