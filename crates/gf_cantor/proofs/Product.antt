-- Labels and elements tell each other, and the laws of the product of labels, at all numbers: a number counts as the
-- label of its lowest bits.
use Rattle.std.proofs.Common.{◌≡◌, ℕ, suc, ◌^◌, ◌<◌, sym, ap, ap₂, ◌∙◌, arith}
use Rattle.std.proofs.lemmas.Nat.{pow_pos}
use Rattle.std.specs.Prelude.{bit_xor}
use Rattle.gf_cantor.specs.Field.{Field, combine, element, label, times, product}
use Rattle.gf_cantor.proofs.Facts.{AreLabels}
use Rattle.gf_cantor.proofs.Linear.{IsAdditive, combine-zero, combine-xor, combine-map, combine-lt, combine-powers}
use Rattle.gf_cantor.proofs.Times.{times-lt, times_comm, times_assoc, times_low-xor, times_low-zero, times_low-one}

-- the element of a label is additive
pub element-additive : (f : Field) → IsAdditive (element f)
unfolding element
element-additive f = (combine-zero f.basis, combine-xor f.basis)

-- the label of an element is additive
pub label-additive : (f : Field) → IsAdditive (label f)
unfolding label
label-additive f = (combine-zero f.power_labels, combine-xor f.power_labels)

module _ (f : Field) (h : AreLabels f) where
  -- an element has its degree in bounds, whatever number is read as a label
  pub element-lt : (a : ℕ) → element f a < 2 ^ suc f.top
  unfolding element
  element-lt a = combine-lt (suc f.top) f.basis h.basis (pow_pos (suc f.top)) a

  -- a label is below the number of labels
  pub label-lt : (p : ℕ) → label f p < 2 ^ suc f.top
  unfolding label
  label-lt p = combine-lt (suc f.top) f.power_labels h.power_labels (pow_pos (suc f.top)) p

  -- a label is told by its element
  pub label-element : (a : ℕ) → a < 2 ^ suc f.top → label f (element f a) ≡ a
  unfolding element
  label-element a l =
      combine-map (label f) (label-additive f) f.basis a ∙ ap (λ bs. combine bs a) h.labels ∙ combine-powers (suc f.top) a l

  -- a polynomial is the element of its label
  pub element-label : (p : ℕ) → p < 2 ^ suc f.top → element f (label f p) ≡ p
  unfolding label
  element-label p l =
      combine-map (element f) (element-additive f) f.power_labels p ∙ ap (λ bs. combine bs p) h.elements ∙ combine-powers (suc f.top) p l

  -- labels with one element are one label
  pub same_element : (a b : ℕ) → a < 2 ^ suc f.top → b < 2 ^ suc f.top → element f a ≡ element f b → a ≡ b
  same_element a b ha hb e = sym (label-element a ha) ∙ ap (label f) e ∙ label-element b hb

  -- a product is a label
  pub product-lt : (a b : ℕ) → product f a b < 2 ^ suc f.top
  unfolding product
  product-lt a b = label-lt (times f (element f a) (element f b))

  -- the element of a product is the product of the elements
  pub element-product : (a b : ℕ) → element f (product f a b) ≡ times f (element f a) (element f b)
  unfolding product
  element-product a b = element-label _ (times-lt f h.modulus (element f a) (element f b) (element-lt a))

  -- the factors of a product change places
  pub product_comm : (a b : ℕ) → product f a b ≡ product f b a
  unfolding product
  product_comm a b = ap (label f) (times_comm f h.modulus (element f a) (element f b) (element-lt a) (element-lt b))

  -- products are grouped as one likes
  pub product_assoc : (a b c : ℕ) → product f (product f a b) c ≡ product f a (product f b c)
  unfolding product
  product_assoc a b c =
      ap (λ (x : ℕ). label f (times f x (element f c))) (element-product a b)
      ∙ ap (label f) (times_assoc f h.modulus (element f a) (element f b) (element f c) (element-lt a) (element-lt b) (element-lt c))
      ∙ ap (λ (x : ℕ). label f (times f (element f a) x)) (sym (element-product b c))

  -- two factors change places
  pub product_swap : (a b c : ℕ) → product f a (product f b c) ≡ product f b (product f a c)
  product_swap a b c = sym (product_assoc a b c) ∙ ap (λ (x : ℕ). product f x c) (product_comm a b) ∙ product_assoc b a c

  -- a sum times a label is the sum of both products
  pub xor-product : (a b c : ℕ) → product f (bit_xor a b) c ≡ bit_xor (product f a c) (product f b c)
  unfolding product times
  xor-product a b c =
      let add = element-additive f in
      let back = label-additive f in
      ap (λ (x : ℕ). label f (times f x (element f c))) (add.1 a b)
      ∙ ap (label f) (times_low-xor f h.modulus (suc f.top) (element f a) (element f b) (element f c) (element-lt a) (element-lt b))
      ∙ back.1 (times f (element f a) (element f c)) (times f (element f b) (element f c))

  -- a label times a sum is the sum of both products
  pub product-xor : (a b c : ℕ) → product f a (bit_xor b c) ≡ bit_xor (product f a b) (product f a c)
  product-xor a b c = product_comm a (bit_xor b c) ∙ xor-product b c a ∙ ap₂ bit_xor (product_comm b a) (product_comm c a)

  -- 0 times a label is 0
  pub zero-product : (b : ℕ) → product f 0 b ≡ 0
  unfolding product times
  zero-product b =
      let add = element-additive f in
      let back = label-additive f in
      ap (λ (x : ℕ). label f (times f x (element f b))) add.0
      ∙ ap (label f) (times_low-zero f h.modulus (suc f.top) (element f b)) ∙ back.0

  -- a label times 0 is 0
  pub product-zero : (a : ℕ) → product f a 0 ≡ 0
  product-zero a = product_comm a 0 ∙ zero-product a

  -- the products with a label are additive
  pub product-additive : (a : ℕ) → IsAdditive (product f a)
  product-additive a = (product-zero a, product-xor a)

  -- 1 times a label is that label
  pub one-product : (a : ℕ) → a < 2 ^ suc f.top → product f 1 a ≡ a
  unfolding product times
  one-product a l =
      ap (λ (x : ℕ). label f (times f x (element f a))) h.one
      ∙ ap (label f) (times_low-one f h.modulus (suc f.top) (element f a) (omega arith) (element-lt a))
      ∙ label-element a l
