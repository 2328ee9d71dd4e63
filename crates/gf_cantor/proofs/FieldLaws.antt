-- Both fields have the laws.
use Rattle.std.proofs.Common.{ℕ, ◌^◌, ◌<◌, sym, subst}
use Rattle.gf_cantor.specs.Field.{Field, byte_field, word_field}
use Rattle.gf_cantor.specs.Laws.{AreFieldLaws}
use Rattle.gf_cantor.proofs.Facts.{IsCantor}
use Rattle.gf_cantor.proofs.Product.{element-product, same_element, product-lt, product_comm, product_assoc, product-xor, zero-product, one-product}
use Rattle.gf_cantor.proofs.Inverse.{has_inverse, square_halves}
use Rattle.gf_cantor.proofs.Computed.{byte_cantor, word_cantor}

-- of each field with a Cantor basis
laws_of : (f : Field) (levels : ℕ) → IsCantor f levels → AreFieldLaws f
laws_of f levels h =
    let l = h.are_labels in
    record {
      product_element = element-product f l;
      same_element = same_element f l;
      closed = product-lt f l;
      commutative = product_comm f l;
      associative = product_assoc f l;
      distributive = product-xor f l;
      zero = zero-product f l;
      one = one-product f l;
      inverse = λ a pos below.
          let found = has_inverse f levels h a pos below in
          let wide = h.wide in
          (found.inverse, subst (λ (n : ℕ). found.inverse < 2 ^ n) (sym wide) found.below, found.is_one);
      cantor = square_halves f levels h;
    }

-- the byte field
pub byte_laws : AreFieldLaws byte_field
byte_laws = laws_of byte_field 3 byte_cantor

-- the word field
pub word_laws : AreFieldLaws word_field
word_laws = laws_of word_field 4 word_cantor
