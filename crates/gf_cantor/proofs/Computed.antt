-- Both fields, by computing with the powers of 2 alone.
use Rattle.std.proofs.Common.{refl, arith}
use Rattle.gf_cantor.specs.Field.{combine, element, label, times_x, times_low, times, product, byte_field, word_field}
use Rattle.gf_cantor.proofs.Linear.{powers}
use Rattle.gf_cantor.proofs.Facts.{AreLabels, IsCantor}

-- the field of 256 elements
pub byte_labels : AreLabels byte_field
unfolding combine element label byte_field powers
byte_labels = record {
  modulus = record { least = omega arith; greatest = omega arith };
  basis = refl;
  power_labels = refl;
  one = refl;
  labels = refl;
  elements = refl;
}

-- the field of 65,536 elements
pub word_labels : AreLabels word_field
unfolding combine element label word_field powers
word_labels = record {
  modulus = record { least = omega arith; greatest = omega arith };
  basis = refl;
  power_labels = refl;
  one = refl;
  labels = refl;
  elements = refl;
}

-- the field of 256 elements
pub byte_cantor : IsCantor byte_field 3
unfolding combine element label times_x times_low times product byte_field powers
byte_cantor = record { are_labels = byte_labels; wide = refl; halves = refl }

-- the field of 65,536 elements
pub word_cantor : IsCantor word_field 4
unfolding combine element label times_x times_low times product word_field powers
word_cantor = record { are_labels = word_labels; wide = refl; halves = refl }
