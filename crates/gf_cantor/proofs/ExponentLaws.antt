-- The powers of x of both fields have the laws.
use Rattle.std.proofs.Common.{ℕ, ◌-◌, ◌<◌, sym, ap, ◌∙◌, arith}
use Rattle.gf_cantor.specs.Field.{Field, combine, label, times_x, shift, power, size, byte_field, word_field}
use Rattle.gf_cantor.specs.Laws.{ArePowerLaws}
use Rattle.gf_cantor.proofs.Facts.{IsCantor}
use Rattle.gf_cantor.proofs.Product.{label-element}
use Rattle.gf_cantor.proofs.PowerLaws.{one-lt, label-powers, turn, period}
use Rattle.gf_cantor.proofs.Computed.{byte_cantor, word_cantor}

-- of each field with a Cantor basis, where x isn't 0
laws_of : (f : Field) (levels : ℕ) → IsCantor f levels → 0 < label f (power f 1) → ArePowerLaws f
unfolding shift
laws_of f levels h some =
    let l = h.are_labels in
    record {
      start = ap (label f) (sym l.one) ∙ label-element f l 1 (one-lt f levels h);
      sum = λ i j. sym (label-powers f levels h i j);
      order = λ i. ap (label f) (period f levels h (size f - 1) i (turn f levels h some));
    }

-- x isn't 0
byte_x : 0 < label byte_field (power byte_field 1)
unfolding combine label times_x shift byte_field
byte_x = omega arith

word_x : 0 < label word_field (power word_field 1)
unfolding combine label times_x shift word_field
word_x = omega arith

-- the byte field
pub byte_power_laws : ArePowerLaws byte_field
byte_power_laws = laws_of byte_field 3 byte_cantor byte_x

-- the word field
pub word_power_laws : ArePowerLaws word_field
word_power_laws = laws_of word_field 4 word_cantor word_x
