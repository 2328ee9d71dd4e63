-- Worked products, by the definition (docs/RULES.md, "The byte field" and "The word field").
use Rattle.std.proofs.Common.{◌≡◌, refl}
use Rattle.gf_cantor.specs.Field.{combine, element, label, times_x, times_low, times, product, byte_field, word_field}

-- 2 times 2 is 3
product_of_2_and_2 : product byte_field 2 2 ≡ 3
unfolding product label element combine times times_low times_x byte_field
product_of_2_and_2 = refl

-- 2 times 3 is 1
product_of_2_and_3 : product byte_field 2 3 ≡ 1
unfolding product label element combine times times_low times_x byte_field
product_of_2_and_3 = refl

-- the element of the label 5 is the sum of the first and the third of the basis
element_of_5 : element byte_field 5 ≡ 153
unfolding element combine byte_field
element_of_5 = refl

-- of words too it is
element_of_word_5 : element word_field 5 ≡ 0x3C0F
unfolding element combine word_field
element_of_word_5 = refl
