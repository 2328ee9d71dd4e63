-- The products with the bytes of a row, from two tables of sixteen.
use Rattle.std.proofs.Common.{◌≡◌, ℕ, ◌*◌, ◌/◌, ◌%◌, ◌<◌, Bool, true, false, cond, eqb, List, [], ◌∷◌, map, get_or, refl, sym, ap, ap₂, ◌∙◌, arith}
use Rattle.std.specs.Int.Bits.{xor_assoc, xor_zero_r}
use Rattle.std.specs.Prelude.{bit_xor, ◌==◌}
use Rattle.std.proofs.lemmas.Bool.{eqb-true, agree_below, agree_below_at}
use Rattle.gf_cantor.specs.Field.{combine, product, byte_field}
use Rattle.gf_cantor.proofs.FieldLaws.{byte_laws}
use Rattle.gf_cantor.proofs.Laws.{product-xor, product-zero}

-- what a bit picks of a product is the product with what it picks
product-pick : (by : ℕ) (t : Bool) (b : ℕ) → product byte_field by (cond t b 0) ≡ cond t (product byte_field by b) 0
product-pick by true b = refl
product-pick by false b = product-zero byte_field byte_laws by

-- the product with a sum of parts is the sum of the products with them
product-combine : (by : ℕ) (bs : List ℕ) (n : ℕ) → product byte_field by (combine bs n) ≡ combine (map (product byte_field by) bs) n
unfolding combine
product-combine by [] n = product-zero byte_field byte_laws by
product-combine by (b ∷ bs) n =
    product-xor byte_field byte_laws by (cond (eqb (n % 2) 1) b 0) (combine bs (n / 2))
    ∙ ap₂ bit_xor (product-pick by (eqb (n % 2) 1) b) (product-combine by bs (n / 2))

-- each number below 16 is the sum of 1, 2, 4 and 8 at its set bits
low_test : agree_below (λ n. combine (1 ∷ 2 ∷ 4 ∷ 8 ∷ []) n == n) (λ x. true) 16 ≡ true
unfolding combine
low_test = refl

-- 16 times each number below 16 is the sum of 16, 32, 64 and 128 at its set bits
high_test : agree_below (λ n. combine (16 ∷ 32 ∷ 64 ∷ 128 ∷ []) n == 16 * n) (λ x. true) 16 ≡ true
unfolding combine
high_test = refl

-- each byte is the sum of its low four bits and its high four bits
byte_test : agree_below (λ y. bit_xor (y % 16) (16 * (y / 16)) == y) (λ x. true) 256 ≡ true
byte_test = refl

-- the sums of the products with 1, 2, 4 and 8 are the products with the numbers below 16
pub low_sum-product : (by a b c d n : ℕ) → n < 16 → a ≡ product byte_field by 1 → b ≡ product byte_field by 2 → c ≡ product byte_field by 4 → d ≡ product byte_field by 8
    → combine (a ∷ b ∷ c ∷ d ∷ []) n ≡ product byte_field by n
low_sum-product by a b c d n h ea eb ec ed =
    (λ i. combine (ea i ∷ eb i ∷ ec i ∷ ed i ∷ []) n)
    ∙ sym (product-combine by (1 ∷ 2 ∷ 4 ∷ 8 ∷ []) n)
    ∙ ap (product byte_field by) (eqb-true _ _ (agree_below_at (λ n. combine (1 ∷ 2 ∷ 4 ∷ 8 ∷ []) n == n) (λ x. true) 16 n low_test h))

-- the sums of the products with 16, 32, 64 and 128 are the products with 16 times those numbers
pub high_sum-product : (by a b c d n : ℕ) → n < 16 → a ≡ product byte_field by 16 → b ≡ product byte_field by 32 → c ≡ product byte_field by 64 → d ≡ product byte_field by 128
    → combine (a ∷ b ∷ c ∷ d ∷ []) n ≡ product byte_field by (16 * n)
high_sum-product by a b c d n h ea eb ec ed =
    (λ i. combine (ea i ∷ eb i ∷ ec i ∷ ed i ∷ []) n)
    ∙ sym (product-combine by (16 ∷ 32 ∷ 64 ∷ 128 ∷ []) n)
    ∙ ap (product byte_field by) (eqb-true _ _ (agree_below_at (λ n. combine (16 ∷ 32 ∷ 64 ∷ 128 ∷ []) n == 16 * n) (λ x. true) 16 n high_test h))

-- the sum of the products with both halves of a byte is the product with the byte
halves-product : (by y : ℕ) → y < 256 → bit_xor (product byte_field by (y % 16)) (product byte_field by (16 * (y / 16))) ≡ product byte_field by y
halves-product by y h =
    sym (product-xor byte_field byte_laws by (y % 16) (16 * (y / 16)))
    ∙ ap (product byte_field by) (eqb-true _ _ (agree_below_at (λ y. bit_xor (y % 16) (16 * (y / 16)) == y) (λ x. true) 256 y byte_test h))

-- the sum of the entries at both halves of a byte is the product with the byte
pub entries-product : (by y i j : ℕ) (low high : List ℕ) → y < 256 → i ≡ y % 16 → j ≡ y / 16
    → ((n : ℕ) → n < 16 → get_or low n 0 ≡ product byte_field by n) → ((n : ℕ) → n < 16 → get_or high n 0 ≡ product byte_field by (16 * n))
    → bit_xor (get_or low i 0) (get_or high j 0) ≡ product byte_field by y
entries-product by y i j low high h ei ej lows highs =
    ap₂ bit_xor
    (lows i (omega arith) ∙ ap (product byte_field by) ei)
    (highs j (omega arith) ∙ ap (λ (n : ℕ). product byte_field by (16 * n)) ej)
    ∙ halves-product by y h

-- a sum of two parts, with nothing behind the second
two_parts : (a b : ℕ) → bit_xor a b ≡ bit_xor a (bit_xor b 0)
two_parts a b = ap (bit_xor a) (sym (xor_zero_r b))

-- a sum of three parts, with nothing behind the third
three_parts : (a b c : ℕ) → bit_xor (bit_xor a b) c ≡ bit_xor a (bit_xor b (bit_xor c 0))
three_parts a b c = xor_assoc a b c ∙ ap (bit_xor a) (two_parts b c)

-- the sums of four parts, one for each number below 16
pub sums_listed : (a b c d : ℕ)
    → (0 ∷ a ∷ b ∷ bit_xor a b ∷ c ∷ bit_xor a c ∷ bit_xor b c ∷ bit_xor (bit_xor a b) c
    ∷ d ∷ bit_xor a d ∷ bit_xor b d ∷ bit_xor (bit_xor a b) d ∷ bit_xor c d ∷ bit_xor a (bit_xor c d) ∷ bit_xor b (bit_xor c d) ∷ bit_xor (bit_xor a b) (bit_xor c d) ∷ [])
    ≡ map (combine (a ∷ b ∷ c ∷ d ∷ [])) (0 ∷ 1 ∷ 2 ∷ 3 ∷ 4 ∷ 5 ∷ 6 ∷ 7 ∷ 8 ∷ 9 ∷ 10 ∷ 11 ∷ 12 ∷ 13 ∷ 14 ∷ 15 ∷ [])
unfolding combine
sums_listed a b c d = λ i.
    0 ∷ sym (xor_zero_r a) i ∷ sym (xor_zero_r b) i ∷ two_parts a b i
    ∷ sym (xor_zero_r c) i ∷ two_parts a c i ∷ two_parts b c i ∷ three_parts a b c i
    ∷ sym (xor_zero_r d) i ∷ two_parts a d i ∷ two_parts b d i ∷ three_parts a b d i
    ∷ two_parts c d i ∷ bit_xor a (two_parts c d i) ∷ bit_xor b (two_parts c d i)
    ∷ (xor_assoc a b (bit_xor c d) ∙ ap (bit_xor a) (ap (bit_xor b) (two_parts c d))) i ∷ []
