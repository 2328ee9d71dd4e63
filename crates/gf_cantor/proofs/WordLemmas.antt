-- A word is the sum of the halves of its bytes, so a product with it is the sum of four entries of tables.
use Rattle.std.proofs.Common.{◌≡◌, ℕ, ◌+◌, ◌*◌, ◌/◌, ◌%◌, ◌^◌, ◌<◌, ◌≤◌, ◌-◌, true, refl, sym, ap, ap₂, ◌∙◌, cond, get_or, List, arith, ◌==◌}
use Rattle.std.specs.Int.Bits.{xor_zero_r}
use Rattle.std.specs.Prelude.{bit_xor}
use Rattle.std.proofs.lemmas.Bool.{agree_below, agree_below_at, eqb-true, lt-ltb, le-ltb}
use Rattle.std.proofs.lemmas.Nat.{xor_block, xor_shr, xor_mod}
use Rattle.gf_cantor.specs.Field.{product, word_field}
use Rattle.gf_cantor.specs.Words.{place, word}
use Rattle.gf_cantor.specs.Tables.{factor, table_entry}
use Rattle.gf_cantor.proofs.Product.{product-xor}
use Rattle.gf_cantor.proofs.Computed.{word_labels}

-- each byte is the sum of its halves, and 256 times each byte as well
halves_test : agree_below (λ y. bit_xor (y % 16) (16 * (y / 16)) == y) (λ x. true) 256 ≡ true
halves_test = refl

high_test : agree_below (λ y. bit_xor (256 * (y % 16)) (4096 * (y / 16)) == 256 * y) (λ x. true) 256 ≡ true
high_test = refl

-- both bytes make the word
pub both_bytes : (x y : ℕ) → x < 256 → bit_xor x (256 * y) ≡ x + 256 * y
both_bytes x y h =
    let left : x ≡ 0 * 2 ^ 8 + x = omega arith in
    let right : 256 * y ≡ y * 2 ^ 8 + 0 = omega arith in
    let whole : bit_xor 0 y * 2 ^ 8 + bit_xor x 0 ≡ x + 256 * y = omega (arith, xor_zero_r x) in
    ap₂ bit_xor left right ∙ xor_block 8 0 y x 0 (omega arith) (omega arith) ∙ whole

-- the four halves make the word
quarters : (x y : ℕ) → x < 256 → y < 256
    → bit_xor (bit_xor (x % 16) (16 * (x / 16))) (bit_xor (256 * (y % 16)) (4096 * (y / 16))) ≡ x + 256 * y
quarters x y hx hy =
    ap₂ bit_xor
    (eqb-true _ _ (agree_below_at (λ y. bit_xor (y % 16) (16 * (y / 16)) == y) (λ x. true) 256 x halves_test hx))
    (eqb-true _ _ (agree_below_at (λ y. bit_xor (256 * (y % 16)) (4096 * (y / 16)) == 256 * y) (λ x. true) 256 y high_test hy))
    ∙ both_bytes x y hx

-- the products with the four halves make the product
product-quarters : (by x y : ℕ) → x < 256 → y < 256
    → bit_xor (bit_xor (product word_field by (x % 16)) (product word_field by (16 * (x / 16))))
    (bit_xor (product word_field by (256 * (y % 16))) (product word_field by (4096 * (y / 16)))) ≡ product word_field by (x + 256 * y)
product-quarters by x y hx hy =
    ap₂ bit_xor (sym (product-xor word_field word_labels by (x % 16) (16 * (x / 16)))) (sym (product-xor word_field word_labels by (256 * (y % 16)) (4096 * (y / 16))))
    ∙ sym (product-xor word_field word_labels by (bit_xor (x % 16) (16 * (x / 16))) (bit_xor (256 * (y % 16)) (4096 * (y / 16))))
    ∙ ap (product word_field by) (quarters x y hx hy)

-- the factors of entries
factor-is : (i n q : ℕ) → i ≡ 16 * q + n → n < 16 → factor i ≡ n * 16 ^ q
unfolding factor
factor-is i n q e h =
    let low : i % 16 ≡ n = omega arith in
    let high : i / 16 ≡ q = omega arith in
    ap₂ (λ a b. a * 16 ^ b) low high

-- an entry of the lower bytes
low-entry : (i by w : ℕ) → i < 64 → factor i ≡ w → table_entry i by ≡ product word_field by w % 256
unfolding table_entry
low-entry i by w h e =
    ap (λ t. cond t (product word_field by (factor i) % 256) (product word_field by (factor (i - 64)) / 256)) (lt-ltb i 64 h) ∙ ap (λ v. product word_field by v % 256) e

-- an entry of the higher bytes
high-entry : (i by w : ℕ) → 64 ≤ i → factor (i - 64) ≡ w → table_entry i by ≡ product word_field by w / 256
unfolding table_entry
high-entry i by w h e =
    ap (λ t. cond t (product word_field by (factor i) % 256) (product word_field by (factor (i - 64)) / 256)) (le-ltb i 64 h) ∙ ap (λ v. product word_field by v / 256) e

-- tables of a factor
abbrev pub AreTables : List ℕ → ℕ → Type 0
AreTables tables by = (i : ℕ) → i < 128 → get_or tables i 0 ≡ table_entry i by

-- the sum of the four entries of the lower bytes is the lower byte of the product
pub low-looked_up : (tables : List ℕ) (by x y i1 i2 i3 i4 : ℕ) → AreTables tables by → x < 256 → y < 256
    → i1 ≡ 0 + x % 16 → i2 ≡ 16 + x / 16 → i3 ≡ 32 + y % 16 → i4 ≡ 48 + y / 16
    → bit_xor (bit_xor (get_or tables i1 0) (get_or tables i2 0)) (bit_xor (get_or tables i3 0) (get_or tables i4 0))
    ≡ product word_field by (x + 256 * y) % 256
low-looked_up tables by x y i1 i2 i3 i4 h hx hy e1 e2 e3 e4 =
    let f1 : factor (i1) ≡ x % 16 = factor-is (i1) (x % 16) 0 (omega arith) (omega arith) ∙ omega arith in
    let f2 : factor (i2) ≡ 16 * (x / 16) = factor-is (i2) (x / 16) 1 (omega arith) (omega arith) ∙ omega arith in
    let f3 : factor (i3) ≡ 256 * (y % 16) = factor-is (i3) (y % 16) 2 (omega arith) (omega arith) ∙ omega arith in
    let f4 : factor (i4) ≡ 4096 * (y / 16) = factor-is (i4) (y / 16) 3 (omega arith) (omega arith) ∙ omega arith in
    ap₂ bit_xor
    (ap₂ bit_xor (h i1 (omega arith) ∙ low-entry i1 by _ (omega arith) f1) (h i2 (omega arith) ∙ low-entry i2 by _ (omega arith) f2) ∙ sym (xor_mod (product word_field by (x % 16)) (product word_field by (16 * (x / 16))) 8))
    (ap₂ bit_xor (h i3 (omega arith) ∙ low-entry i3 by _ (omega arith) f3) (h i4 (omega arith) ∙ low-entry i4 by _ (omega arith) f4) ∙ sym (xor_mod (product word_field by (256 * (y % 16))) (product word_field by (4096 * (y / 16))) 8))
    ∙ sym (xor_mod (bit_xor (product word_field by (x % 16)) (product word_field by (16 * (x / 16)))) (bit_xor (product word_field by (256 * (y % 16))) (product word_field by (4096 * (y / 16)))) 8)
    ∙ ap (λ v. v % 256) (product-quarters by x y hx hy)

-- and of the higher ones the higher byte
pub high-looked_up : (tables : List ℕ) (by x y i1 i2 i3 i4 : ℕ) → AreTables tables by → x < 256 → y < 256
    → i1 ≡ 64 + x % 16 → i2 ≡ 80 + x / 16 → i3 ≡ 96 + y % 16 → i4 ≡ 112 + y / 16
    → bit_xor (bit_xor (get_or tables i1 0) (get_or tables i2 0)) (bit_xor (get_or tables i3 0) (get_or tables i4 0))
    ≡ product word_field by (x + 256 * y) / 256
high-looked_up tables by x y i1 i2 i3 i4 h hx hy e1 e2 e3 e4 =
    let f1 : factor (i1 - 64) ≡ x % 16 = factor-is (i1 - 64) (x % 16) 0 (omega arith) (omega arith) ∙ omega arith in
    let f2 : factor (i2 - 64) ≡ 16 * (x / 16) = factor-is (i2 - 64) (x / 16) 1 (omega arith) (omega arith) ∙ omega arith in
    let f3 : factor (i3 - 64) ≡ 256 * (y % 16) = factor-is (i3 - 64) (y % 16) 2 (omega arith) (omega arith) ∙ omega arith in
    let f4 : factor (i4 - 64) ≡ 4096 * (y / 16) = factor-is (i4 - 64) (y / 16) 3 (omega arith) (omega arith) ∙ omega arith in
    ap₂ bit_xor
    (ap₂ bit_xor (h i1 (omega arith) ∙ high-entry i1 by _ (omega arith) f1) (h i2 (omega arith) ∙ high-entry i2 by _ (omega arith) f2) ∙ sym (xor_shr (product word_field by (x % 16)) (product word_field by (16 * (x / 16))) 8))
    (ap₂ bit_xor (h i3 (omega arith) ∙ high-entry i3 by _ (omega arith) f3) (h i4 (omega arith) ∙ high-entry i4 by _ (omega arith) f4) ∙ sym (xor_shr (product word_field by (256 * (y % 16))) (product word_field by (4096 * (y / 16))) 8))
    ∙ sym (xor_shr (bit_xor (product word_field by (x % 16)) (product word_field by (16 * (x / 16)))) (bit_xor (product word_field by (256 * (y % 16))) (product word_field by (4096 * (y / 16)))) 8)
    ∙ ap (λ v. v / 256) (product-quarters by x y hx hy)

-- the lower bytes and the higher bytes of two words make those of their sum
pub word_added : (x y p : ℕ) → x < 256 → bit_xor x (p % 256) + 256 * bit_xor y (p / 256) ≡ bit_xor (x + 256 * y) p
word_added x y p h =
    let left : x + 256 * y ≡ y * 2 ^ 8 + x = omega arith in
    let right : p ≡ p / 256 * 2 ^ 8 + p % 256 = omega arith in
    let whole : bit_xor x (p % 256) + 256 * bit_xor y (p / 256) ≡ bit_xor y (p / 256) * 2 ^ 8 + bit_xor x (p % 256) = omega arith in
    whole ∙ sym (ap₂ bit_xor left right ∙ xor_block 8 y (p / 256) x (p % 256) h (omega arith))

-- the word of a share at a place has gained a product
pub record IsAdded (by : ℕ) (old new row : List ℕ) (i : ℕ) : Type 0 where
  pub low : get_or new (place i) 0 ≡ bit_xor (get_or old (place i) 0) (product word_field by (word row i) % 256)
  pub high : get_or new (place i + 32) 0 ≡ bit_xor (get_or old (place i + 32) 0) (product word_field by (word row i) / 256)

-- the same by the places of a block
pub added_from : (by : ℕ) (old now new row : List ℕ) (b k : ℕ) → k < 32
    → get_or new (64 * b + k) 0 ≡ bit_xor (get_or now (64 * b + k) 0) (product word_field by (get_or row (64 * b + k) 0 + 256 * get_or row (64 * b + 32 + k) 0) % 256)
    → get_or new (64 * b + 32 + k) 0 ≡ bit_xor (get_or now (64 * b + 32 + k) 0) (product word_field by (get_or row (64 * b + k) 0 + 256 * get_or row (64 * b + 32 + k) 0) / 256)
    → get_or now (64 * b + k) 0 ≡ get_or old (64 * b + k) 0 → get_or now (64 * b + 32 + k) 0 ≡ get_or old (64 * b + 32 + k) 0
    → IsAdded by old new row (32 * b + k)
unfolding word
added_from by old now new row b k l low high same_low same_high =
    let e : place (32 * b + k) ≡ 64 * b + k = omega arith in
    let e2 : place (32 * b + k) + 32 ≡ 64 * b + 32 + k = omega arith in
    let here : get_or row (64 * b + k) 0 + 256 * get_or row (64 * b + 32 + k) 0 ≡ word row (32 * b + k) =
    ap₂ (λ i j. get_or row i 0 + 256 * get_or row j 0) (sym e) (sym e2) in
    record {
      low = ap (λ j. get_or new j 0) e ∙ low
          ∙ ap₂ bit_xor (same_low ∙ ap (λ j. get_or old j 0) (sym e)) (ap (λ v. product word_field by v % 256) here);
      high = ap (λ j. get_or new j 0) e2 ∙ high
          ∙ ap₂ bit_xor (same_high ∙ ap (λ j. get_or old j 0) (sym e2)) (ap (λ v. product word_field by v / 256) here);
    }

-- a word that isn't touched keeps its product
pub added_before : (by : ℕ) (old now new row : List ℕ) (i : ℕ)
    → get_or new (place i) 0 ≡ get_or now (place i) 0 → get_or new (place i + 32) 0 ≡ get_or now (place i + 32) 0
    → IsAdded by old now row i → IsAdded by old new row i
added_before by old now new row i low high h = record { low = low ∙ h.low; high = high ∙ h.high }

-- both bytes together
pub word_gains : (by : ℕ) (old new row : List ℕ) (i : ℕ) → get_or old (place i) 0 < 256 → IsAdded by old new row i
    → word new i ≡ bit_xor (word old i) (product word_field by (word row i))
unfolding word
word_gains by old new row i l h =
    ap₂ (λ x y. x + 256 * y) h.low h.high ∙ word_added (get_or old (place i) 0) (get_or old (place i + 32) 0) (product word_field by (word row i)) l
