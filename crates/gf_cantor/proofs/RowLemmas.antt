-- The tables of a factor are the sums of the rows at its set bits, since a product is additive in a factor.
use Rattle.std.proofs.Common.{◌≡◌, ℕ, suc, ◌+◌, ◌-◌, ◌/◌, ◌%◌, ◌^◌, ◌<◌, ◌≤◌, Bool, true, false, cond, eqb, sym, ap, ◌∙◌, ltb, List, [], ◌∷◌, map, get_or, drop, arith}
use Rattle.std.specs.Int.Bits.{xor_assoc, xor_zero_r}
use Rattle.std.specs.Prelude.{bit_xor}
use Rattle.std.proofs.lemmas.Nat.{xor_shr, xor_mod}
use Rattle.std.proofs.lemmas.List.{get_or-map}
use Rattle.std.proofs.Math.Seq.{drop-cons}
use Rattle.gf_cantor.specs.declared.word_rows.TheConstants.{ROWS}
use Rattle.gf_cantor.specs.Field.{combine, product, word_field}
use Rattle.gf_cantor.proofs.Linear.{IsAdditive, powers, combine-powers, combine-map}
use Rattle.gf_cantor.proofs.Product.{zero-product, xor-product}
use Rattle.gf_cantor.proofs.Computed.{word_labels}
use Rattle.gf_cantor.specs.Tables.{factor, table_entry}
use Rattle.gf_cantor.proofs.RowFacts.{row-entry}

-- the entries at one place of all rows
unfoldable pub entries : ℕ → List ℕ
entries i = map (λ r. get_or r i 0) ROWS

-- an entry is additive in the factor
table_entry-additive : (i : ℕ) → IsAdditive (table_entry i)
unfolding table_entry
table_entry-additive i = go (ltb i 64)
  where
    low : (c a b : ℕ) → product word_field (bit_xor a b) c % 256 ≡ bit_xor (product word_field a c % 256) (product word_field b c % 256)
    low c a b = ap (λ x. x % 256) (xor-product word_field word_labels a b c) ∙ xor_mod (product word_field a c) (product word_field b c) 8

    high : (c a b : ℕ) → product word_field (bit_xor a b) c / 256 ≡ bit_xor (product word_field a c / 256) (product word_field b c / 256)
    high c a b = ap (λ x. x / 256) (xor-product word_field word_labels a b c) ∙ xor_shr (product word_field a c) (product word_field b c) 8

    go : (t : Bool) → IsAdditive (λ by. cond t (product word_field by (factor i) % 256) (product word_field by (factor (i - 64)) / 256))
    go true = (ap (λ x. x % 256) (zero-product word_field word_labels (factor i)), low (factor i))
    go false = (ap (λ x. x / 256) (zero-product word_field word_labels (factor (i - 64))), high (factor (i - 64)))

-- the rows have those of the powers of 2
entries_are : (i : ℕ) → i < 128 → entries i ≡ map (table_entry i) (powers 16)
unfolding entries powers
entries_are i h = λ p.
    row-entry 0 i (omega arith) h p ∷ row-entry 1 i (omega arith) h p ∷ row-entry 2 i (omega arith) h p ∷ row-entry 3 i (omega arith) h p
    ∷ row-entry 4 i (omega arith) h p ∷ row-entry 5 i (omega arith) h p ∷ row-entry 6 i (omega arith) h p ∷ row-entry 7 i (omega arith) h p
    ∷ row-entry 8 i (omega arith) h p ∷ row-entry 9 i (omega arith) h p ∷ row-entry 10 i (omega arith) h p ∷ row-entry 11 i (omega arith) h p
    ∷ row-entry 12 i (omega arith) h p ∷ row-entry 13 i (omega arith) h p ∷ row-entry 14 i (omega arith) h p ∷ row-entry 15 i (omega arith) h p ∷ []

-- so the sum of the entries at a factor's set bits is that of the factor
pub combine-entries : (i by : ℕ) → i < 128 → by < 2 ^ 16 → combine (entries i) by ≡ table_entry i by
combine-entries i by h l =
    ap (λ es. combine es by) (entries_are i h)
    ∙ sym (combine-map (table_entry i) (table_entry-additive i) (powers 16) by)
    ∙ ap (table_entry i) (combine-powers 16 by l)

-- one row more
pub combine-drop : (i j n : ℕ) → j < 16
    → combine (drop j (entries i)) n ≡ bit_xor (cond (eqb (n % 2) 1) (get_or (get_or ROWS j []) i 0) 0) (combine (drop (suc j) (entries i)) (n / 2))
unfolding combine entries
combine-drop i j n h =
    ap (λ es. combine es n) (drop-cons (entries i) j 0 (omega arith))
    ∙ ap (λ e. bit_xor (cond (eqb (n % 2) 1) e 0) (combine (drop (suc j) (entries i)) (n / 2))) (get_or-map (λ r. get_or r i 0) ROWS j [] 0 (omega arith))

-- the entry of a row is added where the bit is set
pub row_taken : (i j n sum whole : ℕ) → j < 16 → n % 2 ≡ 1
    → bit_xor sum (combine (drop j (entries i)) n) ≡ whole
    → bit_xor (bit_xor sum (get_or (get_or ROWS j []) i 0)) (combine (drop (j + 1) (entries i)) (n / 2)) ≡ whole
row_taken i j n sum whole h one e =
    let next : suc j ≡ j + 1 = omega arith in
    let row : ℕ = get_or (get_or ROWS j []) i 0 in
    ap (λ k. bit_xor (bit_xor sum row) (combine (drop k (entries i)) (n / 2))) (sym next)
    ∙ xor_assoc sum row (combine (drop (suc j) (entries i)) (n / 2))
    ∙ ap (bit_xor sum) (ap (λ b. bit_xor (cond (eqb b 1) row 0) (combine (drop (suc j) (entries i)) (n / 2))) (sym one) ∙ sym (combine-drop i j n h))
    ∙ e

-- and is passed over where it isn't
pub row_passed : (i j n sum whole : ℕ) → j < 16 → n % 2 ≡ 0
    → bit_xor sum (combine (drop j (entries i)) n) ≡ whole
    → bit_xor sum (combine (drop (j + 1) (entries i)) (n / 2)) ≡ whole
row_passed i j n sum whole h none e =
    let next : suc j ≡ j + 1 = omega arith in
    let row : ℕ = get_or (get_or ROWS j []) i 0 in
    ap (λ k. bit_xor sum (combine (drop k (entries i)) (n / 2))) (sym next)
    ∙ ap (bit_xor sum) (ap (λ b. bit_xor (cond (eqb b 1) row 0) (combine (drop (suc j) (entries i)) (n / 2))) (sym none) ∙ sym (combine-drop i j n h))
    ∙ e

-- no row is left
pub rows_done : (i j n sum by : ℕ) → i < 128 → by < 2 ^ 16 → 16 ≤ j → j ≤ 16
    → bit_xor sum (combine (drop j (entries i)) n) ≡ combine (entries i) by → sum ≡ table_entry i by
unfolding combine entries
rows_done i j n sum by h l least most e =
    let end : j ≡ 16 = omega arith in
    sym (xor_zero_r sum) ∙ ap (λ k. bit_xor sum (combine (drop k (entries i)) n)) (sym end) ∙ e ∙ combine-entries i by h l
