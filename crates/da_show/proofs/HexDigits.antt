-- Digits stand in a JSON string as they are.
use Rattle.std.proofs.Common.{◌≡◌, ℕ, suc, ◌<◌, true, List, [], ◌∷◌, ◌++◌, ◌∙◌, refl, sym, ap, ap₂, arith}
use Rattle.std.specs.Prelude.{◌/◌, ◌%◌, slice_index}
use Rattle.std.specs.Str.{bytes_eq}
use Rattle.std.proofs.lemmas.Slice.Eq.{bytes_eq-Decides}
use Rattle.json.specs.Print.{escape_byte, escape}
use Rattle.hex.specs.Hex.{lower_digits, encode_with, encode_lower}
use Rattle.namespace_id.specs.Bytes.{AreBytes}
use Rattle.da_show.specs.JsonTexts.{in_quotes, quoted_hex}
use Rattle.namespace_id.proofs.TestLemmas.{passes_below, passes_below-at}

-- each of the sixteen digits
digit_test : passes_below 16 (λ n. bytes_eq (escape_byte (slice_index lower_digits n)) (slice_index lower_digits n ∷ [])) ≡ true
unfolding passes_below escape_byte
digit_test = refl

-- a digit
digit_plain : (n : ℕ) → n < 16 → escape_byte (slice_index lower_digits n) ≡ slice_index lower_digits n ∷ []
digit_plain n h =
    (bytes_eq-Decides (escape_byte (slice_index lower_digits n)) (slice_index lower_digits n ∷ [])).0
    (passes_below-at 16 (λ a. bytes_eq (escape_byte (slice_index lower_digits a)) (slice_index lower_digits a ∷ [])) digit_test n h)

-- the digits of bytes
pub digits_plain : (bytes : List ℕ) → AreBytes bytes → escape (encode_lower bytes) ≡ encode_lower bytes
unfolding encode_with
digits_plain [] fits = refl
digits_plain (b ∷ bytes) fits =
    let byte : b < 256 = fits 0 in
    let high : b / 16 < 16 = omega arith in
    let low : b % 16 < 16 = omega arith in
    ap₂ (λ (x y : List ℕ). x ++ y) (digit_plain (b / 16) high)
    (ap₂ (λ (x y : List ℕ). x ++ y) (digit_plain (b % 16) low) (digits_plain bytes (λ i. fits (suc i))))

-- the digits of bytes in quotes
pub quotes_are : (bytes digits : List ℕ) → AreBytes bytes → digits ≡ encode_lower bytes → in_quotes digits ≡ quoted_hex bytes
unfolding in_quotes quoted_hex
quotes_are bytes digits fits e = ap (λ (l : List ℕ). 34 ∷ (l ++ 34 ∷ [])) (e ∙ sym (digits_plain bytes fits))
