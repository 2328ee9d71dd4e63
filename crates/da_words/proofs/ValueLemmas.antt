-- Words that are numbers.
use Rattle.std.proofs.Common.{◌≡◌, ◌∙◌, ℕ, ◌+◌, ◌-◌, ◌*◌, ◌<◌, ◌≤◌, Bool, true, false, cond, ◌&&◌, List, [], ◌∷◌, Some, None, ap, arith}
use Rattle.std.specs.Prelude.{nat_le}
use Rattle.std.specs.declared.option.Option.{Option}
use Rattle.std.specs.List.{fold, list_all}
use Rattle.std.proofs.lemmas.Bool.Decides.{nat_tests}
use Rattle.std.proofs.Math.Bool.{and-false}
use Rattle.da_words.specs.Values.{is_digit}

-- the number with one digit more
abbrev with_digit : ℕ → ℕ → ℕ
with_digit value digit = 10 * value + (digit - 48)

-- a number where a test holds
abbrev pub is_tested : Bool → ℕ → Option ℕ
is_tested b number = cond b (Some number) None

-- the number that bytes make behind those that made a number
abbrev pub digits_from : ℕ → ℕ → List ℕ → Option ℕ
digits_from most value digits =
    is_tested (list_all is_digit digits && nat_le (fold with_digit value digits) most) (fold with_digit value digits)

-- more digits make no smaller number
value_grows : (digits : List ℕ) (value : ℕ) → value ≤ fold with_digit value digits
value_grows [] value = omega arith
value_grows (digit ∷ digits) value = omega (arith, value_grows digits (with_digit value digit))

-- a number is above another
not_within : (a b : ℕ) → b < a → nat_le a b ≡ false
not_within a b h = grind (arith, nat_tests)

-- what is above the greatest number stays so
pub too_large : (most value : ℕ) (digits : List ℕ) → most < value → digits_from most value digits ≡ None
too_large most value digits above =
    let over : nat_le (fold with_digit value digits) most ≡ false =
    not_within (fold with_digit value digits) most (omega (arith, above, value_grows digits value)) in
    ap (λ (b : Bool). is_tested (list_all is_digit digits && b) (fold with_digit value digits)) over
    ∙ ap (λ (b : Bool). is_tested b (fold with_digit value digits)) (and-false (list_all is_digit digits))

-- the number by whether the next byte is a digit
abbrev by_first : Bool → ℕ → ℕ → ℕ → List ℕ → Option ℕ
by_first b most value digit after =
    is_tested ((b && list_all is_digit after) && nat_le (fold with_digit value (digit ∷ after)) most)
    (fold with_digit value (digit ∷ after))

-- the next byte is a digit
pub next_digit : (most value digit : ℕ) (rest after : List ℕ) → rest ≡ digit ∷ after → is_digit digit ≡ true
    → digits_from most value rest ≡ digits_from most (with_digit value digit) after
next_digit most value digit rest after next is =
    ap (digits_from most value) next
    ∙ ap (λ (b : Bool). by_first b most value digit after) is
