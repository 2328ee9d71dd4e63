-- Which texts have the letter c, as `rejected` and `clash` do.
use Rattle.std.proofs.Common.{◌≡◌, ◌∙◌, ℕ, zero, suc, ◌+◌, mod-lt, ne_eqb, lt-ltb, lit<, ◌/◌, ◌%◌, ◌<◌, Bool, true, false, cond, List, [], ◌∷◌, ◌++◌, refl, sym, ap, ap₂, arith}
use Rattle.std.specs.Prelude.{◌==◌, ◌||◌, decimal, nat_lt}
use Rattle.std.specs.List.{list_any}
use Rattle.std.specs.Str.Iter.{HasSubslice}
use Rattle.std.specs.Fmt.{digits, digits_onto, digit_glyph}
use Rattle.std.proofs.lemmas.List.Folds.{list_any-append}

-- whether a text has the letter c
abbrev pub has_c : List ℕ → Bool
has_c text = list_any (λ byte. byte == 99) text

-- two texts without it are one without it
pub without_c : (front back : List ℕ) → has_c front ≡ false → has_c back ≡ false → has_c (front ++ back) ≡ false
without_c front back one other = list_any-append (λ byte. byte == 99) front back ∙ ap₂ (λ (a b : Bool). a || b) one other

-- a digit isn't it
glyph_plain : (d : ℕ) → d < 10 → (digit_glyph false d == 99) ≡ false
glyph_plain d h = ne_eqb _ 99 (λ e. by (nat_lt d 10) (lt-ltb d 10 h) e)
  where
    by : (b : Bool) → b ≡ true → cond b (48 + d) (87 + d) ≡ 99 → ⊥
    by true t e = omega arith
    by false t e = cc

-- digits in front of a text without it are one without it
onto_plain : (k n : ℕ) (rest : List ℕ) → has_c rest ≡ false → has_c (digits_onto k 10 false n rest) ≡ false
onto_plain zero n rest none = none
onto_plain (suc k) n rest none =
    let more : has_c (digit_glyph false (n % 10) ∷ rest) ≡ false = ap₂ (λ (a b : Bool). a || b) (glyph_plain (n % 10) (mod-lt n {m = 10} (lit< tt))) none in
    either (n / 10 == 0) _ _ more (onto_plain k (n / 10) _ more)
  where
    either : (b : Bool) (xs ys : List ℕ) → has_c xs ≡ false → has_c ys ≡ false → has_c (cond b xs ys) ≡ false
    either true xs ys p q = p
    either false xs ys p q = q

-- a number has no letter
pub decimal_plain : (n : ℕ) → has_c (decimal n) ≡ false
unfolding digits
decimal_plain n = onto_plain 64 n [] refl

-- text around one with it has it
pub c_around : (front part back : List ℕ) → has_c part ≡ true → has_c (front ++ (part ++ back)) ≡ true
c_around front part back some =
    list_any-append (λ byte. byte == 99) front (part ++ back)
    ∙ ap (λ (b : Bool). has_c front || b) (list_any-append (λ byte. byte == 99) part back ∙ ap (λ (b : Bool). b || has_c back) some)
    ∙ or_true (has_c front)
  where
    or_true : (b : Bool) → (b || true) ≡ true
    or_true true = refl
    or_true false = refl

-- a text within one without it has none
pub c_within : (text part : List ℕ) → HasSubslice text part → has_c part ≡ true → has_c text ≡ false → ⊥
c_within text part (front, back, is) some none =
    let there : has_c text ≡ true = ap has_c is ∙ c_around front part back some in
    let both : true ≡ false = sym there ∙ none in cc
