-- Lemmas on varints.
use Rattle.std.proofs.Common.{◌≡◌, ◌∙◌, ℕ, zero, suc, ◌+◌, ◌/◌, ◌%◌, ◌^◌, ◌<◌, ◌≤◌, nat_lt, true, false, List, [], ◌∷◌, ◌++◌, length, sym, ap, refl, inl, inr, arith}
use Rattle.std.proofs.lemmas.Bool.{cases_lt}
use Rattle.std.proofs.lemmas.List.{append_assoc}
use Rattle.std.proofs.lemmas.Bool.Decides.{nat_tests}
use Rattle.std.proofs.Math.Nat.{pow-suc}
use Rattle.proto_fields.specs.Varints.{varint_within, varint}

-- a number of one byte
pub varint_within-low : (more n : ℕ) → n < 128 → varint_within (suc more) n ≡ n ∷ []
unfolding varint_within
varint_within-low more n h = let e : nat_lt n 128 ≡ true = grind (arith, nat_tests) in rw e refl

-- a number of more bytes
pub varint_within-high : (more n : ℕ) → 128 ≤ n → varint_within (suc more) n ≡ (n % 128 + 128) ∷ varint_within more (n / 128)
unfolding varint_within
varint_within-high more n h = let e : nat_lt n 128 ≡ false = grind (arith, nat_tests) in rw e refl

-- one byte more is never used, where so many hold the number
pub varint_within-more : (more n : ℕ) → n < 128 ^ suc more → varint_within (suc more) n ≡ varint_within (suc (suc more)) n
varint_within-more zero n h =
    let lt : n < 128 = omega (arith, pow-suc 128 0, h) in
    varint_within-low 0 n lt ∙ sym (varint_within-low 1 n lt)
varint_within-more (suc more) n h =
    elim (cases_lt n 128) [
      | inl lt ↦ varint_within-low (suc more) n lt ∙ sym (varint_within-low (suc (suc more)) n lt)
      | inr le ↦
          let below : n / 128 < 128 ^ suc more = omega (arith, pow-suc 128 (suc more), h) in
          varint_within-high (suc more) n le
          ∙ ap (λ (rest : List ℕ). (n % 128 + 128) ∷ rest) (varint_within-more more (n / 128) below)
          ∙ sym (varint_within-high (suc (suc more)) n le)
    ]

-- the varint of a number below 128 is one byte
pub varint-low : (n : ℕ) → n < 128 → varint n ≡ n ∷ []
varint-low n h = varint_within-low 9 n h

-- the varint of another number is its lowest seven bits, and the others
pub varint-high : (n : ℕ) → 128 ≤ n → n < 2 ^ 64 → varint n ≡ (n % 128 + 128) ∷ varint (n / 128)
varint-high n h lt =
    varint_within-high 9 n h
    ∙ ap (λ (rest : List ℕ). (n % 128 + 128) ∷ rest) (varint_within-more 8 (n / 128) (omega arith))

-- so many bytes at most
pub length-varint_within : (more n : ℕ) → length (varint_within more n) ≤ more
unfolding varint_within
length-varint_within zero n = omega arith
length-varint_within (suc more) n =
    elim (cases_lt n 128) [
      | inl lt ↦ omega (arith, ap length (varint_within-low more n lt))
      | inr le ↦ omega (arith, ap length (varint_within-high more n le), length-varint_within more (n / 128))
    ]

-- a varint has at most ten bytes
pub length-varint : (n : ℕ) → length (varint n) ≤ 10
length-varint n = length-varint_within 10 n

-- and at least one
pub some-varint : (n : ℕ) → 0 < length (varint n)
some-varint n =
    elim (cases_lt n 128) [
      | inl lt ↦ omega (arith, ap length (varint_within-low 9 n lt))
      | inr le ↦ omega (arith, ap length (varint_within-high 9 n le))
    ]

-- the varint of a number below 128 has one byte
pub length-varint-low : (n : ℕ) → n < 128 → length (varint n) ≡ 1
length-varint-low n h = ap length (varint-low n h)

-- the varint of another number has one byte more than that of its higher part
pub length-varint-high : (n : ℕ) → 128 ≤ n → n < 2 ^ 64 → length (varint n) ≡ suc (length (varint (n / 128)))
length-varint-high n h lt = ap length (varint-high n h lt)

-- one byte more is there, and the others are left
pub varint-step : (out new whole : List ℕ) (n : ℕ) → 128 ≤ n → n < 2 ^ 64 → out ++ varint n ≡ whole
    → new ≡ out ++ (n % 128 + 128) ∷ [] → new ++ varint (n / 128) ≡ whole
varint-step out new whole n h lt before e =
    ap (λ (x : List ℕ). x ++ varint (n / 128)) e
    ∙ append_assoc out ((n % 128 + 128) ∷ []) (varint (n / 128))
    ∙ sym (ap (λ (x : List ℕ). out ++ x) (varint-high n h lt))
    ∙ before
