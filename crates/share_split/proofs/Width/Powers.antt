-- Lemmas on the widths of subtrees.
use Rattle.std.proofs.Common.{◌≡◌, ℕ, suc, ◌*◌, ◌^◌, ◌<◌, ◌≤◌, false, inl, inr, arith}
use Rattle.std.specs.Int.{IsPowerOfTwo}
use Rattle.std.proofs.lemmas.Bool.{cases_lt}
use Rattle.std.proofs.lemmas.Bool.Decides.{nat_tests}
use Rattle.std.proofs.lemmas.Nat.{mul-le}
use Rattle.std.proofs.Math.Nat.{pow-suc}
use Rattle.share_split.specs.Widths.{is_wide_enough}

-- a width of 2 ^ 28 is always enough
pub narrow : (count width : ℕ) → count ≤ 2 ^ 56 → is_wide_enough count width ≡ false → width < 2 ^ 28
narrow count width h refused =
    elim (cases_lt width (2 ^ 28)) [
      | inl lt ↦ lt
      | inr le ↦ let square = mul-le (2 ^ 28) (2 ^ 28) width width le le in grind (arith, nat_tests)
    ]

-- twice a power of two is one
pub power-double : (width : ℕ) → IsPowerOfTwo width → IsPowerOfTwo (width * 2)
power-double width p =
    let twice : 2 ^ suc p.0 ≡ 2 ^ p.0 * 2 = pow-suc 2 p.0 in
    (suc p.0, omega (arith, twice, p.1))
