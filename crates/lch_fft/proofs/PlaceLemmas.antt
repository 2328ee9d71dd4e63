-- Blocks of points, and halves of lists.
use Rattle.std.proofs.Common.{◌≡◌, ◌∙◌, ℕ, suc, ◌+◌, ◌*◌, ◌/◌, ◌^◌, ◌<◌, List, length, take, drop, sym, ap, arith}
use Rattle.std.specs.Prelude.{bit_xor}
use Rattle.std.specs.Int.Bits.{xor_zero_r}
use Rattle.std.proofs.lemmas.Nat.{xor_block, div-mul-add, pow_pos}
use Rattle.std.proofs.lemmas.List.{length-take, length-drop}
use Rattle.std.proofs.Math.Nat.{mul-add, add-mul, one-mul}

-- twice a power of two is the next one
pub double : (b : ℕ) → 2 ^ suc b ≡ 2 ^ b + 2 ^ b
double b = omega arith

-- the front half of a list
pub half_front : (b : ℕ) (d : List ℕ) → length d ≡ 2 ^ suc b → length (take (2 ^ b) d) ≡ 2 ^ b
half_front b d h = length-take (2 ^ b) d ∙ omega (arith, h, double b)

-- the back half of a list
pub half_back : (b : ℕ) (d : List ℕ) → length d ≡ 2 ^ suc b → length (drop (2 ^ b) d) ≡ 2 ^ b
half_back b d h = length-drop (2 ^ b) d ∙ omega (arith, h, double b)

-- all points of a block that begins at a multiple of its length are this multiple
pub block : (b m s i : ℕ) → s ≡ m * 2 ^ b → i < 2 ^ b → (s + i) / 2 ^ b ≡ m
block b m s i e lt = ap (λ (t : ℕ). (t + i) / 2 ^ b) e ∙ div-mul-add m (2 ^ b) i lt

-- also its first
pub block_first : (b m s : ℕ) → s ≡ m * 2 ^ b → s / 2 ^ b ≡ m
block_first b m s e =
    let first : s ≡ s + 0 = omega arith in
    ap (λ (t : ℕ). t / 2 ^ b) first ∙ block b m s 0 e (pow_pos b)

-- a block begins at an even multiple of half its length
pub block_low : (b m s : ℕ) → s ≡ m * 2 ^ suc b → s ≡ (m + m) * 2 ^ b
block_low b m s e = e ∙ ap (λ (t : ℕ). m * t) (double b) ∙ mul-add m (2 ^ b) (2 ^ b) ∙ sym (add-mul m m (2 ^ b))

-- and its upper half at the next one
pub block_high : (b m s : ℕ) → s ≡ m * 2 ^ suc b → s + 2 ^ b ≡ (m + m + 1) * 2 ^ b
block_high b m s e =
    ap (λ (t : ℕ). t + 2 ^ b) (block_low b m s e)
    ∙ ap (λ (t : ℕ). (m + m) * 2 ^ b + t) (sym (one-mul (2 ^ b)))
    ∙ sym (add-mul (m + m) 1 (2 ^ b))

-- the sum of an even number and 1 is the next number
pub even_one : (m : ℕ) → m + m + 1 ≡ bit_xor (m + m) 1
even_one m =
    let even : m + m ≡ m * 2 ^ 1 + 0 = omega arith in
    let odd : m * 2 ^ 1 + 1 ≡ m + m + 1 = omega arith in
    sym (ap (λ (t : ℕ). bit_xor t 1) even
    ∙ xor_block 1 m 0 0 1 (omega arith) (omega arith)
    ∙ ap (λ (t : ℕ). t * 2 ^ 1 + 1) (xor_zero_r m)
    ∙ odd)
