-- Sums of picked members are additive, and the powers of 2 pick a number's own bits.
use Rattle.std.proofs.Common.{◌≡◌, ℕ, zero, suc, ◌+◌, ◌*◌, ◌/◌, ◌%◌, ◌^◌, ◌<◌, Bool, true, false, cond, refl, sym, ap, ap₂, ◌∙◌, List, [], ◌∷◌, map, arith, eqb, ltb}
use Rattle.std.proofs.lemmas.Nat.{xor_comm, xor_shr, xor_mod, xor_lt, xor_block}
use Rattle.std.specs.Int.Bits.{xor_assoc, xor_self, xor_zero_r}
use Rattle.std.specs.Prelude.{bit_xor}
use Rattle.std.specs.List.{list_all}
use Rattle.std.proofs.lemmas.Bool.{and_parts, ltb-true}
use Rattle.std.proofs.Math.Nat.{two-pow-succ}
use Rattle.gf_cantor.specs.Field.{combine}

-- the second and the third of four change places
pub xor_swap_middle : (p q r s : ℕ) → bit_xor (bit_xor p q) (bit_xor r s) ≡ bit_xor (bit_xor p r) (bit_xor q s)
xor_swap_middle p q r s =
    xor_assoc p q (bit_xor r s)
    ∙ ap (λ (x : ℕ). bit_xor p x) (sym (xor_assoc q r s) ∙ ap (λ (x : ℕ). bit_xor x s) (xor_comm q r) ∙ xor_assoc r q s)
    ∙ sym (xor_assoc p r (bit_xor q s))

-- what was added twice falls out
pub xor_twice : (a b : ℕ) → bit_xor a (bit_xor a b) ≡ b
xor_twice a b = sym (xor_assoc a a b) ∙ ap (λ x. bit_xor x b) (xor_self a)

-- what a sum gives with one part is the other part
pub other_part : (a b c : ℕ) → bit_xor a b ≡ c → b ≡ bit_xor a c
other_part a b c e = sym (xor_twice a b) ∙ ap (bit_xor a) e

-- a doubled sum is the sum of both doubles
pub double_xor : (a b : ℕ) → 2 * bit_xor a b ≡ bit_xor (2 * a) (2 * b)
double_xor a b =
    let left : 2 * a ≡ a * 2 ^ 1 + 0 = omega arith in
    let right : 2 * b ≡ b * 2 ^ 1 + 0 = omega arith in
    let whole : bit_xor a b * 2 ^ 1 + bit_xor 0 0 ≡ 2 * bit_xor a b = omega arith in
    sym (ap₂ bit_xor left right ∙ xor_block 1 a b 0 0 (omega arith) (omega arith) ∙ whole)

-- a bit and a double
pub bit_and_double : (r a : ℕ) → r < 2 → bit_xor r (2 * a) ≡ 2 * a + r
bit_and_double r a h =
    let left : r ≡ 0 * 2 ^ 1 + r = omega arith in
    let right : 2 * a ≡ a * 2 ^ 1 + 0 = omega arith in
    let whole : bit_xor 0 a * 2 ^ 1 + bit_xor r 0 ≡ 2 * a + r = omega (arith, xor_zero_r r) in
    ap₂ bit_xor left right ∙ xor_block 1 0 a r 0 (omega arith) (omega arith) ∙ whole

-- what a sum of two bits picks is the sum of what both pick
pub pick_xor_bits : (r s c : ℕ) → r < 2 → s < 2 → cond (eqb (bit_xor r s) 1) c 0 ≡ bit_xor (cond (eqb r 1) c 0) (cond (eqb s 1) c 0)
pick_xor_bits zero zero c _ _ = refl
pick_xor_bits zero (suc zero) c _ _ = refl
pick_xor_bits (suc zero) zero c _ _ = sym (xor_zero_r c)
pick_xor_bits (suc zero) (suc zero) c _ _ = sym (xor_self c)
pick_xor_bits (suc (suc r)) s c h _ = absurd (omega arith)
pick_xor_bits zero (suc (suc s)) c _ h = absurd (omega arith)
pick_xor_bits (suc zero) (suc (suc s)) c _ h = absurd (omega arith)

-- what the lowest bit of a sum picks is the sum of what both lowest bits pick
pub pick_xor : (a b c : ℕ) → cond (eqb (bit_xor a b % 2) 1) c 0 ≡ bit_xor (cond (eqb (a % 2) 1) c 0) (cond (eqb (b % 2) 1) c 0)
pick_xor a b c =
    ap (λ (x : ℕ). cond (eqb x 1) c 0) (xor_mod a b 1)
    ∙ pick_xor_bits (a % 2) (b % 2) c (omega arith) (omega arith)

-- the xor of the members at the set bits is additive
pub combine-xor : (bs : List ℕ) (a b : ℕ) → combine bs (bit_xor a b) ≡ bit_xor (combine bs a) (combine bs b)
unfolding combine
combine-xor [] a b = refl
combine-xor (c ∷ cs) a b =
    let rest : combine cs (bit_xor a b / 2) ≡ bit_xor (combine cs (a / 2)) (combine cs (b / 2)) =
    ap (combine cs) (xor_shr a b 1) ∙ combine-xor cs (a / 2) (b / 2) in
    ap (λ (x : ℕ). bit_xor (cond (eqb (bit_xor a b % 2) 1) c 0) x) rest
    ∙ ap (λ (x : ℕ). bit_xor x (bit_xor (combine cs (a / 2)) (combine cs (b / 2)))) (pick_xor a b c)
    ∙ xor_swap_middle (cond (eqb (a % 2) 1) c 0) (cond (eqb (b % 2) 1) c 0) (combine cs (a / 2)) (combine cs (b / 2))

-- what a bit picks is below a bound where its member is
pub pick-lt : (n : ℕ) (b : Bool) (p : ℕ) → p < 2 ^ n → 0 < 2 ^ n → cond b p 0 < 2 ^ n
pick-lt n true p h _ = h
pick-lt n false p _ h = h

-- a bit picks 0 of 0
pub pick-zero : (b : Bool) → ◌≡◌ {A = ℕ} (cond b 0 0) 0
pick-zero true = refl
pick-zero false = refl

-- 0 picks nothing
pub combine-zero : (bs : List ℕ) → combine bs 0 ≡ 0
unfolding combine
combine-zero [] = refl
combine-zero (b ∷ bs) = combine-zero bs

-- the xor of members below a power of 2 is below it
pub combine-lt : (n : ℕ) (bs : List ℕ) → list_all (λ b. ltb b (2 ^ n)) bs ≡ true → 0 < 2 ^ n → (a : ℕ) → combine bs a < 2 ^ n
unfolding combine
combine-lt n [] t pos a = pos
combine-lt n (b ∷ bs) t pos a =
    let both = and_parts (ltb b (2 ^ n)) (list_all (λ b. ltb b (2 ^ n)) bs) t in
    xor_lt n (cond (eqb (a % 2) 1) b 0) (combine bs (a / 2)) (pick-lt n (eqb (a % 2) 1) b (ltb-true b (2 ^ n) both.0) pos) (combine-lt n bs both.1 pos (a / 2))

-- a map that is additive
abbrev pub IsAdditive : (ℕ → ℕ) → Type 0
IsAdditive f = (f 0 ≡ 0) × ((a b : ℕ) → f (bit_xor a b) ≡ bit_xor (f a) (f b))

-- what a bit picks is mapped to what it picks
map_pick : (f : ℕ → ℕ) → f 0 ≡ 0 → (t : Bool) (b : ℕ) → f (cond t b 0) ≡ cond t (f b) 0
map_pick f z true b = refl
map_pick f z false b = z

-- an additive map takes a sum of members to the sum of the mapped ones
pub combine-map : (f : ℕ → ℕ) → IsAdditive f → (bs : List ℕ) (a : ℕ) → f (combine bs a) ≡ combine (map f bs) a
unfolding combine
combine-map f h [] a = h.0
combine-map f h (b ∷ bs) a =
    h.1 (cond (eqb (a % 2) 1) b 0) (combine bs (a / 2))
    ∙ ap₂ bit_xor (map_pick f h.0 (eqb (a % 2) 1) b) (combine-map f h bs (a / 2))

-- the first n powers of 2
unfoldable pub powers : ℕ → List ℕ
powers zero = []
powers (suc n) = 1 ∷ map (λ b. 2 * b) (powers n)

-- doubling is additive
double-additive : IsAdditive (λ b. 2 * b)
double-additive = (refl, double_xor)

-- a bit as what it picks of 1
pub bit_picked : (r : ℕ) → r < 2 → cond (eqb r 1) 1 0 ≡ r
bit_picked zero _ = refl
bit_picked (suc zero) _ = refl
bit_picked (suc (suc r)) h = absurd (omega arith)

-- the powers of 2 at a number's set bits are the number
pub combine-powers : (n a : ℕ) → a < 2 ^ n → combine (powers n) a ≡ a
unfolding combine powers
combine-powers zero a h = omega arith
combine-powers (suc n) a h =
    let half : a / 2 < 2 ^ n = omega (arith, two-pow-succ n) in
    ap₂ bit_xor (bit_picked (a % 2) (omega arith))
    (sym (combine-map (λ b. 2 * b) double-additive (powers n) (a / 2)) ∙ ap (λ b. 2 * b) (combine-powers n (a / 2) half))
    ∙ bit_and_double (a % 2) (a / 2) (omega arith)
    ∙ omega arith

-- additive maps that agree at the powers of 2 agree
pub agree_from_powers : (f g : ℕ → ℕ) → IsAdditive f → IsAdditive g → (n : ℕ) → map f (powers n) ≡ map g (powers n)
    → (a : ℕ) → a < 2 ^ n → f a ≡ g a
agree_from_powers f g hf hg n e a h =
    ap f (sym (combine-powers n a h)) ∙ combine-map f hf (powers n) a ∙ ap (λ bs. combine bs a) e
    ∙ sym (combine-map g hg (powers n) a) ∙ ap g (combine-powers n a h)
