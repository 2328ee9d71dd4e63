-- The subtrees of a range, row by row.
use Rattle.std.proofs.Common.{◌≡◌, ◌⊎◌, ◌∙◌, ℕ, zero, suc, ◌+◌, ◌-◌, ◌*◌, ◌/◌, ◌%◌, ◌^◌, ◌<◌, ◌≤◌, List, [], ◌∷◌, ◌++◌, drop, take, map, replicate, IsTrue, refl, sym, ap, ap₂, subst, inl, inr, arith}
use Rattle.std.proofs.lemmas.Bool.{cases_lt}
use Rattle.std.proofs.lemmas.List.{append_assoc, append-nil, replicate-append-replicate, drop-drop}
use Rattle.std.proofs.lemmas.Nat.{div-add-mod', pow_pos}
use Rattle.std.proofs.Math.Nat.{mod-lt, mod-eq_of_lt, mul_comm, mul_assoc, add-mul-div_left, mul-le-mul_right, add-mod_right}
use Rattle.namespace_id.specs.declared.shares.Share.{Share}
use Rattle.namespace_id.specs.declared.digests.Digest.{Digest}
use Rattle.namespace_id.specs.Shares.{name_in}
use Rattle.nmt_tree.specs.Roots.{is_leaf_count, halvings, root}
use Rattle.nmt_tree.proofs.CountLemmas.{leaf_count_power}
use Rattle.nmt_proofs.specs.Places.{AreAligned}
use Rattle.nmt_proofs.proofs.Agreement.PutLemmas.{left_aligned}
use Rattle.blob_commit.specs.Bounds.{most_halvings, most_levels}
use Rattle.blob_commit.specs.Cuts.{cut_by}
use Rattle.blob_commit.specs.Commitments.{subtree_roots}
use Rattle.blob_commit.proofs.CutLemmas.{total}

-- ---- numbers

pub add_times : (a b m : ℕ) → (a + b) * m ≡ a * m + b * m
add_times a b m = omega arith

-- multiples of a number leave the rest as it is
pub mod_more : (b z q : ℕ) → 0 < z → (b + z * q) % z ≡ b % z
mod_more b z q some =
    let whole = div-add-mod' (b + z * q) z in
    let part = div-add-mod' b z in
    let times : (b + z * q) / z * z ≡ (b / z) * z + q * z = ap (λ (n : ℕ). n * z) (add-mul-div_left b q some) ∙ add_times (b / z) q z in
    omega (arith, whole, part, times, mul_comm z q)

-- a multiple as one
pub as_multiple : (a z : ℕ) → a % z ≡ 0 → a ≡ z * (a / z)
as_multiple a z h = omega (arith, div-add-mod' a z, h, mul_comm z (a / z))

regroup : (q z c : ℕ) → q * (z * c) ≡ z * (c * q)
regroup q z c = ap (λ (n : ℕ). q * n) (mul_comm z c) ∙ sym (mul_assoc q c z) ∙ ap (λ (n : ℕ). n * z) (mul_comm q c) ∙ mul_comm (c * q) z

-- a place in its row is a multiple where it and the width are
pub mod_row : (at k z : ℕ) → 0 < z → at % z ≡ 0 → k % z ≡ 0 → at % k % z ≡ 0
mod_row at k z some ea ek =
    let r : ℕ = at % k in
    let q : ℕ = at / k in
    let c : ℕ = k / z in
    let rows : at ≡ r + z * (c * q) = omega (arith, div-add-mod' at k, ap (λ (n : ℕ). q * n) (as_multiple k z ek), regroup q z c) in
    sym (mod_more r z (c * q) some) ∙ ap (λ (n : ℕ). n % z) (sym rows) ∙ ea

-- ---- sizes

pub none_fits : (z : ℕ) → 0 < z → 0 / z * z ≡ 0 → 0 / z ≡ 0
none_fits z some h = elim (cases_lt (0 / z) 1) [
  | inl lt ↦ omega (arith, lt)
  | inr ge ↦ let up : 1 * z ≤ 0 / z * z = mul-le-mul_right z ge in absurd (omega (arith, up, h, some))
]

-- nothing is cut into nothing
pub cut_zero : (l : ℕ) → cut_by l 0 ≡ []
unfolding cut_by
cut_zero zero = refl
cut_zero (suc l) =
    let z : ℕ = 2 ^ l in
    let some : 0 < z = pow_pos l in
    let rest : 0 % z ≡ 0 = mod-eq_of_lt some in
    let none : 0 / z ≡ 0 = none_fits z some (omega (arith, div-add-mod' 0 z, rest)) in
    ap₂ (λ (q r : ℕ). replicate q z ++ cut_by l r) none rest ∙ cut_zero l

cut_suc : (l n : ℕ) → cut_by (suc l) n ≡ replicate (n / 2 ^ l) (2 ^ l) ++ cut_by l (n % 2 ^ l)
unfolding cut_by
cut_suc l n = refl

-- whole subtrees, and then the others
pub cut-append : (l a b : ℕ) → a % 2 ^ l ≡ 0 → cut_by (suc l) (a + b) ≡ cut_by (suc l) a ++ cut_by (suc l) b
cut-append l a b h =
    let z : ℕ = 2 ^ l in
    let some : 0 < z = pow_pos l in
    let q : ℕ = a / z in
    let sum : a + b ≡ b + z * q = omega (arith, as_multiple a z h) in
    let often : (a + b) / z ≡ q + b / z = ap (λ (n : ℕ). n / z) sum ∙ add-mul-div_left b q some ∙ omega arith in
    let rest : (a + b) % z ≡ b % z = ap (λ (n : ℕ). n % z) sum ∙ mod_more b z q some in
    let first : cut_by (suc l) a ≡ replicate q z = cut_suc l a ∙ ap (λ (n : ℕ). replicate q z ++ cut_by l n) h ∙ ap (λ (t : List ℕ). replicate q z ++ t) (cut_zero l) ∙ append-nil (replicate q z) in
    cut_suc l (a + b)
    ∙ ap₂ (λ (m r : ℕ). replicate m z ++ cut_by l r) often rest
    ∙ ap (λ (t : List ℕ). t ++ cut_by l (b % z)) (sym (replicate-append-replicate q (b / z) z))
    ∙ append_assoc (replicate q z) (replicate (b / z) z) (cut_by l (b % z))
    ∙ ap₂ (λ (s t : List ℕ). s ++ t) (sym first) (sym (cut_suc l b))

-- a part that is whole subtrees or all, and then the rest
pub cut_parts : (l n left : ℕ) → n ≤ left → (n ≡ left) ⊎ (n % 2 ^ l ≡ 0) → cut_by (suc l) left ≡ cut_by (suc l) n ++ cut_by (suc l) (left - n)
cut_parts l n left le (inl all) =
    let none : 0 ≡ left - n = omega (arith, all) in
    sym (append-nil (cut_by (suc l) left))
    ∙ ap₂ (λ (m : ℕ) (t : List ℕ). cut_by (suc l) m ++ t) (sym all) (sym (cut_zero (suc l)) ∙ ap (cut_by (suc l)) none)
cut_parts l n left le (inr whole) =
    let sum : left ≡ n + (left - n) = omega (arith, le) in
    ap (cut_by (suc l)) sum ∙ cut-append l n (left - n) whole

-- ---- places

-- neighbors of one size, and others behind them
aligned-replicate : (q z from high : ℕ) (rest : List ℕ) → IsTrue (is_leaf_count z) → from % z ≡ 0 → AreAligned (from + q * z) high rest → AreAligned from high (replicate q z ++ rest)
aligned-replicate zero z from high rest count begins h = let same : from + 0 * z ≡ from = omega arith in subst (λ (n : ℕ). AreAligned n high rest) same h
aligned-replicate (suc q) z from high rest count begins h =
    let same : from + suc q * z ≡ from + z + q * z = omega arith in
    (count, begins, aligned-replicate q z (from + z) high rest count (add-mod_right from z ∙ begins) (subst (λ (n : ℕ). AreAligned n high rest) same h))

-- what is cut below a power of two is aligned from a multiple of that on
aligned_below : (l from n high : ℕ) → l ≤ most_levels → from % 2 ^ l ≡ 0 → n < 2 ^ l → from + n ≤ high → AreAligned from high (cut_by l n)
unfolding cut_by
aligned_below zero from n high deep begins small le = omega (arith, le)
aligned_below (suc l) from n high deep begins small le =
    let z : ℕ = 2 ^ l in
    let some : 0 < z = pow_pos l in
    let lower : from % z ≡ 0 = let low : suc l - 1 ≡ l = omega arith in ap (λ (k : ℕ). from % 2 ^ k) (sym low) ∙ left_aligned (suc l) from (omega arith) begins in
    let behind : (from + n / z * z) % z ≡ 0 = ap (λ (k : ℕ). (from + k) % z) (mul_comm (n / z) z) ∙ mod_more from z (n / z) some ∙ lower in
    aligned-replicate (n / z) z from high (cut_by l (n % z)) (leaf_count_power l (omega (arith, deep))).0 lower
    (aligned_below l (from + n / z * z) (n % z) high (omega (arith, deep)) behind (mod-lt n some) (omega (arith, div-add-mod' n z, le)))

-- so is what is cut by its width
pub aligned-cut : (l from n high : ℕ) → l ≤ most_halvings → from % 2 ^ l ≡ 0 → from + n ≤ high → AreAligned from high (cut_by (suc l) n)
aligned-cut l from n high deep begins le =
    let z : ℕ = 2 ^ l in
    let some : 0 < z = pow_pos l in
    let behind : (from + n / z * z) % z ≡ 0 = ap (λ (k : ℕ). (from + k) % z) (mul_comm (n / z) z) ∙ mod_more from z (n / z) some ∙ begins in
    subst (AreAligned from high) (sym (cut_suc l n))
    (aligned-replicate (n / z) z from high (cut_by l (n % z)) (leaf_count_power l (omega (arith, deep))).0 begins
    (aligned_below l (from + n / z * z) (n % z) high (omega (arith, deep)) behind (mod-lt n some) (omega (arith, div-add-mod' n z, le))))

-- ---- roots

-- the roots of some pieces, and then of the others
pub roots-append : (xs ys : List ℕ) (shares : List Share) → subtree_roots (xs ++ ys) shares ≡ subtree_roots xs shares ++ subtree_roots ys (drop (total xs) shares)
unfolding subtree_roots
roots-append [] ys shares = refl
roots-append (z ∷ xs) ys shares =
    ap (λ (l : List Digest). root (halvings z) (map name_in (take z shares)) (take z shares) ∷ l)
    (roots-append xs ys (drop z shares) ∙ ap (λ (l : List Share). subtree_roots xs (drop z shares) ++ subtree_roots ys l) (drop-drop (total xs) z shares))
