-- The root by the halves of its leaves.
use Rattle.std.proofs.Common.{◌≡◌, ℕ, suc, ◌+◌, ◌/◌, ◌^◌, List, [], ◌∷◌, refl, sym, ap, ap₂, ◌∙◌, arith, length, take, drop, get_or}
use Rattle.namespace_id.specs.declared.namespaces.Namespace.{Namespace}
use Rattle.namespace_id.specs.declared.shares.Share.{Share}
use Rattle.namespace_id.specs.declared.digests.Digest.{Digest}
use Rattle.nmt_tree.specs.Digests.{leaf_digest, node_digest}
use Rattle.nmt_tree.specs.Roots.{root}
use Rattle.namespace_id.proofs.HalfLemmas.{depth_below, depth_zero, half_power}

-- the root at depth 0 is the digest of the only leaf
root_zero : (names : List Namespace) (shares : List Share) (d : Namespace) (e : Share) → length names ≡ 1 → length shares ≡ length names → leaf_digest (get_or names 0 d) (get_or shares 0 e) ≡ root 0 names shares
unfolding root
root_zero (name ∷ names) (share ∷ shares) d e h same = refl
root_zero [] shares d e h same = absurd (omega arith)
root_zero (name ∷ names) [] d e h same = absurd (omega arith)

-- the root of one leaf
pub root_one : (names : List Namespace) (shares : List Share) (d : Namespace) (e : Share) (depth : ℕ) → length names ≡ 1 → length shares ≡ length names → length names ≡ 2 ^ depth
    → leaf_digest (get_or names 0 d) (get_or shares 0 e) ≡ root depth names shares
root_one names shares d e depth h same power =
    root_zero names shares d e h same ∙ ap (λ (k : ℕ). root k names shares) (sym (depth_zero (length names) depth h power))

-- the root of more leaves, from those of both halves
pub root_halves : (names : List Namespace) (shares : List Share) (depth : ℕ) (ln rn : List Namespace) (ls rs : List Share) (l r result : Digest)
    → (length names ≡ 1 → ⊥) → length names ≡ 2 ^ depth
    → ln ≡ take (length names / 2) names → rn ≡ drop (length names / 2) names
    → ls ≡ take (length names / 2) shares → rs ≡ drop (length names / 2) shares
    → ((k : ℕ) → length ln ≡ 2 ^ k → l ≡ root k ln ls) → ((k : ℕ) → length rn ≡ 2 ^ k → r ≡ root k rn rs)
    → length ln ≡ length names / 2 → length rn + length names / 2 ≡ length names
    → result ≡ node_digest l r → result ≡ root depth names shares
unfolding root
root_halves names shares depth ln rn ls rs l r result several power ln_is rn_is ls_is rs_is left right left_len right_len joined =
    let below = depth_below (length names) depth power several in
    let d : ℕ = below.0 in
    let whole : length names ≡ 2 ^ suc d = power ∙ ap (λ (k : ℕ). 2 ^ k) below.1 in
    let half = half_power (length names) d whole in
    let same_sum : length names / 2 + length names / 2 ≡ length names = half.1 in
    let half_is : length names / 2 ≡ 2 ^ d = half.0 in
    let left_is : l ≡ root d (take (2 ^ d) names) (take (2 ^ d) shares) =
    left d (left_len ∙ half_is)
    ∙ ap₂ (root d) (ln_is ∙ ap (λ (k : ℕ). take k names) half_is) (ls_is ∙ ap (λ (k : ℕ). take k shares) half_is) in
    let right_is : r ≡ root d (drop (2 ^ d) names) (drop (2 ^ d) shares) =
    right d (omega arith)
    ∙ ap₂ (root d) (rn_is ∙ ap (λ (k : ℕ). drop k names) half_is) (rs_is ∙ ap (λ (k : ℕ). drop k shares) half_is) in
    joined ∙ ap₂ node_digest left_is right_is ∙ ap (λ (k : ℕ). root k names shares) (sym below.1)
