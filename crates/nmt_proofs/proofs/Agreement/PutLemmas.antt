-- Nodes written interval by interval.
use Rattle.std.proofs.Common.{set, ◌-◌, ◌≡◌, ◌∙◌, ℕ, suc, ◌+◌, ◌*◌, ◌/◌, ◌%◌, ◌^◌, ◌<◌, List, [], ◌∷◌, ◌++◌, length, sym, ap, ap₂, arith}
use Rattle.std.proofs.lemmas.List.{map-append, nil_from_length}
use Rattle.std.proofs.lemmas.Nat.{div-add-mod'}
use Rattle.std.proofs.Math.Nat.{pow-suc, mul_assoc, mul_comm, mul-mod_left, add-mod_right}
use Rattle.namespace_id.specs.declared.digests.Digest.{Digest}
use Rattle.nmt_tree.specs.Levels.{span}
use Rattle.nmt_proofs.specs.Making.{spans}

-- the nodes of an interval, by those of its halves
pub halved_nodes : (leaves : List Digest) (whole left right : List (ℕ × ℕ)) (a b : List Digest) → whole ≡ left ++ right → a ≡ spans leaves left → b ≡ spans leaves right → a ++ b ≡ spans leaves whole
halved_nodes leaves whole left right a b e ea eb =
    ap₂ (λ (x y : List Digest). x ++ y) ea eb ∙ sym (ap (spans leaves) e ∙ map-append (λ (x : ℕ × ℕ). span leaves x.0 x.1) left right)

-- an interval that holds nothing shown takes one node
pub one_node : (leaves : List Digest) (whole : List (ℕ × ℕ)) (start depth : ℕ) (ns : List Digest) (d : Digest) → whole ≡ (start, depth) ∷ [] → length ns ≡ 1 → d ≡ span leaves start depth → set ns 0 d ≡ spans leaves whole
one_node leaves whole start depth [] d e h ed = absurd (omega arith)
one_node leaves whole start depth (n ∷ m ∷ ns) d e h ed = absurd (omega arith)
one_node leaves whole start depth (n ∷ []) d e h ed = ap (λ (x : Digest). x ∷ []) ed ∙ sym (ap (spans leaves) e)

-- one that is shown takes none
pub no_node : (leaves : List Digest) (whole : List (ℕ × ℕ)) (ns : List Digest) → whole ≡ [] → length ns ≡ length whole → ns ≡ spans leaves whole
no_node leaves whole ns e h = nil_from_length ns (h ∙ ap length e) ∙ sym (ap (spans leaves) e)

-- a multiple of a power of two is one of the power below
pub left_aligned : (d start : ℕ) → 0 < d → start % 2 ^ d ≡ 0 → start % 2 ^ (d - 1) ≡ 0
left_aligned d start h aligned =
    let lower : d ≡ suc (d - 1) = omega arith in
    let twice : 2 ^ d ≡ 2 ^ (d - 1) * 2 = ap (λ (k : ℕ). 2 ^ k) lower ∙ pow-suc 2 (d - 1) in
    let q : ℕ = start / 2 ^ d in
    let whole : start ≡ q * 2 ^ d = sym (omega (arith, div-add-mod' start (2 ^ d), aligned)) in
    let split : start ≡ q * 2 * 2 ^ (d - 1) =
    whole ∙ ap (λ (k : ℕ). q * k) (twice ∙ mul_comm (2 ^ (d - 1)) 2) ∙ sym (mul_assoc q 2 (2 ^ (d - 1))) in
    ap (λ (k : ℕ). k % 2 ^ (d - 1)) split ∙ mul-mod_left (q * 2) (2 ^ (d - 1))

-- so is the middle
pub right_aligned : (d start m : ℕ) → 0 < d → start % 2 ^ d ≡ 0 → m ≡ start + 2 ^ (d - 1) → m % 2 ^ (d - 1) ≡ 0
right_aligned d start m h aligned em =
    ap (λ (k : ℕ). k % 2 ^ (d - 1)) em ∙ add-mod_right start (2 ^ (d - 1)) ∙ left_aligned d start h aligned
