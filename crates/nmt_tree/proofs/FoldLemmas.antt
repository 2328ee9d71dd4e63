-- The root over digests, level by level.
use Rattle.std.proofs.Common.{◌≡◌, ◌∙◌, ℕ, suc, ◌+◌, ◌/◌, ◌^◌, List, length, get_or, sym, ap, arith}
use Rattle.namespace_id.specs.declared.digests.Digest.{Digest}
use Rattle.namespace_id.specs.Digests.{no_digest}
use Rattle.nmt_tree.specs.Levels.{pairs, span}
use Rattle.namespace_id.proofs.HalfLemmas.{depth_below, depth_zero, half_power}
use Rattle.nmt_tree.proofs.PairLemmas.{length-pairs, span-pairs}

-- the digest over one leaf
pub span_one : (ds : List Digest) (depth : ℕ) (o : Digest) → length ds ≡ 1 → length ds ≡ 2 ^ depth → o ≡ no_digest → get_or ds 0 o ≡ span ds 0 depth
unfolding span
span_one ds depth o one power eo =
    ap (λ (x : Digest). get_or ds 0 x) eo ∙ ap (λ (k : ℕ). span ds 0 k) (sym (depth_zero (length ds) depth one power))

-- the digest over more leaves, from the level above them
pub span_above : (ds above : List Digest) (depth : ℕ) (result : Digest) → (length ds ≡ 1 → ⊥) → length ds ≡ 2 ^ depth
    → above ≡ pairs ds → ((d : ℕ) → length above ≡ 2 ^ d → result ≡ span above 0 d) → result ≡ span ds 0 depth
span_above ds above depth result several power ea below =
    let lower = depth_below (length ds) depth power several in
    let d : ℕ = lower.0 in
    let whole : length ds ≡ 2 ^ suc d = power ∙ ap (λ (k : ℕ). 2 ^ k) lower.1 in
    let half = half_power (length ds) d whole in
    let half_is : length ds / 2 ≡ 2 ^ d = half.0 in
    let twice : length ds / 2 + length ds / 2 ≡ length ds = half.1 in
    let count : length above ≡ 2 ^ d = ap length ea ∙ length-pairs (2 ^ d) ds (omega arith) in
    below d count ∙ ap (λ (l : List Digest). span l 0 d) ea ∙ span-pairs d 0 ds (omega arith)
    ∙ ap (λ (k : ℕ). span ds 0 k) (sym lower.1)
