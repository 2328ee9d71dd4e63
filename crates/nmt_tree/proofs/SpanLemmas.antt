-- The digests over parts of leaves, and the root of a list of leaves.
use Rattle.std.proofs.Common.{◌≡◌, ◌∙◌, ℕ, zero, suc, ◌+◌, ◌*◌, ◌^◌, ◌<◌, ◌≤◌, List, [], ◌∷◌, length, take, drop, get_or, refl, sym, ap, ap₂, arith, length-drop}
use Rattle.std.proofs.lemmas.List.{get_or-drop, length-take-le, get_or-take}
use Rattle.std.proofs.Math.Nat.{pow-suc}
use Rattle.namespace_id.specs.declared.namespaces.Namespace.{Namespace}
use Rattle.namespace_id.specs.declared.shares.Share.{Share}
use Rattle.namespace_id.specs.declared.digests.Digest.{Digest}
use Rattle.namespace_id.specs.Digests.{no_digest}
use Rattle.nmt_tree.specs.Digests.{leaf_digest, node_digest}
use Rattle.nmt_tree.specs.Roots.{root}
use Rattle.nmt_tree.specs.Levels.{leaf_digests, span}

-- there are as many digests as leaves
pub length-leaf_digests : (ns : List Namespace) (ss : List Share) → length ns ≡ length ss → length (leaf_digests ns ss) ≡ length ns
unfolding leaf_digests
length-leaf_digests [] [] h = refl
length-leaf_digests [] (s ∷ ss) h = refl
length-leaf_digests (n ∷ ns) [] h = absurd (omega arith)
length-leaf_digests (n ∷ ns) (s ∷ ss) h = ap (λ (k : ℕ). suc k) (length-leaf_digests ns ss (omega arith))

-- the digest at a place is that of the leaf there
pub leaf_digests-at : (ns : List Namespace) (ss : List Share) (i : ℕ) (n : Namespace) (s : Share) → length ns ≡ length ss → i < length ns
    → get_or (leaf_digests ns ss) i no_digest ≡ leaf_digest (get_or ns i n) (get_or ss i s)
unfolding leaf_digests
leaf_digests-at [] ss i n s h lt = absurd (omega arith)
leaf_digests-at (a ∷ ns) [] i n s h lt = absurd (omega arith)
leaf_digests-at (a ∷ ns) (b ∷ ss) zero n s h lt = refl
leaf_digests-at (a ∷ ns) (b ∷ ss) (suc i) n s h lt = leaf_digests-at ns ss i n s (omega arith) (omega arith)

-- a digest over the leaves behind some is one over all
pub span-drop : (e k s : ℕ) (ds : List Digest) → span (drop k ds) s e ≡ span ds (k + s) e
unfolding span
span-drop zero k s ds = get_or-drop k ds s no_digest
span-drop (suc e) k s ds =
    let p : k + (s + 2 ^ e) ≡ k + s + 2 ^ e = omega arith in
    ap₂ node_digest (span-drop e k s ds) (span-drop e k (s + 2 ^ e) ds ∙ ap (λ (j : ℕ). span ds j e) p)

-- so is one over the leaves at the front
pub span-take : (e k s : ℕ) (ds : List Digest) → s + 2 ^ e ≤ k → span (take k ds) s e ≡ span ds s e
unfolding span
span-take zero k s ds h = get_or-take k ds s no_digest (omega arith)
span-take (suc e) k s ds h =
    let p : 2 ^ suc e ≡ 2 ^ e * 2 = pow-suc 2 e in
    ap₂ node_digest (span-take e k s ds (omega arith)) (span-take e k (s + 2 ^ e) ds (omega arith))

-- the digests of the leaves at the front
take-leaf_digests : (k : ℕ) (ns : List Namespace) (ss : List Share) → length ns ≡ length ss → leaf_digests (take k ns) (take k ss) ≡ take k (leaf_digests ns ss)
unfolding leaf_digests
take-leaf_digests zero ns ss h = refl
take-leaf_digests (suc k) [] [] h = refl
take-leaf_digests (suc k) [] (s ∷ ss) h = absurd (omega arith)
take-leaf_digests (suc k) (n ∷ ns) [] h = absurd (omega arith)
take-leaf_digests (suc k) (n ∷ ns) (s ∷ ss) h = ap (λ (l : List Digest). leaf_digest n s ∷ l) (take-leaf_digests k ns ss (omega arith))

-- the digests of the leaves behind them
drop-leaf_digests : (k : ℕ) (ns : List Namespace) (ss : List Share) → length ns ≡ length ss → leaf_digests (drop k ns) (drop k ss) ≡ drop k (leaf_digests ns ss)
unfolding leaf_digests
drop-leaf_digests zero ns ss h = refl
drop-leaf_digests (suc k) [] [] h = refl
drop-leaf_digests (suc k) [] (s ∷ ss) h = absurd (omega arith)
drop-leaf_digests (suc k) (n ∷ ns) [] h = absurd (omega arith)
drop-leaf_digests (suc k) (n ∷ ns) (s ∷ ss) h = drop-leaf_digests k ns ss (omega arith)

-- the root of a list of leaves is the digest over all of them
pub root_is_span : (d : ℕ) (ns : List Namespace) (ss : List Share) → length ns ≡ 2 ^ d → length ss ≡ 2 ^ d → root d ns ss ≡ span (leaf_digests ns ss) 0 d
unfolding root span leaf_digests
root_is_span zero (n ∷ ns) (s ∷ ss) h k = refl
root_is_span zero [] ss h k = absurd (omega arith)
root_is_span zero (n ∷ ns) [] h k = absurd (omega arith)
root_is_span (suc d) ns ss h k =
    let i : ℕ = 2 ^ d in
    let p : 2 ^ suc d ≡ 2 ^ d * 2 = pow-suc 2 d in
    let same : length ns ≡ length ss = h ∙ sym k in
    let at : i + 0 ≡ 0 + i = omega arith in
    ap₂ node_digest
    (root_is_span d (take i ns) (take i ss) (length-take-le i ns (omega arith)) (length-take-le i ss (omega arith))
    ∙ ap (λ (l : List Digest). span l 0 d) (take-leaf_digests i ns ss same) ∙ span-take d i 0 (leaf_digests ns ss) (omega arith))
    (root_is_span d (drop i ns) (drop i ss) (omega (arith, length-drop i ns)) (omega (arith, length-drop i ss))
    ∙ ap (λ (l : List Digest). span l 0 d) (drop-leaf_digests i ns ss same) ∙ span-drop d i 0 (leaf_digests ns ss) ∙ ap (λ (j : ℕ). span (leaf_digests ns ss) j d) at)

-- the digest over some leaves in the middle is the root of their list
pub part_is_span : (d st : ℕ) (ns : List Namespace) (ss : List Share) → length ns ≡ length ss → st + 2 ^ d ≤ length ns
    → root d (take (2 ^ d) (drop st ns)) (take (2 ^ d) (drop st ss)) ≡ span (leaf_digests ns ss) st d
part_is_span d st ns ss same h =
    let i : ℕ = 2 ^ d in
    let start : st + 0 ≡ st = omega arith in
    let behind : length (drop st ns) ≡ length (drop st ss) = omega (arith, length-drop st ns, length-drop st ss) in
    root_is_span d (take i (drop st ns)) (take i (drop st ss))
    (length-take-le i (drop st ns) (omega (arith, length-drop st ns)))
    (length-take-le i (drop st ss) (omega (arith, length-drop st ss)))
    ∙ ap (λ (l : List Digest). span l 0 d) (take-leaf_digests i (drop st ns) (drop st ss) behind)
    ∙ span-take d i 0 (leaf_digests (drop st ns) (drop st ss)) (omega arith)
    ∙ ap (λ (l : List Digest). span l 0 d) (drop-leaf_digests st ns ss same)
    ∙ span-drop d st 0 (leaf_digests ns ss)
    ∙ ap (λ (j : ℕ). span (leaf_digests ns ss) j d) start
