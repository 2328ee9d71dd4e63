-- Messages of a batch: written part by part, and one after another.
use Rattle.std.proofs.Common.{◌≡◌, ◌∙◌, ℕ, zero, suc, ◌+◌, ◌*◌, ◌≤◌, List, [], ◌∷◌, ◌++◌, length, take, drop, refl, sym, ap, ap₂, arith, length-append, length-drop, drop-drop}
use Rattle.std.proofs.lemmas.List.{length-take-le}
use Rattle.std.proofs.lemmas.Slice.{take-put_mid, drop-put_mid}
use Rattle.std.proofs.Math.Seq.{take-add}
use borrow.Rule.Slice.PartMut.{put_mid}
use Rattle.namespace_id.specs.declared.namespaces.Namespace.{Namespace}
use Rattle.namespace_id.specs.declared.shares.Share.{Share}
use Rattle.namespace_id.specs.declared.digests.Digest.{Digest}
use Rattle.namespace_id.specs.Digests.{least_of}
use Rattle.sha2.specs.Sha256.{sha256}
use Rattle.nmt_tree.specs.Digests.{leaf_digest, joined_greatest, node_digest}
use Rattle.nmt_tree.specs.Levels.{leaf_digests, pairs}

-- a digest is its bytes
digest_is : (d : Digest) (bytes : List ℕ) → d.0 ≡ bytes → d ≡ record { 0 = bytes }
digest_is d bytes e = ap (λ (x : List ℕ). let r : Digest = record { 0 = x } in r) e

-- the digest of a leaf, by its hash
pub leaf_of_hash : (name : Namespace) (share : Share) (hash : List ℕ) (d : Digest) → d.0 ≡ name.0 ++ name.0 ++ hash → hash ≡ sha256 (0 ∷ name.0 ++ share.0)
    → d ≡ leaf_digest name share
unfolding leaf_digest
leaf_of_hash name share hash d ed eh = digest_is _ _ (ed ∙ ap (λ (x : List ℕ). name.0 ++ name.0 ++ x) eh)

-- the digest of a node, by its hash
pub node_of_hash : (left right : Digest) (least greatest : Namespace) (hash : List ℕ) (d : Digest) → d.0 ≡ least.0 ++ greatest.0 ++ hash
    → least ≡ least_of left → greatest ≡ joined_greatest left right → hash ≡ sha256 (1 ∷ left.0 ++ right.0)
    → d ≡ node_digest left right
unfolding node_digest
node_of_hash left right least greatest hash d ed el eg eh = digest_is _ _ (rw (el, eg, eh) at ed)

-- how long a part is
pub length-part : (at size k : ℕ) (xs : List Digest) → k ≡ size → at + size ≤ length xs → length (take k (drop at xs)) ≡ size
length-part at size k xs ek fits =
    ap (λ (n : ℕ). length (take n (drop at xs))) ek ∙ length-take-le size (drop at xs) (omega (arith, length-drop at xs))

-- how long a list is into which a part was written
pub length-put : (at k : ℕ) (xs made : List Digest) → length made ≡ k → at + k ≤ length xs → length (put_mid at k xs made) ≡ length xs
length-put at k xs made em fits =
    omega (arith, length-append (take at xs) (made ++ drop k (drop at xs)), length-append made (drop k (drop at xs)), length-take-le at xs (omega arith), length-drop at xs, length-drop k (drop at xs))

-- leaves one after another
leaf_digests-join : (a c : List Namespace) (b d : List Share) → length a ≡ length b → leaf_digests (a ++ c) (b ++ d) ≡ leaf_digests a b ++ leaf_digests c d
unfolding leaf_digests
leaf_digests-join [] c [] d e = refl
leaf_digests-join [] c (s ∷ b) d e = absurd (omega arith)
leaf_digests-join (n ∷ a) c [] d e = absurd (omega arith)
leaf_digests-join (n ∷ a) c (s ∷ b) d e = ap (λ (l : List Digest). leaf_digest n s ∷ l) (leaf_digests-join a c b d (omega arith))

-- eight more leaves
pub leaves_eight : (names : List Namespace) (shares : List Share) (leaves made : List Digest) (at k next : ℕ) → next ≡ at + 8
    → next ≤ length names → next ≤ length shares → next ≤ length leaves → length made ≡ 8
    → made ≡ leaf_digests (take 8 (drop at names)) (take 8 (drop at shares))
    → take at leaves ≡ leaf_digests (take at names) (take at shares)
    → take next (put_mid at k leaves made) ≡ leaf_digests (take next names) (take next shares)
leaves_eight names shares leaves made at k next en hn hs hl lm em so_far =
    take-put_mid at k leaves made next (omega arith) (omega arith)
    ∙ ap₂ (λ (x y : List Digest). x ++ y) so_far em
    ∙ sym (ap₂ leaf_digests (ap (λ (n : ℕ). take n names) en ∙ take-add at 8 names) (ap (λ (n : ℕ). take n shares) en ∙ take-add at 8 shares)
    ∙ leaf_digests-join (take at names) (take 8 (drop at names)) (take at shares) (take 8 (drop at shares))
    (length-take-le at names (omega arith) ∙ sym (length-take-le at shares (omega arith))))

-- nodes one after another
pairs-join : (i : ℕ) (xs ys : List Digest) → length xs ≡ 2 * i → pairs (xs ++ ys) ≡ pairs xs ++ pairs ys
unfolding pairs
pairs-join i [] ys e = refl
pairs-join i (x ∷ []) ys e = absurd (omega arith)
pairs-join zero (x ∷ y ∷ xs) ys e = absurd (omega arith)
pairs-join (suc i) (x ∷ y ∷ xs) ys e = ap (λ (l : List Digest). node_digest x y ∷ l) (pairs-join i xs ys (omega arith))

-- eight more nodes
pub pairs_eight : (level above made : List Digest) (at k next : ℕ) → next ≡ at + 8 → 2 * next ≤ length level → next ≤ length above → length made ≡ 8
    → made ≡ pairs (take 16 (drop (2 * at) level))
    → take at above ≡ pairs (take (2 * at) level)
    → take next (put_mid at k above made) ≡ pairs (take (2 * next) level)
pairs_eight level above made at k next en hl ha lm em so_far =
    let e : 2 * next ≡ 2 * at + 16 = omega arith in
    take-put_mid at k above made next (omega arith) (omega arith)
    ∙ ap₂ (λ (x y : List Digest). x ++ y) so_far em
    ∙ sym (ap pairs (ap (λ (n : ℕ). take n level) e ∙ take-add (2 * at) 16 level)
    ∙ pairs-join at (take (2 * at) level) (take 16 (drop (2 * at) level)) (length-take-le (2 * at) level (omega arith)))

-- eight more nodes written over the front of their level
pub pairs_eight_in_place : (old now made : List Digest) (at k next : ℕ) → next ≡ at + 8 → length now ≡ length old → 2 * next ≤ length old → length made ≡ 8
    → made ≡ pairs (take 16 (drop (2 * at) now))
    → take at now ≡ pairs (take (2 * at) old) → drop (2 * at) now ≡ drop (2 * at) old
    → take next (put_mid at k now made) ≡ pairs (take (2 * next) old)
pairs_eight_in_place old now made at k next en len hl lm em so_far left =
    pairs_eight old now made at k next en hl (omega arith) lm (em ∙ ap (λ (l : List Digest). pairs (take 16 l)) left) so_far

-- what is behind them is left as it was
pub left_of_eight : (old now made : List Digest) (at k next : ℕ) → k ≡ 8 → next ≡ at + 8 → length now ≡ length old → 2 * next ≤ length old → length made ≡ 8
    → drop (2 * at) now ≡ drop (2 * at) old
    → drop (2 * next) (put_mid at k now made) ≡ drop (2 * next) old
left_of_eight old now made at k next ek en len hl lm left =
    let e : 2 * next ≡ 2 * at + 16 = omega arith in
    drop-put_mid at k now made (2 * next) (omega arith) (omega arith) (lm ∙ sym ek)
    ∙ ap (λ (n : ℕ). drop n now) e ∙ sym (drop-drop 16 (2 * at) now) ∙ ap (drop 16) left ∙ drop-drop 16 (2 * at) old ∙ sym (ap (λ (n : ℕ). drop n old) e)
