-- Names in order, and those of the digests over them.
use Rattle.std.proofs.Common.{◌≡◌, ◌∙◌, ℕ, zero, suc, ◌<◌, ◌≤◌, List, [], ◌∷◌, ◌++◌, length, take, drop, true, cond, refl, ap, arith, length-append, length-drop}
use Rattle.std.proofs.lemmas.Bool.{and_parts, cond_both}
use Rattle.std.proofs.lemmas.List.{append_assoc, length-take-le}
use Rattle.sha2.specs.Sha256.{sha256}
use Rattle.sha2.proofs.Facts256.{length-sha256}
use Rattle.namespace_id.specs.declared.namespaces.Namespace.{Namespace}
use Rattle.namespace_id.specs.declared.shares.Share.{Share}
use Rattle.namespace_id.specs.declared.digests.Digest.{Digest}
use Rattle.namespace_id.specs.Names.{is_at_most, is_parity, parity, greater_of}
use Rattle.namespace_id.specs.Digests.{least_of, greatest_of}
use Rattle.namespace_id.specs.Lists.{holds_along}
use Rattle.namespace_id.proofs.OrderLemmas.{at_most_refl, at_most_trans}
use Rattle.namespace_id.proofs.StringLemmas.{front, behind}
use Rattle.nmt_tree.specs.Digests.{leaf_digest, joined_greatest, node_digest}
use Rattle.nmt_tree.specs.Roots.{is_ordered}
use Rattle.nmt_tree.specs.Spans.{name_at}

-- the first name is at most every later one
first_at_most : (a : Namespace) (names : List Namespace) (j : ℕ) → is_ordered (a ∷ names) ≡ true → j < length names → is_at_most a (name_at names j) ≡ true
unfolding holds_along
first_at_most a [] j h lt = absurd (omega arith)
first_at_most a (b ∷ names) zero h lt = (and_parts (is_at_most a b) (is_ordered (b ∷ names)) h).0
first_at_most a (b ∷ names) (suc j) h lt =
    let both = and_parts (is_at_most a b) (is_ordered (b ∷ names)) h in
    at_most_trans a b (name_at names j) both.0 (first_at_most b names j both.1 (omega arith))

-- the names behind the first are in order
pub ordered_tail : (a : Namespace) (names : List Namespace) → is_ordered (a ∷ names) ≡ true → is_ordered names ≡ true
unfolding holds_along
ordered_tail a [] h = refl
ordered_tail a (b ∷ names) h = (and_parts (is_at_most a b) (is_ordered (b ∷ names)) h).1

-- an earlier name is at most a later one
pub ordered_at : (names : List Namespace) (i j : ℕ) → is_ordered names ≡ true → i ≤ j → j < length names → is_at_most (name_at names i) (name_at names j) ≡ true
ordered_at [] i j h le lt = absurd (omega arith)
ordered_at (a ∷ names) zero zero h le lt = at_most_refl a
ordered_at (a ∷ names) zero (suc j) h le lt = first_at_most a names j h (omega arith)
ordered_at (a ∷ names) (suc i) zero h le lt = absurd (omega arith)
ordered_at (a ∷ names) (suc i) (suc j) h le lt = ordered_at names i j (ordered_tail a names h) (omega arith) (omega arith)

-- namespaces with the same bytes are one
pub same_name : (a b : Namespace) → a.0 ≡ b.0 → a ≡ b
same_name a b e = ap (λ (l : List ℕ). record { 0 = l }) e

-- the first 29 bytes of three parts
firsts : (a b c : List ℕ) → length a ≡ 29 → take 29 ((a ++ b) ++ c) ≡ a
firsts a b c h = ap (λ (l : List ℕ). take 29 l) (append_assoc a b c) ∙ front a (b ++ c) 29 h

-- the next 29 bytes
seconds : (a b c : List ℕ) → length a ≡ 29 → length b ≡ 29 → take 29 (drop 29 ((a ++ b) ++ c)) ≡ b
seconds a b c h k = ap (λ (l : List ℕ). take 29 (drop 29 l)) (append_assoc a b c) ∙ ap (λ (l : List ℕ). take 29 l) (behind a (b ++ c) 29 h) ∙ front b c 29 k

-- the least name of a leaf is its own
pub least-leaf : (n : Namespace) (s : Share) → length n.0 ≡ 29 → least_of (leaf_digest n s) ≡ n
unfolding leaf_digest
least-leaf n s h = same_name _ _ (firsts n.0 n.0 (sha256 (0 ∷ n.0 ++ s.0)) h)

-- its greatest name is that name too
pub greatest-leaf : (n : Namespace) (s : Share) → length n.0 ≡ 29 → greatest_of (leaf_digest n s) ≡ n
unfolding leaf_digest
greatest-leaf n s h = same_name _ _ (seconds n.0 n.0 (sha256 (0 ∷ n.0 ++ s.0)) h h)

-- the least name of a digest has 29 bytes
length-least : (d : Digest) → length d.0 ≡ 90 → length (least_of d).0 ≡ 29
length-least d h = length-take-le 29 d.0 (omega arith)

-- so has its greatest
length-greatest : (d : Digest) → length d.0 ≡ 90 → length (greatest_of d).0 ≡ 29
length-greatest d h = length-take-le 29 (drop 29 d.0) (omega (arith, length-drop 29 d.0))

-- so has the greatest of a node
length-joined : (l r : Digest) → length l.0 ≡ 90 → length r.0 ≡ 90 → length (joined_greatest l r).0 ≡ 29
unfolding joined_greatest
length-joined l r hl hr =
    let Has29 : Namespace → Type 0 = λ n. length n.0 ≡ 29 in
    cond_both (is_parity (least_of l)) parity (cond (is_parity (least_of r)) (greatest_of l) (greater_of (greatest_of l) (greatest_of r))) Has29 (λ t. refl)
    (λ f. cond_both (is_parity (least_of r)) (greatest_of l) (greater_of (greatest_of l) (greatest_of r)) Has29 (λ t. length-greatest l hl)
    (λ f. cond_both (is_at_most (greatest_of l) (greatest_of r)) (greatest_of r) (greatest_of l) Has29 (λ t. length-greatest r hr) (λ f. length-greatest l hl)))

-- a node's digest has 90 bytes
pub length-node : (l r : Digest) → length l.0 ≡ 90 → length r.0 ≡ 90 → length (node_digest l r).0 ≡ 90
unfolding node_digest
length-node l r hl hr =
    omega (
      arith,
      length-append ((least_of l).0 ++ (joined_greatest l r).0) (sha256 (1 ∷ l.0 ++ r.0)),
      length-append (least_of l).0 (joined_greatest l r).0,
      length-least l hl,
      length-joined l r hl hr,
      length-sha256 (1 ∷ l.0 ++ r.0),
    )

-- so has a leaf's
pub length-leaf : (n : Namespace) (s : Share) → length n.0 ≡ 29 → length (leaf_digest n s).0 ≡ 90
unfolding leaf_digest
length-leaf n s h =
    omega (arith, length-append (n.0 ++ n.0) (sha256 (0 ∷ n.0 ++ s.0)), length-append n.0 n.0, length-sha256 (0 ∷ n.0 ++ s.0))

-- the least name of a node is that of its left half
pub least-node : (l r : Digest) → length l.0 ≡ 90 → least_of (node_digest l r) ≡ least_of l
unfolding node_digest
least-node l r h = same_name _ _ (firsts (least_of l).0 (joined_greatest l r).0 (sha256 (1 ∷ l.0 ++ r.0)) (length-least l h))

-- its greatest name is that of the two joined
pub greatest-node : (l r : Digest) → length l.0 ≡ 90 → length r.0 ≡ 90 → greatest_of (node_digest l r) ≡ joined_greatest l r
unfolding node_digest
greatest-node l r h k = same_name _ _ (seconds (least_of l).0 (joined_greatest l r).0 (sha256 (1 ∷ l.0 ++ r.0)) (length-least l h) (length-joined l r h k))
