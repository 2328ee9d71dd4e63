-- The least and the greatest name of a digest over leaves.
use Rattle.std.proofs.Common.{◌≡◌, ◌∙◌, ℕ, zero, suc, ◌+◌, ◌*◌, ◌^◌, ◌<◌, ◌≤◌, List, [], ◌∷◌, length, get_or, Bool, true, cond, sym, ap, inl, inr, arith, replicate}
use Rattle.std.proofs.lemmas.Bool.{cases_Bool, cond_both, true≢false}
use Rattle.std.proofs.lemmas.Slice.Eq.{bytes_eq-Decides}
use Rattle.std.proofs.Math.Nat.{pow-suc}
use Rattle.std.proofs.lemmas.Nat.{pow_pos}
use Rattle.namespace_id.specs.declared.namespaces.Namespace.{Namespace}
use Rattle.namespace_id.specs.declared.shares.Share.{Share}
use Rattle.namespace_id.specs.declared.digests.Digest.{Digest}
use Rattle.namespace_id.specs.Names.{is_at_most, is_parity, parity, greater_of, AreNamespaces}
use Rattle.namespace_id.specs.Digests.{least_of, greatest_of, no_digest}
use Rattle.nmt_tree.specs.Digests.{joined_greatest, node_digest}
use Rattle.nmt_tree.specs.Levels.{leaf_digests, span}
use Rattle.nmt_tree.specs.Spans.{name_at, IsOver}
use Rattle.nmt_tree.proofs.NameLemmas.{same_name, least-leaf, greatest-leaf, length-leaf, length-node, least-node, greatest-node}

-- the greatest name of a node is one of its leaves' names
greatest_among : (names : List Namespace) (s e : ℕ) (l r : Digest) → IsOver names s e l → IsOver names (s + 2 ^ e) e r
    → (i : ℕ) × (s ≤ i) × (i < s + 2 ^ suc e) × (joined_greatest l r ≡ name_at names i)
unfolding joined_greatest
greatest_among names s e l r h k =
    let twice : 2 ^ suc e ≡ 2 ^ e * 2 = pow-suc 2 e in
    let rest : Namespace = cond (is_parity (least_of r)) (greatest_of l) (greater_of (greatest_of l) (greatest_of r)) in
    elim (cases_Bool (is_parity (least_of l))) [
      | inl t ↦
          let same : (least_of l).0 ≡ replicate 29 0xFF = (bytes_eq-Decides (least_of l).0 (replicate 29 0xFF)).0 t in
          (s, omega arith, omega (arith, twice, pow_pos e), ap (λ (b : Bool). cond b parity rest) t ∙ sym (same_name (least_of l) parity same) ∙ h.least)
      | inr f ↦
          let e1 : cond (is_parity (least_of l)) parity rest ≡ rest = ap (λ (b : Bool). cond b parity rest) f in
          elim (cases_Bool (is_parity (least_of r))) [
            | inl t ↦ (h.place, h.low, omega (arith, h.high, twice), e1 ∙ ap (λ (b : Bool). cond b (greatest_of l) (greater_of (greatest_of l) (greatest_of r))) t ∙ h.greatest)
            | inr g ↦
                let e2 : rest ≡ greater_of (greatest_of l) (greatest_of r) = ap (λ (b : Bool). cond b (greatest_of l) (greater_of (greatest_of l) (greatest_of r))) g in
                elim (cases_Bool (is_at_most (greatest_of l) (greatest_of r))) [
                  | inl t ↦ (k.place, omega (arith, k.low), omega (arith, k.high, twice), e1 ∙ e2 ∙ ap (λ (b : Bool). cond b (greatest_of r) (greatest_of l)) t ∙ k.greatest)
                  | inr u ↦ (h.place, h.low, omega (arith, h.high, twice), e1 ∙ e2 ∙ ap (λ (b : Bool). cond b (greatest_of r) (greatest_of l)) u ∙ h.greatest)
                ]
          ]
    ]

-- the greatest name of a node is PARITY only where its least is
parity_alone : (l r : Digest) → (is_parity (greatest_of l) ≡ true → is_parity (least_of l) ≡ true) → (is_parity (greatest_of r) ≡ true → is_parity (least_of r) ≡ true)
    → is_parity (joined_greatest l r) ≡ true → is_parity (least_of l) ≡ true
unfolding joined_greatest
parity_alone l r h k =
    let Alone : Namespace → Type 0 = λ n. is_parity n ≡ true → is_parity (least_of l) ≡ true in
    cond_both (is_parity (least_of l)) parity (cond (is_parity (least_of r)) (greatest_of l) (greater_of (greatest_of l) (greatest_of r))) Alone (λ t e. t)
    (λ f. cond_both (is_parity (least_of r)) (greatest_of l) (greater_of (greatest_of l) (greatest_of r)) Alone (λ t. h)
    (λ g. cond_both (is_at_most (greatest_of l) (greatest_of r)) (greatest_of r) (greatest_of l) Alone (λ t e. absurd (true≢false (sym (k e) ∙ g))) (λ u. h)))

-- the node over two digests over leaves
over_node : (names : List Namespace) (s e : ℕ) (l r : Digest) → IsOver names s e l → IsOver names (s + 2 ^ e) e r → IsOver names s (suc e) (node_digest l r)
over_node names s e l r h k =
    let g = greatest_among names s e l r h k in
    record {
      size = length-node l r h.size k.size;
      least = least-node l r h.size ∙ h.least;
      place = g.0;
      low = g.1;
      high = g.2;
      greatest = greatest-node l r h.size k.size ∙ g.3;
      parity = (λ e.
          ap is_parity (least-node l r h.size)
          ∙ parity_alone l r h.parity k.parity (sym (ap is_parity (greatest-node l r h.size k.size)) ∙ e));
    }

-- the digest of one leaf
over_leaf : (ns : List Namespace) (ss : List Share) (s : ℕ) → AreNamespaces ns → length ss ≡ length ns → s < length ns → IsOver ns s 0 (get_or (leaf_digests ns ss) s no_digest)
unfolding leaf_digests
over_leaf [] ss s h len lt = absurd (omega arith)
over_leaf (n ∷ ns) [] s h len lt = absurd (omega arith)
over_leaf (n ∷ ns) (t ∷ ss) zero h len lt = record {
  size = length-leaf n t h.0.size_is;
  least = least-leaf n t h.0.size_is;
  place = 0;
  low = omega arith;
  high = omega arith;
  greatest = greatest-leaf n t h.0.size_is;
  parity = (λ e. ap is_parity (least-leaf n t h.0.size_is ∙ sym (greatest-leaf n t h.0.size_is)) ∙ e);
}
over_leaf (n ∷ ns) (t ∷ ss) (suc s) h len lt =
    let o : IsOver ns s 0 (get_or (leaf_digests ns ss) s no_digest) = over_leaf ns ss s h.1 (omega arith) (omega arith) in
    record { size = o.size; least = o.least; place = suc o.place; low = omega (arith, o.low); high = omega (arith, o.high); greatest = o.greatest; parity = o.parity }

-- the digest over leaves of a list
pub over_span : (e s : ℕ) (ns : List Namespace) (ss : List Share) → AreNamespaces ns → length ss ≡ length ns → s + 2 ^ e ≤ length ns
    → IsOver ns s e (span (leaf_digests ns ss) s e)
unfolding span
over_span zero s ns ss h len le = over_leaf ns ss s h len (omega arith)
over_span (suc e) s ns ss h len le =
    let twice : 2 ^ suc e ≡ 2 ^ e * 2 = pow-suc 2 e in
    over_node ns s e (span (leaf_digests ns ss) s e) (span (leaf_digests ns ss) (s + 2 ^ e) e)
    (over_span e s ns ss h len (omega (arith, twice))) (over_span e (s + 2 ^ e) ns ss h len (omega (arith, twice)))
