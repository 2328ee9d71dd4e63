-- Over ordered names no name but PARITY is above the greatest of a digest over leaves.
use Rattle.std.proofs.Common.{◌≡◌, ◌∙◌, ℕ, zero, suc, ◌+◌, ◌*◌, ◌^◌, ◌<◌, ◌≤◌, List, [], ◌∷◌, length, true, false, cond, sym, ap, inl, inr, arith, ◌⊎◌}
use Rattle.std.proofs.lemmas.Bool.{cases_Bool, cases_lt, cond_both, true≢false}
use Rattle.std.proofs.lemmas.Slice.Eq.{bytes_eq-Decides}
use Rattle.std.proofs.Math.Nat.{pow-suc}
use Rattle.namespace_id.specs.declared.namespaces.Namespace.{Namespace}
use Rattle.namespace_id.specs.declared.shares.Share.{Share}
use Rattle.namespace_id.specs.declared.digests.Digest.{Digest}
use Rattle.namespace_id.specs.Names.{is_at_most, is_parity, parity, greater_of, AreNamespaces, IsNamespace}
use Rattle.namespace_id.specs.Digests.{least_of, greatest_of}
use Rattle.nmt_tree.specs.Digests.{joined_greatest, node_digest}
use Rattle.nmt_tree.specs.Roots.{is_ordered}
use Rattle.nmt_tree.specs.Levels.{leaf_digests, span}
use Rattle.nmt_tree.specs.Spans.{name_at, IsOver, IsAbove}
use Rattle.nmt_tree.proofs.NameLemmas.{ordered_at, same_name, greatest-node}
use Rattle.namespace_id.proofs.OrderLemmas.{at_most_refl, at_most_trans, at_most_antisym, at_most_total, at_most_parity}
use Rattle.nmt_tree.proofs.OverLemmas.{over_span}

-- each name of a list has the bytes of a namespace
named_at : (names : List Namespace) (i : ℕ) → AreNamespaces names → i < length names → IsNamespace (name_at names i)
named_at [] i h lt = absurd (omega arith)
named_at (n ∷ names) zero h lt = h.0
named_at (n ∷ names) (suc i) h lt = named_at names i h.1 (omega arith)

-- a namespace above PARITY is PARITY
only_parity : (n : Namespace) → IsNamespace n → is_at_most parity n ≡ true → is_parity n ≡ true
only_parity n h le = (bytes_eq-Decides n.0 parity.0).1 (ap (λ (m : Namespace). m.0) (at_most_antisym n parity (at_most_parity n h) le))

-- of ordered names that aren't PARITY, none stands behind PARITY
before_parity : (names : List Namespace) (s i : ℕ) → AreNamespaces names → is_ordered names ≡ true → i < length names → is_parity (name_at names s) ≡ true
    → is_parity (name_at names i) ≡ false → i < s
before_parity names s i named o lt at other = elim (cases_lt i s) [
  | inl before ↦ before
  | inr behind ↦
      let full : name_at names s ≡ parity = same_name (name_at names s) parity ((bytes_eq-Decides (name_at names s).0 parity.0).0 at) in
      let above : is_at_most parity (name_at names i) ≡ true = sym (ap (λ (n : Namespace). is_at_most n (name_at names i)) full) ∙ ordered_at names s i o behind lt in
      absurd (true≢false (sym (only_parity (name_at names i) (named_at names i named lt) above) ∙ other))
]

-- what isn't above a namespace isn't above the greater of that one and another
under_left : (x a b : Namespace) → is_at_most x a ≡ true → is_at_most x (greater_of a b) ≡ true
under_left x a b h = cond_both (is_at_most a b) b a (λ n. is_at_most x n ≡ true) (λ t. at_most_trans x a b h t) (λ f. h)

-- nor above the greater of another and that one
under_right : (x a b : Namespace) → is_at_most x b ≡ true → is_at_most x (greater_of a b) ≡ true
under_right x a b h = cond_both (is_at_most a b) b a (λ n. is_at_most x n ≡ true) (λ t. h)
    (λ f. elim (at_most_total a b) [ inl t ↦ absurd (true≢false (sym t ∙ f)) | inr u ↦ at_most_trans x b a h u ])

-- a name under either half's greatest is under that of both, where the right half's counts
under_joined : (x : Namespace) (l r : Digest) → IsNamespace x → (is_at_most x (greatest_of l) ≡ true) ⊎ ((is_parity (least_of r) ≡ false) × (is_at_most x (greatest_of r) ≡ true))
    → is_at_most x (joined_greatest l r) ≡ true
unfolding joined_greatest
under_joined x l r named h =
    let Under : Namespace → Type 0 = λ n. is_at_most x n ≡ true in
    cond_both (is_parity (least_of l)) parity (cond (is_parity (least_of r)) (greatest_of l) (greater_of (greatest_of l) (greatest_of r))) Under (λ t. at_most_parity x named)
    (λ f. cond_both (is_parity (least_of r)) (greatest_of l) (greater_of (greatest_of l) (greatest_of r)) Under
    (λ t. elim h [ inl u ↦ u | inr u ↦ absurd (true≢false (sym t ∙ u.0)) ])
    (λ g. elim h [ inl u ↦ under_left x (greatest_of l) (greatest_of r) u | inr u ↦ under_right x (greatest_of l) (greatest_of r) u.1 ]))

-- no name but PARITY is above the greatest of a node over ordered names
above_node : (names : List Namespace) (s e : ℕ) (l r : Digest) → AreNamespaces names → is_ordered names ≡ true → s + 2 ^ e + 2 ^ e ≤ length names
    → IsOver names s e l → IsOver names (s + 2 ^ e) e r → IsAbove names s e l → IsAbove names (s + 2 ^ e) e r → IsAbove names s (suc e) (node_digest l r)
above_node names s e l r named o fits h k hl hr i low high other =
    let twice : 2 ^ suc e ≡ 2 ^ e * 2 = pow-suc 2 e in
    let x : Namespace = name_at names i in
    let within : i < length names = omega (arith, twice) in
    let Under : Type 0 = (is_at_most x (greatest_of l) ≡ true) ⊎ ((is_parity (least_of r) ≡ false) × (is_at_most x (greatest_of r) ≡ true)) in
    let under : Under = elim (cases_lt i (s + 2 ^ e)) [
      | inl left ↦ inl (hl i low left other)
      | inr right ↦
          let counts : is_parity (least_of r) ≡ false = elim (cases_Bool (is_parity (least_of r))) [
            | inl t ↦
                let before : i < s + 2 ^ e = before_parity names (s + 2 ^ e) i named o within (sym (ap is_parity k.least) ∙ t) other in
                absurd (omega (arith, before, right))
            | inr f ↦ f
          ] in
          inr (counts, hr i right (omega (arith, twice)) other)
    ] in
    ap (is_at_most x) (greatest-node l r h.size k.size) ∙ under_joined x l r (named_at names i named within) under

-- nor of a leaf
above_leaf : (names : List Namespace) (s : ℕ) (d : Digest) → IsOver names s 0 d → IsAbove names s 0 d
above_leaf names s d h i low high other =
    let here : h.place ≡ i = omega (arith, h.low, h.high) in
    ap (is_at_most (name_at names i)) (h.greatest ∙ ap (name_at names) here) ∙ at_most_refl (name_at names i)

-- nor of a digest over ordered leaves
pub above_span : (e s : ℕ) (ns : List Namespace) (ss : List Share) → AreNamespaces ns → length ss ≡ length ns → is_ordered ns ≡ true → s + 2 ^ e ≤ length ns
    → IsAbove ns s e (span (leaf_digests ns ss) s e)
unfolding span
above_span zero s ns ss h len o le = above_leaf ns s (span (leaf_digests ns ss) s 0) (over_span 0 s ns ss h len le)
above_span (suc e) s ns ss h len o le =
    let twice : 2 ^ suc e ≡ 2 ^ e * 2 = pow-suc 2 e in
    let left : s + 2 ^ e ≤ length ns = omega (arith, twice) in
    let right : s + 2 ^ e + 2 ^ e ≤ length ns = omega (arith, twice) in
    above_node ns s e (span (leaf_digests ns ss) s e) (span (leaf_digests ns ss) (s + 2 ^ e) e) h o right
    (over_span e s ns ss h len left) (over_span e (s + 2 ^ e) ns ss h len right)
    (above_span e s ns ss h len o left) (above_span e (s + 2 ^ e) ns ss h len o right)
