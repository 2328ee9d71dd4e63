-- Over ordered names every join is ordered.
use Rattle.std.proofs.Common.{◌≡◌, ◌∙◌, ℕ, zero, suc, ◌+◌, ◌*◌, ◌^◌, ◌≤◌, List, length, true, ◌&&◌, ap₂, arith}
use Rattle.std.proofs.Math.Nat.{pow-suc}
use Rattle.std.proofs.lemmas.Nat.{pow_pos}
use Rattle.namespace_id.specs.declared.namespaces.Namespace.{Namespace}
use Rattle.namespace_id.specs.declared.shares.Share.{Share}
use Rattle.namespace_id.specs.declared.digests.Digest.{Digest}
use Rattle.namespace_id.specs.Names.{is_at_most, AreNamespaces}
use Rattle.namespace_id.specs.Digests.{least_of, greatest_of}
use Rattle.nmt_tree.specs.Digests.{is_ordered_join}
use Rattle.nmt_tree.specs.Roots.{is_ordered}
use Rattle.nmt_tree.specs.Levels.{leaf_digests, span, HasOrderedJoins}
use Rattle.nmt_tree.specs.Spans.{IsOver}
use Rattle.nmt_tree.proofs.NameLemmas.{ordered_at}
use Rattle.nmt_tree.proofs.OverLemmas.{over_span}

-- a join over ordered names is ordered
join_ordered : (names : List Namespace) (s e : ℕ) (l r : Digest) → is_ordered names ≡ true → s + 2 ^ e + 2 ^ e ≤ length names → IsOver names s e l → IsOver names (s + 2 ^ e) e r → is_ordered_join l r ≡ true
unfolding is_ordered_join
join_ordered names s e l r o le h k =
    let a : is_at_most (greatest_of l) (least_of r) ≡ true =
    ap₂ is_at_most h.greatest k.least ∙ ordered_at names h.place (s + 2 ^ e) o (omega (arith, h.high)) (omega (arith, pow_pos e)) in
    let b : is_at_most (least_of l) (greatest_of l) ≡ true = ap₂ is_at_most h.least h.greatest ∙ ordered_at names s h.place o h.low (omega (arith, h.high)) in
    let c : is_at_most (least_of r) (greatest_of r) ≡ true = ap₂ is_at_most k.least k.greatest ∙ ordered_at names (s + 2 ^ e) k.place o k.low (omega (arith, k.high)) in
    (λ i. a i && b i && c i)

-- every join over leaves with ordered names is ordered
pub joins_ordered : (e s : ℕ) (ns : List Namespace) (ss : List Share) → AreNamespaces ns → length ss ≡ length ns → is_ordered ns ≡ true → s + 2 ^ e ≤ length ns → HasOrderedJoins (leaf_digests ns ss) s e
unfolding HasOrderedJoins
joins_ordered zero s ns ss h len o le = tt
joins_ordered (suc e) s ns ss h len o le =
    let twice : 2 ^ suc e ≡ 2 ^ e * 2 = pow-suc 2 e in (
      joins_ordered e s ns ss h len o (omega (arith, twice)),
      joins_ordered e (s + 2 ^ e) ns ss h len o (omega (arith, twice)),
      join_ordered ns s e (span (leaf_digests ns ss) s e) (span (leaf_digests ns ss) (s + 2 ^ e) e) o (omega (arith, twice))
          (over_span e s ns ss h len (omega (arith, twice))) (over_span e (s + 2 ^ e) ns ss h len (omega (arith, twice))),
    )
