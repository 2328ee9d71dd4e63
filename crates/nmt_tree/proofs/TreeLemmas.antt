-- Trees that are filled with leaves.
use Rattle.std.proofs.Common.{◌≡◌, ◌∙◌, ℕ, ◌+◌, ◌*◌, ◌^◌, List, length, take, Bool, true, false, cond, sym, ap, subst, arith, IsTrue, Some, None}
use Rattle.namespace_id.specs.declared.namespaces.Namespace.{Namespace}
use Rattle.namespace_id.specs.declared.shares.Share.{Share}
use Rattle.namespace_id.specs.declared.digests.Digest.{Digest}
use Rattle.nmt_tree.specs.Roots.{is_leaf_count, halvings, is_ordered, root, strict_root}
use Rattle.namespace_id.specs.Names.{AreNamespaces}
use Rattle.nmt_tree.specs.Levels.{leaf_digests, levels, span, HasOrderedJoins}
use Rattle.nmt_tree.specs.Trees.{IsTree}
use Rattle.namespace_id.proofs.PowerLemmas.{power_halvings}
use Rattle.nmt_tree.proofs.SpanLemmas.{length-leaf_digests, root_is_span}
use Rattle.nmt_tree.proofs.LevelLemmas.{levels_leaves}
use Rattle.nmt_tree.proofs.JoinLemmas.{joins_ordered}

-- a tree whose digests are all levels over these leaves
pub record IsFilled (n : ℕ) (digests leaves : List Digest) : Type 0 where
  pub is_tree : IsTree n true digests
  pub leaves_are : take n digests ≡ leaves

-- writing all levels over leaves with ordered joins makes such a tree
pub filled_tree : (n : ℕ) (digests leaves : List Digest) → IsTrue (is_leaf_count n) → length leaves ≡ n → HasOrderedJoins leaves 0 (halvings n)
    → length digests + 1 ≡ 2 * n → digests ≡ levels (halvings n) leaves → IsFilled n digests leaves
filled_tree n digests leaves is len joins room e =
    let front : take n digests ≡ leaves = ap (λ (l : List Digest). take n l) e ∙ levels_leaves n leaves is len in
    record {
      is_tree = record {
        is_count = is;
        room = room;
        filled = (λ t. e ∙ ap (levels (halvings n)) (sym front));
        ordered = (λ t. subst (λ (l : List Digest). HasOrderedJoins l 0 (halvings n)) (sym front) joins);
      };
      leaves_are = front;
    }

-- so does writing all levels over leaves with ordered names
pub filled_with_names : (n : ℕ) (digests : List Digest) (ns : List Namespace) (ss : List Share) → IsTrue (is_leaf_count n) → length ns ≡ n → length ss ≡ n
    → AreNamespaces ns → is_ordered ns ≡ true → length digests + 1 ≡ 2 * n → digests ≡ levels (halvings (length ns)) (leaf_digests ns ss)
    → IsFilled n digests (leaf_digests ns ss)
filled_with_names n digests ns ss is len same named ordered room e =
    let power : 2 ^ halvings n ≡ n = power_halvings n is in
    filled_tree n digests (leaf_digests ns ss) is (length-leaf_digests ns ss (len ∙ sym same) ∙ len)
    (joins_ordered (halvings n) 0 ns ss named (same ∙ sym len) ordered (omega (arith, power, len))) room
    (e ∙ ap (λ (k : ℕ). levels (halvings k) (leaf_digests ns ss)) len)

-- the digest over all leaves is their strict root
pub strict_root_some : (n : ℕ) (leaves : List Digest) (ns : List Namespace) (ss : List Share) → IsTrue (is_leaf_count n) → length ns ≡ n → length ss ≡ n
    → is_ordered ns ≡ true → leaves ≡ leaf_digests ns ss → Some (span leaves 0 (halvings n)) ≡ strict_root (halvings (length ns)) ns ss
unfolding strict_root
strict_root_some n leaves ns ss is len same ordered e =
    let power : 2 ^ halvings n ≡ n = power_halvings n is in
    let value : span leaves 0 (halvings n) ≡ root (halvings (length ns)) ns ss =
    ap (λ (l : List Digest). span l 0 (halvings n)) e ∙ sym (root_is_span (halvings n) ns ss (len ∙ sym power) (same ∙ sym power))
    ∙ ap (λ (k : ℕ). root (halvings k) ns ss) (sym len) in
    ap (λ (d : Digest). Some d) value ∙ ap (λ (b : Bool). cond b (Some (root (halvings (length ns)) ns ss)) None) (sym ordered)

-- falling names have no strict root
pub strict_root_none : (d : ℕ) (ns : List Namespace) (ss : List Share) → is_ordered ns ≡ false → None ≡ strict_root d ns ss
unfolding strict_root
strict_root_none d ns ss falls = sym (ap (λ (b : Bool). cond b (Some (root d ns ss)) None) falls)
