-- The two ways to say that the joins over a list of leaves are ordered.
use Rattle.std.proofs.Common.{◌≡◌, ◌∙◌, ℕ, zero, suc, ◌+◌, ◌^◌, List, [], ◌∷◌, drop, true, ◌&&◌, refl, sym, ap, ap₂}
use Rattle.std.proofs.lemmas.Bool.{and_parts}
use Rattle.namespace_id.specs.declared.namespaces.Namespace.{Namespace}
use Rattle.namespace_id.specs.declared.shares.Share.{Share}
use Rattle.namespace_id.specs.declared.digests.Digest.{Digest}
use Rattle.nmt_tree.specs.Digests.{is_ordered_join}
use Rattle.nmt_tree.specs.Levels.{leaf_digests, HasOrderedJoins}
use Rattle.nmt_proofs.specs.Parts.{Part, digest_of, is_in_order}
use Rattle.nmt_proofs.specs.Clashes.{whole}
use Rattle.nmt_proofs.proofs.Parts.WholeLemmas.{whole-halved, whole_is_span}
use Rattle.nmt_proofs.proofs.Agreement.MadeLemmas.{and_true}

-- the part of one place has no joins
one_in_order : (ns : List Namespace) (ss : List Share) → is_in_order (whole 0 ns ss) ≡ true
unfolding whole
one_in_order [] ss = refl
one_in_order (n ∷ ns) [] = refl
one_in_order (n ∷ ns) (s ∷ ss) = refl

-- where the joins over leaves are ordered, so are those of their part
pub joins_in_order : (d st : ℕ) (ns : List Namespace) (ss : List Share) → HasOrderedJoins (leaf_digests ns ss) st d
    → is_in_order (whole d (drop st ns) (drop st ss)) ≡ true
unfolding HasOrderedJoins
joins_in_order zero st ns ss j = one_in_order (drop st ns) (drop st ss)
joins_in_order (suc d) st ns ss j =
    ap is_in_order (whole-halved d st ns ss)
    ∙ and_true _ _ _ (joins_in_order d st ns ss j.0) (joins_in_order d (st + 2 ^ d) ns ss j.1)
    (ap₂ (λ (x y : Digest). is_ordered_join x y) (whole_is_span d st ns ss) (whole_is_span d (st + 2 ^ d) ns ss) ∙ j.2)

-- and the other way round
pub order_of_joins : (d st : ℕ) (ns : List Namespace) (ss : List Share) → is_in_order (whole d (drop st ns) (drop st ss)) ≡ true
    → HasOrderedJoins (leaf_digests ns ss) st d
unfolding HasOrderedJoins
order_of_joins zero st ns ss o = tt
order_of_joins (suc d) st ns ss o =
    let l : Part = whole d (drop st ns) (drop st ss) in
    let r : Part = whole d (drop (st + 2 ^ d) ns) (drop (st + 2 ^ d) ss) in
    let both = and_parts (is_in_order l && is_in_order r) (is_ordered_join (digest_of l) (digest_of r)) (sym (ap is_in_order (whole-halved d st ns ss)) ∙ o) in
    let halves = and_parts (is_in_order l) (is_in_order r) both.0 in (
      order_of_joins d st ns ss halves.0,
      order_of_joins d (st + 2 ^ d) ns ss halves.1,
      ap₂ (λ (x y : Digest). is_ordered_join x y) (sym (whole_is_span d st ns ss)) (sym (whole_is_span d (st + 2 ^ d) ns ss)) ∙ both.1,
    )
