-- When the digests that an opening leaves out leave no place for a namespace, and that no other leaf has it then.
use Rattle.std.proofs.Common.{◌≡◌, ◌⊎◌, ◌∙◌, ℕ, ◌+◌, ◌^◌, ◌<◌, ◌≤◌, List, [], ◌∷◌, ◌++◌, length, get_or, true, false, None, refl, sym, ap, subst, inl, inr, arith}
use Rattle.std.specs.List.{AllByRecursion}
use Rattle.std.proofs.lemmas.Bool.{cases_lt}
use Rattle.std.proofs.lemmas.List.{map-append}
use Rattle.namespace_id.specs.declared.namespaces.Namespace.{Namespace}
use Rattle.namespace_id.specs.declared.shares.Share.{Share}
use Rattle.namespace_id.specs.declared.digests.Digest.{Digest}
use Rattle.namespace_id.specs.Names.{is_parity}
use Rattle.namespace_id.specs.Digests.{no_digest}
use Rattle.nmt_tree.specs.Roots.{is_ordered}
use Rattle.nmt_tree.specs.Levels.{span, leaf_digests}
use Rattle.nmt_proofs.specs.Clashes.{AreLeaves}
use Rattle.nmt_proofs.specs.Complete.{first_break, range_break, absence_break, IsBetween, StandsBetween, IsNowhereElse}
use Rattle.nmt_proofs.specs.Making.{spans}
use Rattle.nmt_proofs.specs.Openings.{Shown, outside, leaves_from, one_digest}
use Rattle.nmt_proofs.proofs.Parts.ListLemmas.{each-append, each-split}
use Rattle.nmt_proofs.proofs.Neighbors.RunLemmas.{IsRun, run_leaves, length-leaves_from}
use Rattle.nmt_proofs.proofs.Neighbors.BesideLemmas.{IsBeside, outside_beside, outside_holds, IsFound}
use Rattle.nmt_proofs.proofs.Neighbors.CompleteLemmas.{IsClear, break_none, none_breaks, each_excluded, each_clear, leaf_on_left, leaf_on_right, stands_alone}

-- the intervals outside of a run in a tree are beside it
beside_run : (depth from : ℕ) (ss : List Shown) → IsRun from ss → 0 < length ss → from + length ss ≤ 2 ^ depth
    → AllByRecursion (IsBeside from (from + length ss) (2 ^ depth)) (outside depth 0 ss)
beside_run depth from ss run some fits =
    outside_beside from (from + length ss) (2 ^ depth) depth 0 from ss (omega arith) (omega arith) run (λ i a b c e. (c, e))

-- a place that isn't in the run is in an interval outside of it
other_place : (P : ℕ × ℕ → Type 0) (depth from i : ℕ) (ss : List Shown) → IsRun from ss → from + length ss ≤ 2 ^ depth
    → AllByRecursion P (outside depth 0 ss) → i < 2 ^ depth → (i < from) ⊎ (from + length ss ≤ i) → IsFound P i
other_place P depth from i ss run fits each lt other = outside_holds P depth 0 from i ss run (λ some. (omega arith, omega (arith, fits))) each (omega arith) (omega (arith, lt)) other

-- the nodes of a range leave no place where the namespaces beside it leave none
pub made_range : (depth from : ℕ) (name : Namespace) (names : List Namespace) (shares shown : List Share) → AreLeaves depth names shares → 0 < length shown
    → from + length shown ≤ 2 ^ depth → IsBetween name names from (from + length shown)
    → range_break depth from name shown (spans (leaf_digests names shares) (outside depth 0 (leaves_from from name shown))) ≡ None
made_range depth from name names shares shown of some fits between =
    let ss : List Shown = leaves_from from name shown in
    let count : length ss ≡ length shown = length-leaves_from from name shown in
    break_none name from 0 (leaf_digests names shares) (outside depth 0 ss)
    (each_excluded name from (from + length ss) depth names shares (outside depth 0 ss) of
    (subst (λ (k : ℕ). IsBetween name names from (from + k)) (sym count) between) (omega arith)
    (beside_run depth from ss (run_leaves from name shown) (omega (arith, count, some)) (omega (arith, count, fits))))

-- where the nodes of a range leave no place, the namespaces beside it stand as they should
pub range_stands : (depth from : ℕ) (name : Namespace) (names : List Namespace) (shares shown : List Share)
    → AreLeaves depth names shares → is_ordered names ≡ true → 0 < length shown → from + length shown ≤ 2 ^ depth
    → range_break depth from name shown (spans (leaf_digests names shares) (outside depth 0 (leaves_from from name shown))) ≡ None
    → StandsBetween name names from (from + length shown)
range_stands depth from name names shares shown of ordered some fits none =
    let ss : List Shown = leaves_from from name shown in
    let run : IsRun from ss = run_leaves from name shown in
    let leaves : List Digest = leaf_digests names shares in
    let high : ℕ = from + length ss in
    let count : length ss ≡ length shown = length-leaves_from from name shown in
    let Clear : ℕ × ℕ → Type 0 = IsClear name from high (2 ^ depth) leaves in
    let clear : AllByRecursion Clear (outside depth 0 ss) =
    each_clear name from high (2 ^ depth) leaves (outside depth 0 ss)
    (beside_run depth from ss run (omega (arith, count, some)) (omega (arith, count, fits)))
    (none_breaks name from 0 leaves (outside depth 0 ss) none) in
    let found : (i : ℕ) → i < length names → (i < from) ⊎ (high ≤ i) → IsFound Clear i =
    λ i lt side. other_place Clear depth from i ss run (omega (arith, count, fits)) clear (omega (arith, lt, of.name_count)) side in record {
      below = λ i lt before other. leaf_on_left name from high depth i names shares of ordered (omega arith) (found i lt (inl before)) before other;
      above = λ i behind lt.
          leaf_on_right name from high depth i names shares of ordered (omega arith) (found i lt (inr (omega (arith, behind, count))))
          (omega (arith, behind, count));
    }

-- so no other leaf has the namespace
pub range_alone : (depth from : ℕ) (name : Namespace) (names : List Namespace) (shares shown : List Share) → is_parity name ≡ false
    → AreLeaves depth names shares → is_ordered names ≡ true → 0 < length shown → from + length shown ≤ 2 ^ depth
    → range_break depth from name shown (spans (leaf_digests names shares) (outside depth 0 (leaves_from from name shown))) ≡ None
    → IsNowhereElse name names from (from + length shown)
range_alone depth from name names shares shown other of ordered some fits none =
    stands_alone name names from (from + length shown) other (range_stands depth from name names shares shown of ordered some fits none)

-- the intervals of an absence, and that of its leaf, are beside its place
beside_place : (depth pos : ℕ) (leaf : Digest) → pos < 2 ^ depth → AllByRecursion (IsBeside pos pos (2 ^ depth)) (outside depth 0 (one_digest pos leaf) ++ (pos, 0) ∷ [])
beside_place depth pos leaf lt =
    let ss : List Shown = one_digest pos leaf in
    each-append (IsBeside pos pos (2 ^ depth)) (outside depth 0 ss) ((pos, 0) ∷ [])
    (wider (outside depth 0 ss) (beside_run depth pos ss (refl, refl, tt) (omega arith) (omega (arith, lt))))
    (record { within = omega (arith, lt); side = inr (omega arith) }, tt)
  where
    wider : (xs : List (ℕ × ℕ)) → AllByRecursion (IsBeside pos (pos + 1) (2 ^ depth)) xs → AllByRecursion (IsBeside pos pos (2 ^ depth)) xs
    wider [] h = tt
    wider (x ∷ xs) h = (
      record { within = h.0.within; side = elim h.0.side [ inl left ↦ inl left | inr right ↦ inr (omega (arith, right)) ] },
      wider xs h.1,
    )

-- the leaf of an absence is the node over its place
leaf_is_node : (pos : ℕ) (leaf : Digest) (leaves : List Digest) (xs : List (ℕ × ℕ)) → leaf ≡ get_or leaves pos no_digest → spans leaves xs ++ leaf ∷ [] ≡ spans leaves (xs ++ (pos, 0) ∷ [])
unfolding span
leaf_is_node pos leaf leaves xs e =
    ap (λ (d : Digest). spans leaves xs ++ d ∷ []) e ∙ sym (map-append (λ (x : ℕ × ℕ). span leaves x.0 x.1) xs ((pos, 0) ∷ []))

-- the nodes of an absence leave no place where the namespaces beside its place leave none
pub made_absence : (depth pos : ℕ) (name : Namespace) (names : List Namespace) (shares : List Share) (leaf : Digest) → AreLeaves depth names shares → pos < 2 ^ depth
    → IsBetween name names pos pos → leaf ≡ get_or (leaf_digests names shares) pos no_digest
    → absence_break depth pos name leaf (spans (leaf_digests names shares) (outside depth 0 (one_digest pos leaf))) ≡ None
made_absence depth pos name names shares leaf of lt between e =
    let leaves : List Digest = leaf_digests names shares in
    let xs : List (ℕ × ℕ) = outside depth 0 (one_digest pos leaf) ++ (pos, 0) ∷ [] in
    ap (first_break name pos 0 xs) (leaf_is_node pos leaf leaves (outside depth 0 (one_digest pos leaf)) e)
    ∙ break_none name pos 0 leaves xs (each_excluded name pos pos depth names shares xs of between (omega arith) (beside_place depth pos leaf lt))

-- where the nodes of an absence leave no place, the namespaces beside its place stand as they should
pub absence_stands : (depth pos : ℕ) (name : Namespace) (names : List Namespace) (shares : List Share) (leaf : Digest)
    → AreLeaves depth names shares → is_ordered names ≡ true → pos < 2 ^ depth → leaf ≡ get_or (leaf_digests names shares) pos no_digest
    → absence_break depth pos name leaf (spans (leaf_digests names shares) (outside depth 0 (one_digest pos leaf))) ≡ None
    → StandsBetween name names pos pos
absence_stands depth pos name names shares leaf of ordered lt e none =
    let ss : List Shown = one_digest pos leaf in
    let leaves : List Digest = leaf_digests names shares in
    let xs : List (ℕ × ℕ) = outside depth 0 ss ++ (pos, 0) ∷ [] in
    let Clear : ℕ × ℕ → Type 0 = IsClear name pos pos (2 ^ depth) leaves in
    let clear : AllByRecursion Clear xs =
    each_clear name pos pos (2 ^ depth) leaves xs (beside_place depth pos leaf lt)
    (none_breaks name pos 0 leaves xs (sym (ap (first_break name pos 0 xs) (leaf_is_node pos leaf leaves (outside depth 0 ss) e)) ∙ none)) in
    let both = each-split Clear (outside depth 0 ss) ((pos, 0) ∷ []) clear in
    let at : (i : ℕ) → i < length names → (i < pos) ⊎ (pos + 1 ≤ i) → IsFound Clear i =
    λ i within side. other_place Clear depth pos i ss (refl, refl, tt) (omega (arith, lt)) both.0 (omega (arith, within, of.name_count)) side in record {
      below = λ i within before other. leaf_on_left name pos pos depth i names shares of ordered (omega arith) (at i within (inl before)) before other;
      above = λ i from_pos within.
          leaf_on_right name pos pos depth i names shares of ordered (omega arith) (elim (cases_lt pos i) [
            | inl behind ↦ at i within (inr (omega (arith, behind)))
            | inr same ↦ record { interval = (pos, 0); fact = both.1.0; low = from_pos; high = omega (arith, same) }
          ]) from_pos;
    }

-- so no leaf has the namespace
pub absence_alone : (depth pos : ℕ) (name : Namespace) (names : List Namespace) (shares : List Share) (leaf : Digest) → is_parity name ≡ false
    → AreLeaves depth names shares → is_ordered names ≡ true → pos < 2 ^ depth → leaf ≡ get_or (leaf_digests names shares) pos no_digest
    → absence_break depth pos name leaf (spans (leaf_digests names shares) (outside depth 0 (one_digest pos leaf))) ≡ None
    → IsNowhereElse name names pos pos
absence_alone depth pos name names shares leaf other of ordered lt e none =
    stands_alone name names pos pos other (absence_stands depth pos name names shares leaf of ordered lt e none)
