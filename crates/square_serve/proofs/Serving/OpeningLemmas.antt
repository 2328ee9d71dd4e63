-- What is found of a namespace in a row opens under the row's root, and is complete.
use Rattle.std.proofs.Common.{◌≡◌, ◌∙◌, ℕ, ◌+◌, ◌*◌, ◌^◌, ◌<◌, ◌≤◌, List, length, take, drop, get_or, replicate, true, false, not, nat_lt, refl, sym, ap, ap₂, subst, arith, length-drop}
use Rattle.std.proofs.lemmas.Bool.{and_from, lt-ltb, le-ltb}
use Rattle.std.proofs.lemmas.List.{length-take-le, get_or-take, get_or-drop, get_or-replicate, length-replicate, ext_get_or}
use Rattle.namespace_id.specs.declared.cells.Axis.TheVariants.{Row}
use Rattle.namespace_id.specs.declared.namespaces.Namespace.{Namespace}
use Rattle.namespace_id.specs.declared.shares.Share.{Share}
use Rattle.namespace_id.specs.declared.digests.Digest.{Digest}
use Rattle.namespace_id.specs.Names.{IsNamespace, is_at_most, is_parity, parity}
use Rattle.namespace_id.specs.Digests.{least_of, greatest_of, no_digest}
use Rattle.namespace_id.proofs.PowerLemmas.{double_halvings}
use Rattle.nmt_tree.specs.Digests.{leaf_digest}
use Rattle.nmt_tree.specs.Roots.{halvings}
use Rattle.nmt_tree.specs.Levels.{leaf_digests}
use Rattle.nmt_tree.specs.Spans.{name_at, IsOver}
use Rattle.nmt_tree.proofs.SpanLemmas.{length-leaf_digests, leaf_digests-at}
use Rattle.nmt_proofs.specs.Parts.{given}
use Rattle.nmt_proofs.specs.Openings.{Opens, one_digest, leaves_from}
use Rattle.nmt_proofs.specs.Complete.{IsBetween}
use Rattle.nmt_proofs.specs.Causes.{OpensRange, OpensAbsence}
use Rattle.nmt_proofs.specs.Making.{leaf_nodes, range_nodes}
use Rattle.nmt_proofs.proofs.Agreement.MadeLemmas.{one_opens}
use Rattle.nmt_proofs.proofs.Agreement.OtherLeafLemmas.{made_absence}
use Rattle.nmt_proofs.proofs.Neighbors.NeighborLemmas.{range_opens, range_complete}
use Rattle.axis_roots.specs.Lines.{blank}
use Rattle.axis_roots.specs.Grids.{share_at, axis_names, axis_shares, axis_root}
use Rattle.axis_roots.specs.Trees.{axis_leaves}
use Rattle.axis_roots.proofs.Grids.AxisLemmas.{length-along}
use Rattle.axis_roots.proofs.Grids.RootingLemmas.{root-leaves}
use Rattle.axis_roots.proofs.Grids.StoredLemmas.{length-leaves}
use Rattle.square_serve.specs.Answers.{is_placed, OpensFound}
use Rattle.square_serve.specs.Serving.{found_in}
use Rattle.square_serve.proofs.RowTreeLemmas.{IsRow, row_joins}
use Rattle.square_serve.proofs.Serving.FoundLemmas.{found_both, below, same, stands, row_names, below-lt, same-le, below-le}

-- neighboring leaves of which all have a namespace, by their digests
leaves_of_range : (names : List Namespace) (shares : List Share) (from count : ℕ) (name : Namespace) → length names ≡ length shares → from + count ≤ length names
    → ((i : ℕ) → from ≤ i → i < from + count → name_at names i ≡ name)
    → leaf_digests (replicate count name) (take count (drop from shares)) ≡ take count (drop from (leaf_digests names shares))
leaves_of_range names shares from count name alike fits each =
    let leaves : List Digest = leaf_digests names shares in
    let shown : List Share = take count (drop from shares) in
    let long : length shown ≡ count = length-take-le count (drop from shares) (omega (arith, length-drop from shares, alike, fits)) in
    let paired : length (replicate count name) ≡ length shown = length-replicate count name ∙ sym long in
    let left : length (leaf_digests (replicate count name) shown) ≡ count = length-leaf_digests (replicate count name) shown paired ∙ length-replicate count name in
    let right : length (take count (drop from leaves)) ≡ count =
    length-take-le count (drop from leaves) (omega (arith, length-drop from leaves, length-leaf_digests names shares alike, fits)) in
    ext_get_or no_digest (leaf_digests (replicate count name) shown) (take count (drop from leaves)) (left ∙ sym right) (λ i h.
    let within : i < count = omega (arith, h, left) in
    leaf_digests-at (replicate count name) shown i name blank paired (omega (arith, within, length-replicate count name))
    ∙ ap₂ leaf_digest (get_or-replicate count i name name within ∙ sym (each (from + i) (omega arith) (omega (arith, within))))
    (get_or-take count (drop from shares) i blank within ∙ get_or-drop from shares i blank)
    ∙ sym (get_or-take count (drop from leaves) i no_digest within ∙ get_or-drop from leaves i no_digest
    ∙ leaf_digests-at names shares (from + i) parity blank alike (omega (arith, within, fits))))

-- the shares that are shown of a namespace in a row
abbrev pub shown_in : Namespace → ℕ → List Share → ℕ → List Share
shown_in name k grid row = take (same name k grid row) (drop (below name k grid row) (axis_shares k grid Row row))

module _ (name : Namespace) (k : ℕ) (grid : List Share) (row : ℕ) (named : IsNamespace name) (is : IsRow k grid row) where
  -- the leaves of a row: their number
  leaves-long : length (axis_leaves k grid Row row) ≡ 2 ^ halvings (2 * k)
  leaves-long = length-leaves k grid Row row ∙ sym (double_halvings k is.width)

  -- as many as there are leaves of the namespace
  pub length-shown : length (shown_in name k grid row) ≡ same name k grid row
  length-shown =
      length-take-le (same name k grid row) (drop (below name k grid row) (axis_shares k grid Row row))
      (omega (arith, length-drop (below name k grid row) (axis_shares k grid Row row), length-along k (share_at (2 * k) grid) Row row, (stands name k grid row named is).within, row_names name k grid row named is))

  -- they are within the row
  shown-within : below name k grid row + same name k grid row ≤ 2 ^ halvings (2 * k)
  shown-within = omega (arith, (stands name k grid row named is).within, row_names name k grid row named is, double_halvings k is.width)

  -- the namespaces beside them are others
  between : IsBetween name (axis_names k grid Row row) (below name k grid row) (below name k grid row + same name k grid row)
  between = record { below = (stands name k grid row named is).under; above = (stands name k grid row named is).over }

  -- the range opens
  range_holds : 0 < same name k grid row
      → OpensRange (halvings (2 * k)) (below name k grid row) name (shown_in name k grid row)
      (range_nodes (2 * k) (axis_leaves k grid Row row) (below name k grid row) (same name k grid row)) (axis_root k grid Row row)
  range_holds some =
      let depth : ℕ = halvings (2 * k) in
      let leaves : List Digest = axis_leaves k grid Row row in
      let from : ℕ = below name k grid row in
      let count : ℕ = same name k grid row in
      let nodes : List Digest = range_nodes (2 * k) leaves from count in
      let alike : length (axis_names k grid Row row) ≡ length (axis_shares k grid Row row) = is.leaves.name_count ∙ sym is.leaves.share_count in
      record {
        opens = subst (λ (root : Digest). Opens depth (leaves_from from name (shown_in name k grid row)) nodes root) (root-leaves k grid Row row is.width)
            (range_opens depth from count leaves nodes name (shown_in name k grid row) shown-within leaves-long (row_joins k grid row is) refl length-shown
            (leaves_of_range (axis_names k grid Row row) (axis_shares k grid Row row) from count name alike (stands name k grid row named is).within (stands name k grid row named is).here));
        complete = range_complete depth from count leaves nodes name (axis_names k grid Row row) (axis_shares k grid Row row) (shown_in name k grid row) some
            shown-within leaves-long refl is.leaves refl between length-shown;
      }

  -- the absence opens
  absence_holds : same name k grid row ≡ 0
      → OpensAbsence (halvings (2 * k)) (below name k grid row) name (get_or (axis_leaves k grid Row row) (below name k grid row) no_digest)
      (leaf_nodes (2 * k) (axis_leaves k grid Row row) (below name k grid row)) (axis_root k grid Row row)
  absence_holds none =
      let depth : ℕ = halvings (2 * k) in
      let leaves : List Digest = axis_leaves k grid Row row in
      let pos : ℕ = below name k grid row in
      let leaf : Digest = get_or leaves pos no_digest in
      let nodes : List Digest = leaf_nodes (2 * k) leaves pos in
      let within : pos < 2 ^ depth = omega (arith, below-lt name k grid row named is, double_halvings k is.width) in
      let end : pos + same name k grid row ≡ pos = omega (arith, none) in
      record {
        opens = subst (λ (root : Digest). Opens depth (one_digest pos leaf) nodes root) (root-leaves k grid Row row is.width)
            (one_opens depth pos leaves nodes (given leaf) (given leaf) within refl refl (row_joins k grid row is) refl);
        complete = made_absence depth pos name (axis_names k grid Row row) (axis_shares k grid Row row) leaf is.leaves within
            (subst (IsBetween name (axis_names k grid Row row) pos) end between) refl;
      }

  -- so does what is found
  pub found_opens : OpensFound k (axis_root k grid Row row) name (found_in k grid name row)
  found_opens =
      found_both k grid row (below name k grid row) (same name k grid row) (OpensFound k (axis_root k grid Row row) name) absence_holds range_holds

  -- where the root's namespaces have the namespace between them, it stands in the original square
  pub found_placed : is_parity name ≡ false → (root : Digest) → IsOver (axis_names k grid Row row) 0 (halvings (2 * k)) root
      → is_at_most (least_of root) name ≡ true → is_at_most name (greatest_of root) ≡ true → is_placed k (found_in k grid name row) ≡ true
  found_placed other root over low high =
      found_both k grid row (below name k grid row) (same name k grid row) (λ found. is_placed k found ≡ true)
      (λ none. lt-ltb (below name k grid row) k (below-le name k grid row named is other root over low high))
      (λ some. and_from (nat_lt 0 (length (shown_in name k grid row))) (not (nat_lt k (below name k grid row + length (shown_in name k grid row))))
      (lt-ltb 0 (length (shown_in name k grid row)) (omega (arith, some, length-shown)))
      (ap not (le-ltb k (below name k grid row + length (shown_in name k grid row)) (omega (arith, length-shown, same-le name k grid row named is other some)))))
