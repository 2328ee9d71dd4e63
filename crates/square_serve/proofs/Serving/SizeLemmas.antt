-- The sizes of what is found of a namespace in a row.
use Rattle.std.proofs.Common.{◌≡◌, ◌∙◌, ℕ, ◌+◌, ◌*◌, ◌^◌, ◌<◌, ◌≤◌, List, [], ◌∷◌, length, take, drop, get_or, refl, sym, arith, length-drop}
use Rattle.std.specs.List.{AllByRecursion}
use Rattle.std.proofs.lemmas.List.{length-take-le, length-map}
use Rattle.std.proofs.lemmas.List.Elements.{All-get_or, All-from_recursion}
use Rattle.namespace_id.specs.declared.cells.Axis.TheVariants.{Row}
use Rattle.namespace_id.specs.declared.namespaces.Namespace.{Namespace}
use Rattle.namespace_id.specs.declared.shares.Share.{Share}
use Rattle.namespace_id.specs.declared.digests.Digest.{Digest}
use Rattle.namespace_id.specs.Names.{IsNamespace}
use Rattle.namespace_id.specs.Shares.{IsShare}
use Rattle.namespace_id.specs.Sizes.{most_depth}
use Rattle.namespace_id.specs.Digests.{IsDigest, AreDigests, no_digest}
use Rattle.namespace_id.proofs.PowerLemmas.{double_halvings, halvings-le}
use Rattle.nmt_tree.specs.Roots.{halvings}
use Rattle.nmt_tree.specs.Levels.{span}
use Rattle.nmt_proofs.specs.Openings.{Shown, outside, one_digest, digests_from}
use Rattle.nmt_proofs.specs.Making.{spans}
use Rattle.nmt_proofs.proofs.Parts.ListLemmas.{each-take, each-drop}
use Rattle.nmt_proofs.proofs.Neighbors.RunLemmas.{IsRun, run_digests, length-digests_from}
use Rattle.nmt_proofs.proofs.Neighbors.BesideLemmas.{IsBeside, outside_beside, outside_few}
use Rattle.axis_roots.specs.Answers.{IsFound, IsEntry}
use Rattle.axis_roots.specs.Grids.{axis_names, axis_shares}
use Rattle.axis_roots.specs.Trees.{axis_leaves}
use Rattle.axis_roots.proofs.Grids.StoredLemmas.{length-leaves}
use Rattle.axis_roots.proofs.Messages.SizeLemmas.{digests-leaves, digest-span, number-lt-two_bytes}
use Rattle.square_serve.specs.Serving.{row_entry}
use Rattle.square_serve.proofs.RowTreeLemmas.{IsRow}
use Rattle.square_serve.proofs.Serving.FoundLemmas.{found_both, below, same, stands, row_names, below-lt}

-- digests over intervals within the leaves are digests
digests_over : (low high last : ℕ) (leaves : List Digest) (xs : List (ℕ × ℕ)) → AreDigests leaves → last ≤ length leaves → AllByRecursion (IsBeside low high last) xs
    → AreDigests (spans leaves xs)
digests_over low high last leaves [] are long beside = tt
digests_over low high last leaves (x ∷ xs) are long beside =
    (digest-span x.1 x.0 leaves are (omega (arith, beside.0.within, long)), digests_over low high last leaves xs are long beside.1)

-- the nodes beside some neighboring places are digests, and at most two for each level of the greatest tree
nodes_beside : (depth from : ℕ) (leaves : List Digest) (ss : List Shown) → AreDigests leaves → length leaves ≡ 2 ^ depth → depth ≤ most_depth → 0 < length ss → from + length ss ≤ 2 ^ depth
    → IsRun from ss → (length (spans leaves (outside depth 0 ss)) ≤ 2 * most_depth) × AreDigests (spans leaves (outside depth 0 ss))
nodes_beside depth from leaves ss are long deep some fits run =
    let few : length (outside depth 0 ss) ≤ depth + depth =
    outside_few depth depth depth 0 from ss some run (omega arith) (omega (arith, fits)) (λ lt. omega arith) (λ lt. omega arith) in (
      omega (arith, few, deep, length-map (outside depth 0 ss) (λ (x : ℕ × ℕ). span leaves x.0 x.1)),
      digests_over from (from + length ss) (2 ^ depth) leaves (outside depth 0 ss) are (omega (arith, long))
          (outside_beside from (from + length ss) (2 ^ depth) depth 0 from ss (omega (arith, some)) (omega arith) run (λ i a b c e. (c, e))),
    )

-- what is found of a namespace in a row, and its entry
pub entry_sized : (name : Namespace) (k : ℕ) (grid : List Share) (row : ℕ) → IsNamespace name → IsRow k grid row → IsEntry (row_entry k grid name row)
entry_sized name k grid row named is =
    let depth : ℕ = halvings (2 * k) in
    let names : List Namespace = axis_names k grid Row row in
    let shares : List Share = axis_shares k grid Row row in
    let leaves : List Digest = axis_leaves k grid Row row in
    let from : ℕ = below name k grid row in
    let count : ℕ = same name k grid row in
    let counts = stands name k grid row named is in
    let place : from < 2 * k = below-lt name k grid row named is in
    let size : 2 * k ≡ 2 ^ depth = sym (double_halvings k is.width) in
    let digests : AreDigests leaves = digests-leaves names shares is.leaves.name_bytes in
    let long : length leaves ≡ 2 * k = length-leaves k grid Row row in
    let nodes_of : (ss : List Shown) → 0 < length ss → from + length ss ≤ 2 ^ depth → IsRun from ss
    → (length (spans leaves (outside depth 0 ss)) ≤ 2 * most_depth) × AreDigests (spans leaves (outside depth 0 ss)) = λ ss.
    nodes_beside depth from leaves ss digests (long ∙ size) (halvings-le (2 * k)) in
    record {
      row = number-lt-two_bytes k row is.width (omega (arith, is.within));
      found = found_both k grid row from count IsFound (λ none.
          let leaf : Digest = get_or leaves from no_digest in
          let nodes = nodes_of (one_digest from leaf) (omega arith) (omega (arith, place, size)) (refl, refl, tt) in
          (number-lt-two_bytes k from is.width place, All-get_or IsDigest leaves from no_digest (omega (arith, place, long)) (All-from_recursion IsDigest leaves digests), nodes.0, nodes.1))
          (λ some.
          let shown : List Digest = take count (drop from leaves) in
          let fits : from + count ≤ 2 * k = omega (arith, counts.within, row_names name k grid row named is) in
          let number : length (digests_from from shown) ≡ count = length-digests_from from shown ∙ length-take-le count (drop from leaves) (omega (arith, length-drop from leaves, long, fits)) in
          let nodes = nodes_of (digests_from from shown) (omega (arith, some, number)) (omega (arith, number, fits, size)) (run_digests from shown) in
          (number-lt-two_bytes k from is.width place, each-take IsShare count (drop from shares) (each-drop IsShare from shares is.leaves.share_bytes), nodes.0, nodes.1));
    }
