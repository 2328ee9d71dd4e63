-- Data roots and root paths, from the roots and paths of rows and columns.
use Rattle.std.proofs.Common.{◌≡◌, ℕ, suc, ◌+◌, ◌*◌, ◌^◌, ◌<◌, List, [], ◌∷◌, ◌++◌, sym, ap, ap₂, ◌∙◌, arith, length, take, drop, get_or, length-append, subst, IsTrue, Bool, true}
use Rattle.std.specs.Str.{bytes_eq}
use Rattle.std.proofs.lemmas.Bool.Decides.{nat_tests}
use Rattle.std.proofs.lemmas.Slice.Eq.{bytes_eq-Decides}
use Rattle.std.proofs.lemmas.List.{get_or_append_left, get_or-append-add}
use Rattle.std.proofs.Math.Nat.{pow-suc}
use Rattle.namespace_id.specs.declared.cells.Axis.{Axis}
use Rattle.namespace_id.specs.declared.cells.Axis.TheVariants.{Row, Col}
use Rattle.namespace_id.specs.declared.digests.Digest.{Digest}
use Rattle.namespace_id.specs.Digests.{no_digest}
use Rattle.namespace_id.specs.Cells.{is_width}
use Rattle.data_header.specs.Headers.{Roots, AreRoots, roots_along, root_of}
use Rattle.data_header.specs.DataRoots.{leaf_hash, inner_hash, merkle_root, root_halvings, data_root_of, path_of, led, root_place, OpensRoot}
use Rattle.std.proofs.Math.Seq.{take-append_seam, drop-append_seam}
use Rattle.namespace_id.specs.Powers.{halvings}
use Rattle.namespace_id.proofs.PowerLemmas.{double_halvings}
use Rattle.data_header.proofs.RootLemmas.{IsRootOf, IsPathOf, merkle_root-suc, length-path_of}
use Rattle.data_header.specs.HashTrees.{siblings, AreTreeHashes}
use Rattle.data_header.proofs.HashTreeLemmas.{length-siblings, leaf_led}
use Rattle.data_header.proofs.LedLemmas.{led-left-power, led-right-power, led-path_of}

-- the root over two lists of 2 ^ depth digests
merkle_root-append : (d : ℕ) (rows cols : List Digest) → length rows ≡ 2 ^ d
    → merkle_root (suc d) (rows ++ cols) ≡ inner_hash (merkle_root d rows) (merkle_root d cols)
merkle_root-append d rows cols power =
    merkle_root-suc d (rows ++ cols)
    ∙ ap₂ (λ (l r : List Digest). inner_hash (merkle_root d l) (merkle_root d r))
    (ap (λ (k : ℕ). take k (rows ++ cols)) (sym power) ∙ take-append_seam rows cols)
    (ap (λ (k : ℕ). drop k (rows ++ cols)) (sym power) ∙ drop-append_seam rows cols)

-- the data root, from the roots over the rows and over the columns
pub data_root-axes : (header : Roots) → AreRoots header
    → data_root_of header ≡ inner_hash (merkle_root (halvings (2 * header.k)) header.rows) (merkle_root (halvings (2 * header.k)) header.cols)
data_root-axes header h =
    merkle_root-append (halvings (2 * header.k)) header.rows header.cols (h.rows ∙ sym (double_halvings header.k h.width))

-- the hash over the root over the rows and that over the columns is the data root
pub data_root-halves : (header : Roots) (rows cols : List Digest) (l r : List ℕ) → AreRoots header → rows ≡ header.rows → cols ≡ header.cols
    → IsRootOf rows l → IsRootOf cols r → inner_hash l r ≡ data_root_of header
data_root-halves header rows cols l r h rows_are cols_are lefts rights =
    let d : ℕ = halvings (2 * header.k) in
    let long : 2 * header.k ≡ 2 ^ d = sym (double_halvings header.k h.width) in
    ap₂ inner_hash
    (lefts d (ap length rows_are ∙ h.rows ∙ long) ∙ ap (merkle_root d) rows_are)
    (rights d (ap length cols_are ∙ h.cols ∙ long) ∙ ap (merkle_root d) cols_are)
    ∙ sym (data_root-axes header h)

-- the hash over what stands along an axis and what stands along the other: rows on the left
abbrev pub joined : Axis → List ℕ → List ℕ → List ℕ
joined Row along across = inner_hash along across
joined Col along across = inner_hash across along

-- the roots along the other axis
abbrev pub roots_across : Roots → Axis → List Digest
roots_across header Row = header.cols
roots_across header Col = header.rows

-- the number of roots along an axis, and along the other
counts : (header : Roots) (axis : Axis) → AreRoots header
    → (length (roots_along header axis) ≡ 2 * header.k) × (length (roots_across header axis) ≡ 2 * header.k)
counts header Row h = (h.rows, h.cols)
counts header Col h = (h.cols, h.rows)

-- the data root, from the roots over one axis and over the other
data_root-joined : (header : Roots) (axis : Axis) → AreRoots header → data_root_of header
    ≡ joined axis (merkle_root (halvings (2 * header.k)) (roots_along header axis)) (merkle_root (halvings (2 * header.k)) (roots_across header axis))
data_root-joined header Row h = data_root-axes header h
data_root-joined header Col h = data_root-axes header h

-- where a path along an axis leads, with the root over the other axis behind it
led-axis : (k : ℕ) (axis : Axis) (index d : ℕ) (path : List (List ℕ)) (top other : List ℕ) → 2 * k ≡ 2 ^ d → index < 2 ^ d → length path ≡ d
    → led (root_place k axis index) top (path ++ other ∷ []) ≡ joined axis (led index top path) other
led-axis k Row index d path top other power below count = led-left-power path d index top other count below
led-axis k Col index d path top other power below count =
    ap (λ (n : ℕ). led (n + index) top (path ++ other ∷ [])) power ∙ led-right-power path d index top other count below

-- the path along an axis, and then the root over the other axis, lead to the data root
pub opens-axis : (header : Roots) (axis : Axis) (index : ℕ) (path : List (List ℕ)) (other : List ℕ) → AreRoots header → index < 2 * header.k
    → IsPathOf (roots_along header axis) index path → IsRootOf (roots_across header axis) other
    → OpensRoot (data_root_of header) header.k axis index (root_of header axis index) (path ++ other ∷ [])
opens-axis header axis index path other h place path_is other_is =
    let d : ℕ = halvings (2 * header.k) in
    let long : 2 * header.k ≡ 2 ^ d = sym (double_halvings header.k h.width) in
    let digests : List Digest = roots_along header axis in
    let below : index < 2 ^ d = omega (arith, long) in
    let power : length digests ≡ 2 ^ d = (counts header axis h).0 ∙ long in
    let path_here : path ≡ path_of d digests index = path_is d power in
    let count : length path ≡ d = ap length path_here ∙ length-path_of d digests index in
    let top : List ℕ = leaf_hash (get_or digests index no_digest) in
    record {
      width = h.width;
      place = place;
      count = omega (arith, length-append path (other ∷ []), count);
      leads =
          led-axis header.k axis index d path top other long below count
          ∙ ap₂ (joined axis)
          (ap (led index top) path_here ∙ led-path_of d digests index no_digest below power)
          (other_is d ((counts header axis h).1 ∙ long))
          ∙ sym (data_root-joined header axis h);
    }

-- a path that opens a root of a header opens it where header, axis and path are named otherwise
pub opens-same : (header now : Roots) (axis same : Axis) (index : ℕ) (path hashes : List (List ℕ)) → header ≡ now → same ≡ axis → hashes ≡ path
    → OpensRoot (data_root_of header) header.k axis index (root_of header axis index) path
    → OpensRoot (data_root_of now) now.k same index (root_of now same index) hashes
opens-same header now axis same index path hashes headers axes paths h =
    subst (λ (n : Roots). OpensRoot (data_root_of n) n.k same index (root_of n same index) hashes) headers
    (subst (λ (a : Axis). OpensRoot (data_root_of header) header.k a index (root_of header a index) hashes) (sym axes)
    (subst (OpensRoot (data_root_of header) header.k axis index (root_of header axis index)) (sym paths) h))

-- two hashes are found equal where they are
same-hash : (e : Bool) (top root : List ℕ) → e ≡ bytes_eq top root → (IsTrue e → top ≡ root) × (top ≡ root → IsTrue e)
same-hash e top root h = grind (arith, nat_tests, bytes_eq-Decides)

-- a path of the right length is judged by where it leads
pub opened : (root top : List ℕ) (k : ℕ) (axis : Axis) (index : ℕ) (digest : Digest) (path : List (List ℕ)) (e : Bool)
    → is_width k ≡ true → index < 2 * k → length path ≡ root_halvings k → top ≡ led (root_place k axis index) (leaf_hash digest) path
    → e ≡ bytes_eq top root → (IsTrue e → OpensRoot root k axis index digest path) × (OpensRoot root k axis index digest path → IsTrue e)
opened root top k axis index digest path e width place count leads test =
    let same = same-hash e top root test in
    (λ yes. record { width = width; place = place; count = count; leads = sym leads ∙ same.0 yes }, λ opens. same.1 (leads ∙ opens.leads))

-- the root of an axis is the one at its place among all
placed_root : (header : Roots) (axis : Axis) (index : ℕ) → AreRoots header → index < 2 * header.k
    → get_or (header.rows ++ header.cols) (root_place header.k axis index) no_digest ≡ root_of header axis index
placed_root header Row index h place = get_or_append_left header.rows header.cols no_digest index (omega (arith, h.rows, place))
placed_root header Col index h place =
    ap (λ (n : ℕ). get_or (header.rows ++ header.cols) (n + index) no_digest) (sym h.rows) ∙ get_or-append-add header.rows header.cols index no_digest

-- its place is one of all
place-lt : (k : ℕ) (axis : Axis) (index : ℕ) → index < 2 * k → root_place k axis index < 4 * k
place-lt k Row index h = omega (arith, h)
place-lt k Col index h = omega (arith, h)

-- there are 4k of them
all_roots : (header : Roots) → AreRoots header → length (header.rows ++ header.cols) ≡ 4 * header.k
all_roots header h = omega (arith, length-append header.rows header.cols, h.rows, h.cols)

-- the tree over all roots of a header has as many leaves as its halvings say
tree_power : (header : Roots) → AreRoots header → length (header.rows ++ header.cols) ≡ 2 ^ root_halvings header.k
tree_power header h =
    let long : 2 ^ root_halvings header.k ≡ 2 ^ halvings (2 * header.k) * 2 = pow-suc 2 (halvings (2 * header.k)) in
    omega (arith, all_roots header h, long, double_halvings header.k h.width)

-- the hashes beside the way of a leaf, in the tree over all roots of a header, lead to the data root
pub opens-siblings : (header : Roots) (hashes path : List (List ℕ)) (axis : Axis) (index place levels : ℕ) → AreRoots header
    → AreTreeHashes (header.rows ++ header.cols) hashes → index < 2 * header.k → place ≡ 4 * header.k + root_place header.k axis index
    → levels ≡ root_halvings header.k → path ≡ siblings levels hashes place
    → OpensRoot (data_root_of header) header.k axis index (root_of header axis index) path
opens-siblings header hashes path axis index place levels h are within at depth is =
    let digests : List Digest = header.rows ++ header.cols in
    let number : ℕ = root_place header.k axis index in
    let count : length digests ≡ 4 * header.k = all_roots header h in
    let power : length digests ≡ 2 ^ root_halvings header.k = tree_power header h in
    let same : path ≡ siblings (root_halvings header.k) hashes (length digests + number) =
    is ∙ ap₂ (λ (n p : ℕ). siblings n hashes p) depth (at ∙ ap (λ (n : ℕ). n + number) (sym count)) in
    record {
      width = h.width;
      place = within;
      count = ap length same ∙ length-siblings (root_halvings header.k) hashes (length digests + number);
      leads =
          ap₂ (λ (d : Digest) (p : List (List ℕ)). led number (leaf_hash d) p) (sym (placed_root header axis index h within)) same
          ∙ leaf_led digests hashes are (root_halvings header.k) number power (omega (arith, count, place-lt header.k axis index within));
    }
