-- The roots of a square's header, and an axis root that leads to its data root.
use Rattle.std.proofs.Common.{◌≡◌, ◌⊎◌, ◌∙◌, ℕ, suc, ◌+◌, ◌*◌, ◌^◌, ◌<◌, List, [], ◌∷◌, ◌++◌, length, drop, get_or, true, sym, ap, subst, inl, inr, arith, length-append}
use Rattle.std.specs.List.{AllByRecursion}
use Rattle.std.proofs.lemmas.List.{length-map, get_or-append-add}
use Rattle.std.proofs.Math.ListN.{get_or-append}
use Rattle.std.proofs.Math.Nat.{pow-suc}
use Rattle.namespace_id.specs.declared.cells.Axis.{Axis}
use Rattle.namespace_id.specs.declared.cells.Axis.TheVariants.{Row, Col}
use Rattle.namespace_id.specs.declared.digests.Digest.{Digest}
use Rattle.namespace_id.specs.Bytes.{IsString}
use Rattle.namespace_id.specs.Cells.{is_width}
use Rattle.namespace_id.specs.Digests.{IsDigest, AreDigests, no_digest}
use Rattle.namespace_id.specs.Lists.{ascending}
use Rattle.namespace_id.proofs.AscendingLemmas.{length-ascending}
use Rattle.namespace_id.proofs.PowerLemmas.{double_halvings}
use Rattle.nmt_tree.specs.Roots.{halvings}
use Rattle.nmt_proofs.proofs.Agreement.AgreeLemmas.{digest-sized}
use Rattle.nmt_proofs.proofs.Parts.WholeLemmas.{digest-whole, sized-whole}
use Rattle.nmt_proofs.proofs.Parts.ListLemmas.{each-append}
use Rattle.data_header.specs.Headers.{Roots, root_of}
use Rattle.data_header.specs.DataRoots.{root_halvings, root_place, data_root_of, OpensRoot}
use Rattle.square_layout.specs.Blocks.{SquareShares}
use Rattle.axis_roots.specs.Lines.{line_root}
use Rattle.axis_roots.specs.Grids.{axis_root, axis_roots, axis_names, axis_shares, are_ordered_axes, IsHeaderOf}
use Rattle.axis_roots.proofs.Grids.HeaderLemmas.{some_if, header_root}
use Rattle.axis_roots.proofs.Messages.OwnLemmas.{leaves_are}
use Rattle.blob_commit.specs.DataTrees.{Plain, ending, climbed, full, hash_of}
use Rattle.blob_commit.proofs.DataTreeLemmas.{Agree, Clashes, agree_or, climbed-sized, sized-full, open-full, hash-climbed, hash-full, ends-climbed, ends-agree, ends-full, agree-climbed, ending-at}

-- a header whose roots are digests, 2k along each axis
pub record IsWhole (header : Roots) : Type 0 where
  pub width : is_width header.k ≡ true
  pub rows : length header.rows ≡ 2 * header.k
  pub cols : length header.cols ≡ 2 * header.k
  pub digests : AreDigests (header.rows ++ header.cols)

-- each is a digest, where each at a place is
digests_by_place : (digests : List Digest) → ((i : ℕ) → i < length digests → IsDigest (get_or digests i no_digest)) → AreDigests digests
digests_by_place [] h = tt
digests_by_place (x ∷ digests) h = (h 0 (omega arith), digests_by_place digests (λ i lt. h (suc i) (omega (arith, lt))))

-- the root of an axis of a square's header is a digest
axis_digest : (header : Roots) (S : SquareShares) (axis : Axis) (i : ℕ) → IsHeaderOf header S → i < 2 * S.k → IsDigest (root_of header axis i)
unfolding line_root
axis_digest header S axis i own lt =
    let leaves = leaves_are S.k S.shares own.grid axis i own.whole.width own.extends lt in
    let value = header_root S.k own.grid header own.roots axis i lt in
    subst IsDigest (digest-whole (halvings (2 * S.k)) (axis_names S.k own.grid axis i) (axis_shares S.k own.grid axis i) ∙ sym value)
    (digest-sized _ (sized-whole (halvings (2 * S.k)) (axis_names S.k own.grid axis i) (axis_shares S.k own.grid axis i) leaves))

-- the header of a square is whole
pub header_whole : (header : Roots) (S : SquareShares) → IsHeaderOf header S → IsWhole header
header_whole header S own =
    let k : ℕ = S.k in
    let made : header ≡ record { k = k; rows = axis_roots k own.grid Row; cols = axis_roots k own.grid Col } =
    (some_if (are_ordered_axes k own.grid) (record { k = k; rows = axis_roots k own.grid Row; cols = axis_roots k own.grid Col }) header own.roots).1 in
    let width : header.k ≡ k = ap (λ (h : Roots). h.k) made in
    let count : (axis : Axis) → length (axis_roots k own.grid axis) ≡ 2 * k = λ axis. length-map (ascending 0 (2 * k)) (axis_root k own.grid axis) ∙ length-ascending (2 * k) 0 in
    let rows : length header.rows ≡ 2 * k = ap (λ (h : Roots). length h.rows) made ∙ count Row in
    let cols : length header.cols ≡ 2 * k = ap (λ (h : Roots). length h.cols) made ∙ count Col in
    record {
      width = ap is_width width ∙ own.whole.width;
      rows = omega (arith, rows, width);
      cols = omega (arith, cols, width);
      digests =
          each-append IsDigest header.rows header.cols
          (digests_by_place header.rows (λ i lt. axis_digest header S Row i own (omega (arith, lt, rows))))
          (digests_by_place header.cols (λ i lt. axis_digest header S Col i own (omega (arith, lt, cols))));
    }

-- ---- widths by their halvings

-- a width of 4k roots
pub power_width : (k : ℕ) → is_width k ≡ true → 4 * k ≡ 2 ^ root_halvings k
power_width k w = omega (arith, pow-suc 2 (halvings (2 * k)), double_halvings k w)

-- ---- axis roots

-- the place of an axis root is one of the 4k
pub place-lt : (k : ℕ) (axis : Axis) (index : ℕ) → index < 2 * k → root_place k axis index < 4 * k
place-lt k Row index h = omega (arith, h)
place-lt k Col index h = omega (arith, h)

-- it is that of the axis
pub root-at : (header : Roots) (axis : Axis) (index : ℕ) → length header.rows ≡ 2 * header.k → index < 2 * header.k
    → get_or (header.rows ++ header.cols) (root_place header.k axis index) no_digest ≡ root_of header axis index
root-at header Row index rows h = get_or-append header.rows header.cols no_digest index (omega (arith, h, rows))
root-at header Col index rows h =
    ap (λ (n : ℕ). get_or (header.rows ++ header.cols) (n + index) no_digest) (sym rows) ∙ get_or-append-add header.rows header.cols index no_digest

-- an axis root of a square's header: of the same width, and the header's own
pub record IsRootOf (header : Roots) (k : ℕ) (axis : Axis) (index : ℕ) (digest : Digest) : Type 0 where
  pub width : k ≡ header.k
  pub own : digest ≡ root_of header axis index

-- an axis root that leads to the data root of a whole header is the header's, or the two trees have a collision
pub root_own : (header : Roots) (k : ℕ) (axis : Axis) (index : ℕ) (digest : Digest) (hashes : List (List ℕ)) → IsWhole header
    → OpensRoot (data_root_of header) k axis index digest hashes → IsDigest digest → AllByRecursion (IsString 32) hashes
    → IsRootOf header k axis index digest
    ⊎ Clashes (climbed (root_place k axis index) (ending digest) hashes) (full (root_halvings header.k) (header.rows ++ header.cols))
root_own header k axis index digest hashes whole opens sized strings =
    let d : ℕ = root_halvings header.k in
    let roots : List Digest = header.rows ++ header.cols in
    let place : ℕ = root_place k axis index in
    let p : Plain = climbed place (ending digest) hashes in
    let q : Plain = full d roots in
    let count : length roots ≡ 2 ^ d = omega (arith, length-append header.rows header.cols, whole.rows, whole.cols, power_width header.k whole.width) in
    let same : hash_of p ≡ hash_of q = hash-climbed place (ending digest) hashes ∙ opens.leads ∙ sym (hash-full d roots) in
    elim (agree_or p q (climbed-sized place (ending digest) hashes sized strings) (sized-full d roots count whole.digests) same) [
      | inr clash ↦ inr clash
      | inl agree ↦
          let ends = ends-full (0 + length hashes) d roots (ends-agree (0 + length hashes) p q (open-full d roots count) agree (ends-climbed 0 place (ending digest) hashes tt)) in
          let deep : length hashes ≡ d = omega (arith, ends) in
          let depths : root_halvings k ≡ root_halvings header.k = sym opens.count ∙ deep in
          let width : k ≡ header.k = omega (arith, power_width k opens.width, power_width header.k whole.width, ap (λ (n : ℕ). 2 ^ n) depths) in
          let below : place < 2 ^ length hashes = omega (arith, place-lt k axis index opens.place, power_width k opens.width, ap (λ (n : ℕ). 2 ^ n) opens.count) in
          let at = agree-climbed 0 place (ending digest) hashes roots below (let zero_first : d ≡ 0 + length hashes = omega (arith, deep) in subst (λ (n : ℕ). Agree p (full n roots)) zero_first agree) in
          let single : place * 2 ^ 0 ≡ place = omega arith in
          let found : digest ≡ get_or roots place no_digest =
          ending-at place roots digest (omega (arith, below, count, ap (λ (n : ℕ). 2 ^ n) deep)) (subst (λ (n : ℕ). Agree (ending digest) (full 0 (drop n roots))) single at) in
          inl (record {
            width = width;
            own =
                found ∙ ap (λ (n : ℕ). get_or roots (root_place n axis index) no_digest) width
                ∙ root-at header axis index whole.rows (omega (arith, opens.place, width));
          })
    ]
