-- A partial tree under a root of a square's header, and a sample under the header: what they show is
-- the square's, or they name a collision.
use Rattle.std.proofs.Common.{◌≡◌, ◌∙◌, ℕ, ◌*◌, ◌<◌, List, true, Some, None, refl, sym, ap, subst, inl, inr}
use Rattle.std.specs.Prelude.{◌⊎◌, Option, MatchOption}
use Rattle.std.specs.List.{slice_get}
use Rattle.std.proofs.lemmas.Option.{none-some, get_or_from_slice_get}
use Rattle.std.proofs.lemmas.Slice.Eq.{bytes_eq-Decides}
use Rattle.namespace_id.specs.declared.cells.Cell.{Cell}
use Rattle.namespace_id.specs.declared.cells.Axis.{Axis}
use Rattle.namespace_id.specs.declared.namespaces.Namespace.{Namespace}
use Rattle.namespace_id.specs.declared.shares.Share.{Share}
use Rattle.namespace_id.specs.declared.digests.Digest.{Digest}
use Rattle.namespace_id.specs.Cells.{is_width, leaf_namespace}
use Rattle.namespace_id.proofs.ShareLemmas.{name_of-is}
use Rattle.namespace_id.proofs.PowerLemmas.{double_halvings}
use Rattle.nmt_tree.specs.Roots.{halvings}
use Rattle.nmt_proofs.specs.Parts.{Part, digest_of}
use Rattle.nmt_proofs.specs.Clashes.{IsClash, clash_at, IsSized, HasDepth, Agree, AreLeaves, IsOpening}
use Rattle.nmt_proofs.proofs.Agreement.AgreeLemmas.{agree_or}
use Rattle.nmt_proofs.proofs.Parts.WholeLemmas.{digest-whole, depth-whole, sized-whole}
use Rattle.nmt_proofs.proofs.Parts.ShownLemmas.{opening-sized, opening-deep}
use Rattle.nmt_proofs.proofs.Agreement.ListedLemmas.{leaf_agreed}
use Rattle.data_header.specs.Headers.{Roots, root_of}
use Rattle.square_layout.specs.Blocks.{SquareShares, IsSquare}
use Rattle.axis_roots.specs.declared.message.messages.Message.{Message}
use Rattle.axis_roots.specs.Messages.{position, index, root_for, shown_by}
use Rattle.axis_roots.specs.Openings.{OpensAt, IsProved}
use Rattle.axis_roots.specs.Lines.{line_root}
use Rattle.axis_roots.specs.Grids.{share_at, axis_shares, axis_names, axis_tree, Extends, IsHeaderOf}
use Rattle.axis_roots.specs.Own.{opened_by, NamesAt, AgreesAt, ShowsOwn, NamesClash, IsOwn}
use Rattle.axis_roots.proofs.Grids.AxisLemmas.{cell_on-own, length-along, get_or-along}
use Rattle.axis_roots.proofs.Grids.NumberLemmas.{position-lt, index-lt}
use Rattle.axis_roots.proofs.Grids.LineLemmas.{line_leaves}
use Rattle.axis_roots.proofs.Grids.ExtensionLemmas.{extension_once}
use Rattle.axis_roots.proofs.Grids.HeaderLemmas.{header_width, header_root}

-- the leaves of a row or a column of an extension
pub leaves_are : (k : ℕ) (square grid : List Share) (axis : Axis) (i : ℕ) → is_width k ≡ true → Extends k square grid → i < 2 * k
    → AreLeaves (halvings (2 * k)) (axis_names k grid axis i) (axis_shares k grid axis i)
leaves_are k square grid axis i w extends h =
    let word = extends.codewords axis i h in
    line_leaves k axis i (axis_shares k grid axis i) w (length-along k (share_at (2 * k) grid) axis i) word.shares

-- ---- partial trees

-- a clash in hand, or both agree
found_or_agrees : (part : Part) (S : SquareShares) (grid : List Share) (axis : Axis) (i : ℕ) (o : Option (List ℕ × List ℕ)) → Extends S.k S.shares grid
    → clash_at part (axis_tree S.k grid axis i) ≡ o
    → MatchOption o (Agree part (axis_tree S.k grid axis i)) (λ texts. IsClash texts.0 texts.1) → AgreesAt part S axis i ⊎ NamesAt part S axis i
found_or_agrees part S grid axis i None extends e same = inl (record { grid = grid; extends = extends; same = same; alike = e })
found_or_agrees part S grid axis i (Some texts) extends e clash =
    inr (record { grid = grid; extends = extends; left = texts.0; right = texts.1; found = e; clash = clash })

-- a partial tree under a root of a square's header agrees with the square's tree, or they name a collision
pub names_or_agrees : (header : Roots) (S : SquareShares) (axis : Axis) (i : ℕ) (part : Part) → IsHeaderOf header S → i < 2 * S.k
    → HasDepth (halvings (2 * S.k)) part → IsSized part → digest_of part ≡ root_of header axis i → AgreesAt part S axis i ⊎ NamesAt part S axis i
unfolding line_root
names_or_agrees header S axis i part own below deep sized value =
    let d : ℕ = halvings (2 * S.k) in
    let names : List Namespace = axis_names S.k own.grid axis i in
    let shares : List Share = axis_shares S.k own.grid axis i in
    let tree : Part = axis_tree S.k own.grid axis i in
    let leaves : AreLeaves d names shares = leaves_are S.k S.shares own.grid axis i own.whole.width own.extends below in
    let digests : digest_of part ≡ digest_of tree = value ∙ header_root S.k own.grid header own.roots axis i below ∙ sym (digest-whole d names shares) in
    found_or_agrees part S own.grid axis i (clash_at part tree) own.extends refl
    (agree_or d part tree (Agree part tree) deep (depth-whole d names shares) sized (sized-whole d names shares leaves) digests (λ same. same))

-- where no collision was found, none is named
alike_apart : (part : Part) (S : SquareShares) (axis : Axis) (i : ℕ) (grid : List Share) → IsSquare S → Extends S.k S.shares grid
    → clash_at part (axis_tree S.k grid axis i) ≡ None → NamesAt part S axis i → ⊥
alike_apart part S axis i grid whole extends alike names =
    let one : names.grid ≡ grid = extension_once S.k S.shares names.grid grid whole.width names.extends extends in
    none-some _ (sym alike ∙ ap (λ (g : List Share). clash_at part (axis_tree S.k g axis i)) (sym one) ∙ names.found)

-- a partial tree that agrees names no collision
pub agrees_apart : (S : SquareShares) (axis : Axis) (i : ℕ) (part : Part) → IsSquare S → AgreesAt part S axis i → NamesAt part S axis i → ⊥
agrees_apart S axis i part whole agrees names = alike_apart part S axis i agrees.grid whole agrees.extends agrees.alike names

-- ---- samples

-- and neither does a sample that shows the square's own share
pub own_apart : (m : Message) (S : SquareShares) → IsSquare S → ShowsOwn m S → NamesClash m S → ⊥
own_apart m S whole shows names = alike_apart (opened_by S.k m) S m.axis (index m.axis m.cell) shows.grid whole shows.extends shows.alike names

-- the share of a cell on its row or column
pub share_on : (k : ℕ) (grid : List Share) (axis : Axis) (cell : Cell) (share : Share) → position axis cell < 2 * k
    → slice_get (axis_shares k grid axis (index axis cell)) (position axis cell) ≡ Some share → share ≡ share_at (2 * k) grid cell
share_on k grid axis cell share h e =
    sym (get_or_from_slice_get (axis_shares k grid axis (index axis cell)) (position axis cell) share share e)
    ∙ get_or-along k (share_at (2 * k) grid) axis (index axis cell) (position axis cell) share h
    ∙ ap (share_at (2 * k) grid) (cell_on-own axis cell)

-- a sample that opens is an opening of one leaf
opening_of : (k : ℕ) (m : Message) (root : Digest) → OpensAt k m root → IsOpening (halvings (2 * k)) (shown_by k m) m.path
opening_of k m root opens = record {
  count = opens.opened.count;
  parts = ((refl, name_of-is k m.cell m.share opens.sized.share, opens.sized.share), tt);
  node_bytes = opens.sized.nodes;
}

-- where its tree agrees with the square's, it shows the square's own share
shows_own : (k : ℕ) (m : Message) (square grid : List Share) (root : Digest) → OpensAt k m root → Extends k square grid
    → Agree (opened_by k m) (axis_tree k grid m.axis (index m.axis m.cell)) → m.share ≡ share_at (2 * k) grid m.cell
shows_own k m square grid root opens extends same =
    let i : ℕ = index m.axis m.cell in
    let pos : ℕ = position m.axis m.cell in
    let below : pos < 2 * k = position-lt k m.axis m.cell opens.inside in
    let leaves = leaves_are k square grid m.axis i opens.width extends (index-lt k m.axis m.cell opens.inside) in
    let listed = leaf_agreed (halvings (2 * k)) pos (leaf_namespace k m.cell m.share) m.share m.path (axis_names k grid m.axis i) (axis_shares k grid m.axis i)
    (opening_of k m root opens) (subst (λ (n : ℕ). pos < n) (sym (double_halvings k opens.width)) below) leaves same in
    share_on k grid m.axis m.cell m.share below listed.1

-- under the header of a square a sample shows the square's own share, or they name a collision
pub accepted_own : (header : Roots) (m : Message) → IsProved header m → IsOwn header m
accepted_own header m proved square own =
    let k : ℕ = square.k in
    let d : ℕ = halvings (2 * k) in
    let root : Digest = root_for header m in
    let width : header.k ≡ k = header_width k own.grid header own.roots in
    let opens : OpensAt k m root = subst (λ (n : ℕ). OpensAt n m root) width proved in
    let opening : IsOpening d (shown_by k m) m.path = opening_of k m root opens in
    let value : digest_of (opened_by k m) ≡ root =
    ap (λ (bytes : List ℕ). record { 0 = bytes }) ((bytes_eq-Decides (digest_of (opened_by k m)).0 root.0).0 opens.opened.value) in
    elim (names_or_agrees header square m.axis (index m.axis m.cell) (opened_by k m) own (index-lt k m.axis m.cell opens.inside)
    (opening-deep d (shown_by k m) m.path opening) (opening-sized d (shown_by k m) m.path opening) value) [
      | inl agrees ↦ inl (record {
        grid = agrees.grid;
        extends = agrees.extends;
        share = shows_own k m square.shares agrees.grid root opens agrees.extends agrees.same;
        alike = agrees.alike;
      })
      | inr names ↦ inr names
    ]
