-- Entries of an answer: what one opens, and that it agrees with the square's tree of its row, or they name a collision.
use Rattle.std.proofs.Common.{◌≡◌, ◌⊎◌, ℕ, zero, suc, ◌+◌, ◌*◌, ◌<◌, ◌≤◌, List, [], ◌∷◌, length, drop, get_or, refl, sym, subst, arith}
use Rattle.std.proofs.lemmas.Slice.Eq.{bytes_eq-Decides}
use Rattle.namespace_id.specs.declared.namespaces.Namespace.{Namespace}
use Rattle.namespace_id.specs.declared.shares.Share.{Share}
use Rattle.namespace_id.specs.declared.digests.Digest.{Digest}
use Rattle.namespace_id.specs.declared.cells.Axis.TheVariants.{Row}
use Rattle.namespace_id.specs.Names.{IsNamespace}
use Rattle.namespace_id.specs.Shares.{AreShares}
use Rattle.nmt_tree.specs.Roots.{halvings}
use Rattle.nmt_tree.specs.Spans.{name_at}
use Rattle.nmt_proofs.specs.Parts.{leaf, digest_of}
use Rattle.nmt_proofs.specs.Openings.{leaves_from}
use Rattle.nmt_proofs.specs.Clashes.{Agree, AreShown, ArePlacesBetween, AreListed, IsOpening, whole}
use Rattle.nmt_proofs.proofs.Parts.ShownLemmas.{opening-sized, opening-deep}
use Rattle.nmt_proofs.proofs.Parts.DigestLemmas.{same_digest}
use Rattle.data_header.specs.Headers.{Roots, root_of}
use Rattle.square_layout.specs.Blocks.{SquareShares}
use Rattle.axis_roots.specs.declared.answers.Found.{Found}
use Rattle.axis_roots.specs.declared.answers.Found.TheVariants.{Range, Absence}
use Rattle.axis_roots.specs.declared.answers.NsEntry.{NsEntry}
use Rattle.axis_roots.specs.Answers.{IsFound, IsEntry}
use Rattle.axis_roots.specs.Lines.{blank}
use Rattle.axis_roots.specs.Grids.{IsHeaderOf}
use Rattle.axis_roots.proofs.Grids.HeaderLemmas.{header_width}
use Rattle.axis_roots.proofs.Messages.OwnLemmas.{names_or_agrees}
use Rattle.square_serve.specs.Answers.{OpensFound, HoldsEntry}
use Rattle.square_serve.specs.Own.{entry_parts, nodes_of, entry_opened, EntryNames, EntryAgrees}

-- ---- the leaves of a range

-- they may be shown
leaves-shown : (from : ℕ) (name : Namespace) (shares : List Share) → IsNamespace name → AreShares shares → AreShown (leaves_from from name shares)
unfolding leaves_from
leaves-shown from name [] is are = tt
leaves-shown from name (share ∷ shares) is are = ((refl, is, are.0), leaves-shown (suc from) name shares is are.1)

-- they are single places, ascending
pub leaves-places : (low high from : ℕ) (name : Namespace) (shares : List Share) → low ≤ from → from + length shares ≤ high
    → ArePlacesBetween low high (leaves_from from name shares)
unfolding leaves_from
leaves-places low high from name [] le within = tt
leaves-places low high from name (share ∷ shares) le within =
    (refl, le, omega arith, leaves-places (from + 1) high (suc from) name shares (omega arith) (omega arith))

-- the list's leaf at a place
leaf_at : (names : List Namespace) (line : List Share) (pos : ℕ) (name : Namespace) (share : Share) → pos < length names → pos < length line
    → Agree (leaf name share) (whole 0 (drop pos names) (drop pos line)) → (name_at names pos ≡ name) × (get_or line pos blank ≡ share)
unfolding whole
leaf_at (n ∷ names) (s ∷ line) zero name share h g same = (sym same.0, sym same.1)
leaf_at (n ∷ names) (s ∷ line) (suc pos) name share h g same = leaf_at names line pos name share (omega arith) (omega arith) same
leaf_at [] line pos name share h g same = absurd (omega arith)
leaf_at (n ∷ names) [] pos name share h g same = absurd (omega arith)

-- where they are a list's, the list has the namespace and the shares there
pub range_listed : (names : List Namespace) (line : List Share) (from : ℕ) (name : Namespace) (shares : List Share) → from + length shares ≤ length names
    → from + length shares ≤ length line → AreListed names line (leaves_from from name shares) → (i : ℕ) → i < length shares
    → (name_at names (from + i) ≡ name) × (get_or line (from + i) blank ≡ get_or shares i blank)
unfolding leaves_from
range_listed names line from name [] within inside listed i h = absurd (omega arith)
range_listed names line from name (share ∷ shares) within inside listed zero h =
    let here : from ≡ from + 0 = omega arith in
    subst (λ (n : ℕ). (name_at names n ≡ name) × (get_or line n blank ≡ share)) here
    (leaf_at names line from name share (omega arith) (omega arith) listed.0)
range_listed names line from name (share ∷ shares) within inside listed (suc i) h =
    let there : suc from + i ≡ from + suc i = omega arith in
    subst (λ (n : ℕ). (name_at names n ≡ name) × (get_or line n blank ≡ get_or shares i blank)) there
    (range_listed names line (suc from) name shares (omega arith) (omega arith) listed.1 i (omega arith))

-- ---- what an entry opens

-- it is an opening
opening_of : (k : ℕ) (name : Namespace) (root : Digest) (found : Found) → IsNamespace name → IsFound found → OpensFound k root name found
    → IsOpening (halvings (2 * k)) (entry_parts name found) (nodes_of found)
opening_of k name root (Range start shares nodes) is made opens = record {
  count = opens.opens.count;
  parts = leaves-shown start name shares is made.1;
  node_bytes = made.3;
}
opening_of k name root (Absence pos digest nodes) is made opens = record { count = opens.opens.count; parts = (made.1, tt); node_bytes = made.3 }

-- its digest is the root
digest-opened_by : (k : ℕ) (name : Namespace) (root : Digest) (found : Found) → OpensFound k root name found → digest_of (entry_opened k name found) ≡ root
digest-opened_by k name root (Range start shares nodes) opens =
    same_digest _ root ((bytes_eq-Decides (digest_of (entry_opened k name (Range start shares nodes))).0 root.0).0 opens.opens.value)
digest-opened_by k name root (Absence pos digest nodes) opens =
    same_digest _ root ((bytes_eq-Decides (digest_of (entry_opened k name (Absence pos digest nodes))).0 root.0).0 opens.opens.value)

-- under the header of a square it agrees with the square's tree of its row, or they name a collision
pub entry_or : (header : Roots) (name : Namespace) (square : SquareShares) (entry : NsEntry) → IsNamespace name → IsHeaderOf header square
    → IsEntry entry → entry.row < header.k → HoldsEntry header name entry → EntryAgrees name square entry ⊎ EntryNames name square entry
entry_or header name square entry is own made below holds =
    let k : ℕ = square.k in
    let width : header.k ≡ k = header_width k own.grid header own.roots in
    let root : Digest = root_of header Row entry.row in
    let opens : OpensFound k root name entry.found = subst (λ (n : ℕ). OpensFound n root name entry.found) width holds.opens in
    let opening = opening_of k name root entry.found is made.found opens in
    let inside : entry.row < 2 * k = omega (arith, width, below) in
    names_or_agrees header square Row entry.row (entry_opened k name entry.found) own inside
    (opening-deep (halvings (2 * k)) (entry_parts name entry.found) (nodes_of entry.found) opening)
    (opening-sized (halvings (2 * k)) (entry_parts name entry.found) (nodes_of entry.found) opening) (digest-opened_by k name root entry.found opens)
