-- The sizes of samples that are made of a line.
use Rattle.std.proofs.Common.{◌≡◌, ◌∙◌, ℕ, zero, suc, ◌+◌, ◌*◌, ◌^◌, ◌<◌, ◌≤◌, List, [], ◌∷◌, length, map, get_or, ltb, sym, ap, subst, inl, inr, arith, IsTrue}
use Rattle.std.proofs.lemmas.Bool.{cases_Bool}
use Rattle.std.proofs.lemmas.Bool.Decides.{nat_tests}
use Rattle.std.proofs.lemmas.List.{length-map, map-append}
use Rattle.std.proofs.lemmas.List.Elements.{All-get_or, All-from_recursion}
use Rattle.std.proofs.Math.Nat.{pow-suc}
use Rattle.namespace_id.specs.declared.cells.Axis.{Axis}
use Rattle.namespace_id.specs.declared.cells.Axis.TheVariants.{Row, Col}
use Rattle.namespace_id.specs.declared.namespaces.Namespace.{Namespace}
use Rattle.namespace_id.specs.declared.shares.Share.{Share}
use Rattle.namespace_id.specs.declared.digests.Digest.{Digest}
use Rattle.namespace_id.specs.Names.{AreNamespaces}
use Rattle.namespace_id.specs.Shares.{AreShares}
use Rattle.namespace_id.specs.Digests.{IsDigest, AreDigests, no_digest}
use Rattle.namespace_id.specs.Cells.{is_width}
use Rattle.namespace_id.proofs.PowerLemmas.{double_halvings, halvings-le}
use Rattle.nmt_tree.specs.Roots.{halvings}
use Rattle.nmt_tree.specs.Levels.{leaf_digests, span}
use Rattle.nmt_proofs.specs.Parts.{Part, given}
use Rattle.nmt_proofs.specs.Openings.{outside}
use Rattle.nmt_proofs.specs.Making.{spans}
use Rattle.nmt_proofs.proofs.Parts.ListLemmas.{each-append}
use Rattle.nmt_proofs.proofs.Parts.SingleLemmas.{one_place, outside_left, outside_right, length-outside-one}
use Rattle.nmt_proofs.proofs.Parts.DigestLemmas.{digest-leaf, digest-node}
use Rattle.nmt_tree.proofs.SpanLemmas.{length-leaf_digests}
use Rattle.axis_roots.specs.Messages.{IsMessage}
use Rattle.axis_roots.specs.Lines.{cell_on, line_names}
use Rattle.axis_roots.specs.Trees.{line_leaves, line_message}
use Rattle.axis_roots.proofs.Grids.WordLemmas.{share_anywhere}
use Rattle.axis_roots.proofs.Grids.LineLemmas.{line_names-are, length-line_names}

-- the digests of leaves are digests
pub digests-leaves : (names : List Namespace) (shares : List Share) → AreNamespaces names → AreDigests (leaf_digests names shares)
unfolding leaf_digests
digests-leaves [] shares are = tt
digests-leaves (name ∷ names) [] are = tt
digests-leaves (name ∷ names) (share ∷ shares) are = (digest-leaf name share are.0, digests-leaves names shares are.1)

-- one over some of them is one
pub digest-span : (depth start : ℕ) (leaves : List Digest) → AreDigests leaves → start + 2 ^ depth ≤ length leaves → IsDigest (span leaves start depth)
unfolding span
digest-span zero start leaves are within =
    All-get_or IsDigest leaves start no_digest (omega arith) (All-from_recursion IsDigest leaves are)
digest-span (suc depth) start leaves are within =
    let twice : 2 ^ suc depth ≡ 2 ^ depth * 2 = pow-suc 2 depth in
    digest-node (span leaves start depth) (span leaves (start + 2 ^ depth) depth)
    (digest-span depth start leaves are (omega arith)) (digest-span depth (start + 2 ^ depth) leaves are (omega arith))

-- and so are those over the intervals outside of a place
digests-outside : (depth start pos : ℕ) (part : Part) (leaves : List Digest) → AreDigests leaves → start + 2 ^ depth ≤ length leaves
    → AreDigests (spans leaves (outside depth start (one_place pos part)))
unfolding outside
digests-outside zero start pos part leaves are within = tt
digests-outside (suc depth) start pos part leaves are within =
    let twice : 2 ^ suc depth ≡ 2 ^ depth * 2 = pow-suc 2 depth in
    let middle : ℕ = start + 2 ^ depth in
    let first : start + 2 ^ depth ≤ length leaves = omega arith in
    let second : middle + 2 ^ depth ≤ length leaves = omega arith in
    let of : ℕ × ℕ → Digest = λ i. span leaves i.0 i.1 in
    elim (cases_Bool (ltb pos middle)) [
      | inl left ↦
          subst AreDigests
          (sym (ap (map of) (outside_left depth start pos part left) ∙ map-append of (outside depth start (one_place pos part)) ((middle, depth) ∷ [])))
          (each-append IsDigest (spans leaves (outside depth start (one_place pos part))) (span leaves middle depth ∷ [])
          (digests-outside depth start pos part leaves are first) (digest-span depth middle leaves are second, tt))
      | inr right ↦
          subst AreDigests (sym (ap (map of) (outside_right depth start pos part right)))
          (digest-span depth start leaves are first, digests-outside depth middle pos part leaves are second)
    ]

-- a cell of a square has numbers of two bytes
pub number-lt-two_bytes : (k x : ℕ) → IsTrue (is_width k) → x < 2 * k → x < 2 ^ 16
number-lt-two_bytes k x width h = grind (arith, nat_tests)

-- a cell on an axis has numbers of two bytes
cell_bytes : (k : ℕ) (axis : Axis) (i pos : ℕ) → IsTrue (is_width k) → i < 2 * k → pos < 2 * k
    → ((cell_on axis i pos).row < 2 ^ 16) × ((cell_on axis i pos).col < 2 ^ 16)
cell_bytes k Row i pos width hi hp = (number-lt-two_bytes k i width hi, number-lt-two_bytes k pos width hp)
cell_bytes k Col i pos width hi hp = (number-lt-two_bytes k pos width hp, number-lt-two_bytes k i width hi)

-- a line has 2k leaves
pub length-line_leaves : (k : ℕ) (axis : Axis) (i : ℕ) (line : List Share) → length line ≡ 2 * k → length (line_leaves k axis i line) ≡ 2 * k
length-line_leaves k axis i line long =
    let named : length (line_names k axis i line) ≡ 2 * k = length-line_names k axis i line in
    length-leaf_digests (line_names k axis i line) line (named ∙ sym long) ∙ named

-- the sample of a position of a line has the sizes of a sample
pub sizes-line_message : (k : ℕ) (axis : Axis) (i pos : ℕ) (line : List Share) → IsTrue (is_width k) → i < 2 * k → pos < 2 * k → length line ≡ 2 * k
    → AreShares line → IsMessage (line_message k axis i line pos)
sizes-line_message k axis i pos line width hi hp long are =
    let leaves : List Digest = line_leaves k axis i line in
    let part : Part = given (get_or leaves pos no_digest) in
    let digests : AreDigests leaves = digests-leaves (line_names k axis i line) line (line_names-are k axis i line are) in
    let numbers = cell_bytes k axis i pos width hi hp in
    record {
      row = numbers.0;
      col = numbers.1;
      share = share_anywhere line pos are;
      few = omega (
        arith,
        length-map (outside (halvings (2 * k)) 0 (one_place pos part)) (λ (x : ℕ × ℕ). span leaves x.0 x.1),
        length-outside-one (halvings (2 * k)) 0 pos part,
        halvings-le (2 * k),
      );
      nodes = digests-outside (halvings (2 * k)) 0 pos part leaves digests (omega (arith, double_halvings k width, length-line_leaves k axis i line long));
    }
