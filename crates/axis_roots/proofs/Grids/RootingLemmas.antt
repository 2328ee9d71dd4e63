-- Roots of axes, from the digests of the leaves over all cells.
use Rattle.std.proofs.Common.{◌≡◌, ◌∙◌, ℕ, ◌+◌, ◌-◌, ◌*◌, ◌^◌, ◌<◌, ◌≤◌, List, length, get_or, set, map, Bool, true, false, cond, refl, sym, ap, ap₂, subst, arith, below_more, IsTrue}
use Rattle.std.specs.Prelude.{Some, None}
use Rattle.std.specs.List.{list_all}
use Rattle.std.proofs.lemmas.Bool.{false_from_ne_true}
use Rattle.std.proofs.lemmas.List.{get_or-map, length-map, get_or-set_same, get_or-set_other, ext_get_or}
use Rattle.namespace_id.specs.declared.cells.Cell.{Cell}
use Rattle.namespace_id.specs.declared.cells.Axis.{Axis}
use Rattle.namespace_id.specs.declared.namespaces.Namespace.{Namespace}
use Rattle.namespace_id.specs.declared.shares.Share.{Share}
use Rattle.namespace_id.specs.declared.digests.Digest.{Digest}
use Rattle.namespace_id.specs.Shares.{AreShares}
use Rattle.namespace_id.specs.Names.{is_at_most, parity}
use Rattle.namespace_id.specs.Digests.{least_of, no_digest}
use Rattle.namespace_id.specs.Cells.{is_width, leaf_namespace}
use Rattle.namespace_id.proofs.ShareLemmas.{name_of-is}
use Rattle.nmt_tree.specs.Roots.{halvings, is_ordered, strict_root}
use Rattle.nmt_tree.specs.Levels.{span}
use Rattle.nmt_tree.proofs.CountLemmas.{power_halvings}
use Rattle.nmt_tree.proofs.NameLemmas.{least-leaf}
use Rattle.nmt_tree.proofs.SpanLemmas.{root_is_span}
use Rattle.namespace_id.specs.Lists.{ascending}
use Rattle.namespace_id.proofs.AscendingLemmas.{length-ascending}
use Rattle.namespace_id.proofs.PowerLemmas.{double_power}
use Rattle.axis_roots.specs.Lines.{cell_on, line_root, line_strict_root}
use Rattle.axis_roots.specs.Grids.{share_at, axis_cells, axis_names, axis_shares, axis_root, axis_roots, leaf_over, AreLeafDigests, is_ordered_axis}
use Rattle.axis_roots.specs.Trees.{axis_leaves}
use Rattle.axis_roots.proofs.Grids.AxisLemmas.{get_or-mapped, length-along, get_or-along, is_along}
use Rattle.axis_roots.proofs.Grids.WordLemmas.{share_anywhere}
use Rattle.axis_roots.proofs.Grids.LineLemmas.{length-line_names, axis_names-cells, axis_leaves-cells}
use Rattle.axis_roots.proofs.Grids.WrittenLemmas.{on_axis_in_square}
use Rattle.axis_roots.proofs.Grids.HeaderLemmas.{all-at, all-each, some_if, none_if}

-- ---- the leaves along an axis

-- one more digest that is read
pub read_next : (k : ℕ) (shares : List Share) (leaves line : List Digest) (axis : Axis) (i pos place : ℕ) (cell : Cell) → AreLeafDigests k shares leaves
    → i < 2 * k → pos < 2 * k → length line ≡ 2 * k → cell ≡ cell_on axis i pos → place ≡ cell.row * (2 * k) + cell.col
    → ((p : ℕ) → p < pos → get_or line p no_digest ≡ leaf_over k shares (cell_on axis i p))
    → (p : ℕ) → p < pos + 1 → get_or (set line pos (get_or leaves place no_digest)) p no_digest ≡ leaf_over k shares (cell_on axis i p)
read_next k shares leaves line axis i pos place cell are hi hp long on at before =
    below_more _ _
    (λ p h. let apart : p ≡ pos → ⊥ = λ (e : p ≡ pos). absurd (omega arith) in get_or-set_other line pos p (get_or leaves place no_digest) no_digest apart ∙ before p h)
    (get_or-set_same line pos (get_or leaves place no_digest) no_digest (omega arith)
    ∙ ap (λ (n : ℕ). get_or leaves n no_digest) (at ∙ ap (λ (c : Cell). c.row * (2 * k) + c.col) on)
    ∙ are.digests (cell_on axis i pos) (on_axis_in_square k axis i pos hi hp))

-- the digests that were read along an axis are its leaves, where the width that was told is the grid's
pub read_at : (k m : ℕ) (shares : List Share) (leaves line : List Digest) (axis : Axis) (i : ℕ) → m ≡ k → AreLeafDigests k shares leaves
    → ((of : List Share) → AreLeafDigests m of leaves → line ≡ axis_leaves m of axis i) → line ≡ axis_leaves k shares axis i
read_at k m shares leaves line axis i same are read =
    subst (λ (n : ℕ). AreLeafDigests n shares leaves → line ≡ axis_leaves n shares axis i) same (read shares) are

-- the least namespaces of the leaves along an axis are their names
names_along : (k : ℕ) (shares : List Share) (axis : Axis) (i : ℕ) → AreShares shares → map least_of (axis_leaves k shares axis i) ≡ axis_names k shares axis i
names_along k shares axis i are =
    let digests : List Digest = map (leaf_over k shares) (axis_cells k axis i) in
    ap (map least_of) (axis_leaves-cells k shares axis i)
    ∙ is_along k (λ cell. leaf_namespace k cell (share_at (2 * k) shares cell)) axis i parity (map least_of digests)
    (length-map digests least_of ∙ length-along k (leaf_over k shares) axis i)
    (λ pos h.
    let cell : Cell = cell_on axis i pos in
    let share : Share = share_at (2 * k) shares cell in
    get_or-map least_of digests pos no_digest parity (omega (arith, length-along k (leaf_over k shares) axis i))
    ∙ ap least_of (get_or-along k (leaf_over k shares) axis i pos no_digest h)
    ∙ least-leaf (leaf_namespace k cell share) share (name_of-is k cell share (share_anywhere shares (cell.row * (2 * k) + cell.col) are)).size_is)
    ∙ sym (axis_names-cells k shares axis i)

-- ---- the order of digests

-- one pair of digests, by their least namespaces
pub pair_test : (digests : List Digest) (i : ℕ) (a b : Namespace) (answer : Bool) → 1 ≤ i → i < length digests
    → a ≡ least_of (get_or digests (i - 1) no_digest) → b ≡ least_of (get_or digests i no_digest) → answer ≡ is_at_most a b
    → is_at_most (get_or (map least_of digests) (i - 1) parity) (get_or (map least_of digests) i parity) ≡ answer
pair_test digests i a b answer low high first second is =
    ap₂ is_at_most (get_or-map least_of digests (i - 1) no_digest parity (omega arith) ∙ sym first) (get_or-map least_of digests i no_digest parity high ∙ sym second)
    ∙ sym is

-- the order of an axis is that of the digests of its leaves
pub ordered-leaves : (k : ℕ) (shares : List Share) (axis : Axis) (i : ℕ) (line : List Digest) (b : Bool) → AreShares shares → line ≡ axis_leaves k shares axis i
    → is_ordered (map least_of line) ≡ b → is_ordered_axis k shares axis i ≡ b
ordered-leaves k shares axis i line b are is known = ap is_ordered (sym (ap (map least_of) is ∙ names_along k shares axis i are)) ∙ known

-- ---- strict roots

-- the root of an axis is the digest over the leaves along it
pub root-leaves : (k : ℕ) (shares : List Share) (axis : Axis) (i : ℕ) → IsTrue (is_width k)
    → span (axis_leaves k shares axis i) 0 (halvings (2 * k)) ≡ axis_root k shares axis i
unfolding line_root
root-leaves k shares axis i width =
    let power : 2 ^ halvings (2 * k) ≡ 2 * k = power_halvings (2 * k) (double_power k width) in
    sym (root_is_span (halvings (2 * k)) (axis_names k shares axis i) (axis_shares k shares axis i)
    (length-line_names k axis i (axis_shares k shares axis i) ∙ sym power) (length-along k (share_at (2 * k) shares) axis i ∙ sym power))

-- the strict root of an axis, by its order
strict-cond : (k : ℕ) (shares : List Share) (axis : Axis) (i : ℕ)
    → line_strict_root k axis i (axis_shares k shares axis i) ≡ cond (is_ordered_axis k shares axis i) (Some (axis_root k shares axis i)) None
unfolding strict_root line_root
strict-cond k shares axis i = refl

-- the strict root of an axis whose digests are ordered
pub strict_there : (k : ℕ) (shares : List Share) (axis : Axis) (i n : ℕ) (line : List Digest) (made : Digest) → IsTrue (is_width k) → AreShares shares
    → line ≡ axis_leaves k shares axis i → n ≡ 2 * k → made ≡ span line 0 (halvings n) → is_ordered (map least_of line) ≡ true
    → Some made ≡ line_strict_root k axis i (axis_shares k shares axis i)
strict_there k shares axis i n line made width are is count eq ordered =
    let names : is_ordered_axis k shares axis i ≡ true = ordered-leaves k shares axis i line true are is ordered in
    ap Some (eq ∙ ap (λ (m : ℕ). span line 0 (halvings m)) count ∙ ap (λ (l : List Digest). span l 0 (halvings (2 * k))) is ∙ root-leaves k shares axis i width)
    ∙ sym (strict-cond k shares axis i ∙ ap (λ (b : Bool). cond b (Some (axis_root k shares axis i)) None) names)

-- of one whose digests aren't
pub strict_missing : (k : ℕ) (shares : List Share) (axis : Axis) (i : ℕ) (line : List Digest) → AreShares shares
    → line ≡ axis_leaves k shares axis i → is_ordered (map least_of line) ≡ false
    → None ≡ line_strict_root k axis i (axis_shares k shares axis i)
strict_missing k shares axis i line are is fails =
    let names : is_ordered_axis k shares axis i ≡ false = ordered-leaves k shares axis i line false are is fails in
    sym (strict-cond k shares axis i ∙ ap (λ (b : Bool). cond b (Some (axis_root k shares axis i)) None) names)

-- what a strict root says of its axis
pub strict_some : (k : ℕ) (shares : List Share) (axis : Axis) (i : ℕ) (made : Digest)
    → Some made ≡ line_strict_root k axis i (axis_shares k shares axis i)
    → (is_ordered_axis k shares axis i ≡ true) × (made ≡ axis_root k shares axis i)
strict_some k shares axis i made e = some_if (is_ordered_axis k shares axis i) (axis_root k shares axis i) made (sym (e ∙ strict-cond k shares axis i))

-- where one axis falls, not all are ordered
pub one_falls : (k n : ℕ) (shares : List Share) (axis : Axis) (i : ℕ) → i < n → is_ordered_axis k shares axis i ≡ false
    → false ≡ list_all (is_ordered_axis k shares axis) (ascending 0 n)
one_falls k n shares axis i h falls =
    sym (false_from_ne_true (list_all (is_ordered_axis k shares axis) (ascending 0 n))
    (λ (all : list_all (is_ordered_axis k shares axis) (ascending 0 n) ≡ true).
    let holds : is_ordered_axis k shares axis i ≡ true = all-at (is_ordered_axis k shares axis) n 0 all i (omega arith) (omega arith) in
    let both : true ≡ false = sym holds ∙ falls in absurd cc))

-- an axis without a strict root falls
pub strict_none : (k n : ℕ) (shares : List Share) (axis : Axis) (i : ℕ) → i < n
    → None ≡ line_strict_root k axis i (axis_shares k shares axis i)
    → false ≡ list_all (is_ordered_axis k shares axis) (ascending 0 n)
strict_none k n shares axis i h e =
    one_falls k n shares axis i h (none_if (is_ordered_axis k shares axis i) (axis_root k shares axis i) (sym (e ∙ strict-cond k shares axis i)))

-- ---- the roots of all axes of one kind

-- one more root that is written
pub roots_next : (f : ℕ → Digest) (roots : List Digest) (i : ℕ) (made : Digest) → i < length roots → made ≡ f i
    → ((j : ℕ) → j < i → get_or roots j no_digest ≡ f j) → (j : ℕ) → j < i + 1 → get_or (set roots i made) j no_digest ≡ f j
roots_next f roots i made h is before =
    below_more _ _
    (λ j l. let apart : j ≡ i → ⊥ = λ (e : j ≡ i). absurd (omega arith) in get_or-set_other roots i j made no_digest apart ∙ before j l)
    (get_or-set_same roots i made no_digest h ∙ is)

-- the roots of all axes, one after another
pub all_roots : (k : ℕ) (shares : List Share) (axis : Axis) (roots : List Digest) → length roots ≡ 2 * k
    → ((i : ℕ) → i < 2 * k → get_or roots i no_digest ≡ axis_root k shares axis i) → roots ≡ axis_roots k shares axis
all_roots k shares axis roots long each =
    ext_get_or no_digest roots (axis_roots k shares axis)
    (long ∙ sym (length-map (ascending 0 (2 * k)) (axis_root k shares axis) ∙ length-ascending (2 * k) 0)) (λ i h.
    let within : i < 2 * k = omega arith in
    each i within ∙ sym (get_or-mapped (axis_root k shares axis) (2 * k) i no_digest within))

-- all axes are ordered where each one is
pub all_ordered : (k n : ℕ) (shares : List Share) (axis : Axis) → ((i : ℕ) → i < n → is_ordered_axis k shares axis i ≡ true)
    → true ≡ list_all (is_ordered_axis k shares axis) (ascending 0 n)
all_ordered k n shares axis each = sym (all-each (is_ordered_axis k shares axis) n 0 (λ i low high. each i (omega arith)))
