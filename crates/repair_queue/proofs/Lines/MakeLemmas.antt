-- Samples that are made or taken for what ends a session; and strict roots by digests of leaves.
use Rattle.std.proofs.Common.{◌≡◌, ◌≢◌, ◌∙◌, ℕ, ◌*◌, ◌<◌, List, length, cond, Bool, true, false, sym, ap}
use Rattle.std.specs.Prelude.{Some, None}
use Rattle.namespace_id.specs.declared.cells.Cell.{Cell}
use Rattle.namespace_id.specs.declared.cells.Axis.{Axis}
use Rattle.namespace_id.specs.declared.cells.Axis.TheVariants.{Row, Col}
use Rattle.namespace_id.specs.declared.shares.Share.{Share}
use Rattle.namespace_id.specs.declared.digests.Digest.{Digest}
use Rattle.namespace_id.specs.declared.namespaces.Namespace.{Namespace}
use Rattle.namespace_id.specs.Cells.{is_width}
use Rattle.namespace_id.proofs.PowerLemmas.{double_halvings}
use Rattle.nmt_tree.specs.Roots.{halvings, is_ordered, root, strict_root}
use Rattle.nmt_tree.specs.Levels.{span}
use Rattle.nmt_tree.proofs.SpanLemmas.{root_is_span}
use Rattle.axis_roots.specs.Messages.{index, position}
use Rattle.axis_roots.specs.declared.message.proved.Proved.{Proved}
use Rattle.axis_roots.specs.Proved.{kept_message}
use Rattle.axis_roots.specs.Lines.{blank, entry, line_names, line_strict_root}
use Rattle.axis_roots.specs.Trees.{line_leaves}
use Rattle.axis_roots.specs.Grids.{share_at, axis_shares}
use Rattle.axis_roots.proofs.Grids.AxisLemmas.{get_or-along, cell_on-own}
use Rattle.axis_roots.proofs.Grids.LineLemmas.{length-line_names}
use Rattle.befp_maker.specs.Rooms.{RoomParts}
use Rattle.repair_queue.specs.Slots.{Kept, IsApart, IsAlike}

-- the sample along the column shows another share where that along the row doesn't
pub other_col : (slot : Kept) (cell : Cell) (share : Share) (kept : Proved) → (axis : Axis) × IsApart (slot axis cell) share → IsAlike (slot Row cell) share
    → slot Col cell ≡ Some kept → (kept_message kept).share ≢ share
other_col slot cell share kept (Row, apart) alike held e = absurd (apart.other (alike apart.kept apart.held))
other_col slot cell share kept (Col, apart) alike held e =
    let same : Some kept ≡ Some apart.kept = sym held ∙ apart.held in
    let is : kept ≡ apart.kept = cc in
    apart.other (ap (λ (x : Proved). (kept_message x).share) (sym is) ∙ e)

-- a sample that is made of a grid's row or column shows its share
pub made_share : (k : ℕ) (shares : List Share) (axis : Axis) (cell : Cell) (i pos : ℕ) (room : RoomParts) (width : ℕ) (line : List Share) (share : Share)
    → share ≡ entry room.shares pos → room ≡ record { k = width; shares = line } → line ≡ axis_shares k shares axis i → i ≡ index axis cell → pos ≡ position axis cell
    → position axis cell < 2 * k → share ≡ share_at (2 * k) shares cell
made_share k shares axis cell i pos room width line share is held read at place below =
    is ∙ ap (λ (x : RoomParts). entry x.shares pos) held ∙ ap (λ (l : List Share). entry l pos) read
    ∙ ap (λ (n : ℕ). entry (axis_shares k shares axis n) pos) at ∙ ap (entry (axis_shares k shares axis (index axis cell))) place
    ∙ get_or-along k (share_at (2 * k) shares) axis (index axis cell) (position axis cell) blank below ∙ ap (share_at (2 * k) shares) (cell_on-own axis cell)

-- ---- strict roots

-- by the order of the names
strict-by : (k : ℕ) (axis : Axis) (i : ℕ) (line : List Share) (names : List Namespace) → names ≡ line_names k axis i line
    → line_strict_root k axis i line ≡ cond (is_ordered names) (Some (root (halvings (2 * k)) names line)) None
unfolding strict_root
strict-by k axis i line names are =
    ap (λ (l : List Namespace). cond (is_ordered l) (Some (root (halvings (2 * k)) l line)) None) (sym are)

-- where they fall there is none
pub falls : (k : ℕ) (axis : Axis) (i : ℕ) (line : List Share) (names : List Namespace) → names ≡ line_names k axis i line → is_ordered names ≡ false
    → None ≡ line_strict_root k axis i line
falls k axis i line names are off =
    sym (strict-by k axis i line names are ∙ ap (λ (b : Bool). cond b (Some (root (halvings (2 * k)) names line)) None) off)

-- and else it is the digest over the leaves
pub rises : (k : ℕ) (axis : Axis) (i : ℕ) (line : List Share) (names : List Namespace) (digests folded : List Digest) (n : ℕ) (made : Digest) → is_width k ≡ true
    → length line ≡ 2 * k → names ≡ line_names k axis i line → digests ≡ line_leaves k axis i line → folded ≡ digests → n ≡ 2 * k
    → made ≡ span folded 0 (halvings n) → is_ordered names ≡ true → Some made ≡ line_strict_root k axis i line
rises k axis i line names digests folded n made width long are is same count eq on =
    let over : root (halvings (2 * k)) (line_names k axis i line) line ≡ span (line_leaves k axis i line) 0 (halvings (2 * k)) =
    root_is_span (halvings (2 * k)) (line_names k axis i line) line (length-line_names k axis i line ∙ sym (double_halvings k width)) (long ∙ sym (double_halvings k width)) in
    ap Some (eq ∙ ap (λ (m : ℕ). span folded 0 (halvings m)) count ∙ ap (λ (l : List Digest). span l 0 (halvings (2 * k))) (same ∙ is) ∙ sym over
    ∙ ap (λ (l : List Namespace). root (halvings (2 * k)) l line) (sym are))
    ∙ sym (strict-by k axis i line names are ∙ ap (λ (b : Bool). cond b (Some (root (halvings (2 * k)) names line)) None) on)
