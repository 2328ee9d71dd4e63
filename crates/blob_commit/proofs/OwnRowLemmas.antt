-- A commitment proof under the data root of a square's header.
use Rattle.std.proofs.Common.{◌≡◌, ◌∙◌, ℕ, ◌+◌, ◌*◌, ◌^◌, ◌<◌, ◌≤◌, ◌&&◌, nat_lt, List, [], ◌∷◌, length, drop, take, map, get_or, Bool, true, cond, refl, sym, ap, ap₂, arith, length-drop}
use Rattle.std.proofs.lemmas.Bool.{lt-ltb}
use Rattle.std.proofs.lemmas.List.{drop-drop, length-take-le, get_or-drop, get_or-take, get_or-map, ext_get_or, length-map}
use Rattle.namespace_id.specs.declared.cells.Axis.TheVariants.{Row}
use Rattle.namespace_id.specs.declared.namespaces.Namespace.{Namespace}
use Rattle.namespace_id.specs.declared.shares.Share.{Share}
use Rattle.namespace_id.specs.declared.digests.Digest.{Digest}
use Rattle.namespace_id.specs.Names.{parity}
use Rattle.namespace_id.specs.Shares.{name_in}
use Rattle.namespace_id.specs.Cells.{leaf_namespace}
use Rattle.nmt_tree.specs.Roots.{halvings, root}
use Rattle.nmt_tree.specs.Levels.{span, leaf_digests}
use Rattle.nmt_tree.proofs.SpanLemmas.{part_is_span}
use Rattle.nmt_tree.proofs.CountLemmas.{power_halvings}
use Rattle.nmt_proofs.specs.Places.{AreAligned}
use Rattle.nmt_proofs.specs.Making.{interval_digests}
use Rattle.axis_roots.specs.Lines.{blank}
use Rattle.axis_roots.specs.Grids.{Extends, share_at, axis_names, axis_shares}
use Rattle.axis_roots.proofs.Grids.AxisLemmas.{length-along, get_or-along}
use Rattle.axis_roots.proofs.Grids.LineLemmas.{get_or-axis_names, length-line_names}
use Rattle.blob_commit.specs.Commitments.{subtree_roots}

-- ---- a row of a square

-- the leaf over a cell of the original square has the namespace that its share begins with
name_inside : (k row col : ℕ) (share : Share) → row < k → col < k → leaf_namespace k (record { row = row; col = col }) share ≡ name_in share
name_inside k row col share h g =
    let one : nat_lt row k ≡ true = lt-ltb row k h in
    let two : nat_lt col k ≡ true = lt-ltb col k g in
    ap₂ (λ (a b : Bool). cond (a && b) (name_in share) parity) one two

-- the share in a row of the extension is the square's
share_inside : (k r i : ℕ) (square grid : List Share) → Extends k square grid → r < k → i < k → get_or (axis_shares k grid Row r) i blank ≡ get_or square (r * k + i) blank
share_inside k r i square grid extends h g =
    get_or-along k (share_at (2 * k) grid) Row r i blank (omega (arith, g)) ∙ extends.quarter (record { row = r; col = i }) h g

-- neighbors in it
pub shares_inside : (k r from z : ℕ) (square grid : List Share) → Extends k square grid → length square ≡ k * k → r < k → from + z ≤ k → r * k + k ≤ k * k
    → take z (drop from (axis_shares k grid Row r)) ≡ take z (drop (r * k + from) square)
shares_inside k r from z square grid extends count h fits within =
    let ss : List Share = axis_shares k grid Row r in
    let long : length ss ≡ 2 * k = length-along k (share_at (2 * k) grid) Row r in
    let left : length (take z (drop from ss)) ≡ z = length-take-le z (drop from ss) (omega (arith, length-drop from ss, long, fits)) in
    let right : length (take z (drop (r * k + from) square)) ≡ z = length-take-le z (drop (r * k + from) square) (omega (arith, length-drop (r * k + from) square, count, fits, within)) in
    ext_get_or blank (take z (drop from ss)) (take z (drop (r * k + from) square)) (left ∙ sym right) (λ i lt.
    let below : i < z = omega (arith, lt, left) in
    let place : r * k + (from + i) ≡ r * k + from + i = omega arith in
    get_or-take z (drop from ss) i blank below ∙ get_or-drop from ss i blank
    ∙ share_inside k r (from + i) square grid extends h (omega (arith, below, fits))
    ∙ ap (λ (n : ℕ). get_or square n blank) place
    ∙ sym (get_or-take z (drop (r * k + from) square) i blank below ∙ get_or-drop (r * k + from) square i blank))

-- and their names
pub names_inside : (k r from z : ℕ) (square grid : List Share) → Extends k square grid → length square ≡ k * k → r < k → from + z ≤ k → r * k + k ≤ k * k
    → take z (drop from (axis_names k grid Row r)) ≡ map name_in (take z (drop (r * k + from) square))
names_inside k r from z square grid extends count h fits within =
    let ns : List Namespace = axis_names k grid Row r in
    let part : List Share = take z (drop (r * k + from) square) in
    let long : length ns ≡ 2 * k = length-line_names k Row r (axis_shares k grid Row r) in
    let left : length (take z (drop from ns)) ≡ z = length-take-le z (drop from ns) (omega (arith, length-drop from ns, long, fits)) in
    let right : length part ≡ z = length-take-le z (drop (r * k + from) square) (omega (arith, length-drop (r * k + from) square, count, fits, within)) in
    ext_get_or parity (take z (drop from ns)) (map name_in part) (left ∙ sym (length-map part name_in ∙ right)) (λ i lt.
    let below : i < z = omega (arith, lt, left) in
    let place : r * k + (from + i) ≡ r * k + from + i = omega arith in
    let share : share_at (2 * k) grid (record { row = r; col = from + i }) ≡ get_or part i blank =
    extends.quarter (record { row = r; col = from + i }) h (omega (arith, below, fits))
    ∙ ap (λ (n : ℕ). get_or square n blank) place
    ∙ sym (get_or-take z (drop (r * k + from) square) i blank below ∙ get_or-drop (r * k + from) square i blank) in
    get_or-take z (drop from ns) i parity below ∙ get_or-drop from ns i parity
    ∙ get_or-axis_names k grid Row r (from + i) parity (omega (arith, below, fits))
    ∙ name_inside k r (from + i) (share_at (2 * k) grid (record { row = r; col = from + i })) h (omega (arith, below, fits))
    ∙ ap name_in share
    ∙ sym (get_or-map name_in part i blank parity (omega (arith, below, right))))

pub aligned-le : (from high : ℕ) (sizes : List ℕ) → AreAligned from high sizes → from ≤ high
aligned-le from high [] h = h
aligned-le from high (z ∷ sizes) h = let rest = aligned-le (from + z) high sizes h.2 in omega (arith, rest)

-- subtrees in it are those of the square's shares
pub pieces_inside : (k r from high : ℕ) (sizes : List ℕ) (square grid : List Share) → Extends k square grid → length square ≡ k * k → r < k → r * k + k ≤ k * k
    → AreAligned from high sizes → high ≤ k
    → interval_digests (leaf_digests (axis_names k grid Row r) (axis_shares k grid Row r)) from sizes ≡ subtree_roots sizes (drop (r * k + from) square)
unfolding interval_digests subtree_roots
pieces_inside k r from high [] square grid extends count h within aligned le = refl
pieces_inside k r from high (z ∷ sizes) square grid extends count h within aligned le =
    let ns : List Namespace = axis_names k grid Row r in
    let ss : List Share = axis_shares k grid Row r in
    let long : length ns ≡ 2 * k = length-line_names k Row r ss in
    let long' : length ss ≡ 2 * k = length-along k (share_at (2 * k) grid) Row r in
    let power : 2 ^ halvings z ≡ z = power_halvings z aligned.0 in
    let end : from + z ≤ k = omega (arith, aligned-le (from + z) high sizes aligned.2, le) in
    let here : span (leaf_digests ns ss) from (halvings z) ≡ root (halvings z) (map name_in (take z (drop (r * k + from) square))) (take z (drop (r * k + from) square)) =
    sym (part_is_span (halvings z) from ns ss (long ∙ sym long') (omega (arith, power, end, long)))
    ∙ ap (λ (n : ℕ). root (halvings z) (take n (drop from ns)) (take n (drop from ss))) power
    ∙ ap₂ (root (halvings z)) (names_inside k r from z square grid extends count h end within) (shares_inside k r from z square grid extends count h end within) in
    let place : r * k + (from + z) ≡ r * k + from + z = omega arith in
    ap₂ (λ (d : Digest) (l : List Digest). d ∷ l) here
    (pieces_inside k r (from + z) high sizes square grid extends count h within aligned.2 le
    ∙ ap (subtree_roots sizes) (ap (λ (n : ℕ). drop n square) place ∙ sym (drop-drop z (r * k + from) square)))
