-- The digests of the leaves over a line, one after another.
use Rattle.std.proofs.Common.{◌≡◌, ◌≢◌, ◌∙◌, ℕ, ◌+◌, ◌-◌, ◌*◌, ◌<◌, ◌≤◌, List, length, get_or, set, take, drop, true, sym, ap, ap₂, inl, inr, arith, below_more}
use Rattle.std.proofs.lemmas.Bool.{cases_lt}
use Rattle.std.proofs.lemmas.List.{get_or-take, get_or-drop, length-drop, length-take-le}
use borrow.Rule.Slice.PartMut.{put_mid}
use Rattle.std.proofs.lemmas.List.{get_or-set_same, get_or-set_other, ext_get_or}
use Rattle.namespace_id.specs.declared.cells.Cell.{Cell}
use Rattle.namespace_id.specs.declared.cells.Axis.{Axis}
use Rattle.namespace_id.specs.declared.shares.Share.{Share}
use Rattle.namespace_id.specs.declared.digests.Digest.{Digest}
use Rattle.namespace_id.specs.declared.namespaces.Namespace.{Namespace}
use Rattle.namespace_id.specs.Cells.{leaf_namespace}
use Rattle.namespace_id.specs.Digests.{no_digest}
use Rattle.nmt_tree.specs.Digests.{leaf_digest}
use Rattle.nmt_tree.specs.Levels.{leaf_digests}
use Rattle.nmt_tree.proofs.SpanLemmas.{length-leaf_digests, leaf_digests-at}
use Rattle.axis_roots.specs.Lines.{blank, cell_on, line_names}
use Rattle.axis_roots.specs.Trees.{line_leaves}
use Rattle.axis_roots.proofs.Grids.LineLemmas.{length-line_names, get_or-line_names}
use Rattle.axis_roots.proofs.Grids.BatchLemmas.{written_at, kept_at}
use Rattle.axis_roots.specs.Grids.{share_at}
use Rattle.axis_roots.proofs.Grids.WrittenLemmas.{on_axis_in_square}
use Rattle.data_header.specs.Headers.{Roots}
use Rattle.repair_queue.specs.declared.boards.Board.{Board}
use Rattle.repair_queue.specs.Boards.{decided_of, shared_of, is_lined, AreAlikeLined, AreLeavesTo, IsGood}

-- one digest more
pub next_digest : (leaves digests : List Digest) (pos : ℕ) (made : Digest) → pos < length digests → made ≡ get_or leaves pos no_digest
    → AreLeavesTo leaves pos digests → AreLeavesTo leaves (pos + 1) (set digests pos made)
next_digest leaves digests pos made below is so =
    below_more (λ p. get_or (set digests pos made) p no_digest ≡ get_or leaves p no_digest) pos
    (λ p low. let apart : p ≢ pos = omega arith in get_or-set_other digests pos p made no_digest apart ∙ so p low)
    (get_or-set_same digests pos made no_digest below ∙ is)

-- all of them
pub all_digests : (k : ℕ) (axis : Axis) (i : ℕ) (line : List Share) (digests : List Digest) (n : ℕ) → 2 * k ≤ n → length line ≡ 2 * k → length digests ≡ 2 * k
    → ((p : ℕ) → p < n → get_or digests p no_digest ≡ get_or (line_leaves k axis i line) p no_digest) → digests ≡ line_leaves k axis i line
all_digests k axis i line digests n end long count so =
    let leaves : length (line_leaves k axis i line) ≡ 2 * k =
    length-leaf_digests (line_names k axis i line) line (length-line_names k axis i line ∙ sym long) ∙ length-line_names k axis i line in
    ext_get_or no_digest digests (line_leaves k axis i line) (count ∙ sym leaves) (λ p h. so p (omega (arith, count, end, h)))

-- the digest at a position is that of the leaf over its cell
pub leaf_at : (k : ℕ) (axis : Axis) (i : ℕ) (line : List Share) (pos : ℕ) → length line ≡ 2 * k → pos < 2 * k
    → get_or (line_leaves k axis i line) pos no_digest ≡ leaf_digest (leaf_namespace k (cell_on axis i pos) (get_or line pos blank)) (get_or line pos blank)
leaf_at k axis i line pos long below =
    leaf_digests-at (line_names k axis i line) line pos (leaf_namespace k (cell_on axis i pos) (get_or line pos blank)) blank (length-line_names k axis i line ∙ sym long)
    (omega (arith, length-line_names k axis i line))
    ∙ ap (λ (n : Namespace). leaf_digest n (get_or line pos blank)) (get_or-line_names k axis i line pos (leaf_namespace k (cell_on axis i pos) (get_or line pos blank)) below)

-- the digest that is kept of a cell on a decided row or column is the one of a line with the shares that stand there
pub kept_digest : (header : Roots) (b : Board) (axis : Axis) (i pos : ℕ) (line : List Share) → IsGood header b → i < 2 * header.k → pos < 2 * header.k
    → length line ≡ 2 * header.k → AreAlikeLined header.k (decided_of b) (shared_of b) axis i line → is_lined (decided_of b) (cell_on axis i pos) ≡ true
    → get_or b.leaves.items ((cell_on axis i pos).row * (2 * header.k) + (cell_on axis i pos).col) no_digest ≡ get_or (line_leaves header.k axis i line) pos no_digest
kept_digest header b axis i pos line good within below long alike on =
    let cell : Cell = cell_on axis i pos in
    good.leaves cell (on_axis_in_square header.k axis i pos within below) on
    ∙ ap (λ (s : Share). leaf_digest (leaf_namespace header.k cell s) s) (ap (λ (k : ℕ). share_at (2 * k) b.grid.shares cell) good.width ∙ alike pos below on)
    ∙ sym (leaf_at header.k axis i line pos long below)

-- the digest of a leaf among some is that at its place among all
part_at : (names : List Namespace) (line : List Share) (from n i : ℕ) (d : Namespace) (e : Share) → length names ≡ length line → from + n ≤ length names → i < n
    → get_or (leaf_digests (take n (drop from names)) (take n (drop from line))) i no_digest ≡ get_or (leaf_digests names line) (from + i) no_digest
part_at names line from n i d e same fits below =
    let names_long : length (take n (drop from names)) ≡ n = length-take-le n (drop from names) (omega (arith, length-drop from names)) in
    let line_long : length (take n (drop from line)) ≡ n = length-take-le n (drop from line) (omega (arith, length-drop from line)) in
    leaf_digests-at (take n (drop from names)) (take n (drop from line)) i d e (names_long ∙ sym line_long) (omega (arith, names_long))
    ∙ ap₂ leaf_digest (get_or-take n (drop from names) i d below ∙ get_or-drop from names i d) (get_or-take n (drop from line) i e below ∙ get_or-drop from line i e)
    ∙ sym (leaf_digests-at names line (from + i) d e same (omega arith))

-- some digests more, written all at once
pub run_digests : (names : List Namespace) (line : List Share) (digests made : List Digest) (from end n : ℕ) (d : Namespace) (e : Share) → length names ≡ length digests
    → length line ≡ length digests → end ≡ from + n → end ≤ length digests → made ≡ leaf_digests (take n (drop from names)) (take n (drop from line))
    → AreLeavesTo (leaf_digests names line) from digests → AreLeavesTo (leaf_digests names line) end (put_mid from n digests made)
run_digests names line digests made from end n d e named lined ends fits is so pos below =
    let same : length names ≡ length line = named ∙ sym lined in
    let names_long : length (take n (drop from names)) ≡ n = length-take-le n (drop from names) (omega (arith, length-drop from names)) in
    let line_long : length (take n (drop from line)) ≡ n = length-take-le n (drop from line) (omega (arith, length-drop from line)) in
    let long : length made ≡ n =
    ap length is ∙ length-leaf_digests (take n (drop from names)) (take n (drop from line)) (names_long ∙ sym line_long) ∙ names_long in
    elim (cases_lt pos from) [
      | inl low ↦ kept_at from n digests made pos (omega arith) long (inl low) ∙ so pos low
      | inr high ↦
          let at : from + (pos - from) ≡ pos = omega arith in
          ap (λ (q : ℕ). get_or (put_mid from n digests made) q no_digest) (sym at)
          ∙ written_at from n digests made (pos - from) (omega arith) (omega arith)
          ∙ ap (λ (l : List Digest). get_or l (pos - from) no_digest) is
          ∙ part_at names line from n (pos - from) d e same (omega arith) (omega arith)
          ∙ ap (λ (q : ℕ). get_or (leaf_digests names line) q no_digest) at
    ]
