-- Leaves of a row, written all at once.
use Rattle.std.proofs.Common.{◌≡◌, ◌⊎◌, ◌∙◌, ℕ, ◌+◌, ◌-◌, ◌*◌, ◌<◌, ◌≤◌, List, ◌++◌, length, get_or, map, take, drop, sym, ap, ap₂, inl, inr, arith}
use Rattle.std.proofs.lemmas.List.{get_or-take, get_or-drop, get_or_append_left, get_or-append-add, length-take-le}
use Rattle.std.proofs.lemmas.Slice.{drop-put_mid}
use borrow.Rule.Slice.PartMut.{put_mid}
use Rattle.namespace_id.specs.declared.cells.Axis.TheVariants.{Row}
use Rattle.namespace_id.specs.declared.namespaces.Namespace.{Namespace}
use Rattle.namespace_id.specs.declared.shares.Share.{Share}
use Rattle.namespace_id.specs.declared.digests.Digest.{Digest}
use Rattle.namespace_id.specs.Names.{parity}
use Rattle.namespace_id.specs.Digests.{no_digest}
use Rattle.namespace_id.specs.Cells.{cell_in, leaf_namespace}
use Rattle.nmt_tree.specs.Digests.{leaf_digest}
use Rattle.nmt_tree.specs.Levels.{leaf_digests}
use Rattle.nmt_tree.proofs.SpanLemmas.{length-leaf_digests, leaf_digests-at}
use Rattle.axis_roots.specs.Lines.{blank, line_names}
use Rattle.axis_roots.specs.Grids.{axis_cells, axis_shares, leaf_over}
use Rattle.axis_roots.specs.Trees.{axis_leaves}
use Rattle.axis_roots.proofs.Grids.AxisLemmas.{length-along, get_or-along}
use Rattle.axis_roots.proofs.Grids.LineLemmas.{axis_leaves-cells}
use Rattle.axis_roots.proofs.Grids.QuarterLemmas.{HasLeaves, HasOthers}

-- the namespaces of cells of a row
abbrev pub HasNames : ℕ → ℕ → ℕ → List Share → List Namespace → ℕ → Type 0
HasNames k row col shares names count =
    (pos : ℕ) → pos < count → get_or names pos parity ≡ leaf_namespace k (cell_in row (col + pos)) (get_or shares pos blank)

-- what was written is there
pub written_at : (a k : ℕ) (xs ys : List Digest) (j : ℕ) → a ≤ length xs → j < length ys → get_or (put_mid a k xs ys) (a + j) no_digest ≡ get_or ys j no_digest
written_at a k xs ys j fits h =
    let long : length (take a xs) ≡ a = length-take-le a xs fits in
    ap (λ (n : ℕ). get_or (put_mid a k xs ys) (n + j) no_digest) (sym long)
    ∙ get_or-append-add (take a xs) (ys ++ drop k (drop a xs)) j no_digest
    ∙ get_or_append_left ys (drop k (drop a xs)) no_digest j h

-- the rest is as it was
pub kept_at : (a k : ℕ) (xs ys : List Digest) (number : ℕ) → a ≤ length xs → length ys ≡ k → (number < a) ⊎ (a + k ≤ number)
    → get_or (put_mid a k xs ys) number no_digest ≡ get_or xs number no_digest
kept_at a k xs ys number fits long (inl low) =
    get_or_append_left (take a xs) (ys ++ drop k (drop a xs)) no_digest number (omega (arith, length-take-le a xs fits))
    ∙ get_or-take a xs number no_digest low
kept_at a k xs ys number fits long (inr high) =
    let n : ℕ = a + k in
    let at : n + (number - n) ≡ number = omega arith in
    ap (λ (i : ℕ). get_or (put_mid a k xs ys) i no_digest) (sym at)
    ∙ sym (get_or-drop n (put_mid a k xs ys) (number - n) no_digest)
    ∙ ap (λ (l : List Digest). get_or l (number - n) no_digest) (drop-put_mid a k xs ys n (omega arith) fits long)
    ∙ get_or-drop n xs (number - n) no_digest
    ∙ ap (λ (i : ℕ). get_or xs i no_digest) at

-- the leaves over cells of a row, by their namespaces
pub leaves_written : (k row col a w : ℕ) (names : List Namespace) (shares : List Share) (old made : List Digest)
    → a ≡ row * (2 * k) + col → length names ≡ k → length shares ≡ k → a ≤ length old → made ≡ leaf_digests names shares
    → HasNames k row col shares names k → HasLeaves k row col shares (put_mid a w old made) k
leaves_written k row col a w names shares old made ea ln ls fits em named pos h =
    let long : length made ≡ k = ap length em ∙ length-leaf_digests names shares (ln ∙ sym ls) ∙ ln in
    let at : row * (2 * k) + (col + pos) ≡ a + pos = omega arith in
    ap (λ (n : ℕ). get_or (put_mid a w old made) n no_digest) at
    ∙ written_at a w old made pos fits (omega arith)
    ∙ ap (λ (l : List Digest). get_or l pos no_digest) em
    ∙ leaf_digests-at names shares pos parity blank (ln ∙ sym ls) (omega arith)
    ∙ ap (λ (n : Namespace). leaf_digest n (get_or shares pos blank)) (named pos h)

-- every other leaf is as it was
pub others_left : (k row col a w : ℕ) (names : List Namespace) (shares : List Share) (old made : List Digest)
    → a ≡ row * (2 * k) + col → w ≡ k → length names ≡ k → length shares ≡ k → a ≤ length old → made ≡ leaf_digests names shares
    → HasOthers k row col old (put_mid a w old made)
others_left k row col a w names shares old made ea ew ln ls fits em number (inl low) =
    kept_at a w old made number fits (ap length em ∙ length-leaf_digests names shares (ln ∙ sym ls) ∙ ln ∙ sym ew) (inl (omega arith))
others_left k row col a w names shares old made ea ew ln ls fits em number (inr high) =
    kept_at a w old made number fits (ap length em ∙ length-leaf_digests names shares (ln ∙ sym ls) ∙ ln ∙ sym ew) (inr (omega arith))

-- ---- the leaves over a row of a grid

-- they are hashed from its shares under their namespaces
pub row_made : (k m row : ℕ) (shares line : List Share) (names : List Namespace) (made : List Digest) → m ≡ k → line ≡ axis_shares k shares Row row
    → names ≡ line_names m Row row line → made ≡ leaf_digests names line → made ≡ axis_leaves k shares Row row
row_made k m row shares line names made wide is named em =
    em ∙ ap (λ (ns : List Namespace). leaf_digests ns line) named
    ∙ ap₂ (λ (n : ℕ) (l : List Share). leaf_digests (line_names n Row row l) l) wide is

-- and stand at the places of its cells
pub row_written : (k row a w : ℕ) (shares : List Share) (old made : List Digest) → a ≡ row * (2 * k) → a ≤ length old → made ≡ axis_leaves k shares Row row
    → (col : ℕ) → col < 2 * k → get_or (put_mid a w old made) (row * (2 * k) + col) no_digest ≡ leaf_over k shares (cell_in row col)
row_written k row a w shares old made ea fits em col h =
    let along : made ≡ map (leaf_over k shares) (axis_cells k Row row) = em ∙ axis_leaves-cells k shares Row row in
    ap (λ (n : ℕ). get_or (put_mid a w old made) (n + col) no_digest) (sym ea)
    ∙ written_at a w old made col fits (omega (arith, h, ap length along, length-along k (leaf_over k shares) Row row))
    ∙ ap (λ (l : List Digest). get_or l col no_digest) along
    ∙ get_or-along k (leaf_over k shares) Row row col no_digest h

-- every other leaf is as it was
pub row_others : (k row a w : ℕ) (shares : List Share) (old made : List Digest) → a ≡ row * (2 * k) → w ≡ 2 * k → a ≤ length old → made ≡ axis_leaves k shares Row row
    → (number : ℕ) → (number < row * (2 * k)) ⊎ ((row + 1) * (2 * k) ≤ number) → get_or (put_mid a w old made) number no_digest ≡ get_or old number no_digest
row_others k row a w shares old made ea ew fits em number outside =
    let long : length made ≡ w = ap length (em ∙ axis_leaves-cells k shares Row row) ∙ length-along k (leaf_over k shares) Row row ∙ sym ew in
    elim outside [
      | inl low ↦ kept_at a w old made number fits long (inl (omega arith))
      | inr high ↦ kept_at a w old made number fits long (inr (omega arith))
    ]
