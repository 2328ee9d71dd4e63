-- Cells that stay while axes become codewords.
use Rattle.std.proofs.Common.{◌≡◌, ◌≢◌, ◌⊎◌, ◌∙◌, ℕ, ◌+◌, ◌-◌, ◌*◌, ◌<◌, ◌≤◌, List, ◌++◌, length, get_or, take, length-append, sym, ap, subst, inl, inr, arith, below_more, IsTrue}
use Rattle.std.proofs.lemmas.Bool.{cases_lt}
use Rattle.std.proofs.lemmas.List.{get_or_append_left, get_or-append-add, get_or-take, get_or_default, length-take-le, ext_get_or}
use Rattle.namespace_id.specs.declared.cells.Cell.{Cell}
use Rattle.namespace_id.specs.declared.cells.Axis.{Axis}
use Rattle.namespace_id.specs.declared.shares.Share.{Share}
use Rattle.namespace_id.specs.Cells.{is_in_square}
use Rattle.leopard_code.specs.Codewords.{IsCodeword}
use Rattle.axis_roots.specs.Messages.{position, index}
use Rattle.axis_roots.specs.Lines.{blank, cell_on}
use Rattle.axis_roots.specs.Grids.{share_at, axis_shares}
use Rattle.axis_roots.proofs.Grids.AxisLemmas.{index-cell_on, position-cell_on, length-along, get_or-along, is_along, same_along}
use Rattle.axis_roots.proofs.Grids.WrittenLemmas.{on_axis_in_square, other_axis, other_place}

-- the cells of other axes are as they were, and so are the first k of this one
abbrev pub AxisKept : ℕ → Axis → ℕ → List Share → List Share → Type 0
AxisKept k axis i old new =
    (cell : Cell) → IsTrue (is_in_square k cell) → (index axis cell ≢ i) ⊎ (position axis cell < k)
    → share_at (2 * k) new cell ≡ share_at (2 * k) old cell

-- the cells of later axes are as they were, and so are the first k of each
abbrev pub AxesKept : ℕ → Axis → ℕ → List Share → List Share → Type 0
AxesKept k axis count old new =
    (cell : Cell) → IsTrue (is_in_square k cell) → (count ≤ index axis cell) ⊎ (position axis cell < k)
    → share_at (2 * k) new cell ≡ share_at (2 * k) old cell

-- a list that has the first k shares of an axis
pub is_front : (k : ℕ) (shares line : List Share) (axis : Axis) (i : ℕ) → length line ≡ k
    → ((pos : ℕ) → pos < k → get_or line pos blank ≡ share_at (2 * k) shares (cell_on axis i pos)) → line ≡ take k (axis_shares k shares axis i)
is_front k shares line axis i long each =
    let word : List Share = axis_shares k shares axis i in
    let fits : k ≤ length word = omega (arith, length-along k (share_at (2 * k) shares) axis i) in
    ext_get_or blank line (take k word) (long ∙ sym (length-take-le k word fits)) (λ pos h.
    let within : pos < k = omega arith in
    each pos within ∙ sym (get_or-take k word pos blank within ∙ get_or-along k (share_at (2 * k) shares) axis i pos blank (omega arith)))

-- the shares behind the first k of an axis, after one more was put into its cell
pub back_next : (k m : ℕ) (now new line : List Share) (axis : Axis) (i pos : ℕ) (cell : Cell) (d : Share)
    → m ≡ k → cell ≡ cell_on axis i (k + pos) → i < 2 * k → pos < k → length line ≡ k
    → share_at (2 * m) new cell ≡ get_or line pos d
    → ((other : Cell) → IsTrue (is_in_square m other) → other ≢ cell → share_at (2 * m) new other ≡ share_at (2 * m) now other)
    → ((place : ℕ) → place < pos → share_at (2 * k) now (cell_on axis i (k + place)) ≡ get_or line place blank)
    → (place : ℕ) → place < pos + 1 → share_at (2 * k) new (cell_on axis i (k + place)) ≡ get_or line place blank
back_next k m now new line axis i pos cell d same on hi hp long here others before =
    below_more _ _
    (λ place h.
    let own : Cell = cell_on axis i (k + place) in
    subst (λ (n : ℕ). share_at (2 * n) new own ≡ share_at (2 * n) now own) same
    (others own (subst (λ (n : ℕ). IsTrue (is_in_square n own)) (sym same) (on_axis_in_square k axis i (k + place) hi (omega arith)))
    (other_place axis i (k + pos) (k + place) cell on (omega arith)))
    ∙ before place h)
    (ap (share_at (2 * k) new) (sym on) ∙ subst (λ (n : ℕ). share_at (2 * n) new cell ≡ get_or line pos d) same here ∙ get_or_default line pos d blank (omega arith))

-- the cells of other axes and the first k of this one, after that
pub back_kept : (k m : ℕ) (old now new : List Share) (axis : Axis) (i pos : ℕ) (cell : Cell)
    → m ≡ k → cell ≡ cell_on axis i (k + pos)
    → ((other : Cell) → IsTrue (is_in_square m other) → other ≢ cell → share_at (2 * m) new other ≡ share_at (2 * m) now other)
    → AxisKept k axis i old now → AxisKept k axis i old new
back_kept k m old now new axis i pos cell same on others before other within apart =
    subst (λ (n : ℕ). share_at (2 * n) new other ≡ share_at (2 * n) now other) same
    (others other (subst (λ (n : ℕ). IsTrue (is_in_square n other)) (sym same) within) (elim apart [
      | inl elsewhere ↦ other_axis axis i (k + pos) cell other on elsewhere
      | inr low ↦ λ e. let place : position axis other ≡ k + pos = ap (position axis) (e ∙ on) ∙ position-cell_on axis i (k + pos) in absurd (omega (arith, low, place))
    ]))
    ∙ before other within apart

-- the first k shares of an axis, and those that were put behind them
pub backed : (k : ℕ) (old new line : List Share) (axis : Axis) (i : ℕ) → i < 2 * k → length line ≡ k
    → ((place : ℕ) → place < k → share_at (2 * k) new (cell_on axis i (k + place)) ≡ get_or line place blank)
    → AxisKept k axis i old new → axis_shares k new axis i ≡ take k (axis_shares k old axis i) ++ line
backed k old new line axis i hi long written kept =
    let word : List Share = axis_shares k old axis i in
    let front : List Share = take k word in
    let count : length front ≡ k = length-take-le k word (omega (arith, length-along k (share_at (2 * k) old) axis i)) in
    sym (is_along k (share_at (2 * k) new) axis i blank (front ++ line) (omega (arith, length-append front line, count, long)) (λ pos h. elim (cases_lt pos k) [
      | inl low ↦
          let stays : position axis (cell_on axis i pos) < k = omega (arith, low, position-cell_on axis i pos) in
          get_or_append_left front line blank pos (omega (arith, count)) ∙ get_or-take k word pos blank low ∙ get_or-along k (share_at (2 * k) old) axis i pos blank h
          ∙ sym (kept (cell_on axis i pos) (on_axis_in_square k axis i pos hi h) (inr stays))
      | inr high ↦
          let at : k + (pos - k) ≡ pos = omega arith in
          ap (λ (n : ℕ). get_or (front ++ line) n blank) (sym at)
          ∙ ap (λ (n : ℕ). get_or (front ++ line) (n + (pos - k)) blank) (sym count)
          ∙ get_or-append-add front line (pos - k) blank
          ∙ sym (written (pos - k) (omega arith))
          ∙ ap (λ (n : ℕ). share_at (2 * k) new (cell_on axis i n)) at
    ]))

-- the codewords so far, after the next axis became one
pub codewords_next : (k m : ℕ) (now new : List Share) (axis : Axis) (i : ℕ) → m ≡ k → i < 2 * k
    → IsCodeword m (axis_shares m new axis i) → AxisKept m axis i now new
    → ((j : ℕ) → j < i → IsCodeword k (axis_shares k now axis j)) → (j : ℕ) → j < i + 1 → IsCodeword k (axis_shares k new axis j)
codewords_next k m now new axis i same hi code kept before =
    below_more _ _
    (λ j h. subst (IsCodeword k)
    (same_along k (share_at (2 * k) now) (share_at (2 * k) new) axis j blank (λ pos l.
    sym (subst (λ (n : ℕ). AxisKept n axis i now new) same kept (cell_on axis j pos) (on_axis_in_square k axis j pos (omega arith) l)
    (inl (λ (e : index axis (cell_on axis j pos) ≡ i). absurd (omega (arith, index-cell_on axis j pos)))))))
    (before j h))
    (subst (λ (n : ℕ). IsCodeword n (axis_shares n new axis i)) same code)

-- the cells that stay, after it
pub kept_next : (k m : ℕ) (old now new : List Share) (axis : Axis) (i : ℕ) → m ≡ k → AxisKept m axis i now new → AxesKept k axis i old now
    → AxesKept k axis (i + 1) old new
kept_next k m old now new axis i same kept before cell within (inl later) =
    subst (λ (n : ℕ). AxisKept n axis i now new) same kept cell within (inl (λ (e : index axis cell ≡ i). absurd (omega arith)))
    ∙ before cell within (inl (omega arith))
kept_next k m old now new axis i same kept before cell within (inr low) =
    subst (λ (n : ℕ). AxisKept n axis i now new) same kept cell within (inr low) ∙ before cell within (inr low)
