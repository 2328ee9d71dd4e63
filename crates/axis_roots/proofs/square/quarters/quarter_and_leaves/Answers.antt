use Rattle.std.proofs.Common.{◌≡◌, ◌∙◌, ◌*◌, ℕ, List, ◌++◌, length, take, drop, ap, subst, sym, arith}
use Rattle.std.proofs.lemmas.List.{take-append-le, take_all, length-take-le}
use Rattle.namespace_id.specs.declared.shares.Share.{Share}
use Rattle.square_layout.specs.Blocks.{SquareShares}
use Rattle.axis_roots.specs.Quarters.{IsLowerLeft}
use Rattle.axis_roots.specs.Grids.{AreLeafDigests}
use Rattle.axis_roots.proofs.square.quarters.quarter_and_leaves.Goals as goal

-- what was lent whole is what was left there
lent : {A : Type 0} (n : ℕ) (new old : List A) → n ≡ length new → take n (new ++ drop (length new) old) ≡ new
lent n new old h = take-append-le n new (drop (length new) old) (omega arith) ∙ take_all n new (omega arith)

-- the left half of a line has k shares
half : (k n : ℕ) (line : List Share) → length line ≡ n → n ≡ 2 * k → length (take k line) ≡ k
half k n line long twice = length-take-le k line (omega arith)

-- the room, the line and the quarter are of the square's width
pub fill_quarter-requires-clause-room : goal.fill_quarter-requires-clause-room
fill_quarter-requires-clause-room c = c.in_ok-room.ensures ∙ ap (λ (s : SquareShares). s.k) c.square.view_is

pub fill_quarter-requires-clause-line : goal.fill_quarter-requires-clause-line
fill_quarter-requires-clause-line c =
    c.deref_mut.ensures.len ∙ c.in_ok-line.ensures.len ∙ ap (λ (s : SquareShares). 2 * s.k) c.square.view_is

pub fill_quarter-requires-clause-quarter : goal.fill_quarter-requires-clause-quarter
fill_quarter-requires-clause-quarter c =
    c.deref_mut-2.ensures.len ∙ c.in_ok-quarter.ensures.len ∙ ap (λ (s : SquareShares). s.k * s.k) c.square.view_is

-- and the left half of that line is
pub slice_bounds-fill_rows-end : goal.slice_bounds-fill_rows-end
slice_bounds-fill_rows-end c =
    sym (half c.square.inside.k _ c.deref_mut-3.result.now c.deref_mut-3.ensures.len c.in_ok-line.ensures.len)

pub fill_rows-requires-clause-line : goal.fill_rows-requires-clause-line
fill_rows-requires-clause-line c =
    half c.square.inside.k _ c.deref_mut-3.result.now c.deref_mut-3.ensures.len c.in_ok-line.ensures.len
    ∙ ap (λ (s : SquareShares). s.k) c.square.view_is

-- the room is as it was
pub fill_rows-requires-clause-room : goal.fill_rows-requires-clause-room
fill_rows-requires-clause-room c =
    c.fill_quarter.ensures.room ∙ c.in_ok-room.ensures ∙ ap (λ (s : SquareShares). s.k) c.square.view_is

-- the quarter is the one that was filled
pub fill_rows-requires-clause-quarter : goal.fill_rows-requires-clause-quarter
fill_rows-requires-clause-quarter c =
    subst (IsLowerLeft c.args.square.now.k c.args.square.now.shares)
    (sym (c.deref.ensures.value
    ∙ lent _ c.fill_quarter.new.quarter c.in_ok-quarter.quarter.items
    (sym (c.fill_quarter.auto.quarter ∙ c.deref_mut-2.ensures.len))))
    c.fill_quarter.ensures.quarter

-- the table has a leaf for each cell
pub fill_rows-requires-clause-leaves : goal.fill_rows-requires-clause-leaves
fill_rows-requires-clause-leaves c =
    c.deref_mut-5.ensures.len ∙ c.in_ok-leaves.ensures.len ∙ ap (λ (s : SquareShares). 2 * s.k * (2 * s.k)) c.square.view_is

-- what was written into the quarter is there
pub returns-clause-quarter : goal.returns-clause-quarter
returns-clause-quarter c =
    subst (IsLowerLeft c.args.square.now.k c.args.square.now.shares)
    (sym (lent _ c.fill_quarter.new.quarter c.in_ok-quarter.quarter.items
    (sym (c.fill_quarter.auto.quarter ∙ c.deref_mut-2.ensures.len))))
    c.fill_quarter.ensures.quarter

-- and the table holds what was written into it
pub returns-clause-leaves : goal.returns-clause-leaves
returns-clause-leaves c = λ grid extends.
    subst (AreLeafDigests c.args.square.now.k grid)
    (sym (lent _ c.fill_rows.new.leaves c.in_ok-leaves.leaves.items
    (sym (c.fill_rows.auto.leaves ∙ c.deref_mut-5.ensures.len))))
    (c.fill_rows.ensures.leaves grid extends)

pub returns-clause-count : goal.returns-clause-count
returns-clause-count c =
    ap length (lent _ c.fill_rows.new.leaves c.in_ok-leaves.leaves.items
    (sym (c.fill_rows.auto.leaves ∙ c.deref_mut-5.ensures.len)))
    ∙ c.fill_rows.auto.leaves ∙ c.deref_mut-5.ensures.len ∙ c.in_ok-leaves.ensures.len
    ∙ ap (λ (s : SquareShares). 2 * s.k * (2 * s.k)) c.square.view_is
