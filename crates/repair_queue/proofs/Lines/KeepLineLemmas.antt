-- A board on which the line of a row or a column is kept: it stays good, and stands for the same samples.
use Rattle.std.proofs.Common.{◌≡◌, ◌≢◌, ◌∙◌, ℕ, ◌+◌, ◌*◌, ◌<◌, List, length, get_or, ◌||◌, true, false, IsTrue, sym, ap, ap₂, subst, inl, inr, Vec, Global}
use Rattle.std.specs.Prelude.{Option, Some, None, is_some}
use Rattle.std.specs.List.{Contains}
use Rattle.std.proofs.lemmas.Bool.{cases_Bool, cases_eq, true≢false}
use Rattle.namespace_id.specs.declared.cells.Cell.{Cell}
use Rattle.namespace_id.specs.declared.cells.Axis.{Axis}
use Rattle.namespace_id.specs.declared.cells.Axis.TheVariants.{Row, Col}
use Rattle.namespace_id.specs.declared.shares.Share.{Share}
use Rattle.namespace_id.specs.declared.digests.Digest.{Digest}
use Rattle.namespace_id.specs.Cells.{is_in_square, leaf_namespace}
use Rattle.namespace_id.specs.Digests.{no_digest}
use Rattle.nmt_tree.specs.Digests.{leaf_digest}
use Rattle.data_header.specs.Headers.{Roots}
use Rattle.square_layout.specs.Blocks.{SquareShares}
use Rattle.axis_roots.specs.declared.message.messages.Message.{Message}
use Rattle.axis_roots.specs.declared.message.proved.Proved.{Proved}
use Rattle.axis_roots.specs.Messages.{index, position}
use Rattle.axis_roots.specs.Openings.{IsProved}
use Rattle.axis_roots.specs.Lines.{blank, entry, cell_on}
use Rattle.axis_roots.specs.Trees.{line_leaves}
use Rattle.axis_roots.specs.Grids.{share_at, axis_shares, leaf_over}
use Rattle.axis_roots.proofs.Grids.AxisLemmas.{cell_on-own, get_or-along, is_along, same_along}
use Rattle.axis_roots.proofs.Grids.NumberLemmas.{position-lt}
use Rattle.axis_roots.proofs.Grids.WrittenLemmas.{on_axis_in_square}
use Rattle.befp_maker.specs.Conflicts.{IsLineOf}
use Rattle.repair_queue.specs.declared.boards.Board.{Board}
use Rattle.repair_queue.specs.declared.counts.Counts.{Counts}
use Rattle.repair_queue.specs.declared.marks.Marks.{Marks}
use Rattle.repair_queue.specs.Closures.{Fact}
use Rattle.repair_queue.specs.Settled.{along}
use Rattle.repair_queue.specs.Slots.{IsFlagged}
use Rattle.repair_queue.specs.Lines.{AreFacts}
use Rattle.repair_queue.specs.Repairs.{Shows}
use Rattle.repair_queue.specs.Pools.{PoolParts, slot_in}
use Rattle.repair_queue.specs.Counts.{count_of, pending}
use Rattle.repair_queue.specs.Boards.{mark_of, given_of, decided_of, shared_of, is_lined, is_found, AreLeavesOf, IsGood, HoldsFor}
use Rattle.repair_queue.specs.Keeping.{IsAlikeAll, IsCountedTo, AreWrittenLeaves, IsClearedTo, IsLineKept}
use Rattle.repair_queue.proofs.Lines.LinedLemmas.{lined_by, lined_on, same_flag, lined_was, lined_else, found_lined}
use Rattle.repair_queue.proofs.Counting.CountedLemmas.{count_from-same, kept_counted, kept_waiting}
use Rattle.repair_queue.proofs.Lines.DigestLemmas.{leaf_at}

-- a cell with the index of a row or a column is the one at its position
at_own : (axis : Axis) (i : ℕ) (cell : Cell) → index axis cell ≡ i → cell ≡ cell_on axis i (position axis cell)
at_own axis i cell e = sym (cell_on-own axis cell) ∙ ap (λ (j : ℕ). cell_on axis j (position axis cell)) e

-- what the steps of keeping a line do to a board
pub record IsLineKeptOn (header : Roots) (b : Board) (axis : Axis) (i : ℕ) (line : List Share) (counts : Counts) (grid : SquareShares)
    (leaves : Vec Digest Global) (marks : Marks) (pool : PoolParts) : Type 0 where
  pub good : IsGood header b
  pub within : i < 2 * header.k
  pub fits : IsLineOf header axis i line
  pub alike : IsAlikeAll header.k (given_of b) (decided_of b) (shared_of b) axis i line
  pub counts_width : counts.k ≡ b.counts.k
  pub counted : IsCountedTo b.counts.k (given_of b) (decided_of b) axis i (count_of b.counts) (count_of counts) (pending b.counts) (pending counts) (2 * b.counts.k)
  pub grid_width : grid.k ≡ b.grid.k
  pub written : axis_shares b.grid.k grid.shares axis i ≡ line
  pub others : (cell : Cell) → IsTrue (is_in_square b.grid.k cell) → index axis cell ≢ i
      → share_at (2 * b.grid.k) grid.shares cell ≡ share_at (2 * b.grid.k) b.grid.shares cell
  pub digests : AreWrittenLeaves header.k b.leaves.items leaves.items axis i (line_leaves header.k axis i line) (2 * header.k)
  pub digest_count : length leaves.items ≡ length b.leaves.items
  pub marks_width : marks.k ≡ b.marks.k
  pub flagged : IsFlagged (decided_of b) (mark_of marks) axis i
  pub pool_width : pool.places.k ≡ b.pool.places.k
  pub cleared : IsClearedTo (given_of b) (slot_in pool) axis i (2 * b.pool.places.k)

module _ (header : Roots) (b : Board) (axis : Axis) (i : ℕ) (line : List Share) (counts : Counts) (grid : SquareShares) (leaves : Vec Digest Global) (marks : Marks)
    (pool : PoolParts) (x : IsLineKeptOn header b axis i line counts grid leaves marks pool) where
  -- the board then
  abbrev pub kept_board : Board
  kept_board = record { pool = pool; marks = marks; counts = counts; grid = grid; leaves = leaves }

  after_width : header.k ≡ grid.k
  after_width = x.good.width ∙ sym x.grid_width

  -- the line's shares stand along the row or column, and those elsewhere stay
  after_here : (pos : ℕ) → pos < 2 * header.k → shared_of kept_board (cell_on axis i pos) ≡ entry line pos
  after_here pos below =
      ap (λ (k : ℕ). share_at (2 * k) grid.shares (cell_on axis i pos)) x.grid_width
      ∙ sym (get_or-along b.grid.k (share_at (2 * b.grid.k) grid.shares) axis i pos blank (subst (λ (k : ℕ). pos < 2 * k) x.good.width below))
      ∙ ap (λ (l : List Share). entry l pos) x.written

  after_else : (cell : Cell) → is_in_square header.k cell ≡ true → index axis cell ≢ i → shared_of kept_board cell ≡ shared_of b cell
  after_else cell inside apart =
      ap (λ (k : ℕ). share_at (2 * k) grid.shares cell) x.grid_width
      ∙ x.others cell (subst (λ (k : ℕ). is_in_square k cell ≡ true) x.good.width inside) apart

  -- a cell of the row or column has the line's share
  written_here : (cell : Cell) → is_in_square header.k cell ≡ true → index axis cell ≡ i → shared_of kept_board cell ≡ entry line (position axis cell)
  written_here cell inside e =
      ap (shared_of kept_board) (at_own axis i cell e) ∙ after_here (position axis cell) (position-lt header.k axis cell inside)

  -- a cell on a decided row or column keeps its share
  still_lined : (cell : Cell) → is_in_square header.k cell ≡ true → is_lined (decided_of b) cell ≡ true → shared_of kept_board cell ≡ shared_of b cell
  still_lined cell inside on = elim (cases_eq (index axis cell) i) [
    | inl e ↦
        let own : cell ≡ cell_on axis i (position axis cell) = at_own axis i cell e in
        let known : shared_of b (cell_on axis i (position axis cell)) ≡ entry line (position axis cell) =
        (x.alike (position axis cell) (position-lt header.k axis cell inside)).lined (subst (λ (c : Cell). is_lined (decided_of b) c ≡ true) own on) in
        written_here cell inside e ∙ sym (ap (shared_of b) own ∙ known)
    | inr apart ↦ after_else cell inside apart
  ]

  -- the line of the row or column
  line_here : line ≡ along header.k (shared_of kept_board) axis i
  line_here = is_along header.k (shared_of kept_board) axis i blank line x.fits.codeword.count (λ pos below. sym (after_here pos below))

  -- the line of another that is decided is what it was
  line_else : (other : Axis) (j : ℕ) → j < 2 * header.k → decided_of b other j ≡ true
      → along header.k (shared_of b) other j ≡ along header.k (shared_of kept_board) other j
  line_else other j within on =
      same_along header.k (shared_of b) (shared_of kept_board) other j blank (λ pos below.
      sym (still_lined (cell_on other j pos) (on_axis_in_square header.k other j pos within below) (lined_on (decided_of b) other j pos on)))

  -- of cells on no decided row or column the same is kept
  still_kept : (own : Axis) (cell : Cell) → is_lined (mark_of marks) cell ≡ false → slot_in pool own cell ≡ given_of b own cell
  still_kept own cell off = elim (x.cleared.each own cell) [
    | inl same ↦ same
    | inr gone ↦ absurd (true≢false (sym (lined_by (mark_of marks) axis cell (ap (mark_of marks axis) gone.0 ∙ x.flagged.here)) ∙ off))
  ]

  -- so the same cells are known
  still_found : (cell : Cell) → is_found (slot_in pool) (mark_of marks) cell ≡ is_found (given_of b) (mark_of marks) cell
  still_found cell = elim (cases_Bool (is_lined (mark_of marks) cell)) [
    | inl lined ↦ found_lined (slot_in pool) (mark_of marks) cell lined ∙ sym (found_lined (given_of b) (mark_of marks) cell lined)
    | inr off ↦
        ap₂ (λ (r c : Option Proved). is_lined (mark_of marks) cell || is_some r || is_some c) (still_kept Row cell off) (still_kept Col cell off)
  ]

  -- its leaves
  leaf_same : (cell : Cell) (share : Share) → shared_of kept_board cell ≡ share
      → leaf_digest (leaf_namespace header.k cell share) share ≡ leaf_over header.k grid.shares cell
  leaf_same cell share e =
      ap (λ (s : Share). leaf_digest (leaf_namespace header.k cell s) s) (sym (ap (λ (k : ℕ). share_at (2 * k) grid.shares cell) after_width ∙ e))

  after_leaves : AreLeavesOf header.k (mark_of marks) grid.shares leaves.items
  after_leaves cell inside on = elim (cases_eq (index axis cell) i) [
    | inl e ↦
        let pos : ℕ = position axis cell in
        let below : pos < 2 * header.k = position-lt header.k axis cell inside in
        let own : cell ≡ cell_on axis i pos = at_own axis i cell e in
        ap (λ (c : Cell). get_or leaves.items (c.row * (2 * header.k) + c.col) no_digest) own ∙ x.digests.here pos below
        ∙ leaf_at header.k axis i line pos x.fits.codeword.count below
        ∙ ap (λ (c : Cell). leaf_digest (leaf_namespace header.k c (entry line pos)) (entry line pos)) (sym own)
        ∙ leaf_same cell (entry line pos) (written_here cell inside e)
    | inr apart ↦
        let was : is_lined (decided_of b) cell ≡ true = sym (lined_else (decided_of b) (mark_of marks) axis i x.flagged cell apart) ∙ on in
        x.digests.elsewhere cell inside apart ∙ x.good.leaves cell inside was
        ∙ leaf_same cell (share_at (2 * header.k) b.grid.shares cell)
        (still_lined cell inside was ∙ ap (λ (k : ℕ). share_at (2 * k) b.grid.shares cell) (sym x.good.width))
  ]

  counted_here : IsCountedTo header.k (given_of b) (decided_of b) axis i (count_of b.counts) (count_of counts) (pending b.counts) (pending counts) (2 * header.k)
  counted_here =
      subst (λ (k : ℕ). IsCountedTo k (given_of b) (decided_of b) axis i (count_of b.counts) (count_of counts) (pending b.counts) (pending counts) (2 * k))
      (x.good.parts.counts_width ∙ sym x.good.width) x.counted

  -- it is good
  kept_good : IsGood header kept_board
  kept_good = record {
    width = after_width;
    parts = record {
      pool_width = x.pool_width ∙ x.good.parts.pool_width ∙ sym x.grid_width;
      marks_width = x.marks_width ∙ x.good.parts.marks_width ∙ sym x.grid_width;
      counts_width = x.counts_width ∙ x.good.parts.counts_width ∙ sym x.grid_width;
      digests = x.digest_count ∙ x.good.parts.digests ∙ ap (λ (k : ℕ). 2 * k * (2 * k)) (sym x.grid_width);
    };
    sound = record {
      slotted = λ own cell kept held. elim (x.cleared.each own cell) [
        | inl same ↦ x.good.sound.slotted own cell kept (sym same ∙ held)
        | inr gone ↦ let none : None ≡ Some kept = sym gone.1 ∙ held in absurd cc
      ];
      lines = λ other j within on. elim (same_flag (decided_of b) (mark_of marks) axis i x.flagged other j) [
        | inl (ea, ej) ↦
            subst (λ (a : Axis). IsLineOf header a j (along header.k (shared_of kept_board) a j)) (sym ea)
            (subst (λ (n : ℕ). IsLineOf header axis n (along header.k (shared_of kept_board) axis n)) (sym ej) (subst (IsLineOf header axis i) line_here x.fits))
        | inr same ↦ subst (IsLineOf header other j) (line_else other j within (sym same ∙ on)) (x.good.sound.lines other j within (sym same ∙ on))
      ];
    };
    leaves = after_leaves;
    counted = λ own j within low.
        kept_counted header.k (given_of b) (decided_of b) (mark_of marks) axis i x.flagged x.within (count_of b.counts) (count_of counts)
        (pending b.counts) (pending counts) counted_here x.good.counted own j within low
        ∙ sym (count_from-same (λ pos. is_found (given_of b) (mark_of marks) (cell_on own j pos)) (λ pos. is_found (slot_in pool) (mark_of marks) (cell_on own j pos)) (2 * header.k) 0
        (λ q l h. still_found (cell_on own j q)));
    queued = kept_waiting header.k (given_of b) (decided_of b) (mark_of marks) axis i x.flagged x.within (count_of b.counts) (count_of counts)
        (pending b.counts) (pending counts) counted_here x.good.queued;
  }

  module _ (ms : List Message) (facts : AreFacts header ms axis i line) (stand : HoldsFor header ms b) where
    -- the shares of decided rows and columns are facts
    facts_now : (other : Axis) (j pos : ℕ) → j < 2 * header.k → pos < 2 * header.k → mark_of marks other j ≡ true
        → Fact header ms (cell_on other j pos) (shared_of kept_board (cell_on other j pos))
    facts_now other j pos hj hp on = elim (same_flag (decided_of b) (mark_of marks) axis i x.flagged other j) [
      | inl (ea, ej) ↦
          let here : Fact header ms (cell_on axis i pos) (shared_of kept_board (cell_on axis i pos)) =
          subst (Fact header ms (cell_on axis i pos)) (sym (after_here pos hp)) (facts pos hp) in
          subst (λ (a : Axis). Fact header ms (cell_on a j pos) (shared_of kept_board (cell_on a j pos))) (sym ea)
          (subst (λ (n : ℕ). Fact header ms (cell_on axis n pos) (shared_of kept_board (cell_on axis n pos))) (sym ej) here)
      | inr same ↦
          subst (Fact header ms (cell_on other j pos))
          (sym (still_lined (cell_on other j pos) (on_axis_in_square header.k other j pos hj hp) (lined_on (decided_of b) other j pos (sym same ∙ on))))
          (stand.facts other j pos hj hp (sym same ∙ on))
    ]

    -- a proved sample of a cell of the row or column shows the line's share
    lined_here : (m : Message) → Contains ms m → IsProved header m → index axis m.cell ≡ i → entry line (position axis m.cell) ≡ m.share
    lined_here m at proved e =
        let pos : ℕ = position axis m.cell in
        let below : pos < 2 * header.k = position-lt header.k axis m.cell proved.inside in
        let own : m.cell ≡ cell_on axis i pos = at_own axis i m.cell e in
        elim (cases_Bool (is_lined (decided_of b) m.cell)) [
          | inl on ↦
              sym ((x.alike pos below).lined (subst (λ (c : Cell). is_lined (decided_of b) c ≡ true) own on)) ∙ ap (shared_of b) (sym own) ∙ stand.lined m at proved on
          | inr off ↦
              let there = stand.shown m at proved off in
              let shows : Shows (given_of b there.0 m.cell) m.share = there.1 in
              sym ((x.alike pos below).given (subst (λ (c : Cell). is_lined (decided_of b) c ≡ false) own off) there.0 shows.kept
              (ap (given_of b there.0) (sym own) ∙ shows.held)) ∙ shows.share_is
        ]

    -- so it stands for the same samples
    kept_stands : HoldsFor header ms kept_board
    kept_stands = record {
      fed = λ other cell kept off held.
          stand.fed other cell kept (lined_was (decided_of b) (mark_of marks) axis i x.flagged cell off) (sym (still_kept other cell off) ∙ held);
      facts = facts_now;
      lined = λ m at proved on. elim (cases_eq (index axis m.cell) i) [
        | inl e ↦ written_here m.cell proved.inside e ∙ lined_here m at proved e
        | inr apart ↦
            let was : is_lined (decided_of b) m.cell ≡ true = sym (lined_else (decided_of b) (mark_of marks) axis i x.flagged m.cell apart) ∙ on in
            still_lined m.cell proved.inside was ∙ stand.lined m at proved was
      ];
      shown = λ m at proved off.
          let there = stand.shown m at proved (lined_was (decided_of b) (mark_of marks) axis i x.flagged m.cell off) in
          let shows : Shows (given_of b there.0 m.cell) m.share = there.1 in
          (there.0, subst (λ (slot : Option Proved). Shows slot m.share) (sym (still_kept there.0 m.cell off)) shows);
    }

  -- both
  pub line_kept : IsLineKept header b kept_board axis i line
  line_kept = (kept_good, kept_stands)
