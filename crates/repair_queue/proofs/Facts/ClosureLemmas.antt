-- Recoverable cells and facts: least sets, growth, and that they have the same cells.
use Rattle.std.proofs.Common.{◌≡◌, ℕ, ◌*◌, ◌<◌, List, true, arith}
use Rattle.std.specs.List.{Contains}
use Rattle.namespace_id.specs.declared.cells.Cell.{Cell}
use Rattle.namespace_id.specs.declared.cells.Axis.{Axis}
use Rattle.namespace_id.specs.declared.shares.Share.{Share}
use Rattle.namespace_id.specs.Shares.{IsShare}
use Rattle.namespace_id.specs.Cells.{is_width}
use Rattle.leopard_code.specs.Codewords.{IsCodeword}
use Rattle.data_header.specs.Headers.{Roots}
use Rattle.axis_roots.specs.declared.message.messages.Message.{Message}
use Rattle.axis_roots.specs.Openings.{IsProved}
use Rattle.axis_roots.specs.Lines.{cell_on, entry}
use Rattle.axis_roots.proofs.Grids.WordLemmas.{share_anywhere}
use Rattle.repair_queue.specs.Closures.{AreChosen, Half, seen, filled, Fact, shown, rebuilt, IsDecided, Covers}
use Rattle.repair_queue.proofs.Facts.ChosenLemmas.{some_chosen, codeword_through}

module _ (header : Roots) (ms : List Message) where
  -- a set that holds the cells of proved samples and is filled holds the recoverable cells
  pub half_least : (X : Cell → Type 0) → ((m : Message) → Contains ms m → IsProved header m → X m.cell)
      → ((axis : Axis) (i : ℕ) (chosen : List ℕ) (pos : ℕ) → i < 2 * header.k → AreChosen header.k chosen
      → ((p : ℕ) → Contains chosen p → X (cell_on axis i p)) → pos < 2 * header.k → X (cell_on axis i pos))
      → (cell : Cell) → Half header ms cell → X cell
  half_least X given closed cell (seen m at proved) = given m at proved
  half_least X given closed cell (filled axis i chosen pos within are halves below) =
      closed axis i chosen pos within are (λ p at. half_least X given closed (cell_on axis i p) (halves p at)) below

  -- a set that holds the pairs of proved samples and is rebuilt holds the facts
  pub fact_least : (X : Cell → Share → Type 0) → ((m : Message) → Contains ms m → IsProved header m → X m.cell m.share)
      → ((axis : Axis) (i : ℕ) (word : List Share) (chosen : List ℕ) (pos : ℕ) → i < 2 * header.k → IsCodeword header.k word → AreChosen header.k chosen
      → ((p : ℕ) → Contains chosen p → X (cell_on axis i p) (entry word p)) → pos < 2 * header.k → X (cell_on axis i pos) (entry word pos))
      → (cell : Cell) (share : Share) → Fact header ms cell share → X cell share
  fact_least X given closed cell share (shown m at proved) = given m at proved
  fact_least X given closed cell share (rebuilt axis i word chosen pos within code are facts below) =
      closed axis i word chosen pos within code are (λ p at. fact_least X given closed (cell_on axis i p) (entry word p) (facts p at)) below

  -- where a cell is recoverable the header has a width
  pub half_width : (cell : Cell) → Half header ms cell → is_width header.k ≡ true
  half_width = half_least (λ cell. is_width header.k ≡ true) (λ m at proved. proved.width)
      (λ axis i chosen pos within are widths below. let one = some_chosen header.k chosen (omega arith) are in widths one.0 one.1)

  -- so it has where a row or a column is decided
  pub decided_width : (axis : Axis) (i : ℕ) → IsDecided header ms axis i → is_width header.k ≡ true
  decided_width axis i d =
      let below : i < 2 * header.k = d.within in
      let one = some_chosen header.k d.chosen (omega arith) d.are_chosen in half_width (cell_on axis i one.0) (d.halves one.0 one.1)

  -- the cells of facts are recoverable
  pub fact_half : (cell : Cell) (share : Share) → Fact header ms cell share → Half header ms cell
  fact_half = fact_least (λ cell share. Half header ms cell) (λ m at proved. seen m at proved)
      (λ axis i word chosen pos within code are halves below. filled axis i chosen pos within are halves below)

  -- the shares of facts are shares
  pub fact_share : (cell : Cell) (share : Share) → Fact header ms cell share → IsShare share
  fact_share = fact_least (λ cell share. IsShare share) (λ m at proved. proved.sized.share)
      (λ axis i word chosen pos within code are shares below. share_anywhere word pos code.shares)

  -- the codeword through k recoverable cells that have facts
  through_facts : (axis : Axis) (i : ℕ) (chosen : List ℕ) → is_width header.k ≡ true → AreChosen header.k chosen
      → ((p : ℕ) → Contains chosen p → (share : Share) × Fact header ms (cell_on axis i p) share)
      → (word : List Share) × IsCodeword header.k word × ((p : ℕ) → Contains chosen p → Fact header ms (cell_on axis i p) (entry word p))
  through_facts axis i chosen width are each =
      codeword_through header.k chosen (λ p share. Fact header ms (cell_on axis i p) share) width are
      (λ p at. let one = each p at in (one.0, fact_share (cell_on axis i p) one.0 one.1, one.1))

  -- recoverable cells have facts
  pub half_fact : (cell : Cell) → Half header ms cell → (share : Share) × Fact header ms cell share
  half_fact cell half =
      half_least (λ c. (share : Share) × Fact header ms c share) (λ m at proved. (m.share, shown m at proved))
      (λ axis i chosen pos within are facts below.
      let found = through_facts axis i chosen (half_width cell half) are facts in
      (entry found.0 pos, rebuilt axis i found.0 chosen pos within found.1 are found.2 below)) cell half

  -- a decided row or column has a codeword of facts
  pub decided_word : (axis : Axis) (i : ℕ) (d : IsDecided header ms axis i)
      → (word : List Share) × IsCodeword header.k word × ((p : ℕ) → Contains d.chosen p → Fact header ms (cell_on axis i p) (entry word p))
  decided_word axis i d =
      through_facts axis i d.chosen (decided_width axis i d) d.are_chosen (λ p at. half_fact (cell_on axis i p) (d.halves p at))

  -- all its cells are recoverable
  pub decided_half : (axis : Axis) (i : ℕ) → IsDecided header ms axis i → (pos : ℕ) → pos < 2 * header.k → Half header ms (cell_on axis i pos)
  decided_half axis i d pos below = filled axis i d.chosen pos d.within d.are_chosen d.halves below

-- both grow with the proved samples
pub half_grows : (header : Roots) (ms others : List Message) → Covers header ms others → (cell : Cell) → Half header ms cell → Half header others cell
half_grows header ms others covers =
    half_least header ms (λ cell. Half header others cell) (λ m at proved. seen m (covers m at proved) proved)
    (λ axis i chosen pos within are halves below. filled axis i chosen pos within are halves below)

pub fact_grows : (header : Roots) (ms others : List Message) → Covers header ms others → (cell : Cell) (share : Share)
    → Fact header ms cell share → Fact header others cell share
fact_grows header ms others covers =
    fact_least header ms (λ cell share. Fact header others cell share) (λ m at proved. shown m (covers m at proved) proved)
    (λ axis i word chosen pos within code are facts below. rebuilt axis i word chosen pos within code are facts below)
