-- What fits settles, and what is settled fits.
use Rattle.std.proofs.Common.{◌≡◌, ◌∙◌, ℕ, ◌*◌, ◌<◌, List, length, refl, sym, ap, subst}
use Rattle.std.specs.Prelude.{◌↔◌}
use Rattle.std.specs.List.{Contains}
use Rattle.std.proofs.lemmas.List.{ext_get_or}
use Rattle.namespace_id.specs.declared.cells.Cell.{Cell}
use Rattle.namespace_id.specs.declared.cells.Axis.{Axis}
use Rattle.namespace_id.specs.declared.shares.Share.{Share}
use Rattle.leopard_code.specs.Codewords.{IsCodeword}
use Rattle.data_header.specs.Headers.{Roots}
use Rattle.axis_roots.specs.declared.message.messages.Message.{Message}
use Rattle.axis_roots.specs.Messages.{index}
use Rattle.axis_roots.specs.Lines.{blank, cell_on, entry}
use Rattle.axis_roots.proofs.Grids.AxisLemmas.{index-cell_on, get_or-along}
use Rattle.repair_queue.specs.Closures.{AreChosen, Half, seen, filled, Fact, shown, rebuilt, IsDecided}
use Rattle.repair_queue.specs.Settled.{IsLineSettled, IsSettled, Lines, Fits, along, CellsFit}
use Rattle.repair_queue.proofs.Facts.ChosenLemmas.{chosen-lt, codeword_once}
use Rattle.repair_queue.proofs.Facts.ClosureLemmas.{fact_least, half_fact, decided_half, decided_width, decided_word}

-- ---- settled lines

module _ (header : Roots) (ms : List Message) where
  -- the share of a settled row or column is a fact
  pub settled_fact : (axis : Axis) (i : ℕ) (x : IsLineSettled header ms axis i) (pos : ℕ) → pos < 2 * header.k
      → Fact header ms (cell_on axis i pos) (entry x.shares pos)
  settled_fact axis i x pos below = (x.only pos below (entry x.shares pos)).1 refl

  -- a list of facts along it is its shares
  pub settled_line : (axis : Axis) (i : ℕ) (x : IsLineSettled header ms axis i) (line : List Share) → length line ≡ 2 * header.k
      → ((pos : ℕ) → pos < 2 * header.k → Fact header ms (cell_on axis i pos) (entry line pos)) → line ≡ x.shares
  settled_line axis i x line long facts =
      ext_get_or blank line x.shares (long ∙ sym x.count) (λ pos h.
      let below : pos < 2 * header.k = subst (λ (n : ℕ). pos < n) long h in
      (x.only pos below (entry line pos)).0 (facts pos below))

  -- and so is any codeword of which k shares are facts
  pub settled_word : (axis : Axis) (i : ℕ) (x : IsLineSettled header ms axis i) (word : List Share) (chosen : List ℕ) → i < 2 * header.k
      → IsCodeword header.k word → AreChosen header.k chosen → ((p : ℕ) → Contains chosen p → Fact header ms (cell_on axis i p) (entry word p)) → word ≡ x.shares
  settled_word axis i x word chosen within code are facts =
      settled_line axis i x word code.count (λ pos below. rebuilt axis i word chosen pos within code are facts below)

  -- a settled row or column is a codeword
  pub settled_codeword : (axis : Axis) (i : ℕ) → IsDecided header ms axis i → (x : IsLineSettled header ms axis i) → IsCodeword header.k x.shares
  settled_codeword axis i d x =
      let found = decided_word header ms axis i d in
      subst (IsCodeword header.k) (settled_word axis i x found.0 d.chosen d.within found.1 d.are_chosen found.2) found.1

  -- two that cross show one share there
  settled_cross : (axis other : Axis) (i j p q : ℕ) (x : IsLineSettled header ms axis i) (y : IsLineSettled header ms other j)
      → p < 2 * header.k → q < 2 * header.k → cell_on axis i p ≡ cell_on other j q → entry x.shares p ≡ entry y.shares q
  settled_cross axis other i j p q x y hp hq e =
      (y.only q hq (entry x.shares p)).0 (subst (λ (cell : Cell). Fact header ms cell (entry x.shares p)) e (settled_fact axis i x p hp))

  -- so they fit
  pub settled_fits : (settled : IsSettled header ms) → Fits header ms (λ axis i d. (settled axis i d).shares)
  settled_fits settled = record {
    codeword = λ axis i d. settled_codeword axis i d (settled axis i d);
    root = λ axis i d. (settled axis i d).root;
    cross = λ axis other i j p q d e hp hq here. settled_cross axis other i j p q (settled axis i d) (settled other j e) hp hq here;
    shown = λ axis i pos d m at proved below here.
        ((settled axis i d).only pos below m.share).0 (subst (λ (cell : Cell). Fact header ms cell m.share) here (shown m at proved));
  }

-- ---- lines that fit

-- a fact on a decided row or column is its share
record IsTheirs (header : Roots) (ms : List Message) (lines : Lines header ms) (cell : Cell) (share : Share) : Type 0 where
  half : Half header ms cell
  theirs : (axis : Axis) (i pos : ℕ) (d : IsDecided header ms axis i) → pos < 2 * header.k → cell ≡ cell_on axis i pos → share ≡ entry (lines axis i d) pos

module _ (header : Roots) (ms : List Message) (lines : Lines header ms) (fits : Fits header ms lines) where
  -- all facts are
  fact_theirs : (cell : Cell) (share : Share) → Fact header ms cell share → IsTheirs header ms lines cell share
  fact_theirs =
      fact_least header ms (IsTheirs header ms lines)
      (λ m at proved. record { half = seen m at proved; theirs = λ axis i pos d below e. fits.shown axis i pos d m at proved below e })
      (λ axis i word chosen pos within code are facts below.
      let d : IsDecided header ms axis i = record { within = within; chosen = chosen; are_chosen = are; halves = λ p at. (facts p at).half } in
      let same : word ≡ lines axis i d =
      codeword_once header.k chosen word (lines axis i d) (decided_width header ms axis i d) are code (fits.codeword axis i d)
      (λ p at. (facts p at).theirs axis i p d (chosen-lt header.k chosen are p at) refl) in
      record {
        half = filled axis i chosen pos within are (λ p at. (facts p at).half) below;
        theirs = λ other j q e hq here. ap (λ (line : List Share). entry line pos) same ∙ fits.cross axis other i j pos q d e below hq here;
      })

  -- and the other way round
  pub fact_on_line : (axis : Axis) (i pos : ℕ) (d : IsDecided header ms axis i) → pos < 2 * header.k → (share : Share)
      → Fact header ms (cell_on axis i pos) share ↔ (share ≡ entry (lines axis i d) pos)
  fact_on_line axis i pos d below share =
      let cell : Cell = cell_on axis i pos in
      let one = half_fact header ms cell (decided_half header ms axis i d pos below) in
      let is : one.0 ≡ entry (lines axis i d) pos = (fact_theirs cell one.0 one.1).theirs axis i pos d below refl in (
        (λ fact. (fact_theirs cell share fact).theirs axis i pos d below refl),
        λ e. subst (λ (s : Share). Fact header ms cell s) (is ∙ sym e) one.1,
      )

  -- so lines that fit settle
  pub fits_settles : IsSettled header ms
  fits_settles axis i d = record {
    shares = lines axis i d;
    count = (fits.codeword axis i d).count;
    only = λ pos below share. fact_on_line axis i pos d below share;
    root = fits.root axis i d;
  }

-- only one line fits
pub fits_once : (header : Roots) (ms : List Message) (lines others : Lines header ms) → Fits header ms lines → Fits header ms others
    → (axis : Axis) (i : ℕ) (d e : IsDecided header ms axis i) → lines axis i d ≡ others axis i e
unfolding fits_settles
fits_once header ms lines others first second axis i d e =
    settled_line header ms axis i (fits_settles header ms others second axis i e) (lines axis i d) (first.codeword axis i d).count
    (λ pos below. (fact_on_line header ms lines first axis i pos d below (entry (lines axis i d) pos)).1 refl)

-- ---- shares of cells

-- where a share for each cell fits, the lines along them do
pub cells_fit : (header : Roots) (ms : List Message) (shares : Cell → Share) → CellsFit header ms shares
    → Fits header ms (λ axis i d. along header.k shares axis i)
cells_fit header ms shares fit =
    let at : (axis : Axis) (i pos : ℕ) → pos < 2 * header.k → entry (along header.k shares axis i) pos ≡ shares (cell_on axis i pos) =
    λ axis i pos below. get_or-along header.k shares axis i pos blank below in
    record {
      codeword = fit.codeword;
      root = fit.root;
      cross = λ axis other i j p q d e hp hq here. at axis i p hp ∙ ap shares here ∙ sym (at other j q hq);
      shown = λ axis i pos d m in_ms proved below here.
          let own : i ≡ index axis m.cell = sym (ap (index axis) here ∙ index-cell_on axis i pos) in
          fit.shown axis m in_ms proved (subst (λ (j : ℕ). IsDecided header ms axis j) own d) ∙ ap shares here ∙ sym (at axis i pos below);
    }
