-- Samples of k known cells of a row or a column whose line has another root than the header's.
use Rattle.std.proofs.Common.{◌≡◌, ◌∙◌, ℕ, zero, suc, ◌+◌, ◌*◌, ◌<◌, ◌≤◌, List, [], ◌∷◌, ◌++◌, length, get_or, map, take, cond, true, ◌==◌, ◌||◌, refl, sym, ap, ap₂, subst, arith}
use Rattle.std.specs.Prelude.{nat_lt, Option, Some, is_some, slice_get}
use Rattle.std.specs.List.{AllByRecursion, list_all}
use Rattle.std.proofs.lemmas.Bool.{and_parts, and_from}
use Rattle.std.proofs.lemmas.Bool.Decides.{nat_tests}
use Rattle.std.proofs.lemmas.List.{length-map, get_or_default}
use Rattle.std.proofs.lemmas.Option.{slice_get-get_or, get_or_from_slice_get}
use Rattle.std.proofs.Math.Seq.{take-suc}
use Rattle.namespace_id.specs.declared.cells.Cell.{Cell}
use Rattle.namespace_id.specs.declared.cells.Axis.{Axis}
use Rattle.namespace_id.specs.declared.cells.Axis.TheVariants.{Row, Col}
use Rattle.namespace_id.specs.declared.shares.Share.{Share}
use Rattle.namespace_id.specs.declared.digests.Digest.{Digest}
use Rattle.namespace_id.specs.Cells.{is_width}
use Rattle.namespace_id.specs.Lists.{holds_along}
use Rattle.leopard_code.specs.Codewords.{are_positions, IsCodeword, HasEntries}
use Rattle.leopard_code.proofs.PositionLemmas.{positions_parts, next_above}
use Rattle.data_header.specs.Headers.{Roots, root_of}
use Rattle.axis_roots.specs.declared.message.messages.Message.{Message}
use Rattle.axis_roots.specs.declared.message.proved.Proved.{Proved}
use Rattle.axis_roots.specs.Messages.{position, index}
use Rattle.axis_roots.specs.Openings.{IsProved}
use Rattle.axis_roots.specs.Proved.{kept_message}
use Rattle.axis_roots.specs.Lines.{blank, cell_on, line_strict_root}
use Rattle.axis_roots.specs.Grids.{share_at}
use Rattle.axis_roots.specs.Claims.{ClaimParts, positions_of, claim_with, ShowsBad, IsFraudProof}
use Rattle.axis_roots.proofs.Grids.AxisLemmas.{index-cell_on, position-cell_on}
use Rattle.befp_maker.specs.Gathered.{AreOfLine}
use Rattle.befp_maker.proofs.WithLemmas.{with_shape}
use Rattle.befp_maker.proofs.GatheredLemmas.{of_line-more}
use Rattle.axis_roots.proofs.Messages.ProofLemmas.{plain_accepted}
use Rattle.repair_queue.specs.declared.boards.Board.{Board}
use Rattle.repair_queue.specs.declared.marks.Marks.{Marks}
use Rattle.repair_queue.specs.Closures.{AreChosen, Fact}
use Rattle.repair_queue.specs.Slots.{Kept, Flags}
use Rattle.repair_queue.specs.Lines.{AreFacts}
use Rattle.repair_queue.specs.Verdicts.{IsFraud}
use Rattle.repair_queue.specs.Boards.{Shared, is_lined, is_found, share_of_first, found_share, given_of, decided_of, shared_of, mark_of}
use Rattle.repair_queue.specs.Tools.{AreGathered}
use Rattle.repair_queue.specs.Judging.{IsTakenAt, AreFoundAt, AreShownBy}
use Rattle.repair_queue.specs.Moves.{IsMessageAt}
use Rattle.repair_queue.proofs.Places.TakenLemmas.{under_proved}
use Rattle.square_layout.specs.Blocks.{SquareShares}

-- ---- positions

-- each later position is above the first
above_first : (k p : ℕ) (ps : List ℕ) (j : ℕ) → are_positions k (p ∷ ps) ≡ true → j < length ps → p < get_or ps j 0
above_first k p [] j are h = absurd (omega arith)
above_first k p (q ∷ ps) zero are h = next_above k p q ps are
above_first k p (q ∷ ps) (suc j) are h =
    let next : p < q = next_above k p q ps are in
    let later : q < get_or ps j 0 = above_first k q ps j (positions_parts k p (q ∷ ps) are).1 (omega arith) in omega arith

-- each later one is above each earlier one
rising : (k : ℕ) (known : List ℕ) (n j : ℕ) → are_positions k known ≡ true → n < j → j < length known → get_or known n 0 < get_or known j 0
rising k [] n j are less h = absurd (omega arith)
rising k (p ∷ ps) n zero are less h = absurd (omega arith)
rising k (p ∷ ps) zero (suc j) are less h = above_first k p ps j are (omega arith)
rising k (p ∷ ps) (suc n) (suc j) are less h = rising k ps n j (positions_parts k p ps are).1 (omega arith) (omega arith)

-- cells at two of them are two
cells_apart : (axis : Axis) (i p q : ℕ) → p < q → cell_on axis i q ≡ cell_on axis i p → ⊥
cells_apart axis i p q less e =
    let same : q ≡ p = sym (position-cell_on axis i q) ∙ ap (position axis) e ∙ position-cell_on axis i p in omega arith

-- one entry more
entries_cons : (p : ℕ) (ps : List ℕ) (s : Share) (ss word : List Share) → slice_get word p ≡ Some s → HasEntries ps ss word → HasEntries (p ∷ ps) (s ∷ ss) word
entries_cons p ps s ss word first rest zero h = first
entries_cons p ps s ss word first rest (suc j) h = rest j (omega arith)

-- ---- samples of a line

module _ (header : Roots) (axis : Axis) (i : ℕ) (line : List Share) where
  -- the positions of such samples
  positions_here : (places : List ℕ) (cells : List Proved) → AreOfLine header axis i line places cells → map (λ n. position axis n.cell) (map kept_message cells) ≡ places
  positions_here [] [] are = refl
  positions_here [] (c ∷ cells) are = elim are [ ]
  positions_here (p ∷ places) [] are = elim are [ ]
  positions_here (p ∷ places) (c ∷ cells) are =
      ap₂ (λ (q : ℕ) (qs : List ℕ). q ∷ qs) (ap (position axis) are.0.cell ∙ position-cell_on axis i p) (positions_here places cells are.1)

  -- all are on the row or column
  on_here : (places : List ℕ) (cells : List Proved) → AreOfLine header axis i line places cells → list_all (λ n. index axis n.cell == i) (map kept_message cells) ≡ true
  on_here [] [] are = refl
  on_here [] (c ∷ cells) are = elim are [ ]
  on_here (p ∷ places) [] are = elim are [ ]
  on_here (p ∷ places) (c ∷ cells) are =
      let place : index axis (kept_message c).cell ≡ i = ap (index axis) are.0.cell ∙ index-cell_on axis i p in
      let here : (index axis (kept_message c).cell == i) ≡ true = grind (arith, nat_tests) in
      and_from (index axis (kept_message c).cell == i) (list_all (λ n. index axis n.cell == i) (map kept_message cells)) here (on_here places cells are.1)

  -- all are proved under the header
  under_here : (places : List ℕ) (cells : List Proved) → AreOfLine header axis i line places cells → AllByRecursion (IsProved header) (map kept_message cells)
  under_here [] [] are = tt
  under_here [] (c ∷ cells) are = elim are [ ]
  under_here (p ∷ places) [] are = elim are [ ]
  under_here (p ∷ places) (c ∷ cells) are = (under_proved header c are.0.under, under_here places cells are.1)

  -- the line has their shares
  entries_here : (n : ℕ) (places : List ℕ) (cells : List Proved) → n ≡ length line → list_all (λ p. nat_lt p n) places ≡ true → AreOfLine header axis i line places cells
      → HasEntries (map (λ m. position axis m.cell) (map kept_message cells)) (map (λ m. m.share) (map kept_message cells)) line
  entries_here n [] [] long below are = λ j h. absurd (omega arith)
  entries_here n [] (c ∷ cells) long below are = elim are [ ]
  entries_here n (p ∷ places) [] long below are = elim are [ ]
  entries_here n (p ∷ places) (c ∷ cells) long below are =
      let both = and_parts (nat_lt p n) (list_all (λ q. nat_lt q n) places) below in
      let low : nat_lt p n ≡ true = both.0 in
      let under : p < n = grind (arith, nat_tests) in
      let where_is : position axis (kept_message c).cell ≡ p = ap (position axis) are.0.cell ∙ position-cell_on axis i p in
      entries_cons (position axis (kept_message c).cell) (map (λ m. position axis m.cell) (map kept_message cells)) (kept_message c).share
      (map (λ m. m.share) (map kept_message cells)) line
      (ap (slice_get line) where_is ∙ slice_get-get_or line p blank (omega (arith, under, long)) ∙ ap (λ (s : Share). Some s) (sym are.0.share))
      (entries_here n places cells long both.1 are.1)

  -- and where its shares are facts, theirs are
  facts_here : (ms : List Message) (n : ℕ) (places : List ℕ) (cells : List Proved) → n ≡ 2 * header.k → list_all (λ p. nat_lt p n) places ≡ true
      → AreFacts header ms axis i line → AreOfLine header axis i line places cells → AllByRecursion (λ m. Fact header ms m.cell m.share) (map kept_message cells)
  facts_here ms n [] [] long below facts are = tt
  facts_here ms n [] (c ∷ cells) long below facts are = elim are [ ]
  facts_here ms n (p ∷ places) [] long below facts are = elim are [ ]
  facts_here ms n (p ∷ places) (c ∷ cells) long below facts are =
      let both = and_parts (nat_lt p n) (list_all (λ q. nat_lt q n) places) below in
      let low : nat_lt p n ≡ true = both.0 in
      let under : p < n = grind (arith, nat_tests) in (
        subst (λ (x : Cell). Fact header ms x (kept_message c).share) (sym are.0.cell)
            (subst (Fact header ms (cell_on axis i p)) (sym are.0.share) (facts p (omega (arith, under, long)))),
        facts_here ms n places cells long both.1 facts are.1,
      )

  -- k of them are a fraud proof where the line has another root than the header's, and a fraud where it is made of facts
  accused_here : (places : List ℕ) (cells : List Proved) → i < 2 * header.k → AreChosen header.k places → AreOfLine header axis i line places cells
      → IsCodeword header.k line → (line_strict_root header.k axis i line ≡ Some (root_of header axis i) → ⊥)
      → ShowsBad header.k (claim_with axis i cells) (root_of header axis i)
      × ((ms : List Message) → AreFacts header ms axis i line → IsFraud header ms (claim_with axis i cells))
  accused_here places cells within chosen are code other =
      let claim : ClaimParts = claim_with axis i cells in
      let positions : positions_of claim ≡ places = positions_here places cells are in
      let count : length claim.cells ≡ header.k = sym (length-map claim.cells (λ m. position axis m.cell)) ∙ ap length positions ∙ chosen.count in
      let both = and_parts (list_all (λ p. nat_lt p (2 * header.k)) places) (holds_along nat_lt places) chosen.positions in
      let bad : ShowsBad header.k claim (root_of header axis i) = record {
        shape = with_shape header.k claim within count (on_here places cells are) (subst (λ (ps : List ℕ). holds_along nat_lt ps ≡ true) (sym positions) both.1);
        word = line;
        through = record { codeword = code; entries = entries_here (2 * header.k) places cells (sym code.count) both.0 are };
        other = other;
      } in (
        bad,
        λ ms facts. record {
          accepts = (plain_accepted header claim refl).0 (under_here places cells are, bad);
          facts = facts_here ms (2 * header.k) places cells refl both.0 facts are;
        },
      )

-- a line through shares that were gathered has those that are known
gathered_shown : (slot : Kept) (flag : Flags) (shares : Shared) (axis : Axis) (i : ℕ) (known : List ℕ) (given line : List Share)
    → AreGathered slot flag shares axis i known given → HasEntries known given line → AreShownBy slot flag shares axis i known line
gathered_shown slot flag shares axis i known given line gathered entries j h =
    sym (gathered.share j h)
    ∙ sym (get_or_from_slice_get line (get_or known j 0) (get_or given j blank) blank
    (entries j h ∙ slice_get-get_or given j blank (omega (arith, gathered.count))))

-- samples with these shares are a fraud proof with the header's root where the line has another one
pub accused : (header : Roots) (slot : Kept) (flag : Flags) (shares : Shared) (axis : Axis) (i : ℕ) (places known : List ℕ) (given line : List Share) (cells : List Proved)
    (k : ℕ) (root : Digest) → i < 2 * header.k → places ≡ known → AreChosen header.k known → AreGathered slot flag shares axis i known given → IsCodeword header.k line
    → HasEntries known given line → (line_strict_root header.k axis i line ≡ Some (root_of header axis i) → ⊥)
    → ((one : List Share) → AreShownBy slot flag shares axis i places one → AreOfLine header axis i one places cells)
    → k ≡ header.k → is_width k ≡ true → root ≡ root_of header axis i
    → IsFraudProof (record { k = k; root = root; claim = claim_with axis i cells })
    × ((ms : List Message) → AreFacts header ms axis i line → IsFraud header ms (claim_with axis i cells))
accused header slot flag shares axis i places known given line cells k root within same chosen gathered code entries other are width wide is =
    let here : AreOfLine header axis i line known cells =
    subst (λ (ps : List ℕ). (one : List Share) → AreShownBy slot flag shares axis i ps one → AreOfLine header axis i one ps cells) same are line
    (gathered_shown slot flag shares axis i known given line gathered entries) in
    let x = accused_here header axis i line known cells within chosen here code other in (
      record {
        plain = refl;
        width = wide;
        bad = subst (λ (n : ℕ). ShowsBad n (claim_with axis i cells) root) (sym width) (subst (ShowsBad header.k (claim_with axis i cells)) (sym is) x.0);
      },
      x.1,
    )

-- ---- taking them

-- samples of the first n cells were taken out or made, and nothing changed at later ones
pub record AreTakenTo (header : Roots) (old now : Board) (axis : Axis) (i : ℕ) (known : List ℕ) (cells : List Proved) (n : ℕ) : Type 0 where
  pub marks : now.marks ≡ old.marks
  pub grid : now.grid ≡ old.grid
  pub later : (other : Axis) (j : ℕ) → n ≤ j → j < length known
      → given_of now other (cell_on axis i (get_or known j 0)) ≡ given_of old other (cell_on axis i (get_or known j 0))
  pub are : (line : List Share) → AreShownBy (given_of old) (decided_of old) (shared_of old) axis i known line
      → AreOfLine header axis i line (take n known) cells

module _ (header : Roots) (old now : Board) (axis : Axis) (i : ℕ) (known : List ℕ) (cells : List Proved) (n : ℕ)
    (to : AreTakenTo header old now axis i known cells n) (below : n < length known) where
  -- the cell at the position
  abbrev here : Cell
  here = cell_on axis i (get_or known n 0)

  -- is known still
  pub found_still : (cell : Cell) (d : ℕ) → cell ≡ cell_on axis i (get_or known n d) → AreFoundAt (given_of old) (decided_of old) axis i known
      → is_found (given_of now) (decided_of now) cell ≡ true
  found_still cell d is found =
      ap (is_found (given_of now) (decided_of now)) (is ∙ ap (cell_on axis i) (get_or_default known n d 0 below))
      ∙ ap (λ (m : Marks). is_lined (mark_of m) here || is_some (given_of now Row here) || is_some (given_of now Col here)) to.marks
      ∙ ap₂ (λ (r s : Option Proved). is_lined (decided_of old) here || is_some r || is_some s) (to.later Row n (omega arith) below) (to.later Col n (omega arith) below)
      ∙ found n below

  -- by the share that it had
  share_still : found_share (given_of now) (decided_of now) (shared_of now) here ≡ found_share (given_of old) (decided_of old) (shared_of old) here
  share_still =
      ap (λ (m : Marks). cond (is_lined (mark_of m) here) (shared_of now here) (share_of_first (given_of now Row here) (given_of now Col here))) to.marks
      ∙ ap (λ (g : SquareShares). cond (is_lined (decided_of old) here) (share_at (2 * g.k) g.shares here) (share_of_first (given_of now Row here) (given_of now Col here))) to.grid
      ∙ ap₂ (λ (r s : Option Proved). cond (is_lined (decided_of old) here) (shared_of old here) (share_of_first r s)) (to.later Row n (omega arith) below)
      (to.later Col n (omega arith) below)

  -- one sample more
  pub taken_more : (k : ℕ) (new : Board) (cell : Cell) (d : ℕ) (kept : Proved) (more : List Proved) → AreChosen k known → cell ≡ cell_on axis i (get_or known n d)
      → more ≡ cells ++ kept ∷ [] → IsMessageAt header cell (found_share (given_of now) (decided_of now) (shared_of now) cell) kept → IsTakenAt now new cell
      → AreTakenTo header old new axis i known more (n + 1)
  taken_more k new cell d kept more chosen is appended message taken =
      let place : cell ≡ here = is ∙ ap (cell_on axis i) (get_or_default known n d 0 below) in
      let next : n + 1 ≡ suc n = omega arith in
      let places : take n known ++ get_or known n 0 ∷ [] ≡ take (n + 1) known = sym (ap (λ (m : ℕ). take m known) next ∙ take-suc known n 0 below) in record {
        marks = taken.marks ∙ to.marks;
        grid = taken.grid ∙ to.grid;
        later = λ other j low h.
            let up : get_or known n 0 < get_or known j 0 = rising k known n j chosen.positions (omega arith) h in
            taken.others other (cell_on axis i (get_or known j 0)) (λ e. cells_apart axis i (get_or known n 0) (get_or known j 0) up (e ∙ place))
            ∙ to.later other j (omega arith) h;
        are = λ line shown.
            subst (AreOfLine header axis i line (take (n + 1) known)) (sym appended)
            (subst (λ (ps : List ℕ). AreOfLine header axis i line ps (cells ++ kept ∷ [])) places
            (of_line-more header axis i line (get_or known n 0) kept (take n known) cells (to.are line shown) (record {
              under = message.under;
              cell = message.cell_is ∙ place;
              share =
                  message.share_is ∙ ap (found_share (given_of now) (decided_of now) (shared_of now)) place ∙ share_still ∙ shown n below;
            })));
      }
