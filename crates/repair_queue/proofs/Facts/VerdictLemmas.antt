-- Whole, missing and fraud exclude one another, and whole and missing have one value.
use Rattle.std.proofs.Common.{◌≡◌, ◌∙◌, ℕ, ◌*◌, ◌<◌, List, [], ◌∷◌, length, true, refl, sym, ap, subst, arith}
use Rattle.std.specs.List.{Contains}
use Rattle.std.proofs.lemmas.Bool.Decides.{nat_tests}
use Rattle.namespace_id.specs.declared.cells.Cell.{Cell}
use Rattle.namespace_id.specs.declared.cells.Axis.{Axis}
use Rattle.namespace_id.specs.declared.cells.Axis.TheVariants.{Row}
use Rattle.namespace_id.specs.declared.shares.Share.{Share}
use Rattle.namespace_id.specs.Cells.{is_in_square, is_original, are_cells, CellList}
use Rattle.namespace_id.specs.Lists.{ascending}
use Rattle.data_header.specs.Headers.{Roots}
use Rattle.square_layout.specs.Blocks.{SquareShares}
use Rattle.axis_roots.specs.declared.message.messages.Message.{Message}
use Rattle.axis_roots.specs.Lines.{blank, cell_on}
use Rattle.axis_roots.specs.Grids.{share_at, IsHeaderOf}
use Rattle.axis_roots.proofs.Grids.NumberLemmas.{inside, in_square, same_listed}
use Rattle.axis_roots.proofs.Grids.HeaderLemmas.{header_width}
use Rattle.axis_roots.proofs.Grids.WrittenLemmas.{on_axis_in_square}
use Rattle.repair_queue.specs.Closures.{Half, Fact, IsDecided}
use Rattle.repair_queue.specs.Settled.{IsLineSettled, IsSettled}
use Rattle.repair_queue.specs.Verdicts.{VerdictParts, whole, missing, fraud, clash, IsWhole, IsMissing, IsVerdict, AreAlike}
use Rattle.namespace_id.proofs.MemberLemmas.{contains_head}
use Rattle.repair_queue.proofs.Facts.ChosenLemmas.{first_chosen, chosen-lt}
use Rattle.repair_queue.proofs.Facts.FraudLemmas.{fraud_unsettled}
use Rattle.namespace_id.proofs.RowMajorLemmas.{cells_once}
use Rattle.namespace_id.proofs.WidthLemmas.{is_width-pos}

-- ---- one of the three

-- cells that are missing aren't all recoverable
pub whole_missing : (header : Roots) (ms : List Message) (square : SquareShares) (cells : CellList) → IsWhole header ms square → IsMissing header ms cells → ⊥
whole_missing header ms square cells w m = some_missing cells.list m.some (λ cell at. let out = (m.missing cell).0 at in out.1 (w.all cell out.0))
  where
    some_missing : (list : List Cell) → (list ≡ [] → ⊥) → ((cell : Cell) → Contains list cell → ⊥) → ⊥
    some_missing [] some none = some refl
    some_missing (cell ∷ list) some none = none cell (contains_head cell list)

-- ---- one value

-- where all cells are recoverable, all rows and columns are decided
pub all_decided : (header : Roots) (ms : List Message) → ((cell : Cell) → is_in_square header.k cell ≡ true → Half header ms cell)
    → (axis : Axis) (i : ℕ) → i < 2 * header.k → IsDecided header ms axis i
all_decided header ms all axis i within = record {
  within = within;
  chosen = ascending 0 header.k;
  are_chosen = first_chosen header.k;
  halves = λ p at. all (cell_on axis i p) (on_axis_in_square header.k axis i p within (chosen-lt header.k (ascending 0 header.k) (first_chosen header.k) p at));
}

-- there the facts of a cell are one
pub one_fact : (header : Roots) (ms : List Message) → IsSettled header ms → ((cell : Cell) → is_in_square header.k cell ≡ true → Half header ms cell)
    → (cell : Cell) → is_in_square header.k cell ≡ true → (s t : Share) → Fact header ms cell s → Fact header ms cell t → s ≡ t
one_fact header ms settled all cell within s t fs ft =
    let both = inside header.k cell within in
    let x : IsLineSettled header ms Row cell.row = settled Row cell.row (all_decided header ms all Row cell.row both.0) in
    (x.only cell.col both.1 s).0 fs ∙ sym ((x.only cell.col both.1 t).0 ft)

-- and the other way round
pub original : (k : ℕ) (cell : Cell) → cell.row < k → cell.col < k → is_original k cell ≡ true
original k cell hr hc = grind (arith, nat_tests)

-- such a cell is in the square
pub original_inside : (k : ℕ) (cell : Cell) → cell.row < k → cell.col < k → is_in_square k cell ≡ true
original_inside k cell hr hc = in_square k cell (omega arith) (omega arith)

-- the width of a square is its header's
pub own_width : (header : Roots) (square : SquareShares) → IsHeaderOf header square → header.k ≡ square.k
own_width header square own = header_width square.k own.grid header own.roots

-- how many shares it has
own_count : (header : Roots) (square : SquareShares) → IsHeaderOf header square → length square.shares ≡ header.k * header.k
own_count header square own = own.whole.count ∙ ap (λ (k : ℕ). k * k) (sym (own_width header square own))

-- a whole square is the only one
pub one_square : (header : Roots) (ms : List Message) (square other : SquareShares) → IsWhole header ms square → IsWhole header ms other → square ≡ other
one_square header ms square other ws wo =
    let width : square.k ≡ other.k = sym (own_width header square ws.own) ∙ own_width header other wo.own in
    let some : 0 < header.k = omega (arith, is_width-pos square.k ws.own.whole.width, own_width header square ws.own) in
    let shares : square.shares ≡ other.shares =
    same_listed header.k blank square.shares other.shares some (own_count header square ws.own) (own_count header other wo.own) (λ cell hr hc.
    let here = original header.k cell hr hc in
    one_fact header ms ws.settled ws.all cell (original_inside header.k cell hr hc) (share_at header.k square.shares cell) (share_at header.k other.shares cell)
    (ws.facts cell here) (wo.facts cell here)) in
    λ i. record { k = width i; shares = shares i }

-- missing cells are the only ones
pub one_missing : (header : Roots) (ms : List Message) (cells others : CellList) → IsMissing header ms cells → IsMissing header ms others → cells ≡ others
one_missing header ms cells others mc mo =
    let width : cells.k ≡ others.k = mc.width ∙ sym mo.width in
    let list : cells.list ≡ others.list =
    cells_once cells.k cells.list others.list mc.row_major (subst (λ (k : ℕ). are_cells k others.list ≡ true) (sym width) mo.row_major)
    (λ c. ((λ at. (mo.missing c).1 ((mc.missing c).0 at)), (λ at. (mc.missing c).1 ((mo.missing c).0 at)))) in
    λ i. record { k = width i; list = list i }

-- of one list two answers are alike
pub alike : (header : Roots) (ms : List Message) (v w : VerdictParts) → IsVerdict header ms v → IsVerdict header ms w → AreAlike v w
alike header ms (whole square) (whole other) v w = one_square header ms square other v w
alike header ms (whole square) (missing cells) v w = whole_missing header ms square cells v w
alike header ms (whole square) (fraud claim) v w = fraud_unsettled header ms claim w v.settled
alike header ms (whole square) (clash left right) v w = tt
alike header ms (missing cells) (whole square) v w = whole_missing header ms square cells w v
alike header ms (missing cells) (missing others) v w = one_missing header ms cells others v w
alike header ms (missing cells) (fraud claim) v w = fraud_unsettled header ms claim w v.settled
alike header ms (missing cells) (clash left right) v w = tt
alike header ms (fraud claim) (whole square) v w = fraud_unsettled header ms claim v w.settled
alike header ms (fraud claim) (missing cells) v w = fraud_unsettled header ms claim v w.settled
alike header ms (fraud claim) (fraud other) v w = tt
alike header ms (fraud claim) (clash left right) v w = tt
alike header ms (clash left right) w v x = tt
