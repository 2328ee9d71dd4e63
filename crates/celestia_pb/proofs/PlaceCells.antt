-- Cells of one axis by ascending places, and the places as a list of what stands at each.
use Rattle.std.proofs.Common.{◌≡◌, ◌∙◌, ℕ, zero, suc, ◌+◌, ◌^◌, ◌<◌, ◌≤◌, Bool, true, false, cond, ◌==◌, eqb, eqb-true, lt-ltb, ltb-true, List, [], ◌∷◌, length, map, Option, Some, None, option_map, refl, sym, ap, ap₂, subst, arith}
use Rattle.std.specs.Prelude.{nat_lt}
use Rattle.std.specs.List.{AllByRecursion, list_all}
use Rattle.std.proofs.lemmas.Bool.{and_parts, and_from}
use Rattle.std.proofs.lemmas.Bool.Decides.{nat_tests}
use Rattle.namespace_id.specs.declared.cells.Axis.{Axis}
use Rattle.namespace_id.specs.declared.cells.Axis.TheVariants.{Row, Col}
use Rattle.namespace_id.specs.declared.cells.Cell.{Cell}
use Rattle.namespace_id.specs.Lists.{holds_along}
use Rattle.axis_roots.specs.declared.message.messages.Message.{Message}
use Rattle.axis_roots.specs.Messages.{IsMessage, position, index}
use Rattle.axis_roots.specs.Lines.{cell_on}
use Rattle.celestia_pb.specs.declared.sample.Sample.{Sample}
use Rattle.celestia_pb.specs.declared.befp_entries.Accused.{Accused}
use Rattle.celestia_pb.specs.BefpEntries.{shown_at, behind_place, places_of, cells_of}
use Rattle.celestia_pb.proofs.PlaceTexts.{places_of-none, places_of-next}
use Rattle.celestia_pb.proofs.PlaceEntries.{bare, with_cell}

-- ---- cells and their places

-- the place of a cell on its axis
pub position_on : (axis : Axis) (i pos : ℕ) → position axis (cell_on axis i pos) ≡ pos
position_on Row i pos = refl
position_on Col i pos = refl

-- its axis
pub index_on : (axis : Axis) (i pos : ℕ) → index axis (cell_on axis i pos) ≡ i
index_on Row i pos = refl
index_on Col i pos = refl

-- a cell is that of its axis and of its place
pub cell_is : (axis : Axis) (i pos : ℕ) (cell : Cell) → index axis cell ≡ i → position axis cell ≡ pos → cell ≡ cell_on axis i pos
cell_is Row i pos cell e f = ap₂ (λ (r c : ℕ). record { row = r; col = c }) e f
cell_is Col i pos cell e f = ap₂ (λ (r c : ℕ). record { row = r; col = c }) f e

-- numbers of two bytes make a cell of them
pub cell_fits : (axis : Axis) (i pos : ℕ) → i < 2 ^ 16 → pos < 2 ^ 16 → ((cell_on axis i pos).row < 2 ^ 16) × ((cell_on axis i pos).col < 2 ^ 16)
cell_fits Row i pos a b = (a, b)
cell_fits Col i pos a b = (b, a)

-- ---- ascending places

-- the cells stand by ascending places, from one place on and before an end
abbrev pub RiseFrom : Axis → ℕ → ℕ → List Message → Type 0
RiseFrom axis place end [] = Unit {0}
RiseFrom axis place end (m ∷ cells) = (place ≤ position axis m.cell) × (position axis m.cell < end) × RiseFrom axis (suc (position axis m.cell)) end cells

-- also from an earlier one
pub rise_before : (axis : Axis) (early place end : ℕ) (cells : List Message) → early ≤ place → RiseFrom axis place end cells → RiseFrom axis early end cells
rise_before axis early place end [] le rise = tt
rise_before axis early place end (m ∷ cells) le rise = (omega (arith, rise.0), rise.1, rise.2)

-- also from the one behind the first, where no cell is there
pub rise_later : (axis : Axis) (place end : ℕ) (m : Message) (cells : List Message) → eqb (position axis m.cell) place ≡ false → RiseFrom axis place end (m ∷ cells)
    → RiseFrom axis (suc place) end (m ∷ cells)
rise_later axis place end m cells other rise =
    let le : place ≤ position axis m.cell = rise.0 in
    let lt : suc place ≤ position axis m.cell = grind (arith, nat_tests) in
    (lt, rise.1, rise.2)

-- where the tests say so
pub rise_tested : (axis : Axis) (place end : ℕ) (m : Message) (cells : List Message) → place ≤ position axis m.cell
    → holds_along nat_lt (map (λ c. position axis c.cell) (m ∷ cells)) ≡ true → list_all (λ c. nat_lt (position axis c.cell) end) (m ∷ cells) ≡ true
    → RiseFrom axis place end (m ∷ cells)
unfolding holds_along
rise_tested axis place end m [] le along below =
    (le, ltb-true (position axis m.cell) end (and_parts (nat_lt (position axis m.cell) end) true below).0, tt)
rise_tested axis place end m (c ∷ cells) le along below =
    let first = and_parts (nat_lt (position axis m.cell) (position axis c.cell)) (holds_along nat_lt (map (λ d. position axis d.cell) (c ∷ cells))) along in
    let here = and_parts (nat_lt (position axis m.cell) end) (list_all (λ d. nat_lt (position axis d.cell) end) (c ∷ cells)) below in (
      le,
      ltb-true (position axis m.cell) end here.0,
      rise_tested axis (suc (position axis m.cell)) end c cells (ltb-true (position axis m.cell) (position axis c.cell) first.0) first.1 here.1,
    )

pub rise_from_tests : (axis : Axis) (end : ℕ) (cells : List Message) → holds_along nat_lt (map (λ c. position axis c.cell) cells) ≡ true
    → list_all (λ c. nat_lt (position axis c.cell) end) cells ≡ true → RiseFrom axis 0 end cells
rise_from_tests axis end [] along below = tt
rise_from_tests axis end (m ∷ cells) along below = rise_tested axis 0 end m cells (omega arith) along below

-- and the tests do
pub tests_rise : (axis : Axis) (place end : ℕ) (cells : List Message) → RiseFrom axis place end cells → holds_along nat_lt (map (λ c. position axis c.cell) cells) ≡ true
unfolding holds_along
tests_rise axis place end [] rise = refl
tests_rise axis place end (m ∷ []) rise = refl
tests_rise axis place end (m ∷ c ∷ cells) rise =
    let lt : position axis m.cell < position axis c.cell = rise.2.0 in
    and_from (nat_lt (position axis m.cell) (position axis c.cell)) (holds_along nat_lt (map (λ d. position axis d.cell) (c ∷ cells)))
    (lt-ltb (position axis m.cell) (position axis c.cell) lt) (tests_rise axis (suc (position axis m.cell)) end (c ∷ cells) rise.2)

pub tests_below : (axis : Axis) (place end : ℕ) (cells : List Message) → RiseFrom axis place end cells → list_all (λ c. nat_lt (position axis c.cell) end) cells ≡ true
tests_below axis place end [] rise = refl
tests_below axis place end (m ∷ cells) rise =
    and_from (nat_lt (position axis m.cell) end) (list_all (λ c. nat_lt (position axis c.cell) end) cells) (lt-ltb (position axis m.cell) end rise.1)
    (tests_below axis (suc (position axis m.cell)) end cells rise.2)

-- ---- what stands at each place

-- how many places have a sample
abbrev pub shown : List (Option Message) → ℕ
shown [] = 0
shown (None ∷ places) = shown places
shown (Some m ∷ places) = suc (shown places)

-- without their cells
abbrev pub bare_all : List (Option Message) → List (Option Sample)
bare_all places = map (option_map bare) places

-- each sample is one of the cell at its place
abbrev pub StandAt : Accused → ℕ → List (Option Message) → Type 0
StandAt accused place [] = Unit {0}
StandAt accused place (None ∷ places) = StandAt accused (suc place) places
StandAt accused place (Some m ∷ places) = (IsMessage m × (m.cell ≡ cell_on accused.axis accused.index place)) × StandAt accused (suc place) places

-- cells of the accused axis are laid on its places
pub record AreLaid (accused : Accused) (place : ℕ) (places : List (Option Message)) (cells : List Message) : Type 0 where
  pub stand : StandAt accused place places
  pub cells_are : cells_of accused place (bare_all places) ≡ cells
  pub many : shown places ≡ length cells

-- before a place with nothing
laid_none : (accused : Accused) (place : ℕ) (places : List (Option Message)) (cells : List Message) → AreLaid accused (suc place) places cells
    → AreLaid accused place (None ∷ places) cells
laid_none accused place places cells laid = record { stand = laid.stand; cells_are = laid.cells_are; many = laid.many }

-- behind the cell at a place
laid_some : (accused : Accused) (place : ℕ) (m : Message) (places : List (Option Message)) (cells : List Message) → IsMessage m
    → m.cell ≡ cell_on accused.axis accused.index place → AreLaid accused (suc place) places cells → AreLaid accused place (Some m ∷ places) (m ∷ cells)
laid_some accused place m places cells is at laid = record {
  stand = ((is, at), laid.stand);
  cells_are = ap₂ (λ (c : Cell) (l : List Message). with_cell c (bare m) ∷ l) (sym at) laid.cells_are;
  many = ap suc laid.many;
}

-- places behind the first one
pub places_first : (axis : Axis) (count place : ℕ) (cells : List Message) (first : Option Message) (later : List Message) → shown_at axis place cells ≡ first
    → behind_place axis place cells ≡ later → places_of axis (suc count) place cells ≡ first ∷ places_of axis count (suc place) later
places_first axis count place cells first later e f =
    places_of-next axis count place cells ∙ ap₂ (λ (o : Option Message) (l : List Message). o ∷ places_of axis count (suc place) l) e f

-- cells of an axis are those that one test holds of
abbrev pub are_on : Accused → List Message → Bool
are_on accused cells = list_all (λ m. index accused.axis m.cell == accused.index) cells

-- the first place and those behind it
laid_more : (accused : Accused) (count place : ℕ) (cells : List Message) (places : List (Option Message)) → places_of accused.axis count place cells ≡ places
    → AreLaid accused place places cells → AreLaid accused place (places_of accused.axis count place cells) cells
laid_more accused count place cells places e laid = subst (λ (l : List (Option Message)). AreLaid accused place l cells) (sym e) laid

-- whether any cells are laid on so many places
abbrev Laid : Accused → ℕ → ℕ → Type 0
Laid accused count place = (cells : List Message) → AllByRecursion IsMessage cells → are_on accused cells ≡ true
    → RiseFrom accused.axis place (place + count) cells → AreLaid accused place (places_of accused.axis count place cells) cells

-- the first cell stands at the first place, or doesn't
test_laid : (accused : Accused) (count place : ℕ) (m : Message) (cells : List Message) (b : Bool) → Laid accused count (suc place)
    → AllByRecursion IsMessage (m ∷ cells) → are_on accused (m ∷ cells) ≡ true → RiseFrom accused.axis place (suc place + count) (m ∷ cells)
    → eqb (position accused.axis m.cell) place ≡ b → AreLaid accused place (places_of accused.axis (suc count) place (m ∷ cells)) (m ∷ cells)
test_laid accused count place m cells true others all on rise is =
    let both = and_parts (index accused.axis m.cell == accused.index) (are_on accused cells) on in
    let here : position accused.axis m.cell ≡ place = eqb-true (position accused.axis m.cell) place is in
    let at : m.cell ≡ cell_on accused.axis accused.index place =
    cell_is accused.axis accused.index place m.cell (eqb-true (index accused.axis m.cell) accused.index both.0) here in
    let rest : RiseFrom accused.axis (suc place) (suc place + count) cells =
    subst (λ (p : ℕ). RiseFrom accused.axis (suc p) (suc place + count) cells) here rise.2 in
    laid_more accused (suc count) place (m ∷ cells) (Some m ∷ places_of accused.axis count (suc place) cells)
    (places_first accused.axis count place (m ∷ cells) (Some m) cells (ap (λ (b : Bool). cond b (Some m) None) is) (ap (λ (b : Bool). cond b cells (m ∷ cells)) is))
    (laid_some accused place m (places_of accused.axis count (suc place) cells) cells all.0 at (others cells all.1 both.1 rest))
test_laid accused count place m cells false others all on rise is =
    laid_more accused (suc count) place (m ∷ cells) (None ∷ places_of accused.axis count (suc place) (m ∷ cells))
    (places_first accused.axis count place (m ∷ cells) None (m ∷ cells) (ap (λ (b : Bool). cond b (Some m) None) is) (ap (λ (b : Bool). cond b cells (m ∷ cells)) is))
    (laid_none accused place (places_of accused.axis count (suc place) (m ∷ cells)) (m ∷ cells)
    (others (m ∷ cells) all on (rise_later accused.axis place (suc place + count) m cells is rise)))

-- cells are laid on so many places
pub cells_laid : (accused : Accused) (count place : ℕ) (cells : List Message) → AllByRecursion IsMessage cells → are_on accused cells ≡ true
    → RiseFrom accused.axis place (place + count) cells → AreLaid accused place (places_of accused.axis count place cells) cells
cells_laid accused zero place [] all on rise =
    laid_more accused zero place [] [] (places_of-none accused.axis place []) (record { stand = tt; cells_are = refl; many = refl })
cells_laid accused zero place (m ∷ cells) all on rise = absurd (omega (arith, rise.0, rise.1))
cells_laid accused (suc count) place [] all on rise =
    laid_more accused (suc count) place [] (None ∷ places_of accused.axis count (suc place) []) (places_of-next accused.axis count place [])
    (laid_none accused place (places_of accused.axis count (suc place) []) [] (cells_laid accused count (suc place) [] tt refl tt))
cells_laid accused (suc count) place (m ∷ cells) all on rise =
    let e : place + suc count ≡ suc place + count = omega arith in
    test_laid accused count place m cells (eqb (position accused.axis m.cell) place) (λ list a o r. cells_laid accused count (suc place) list a o r) all on
    (subst (λ (n : ℕ). RiseFrom accused.axis place n (m ∷ cells)) e rise) refl

-- so many places are so many
pub length-places_of : (axis : Axis) (count place : ℕ) (cells : List Message) → length (places_of axis count place cells) ≡ count
length-places_of axis zero place cells = ap length (places_of-none axis place cells)
length-places_of axis (suc count) place cells =
    ap length (places_of-next axis count place cells) ∙ ap suc (length-places_of axis count (suc place) (behind_place axis place cells))

-- ---- the cells of places that were read

-- the sample of the cell at a place
abbrev pub cell_at : Accused → ℕ → Option Sample → Option Message
cell_at accused place o = option_map (with_cell (cell_on accused.axis accused.index place)) o

-- those of places from one on
abbrev pub messages_of : Accused → ℕ → List (Option Sample) → List (Option Message)
messages_of accused place [] = []
messages_of accused place (o ∷ places) = cell_at accused place o ∷ messages_of accused (suc place) places

-- their cells stand by ascending places
pub cells_rise : (accused : Accused) (place : ℕ) (places : List (Option Sample)) → RiseFrom accused.axis place (place + length places) (cells_of accused place places)
cells_rise accused place [] = tt
cells_rise accused place (None ∷ places) =
    let e : suc place + length places ≡ place + suc (length places) = omega arith in
    subst (λ (n : ℕ). RiseFrom accused.axis place n (cells_of accused (suc place) places)) e
    (rise_before accused.axis place (suc place) (suc place + length places) (cells_of accused (suc place) places) (omega arith) (cells_rise accused (suc place) places))
cells_rise accused place (Some s ∷ places) =
    let at : position accused.axis (cell_on accused.axis accused.index place) ≡ place = position_on accused.axis accused.index place in
    let e : suc place + length places ≡ place + suc (length places) = omega arith in (
      omega (arith, at),
      omega (arith, at),
      subst (λ (n : ℕ). RiseFrom accused.axis (suc n) (place + suc (length places)) (cells_of accused (suc place) places)) (sym at)
          (subst (λ (n : ℕ). RiseFrom accused.axis (suc place) n (cells_of accused (suc place) places)) e (cells_rise accused (suc place) places)),
    )

-- they are cells of the axis
pub cells_on : (accused : Accused) (place : ℕ) (places : List (Option Sample))
    → list_all (λ m. index accused.axis m.cell == accused.index) (cells_of accused place places) ≡ true
cells_on accused place [] = refl
cells_on accused place (None ∷ places) = cells_on accused (suc place) places
cells_on accused place (Some s ∷ places) =
    let at : index accused.axis (cell_on accused.axis accused.index place) ≡ accused.index = index_on accused.axis accused.index place in
    let same : eqb (index accused.axis (cell_on accused.axis accused.index place)) accused.index ≡ true = grind (arith, nat_tests) in
    and_from (index accused.axis (cell_on accused.axis accused.index place) == accused.index)
    (list_all (λ m. index accused.axis m.cell == accused.index) (cells_of accused (suc place) places)) same (cells_on accused (suc place) places)

-- nothing stands at a place before all cells
shown-none : (axis : Axis) (place end : ℕ) (cells : List Message) → RiseFrom axis (suc place) end cells → (shown_at axis place cells ≡ None) × (behind_place axis place cells ≡ cells)
shown-none axis place end [] rise = (refl, refl)
shown-none axis place end (m ∷ cells) rise =
    let later : suc place ≤ position axis m.cell = rise.0 in
    let other : eqb (position axis m.cell) place ≡ false = grind (arith, nat_tests) in
    (ap (λ (b : Bool). cond b (Some m) None) other, ap (λ (b : Bool). cond b cells (m ∷ cells)) other)

-- laid on their places they are these
pub places_back : (accused : Accused) (place : ℕ) (places : List (Option Sample))
    → places_of accused.axis (length places) place (cells_of accused place places) ≡ messages_of accused place places
places_back accused place [] = places_of-none accused.axis place []
places_back accused place (None ∷ places) =
    let cells : List Message = cells_of accused (suc place) places in
    let none = shown-none accused.axis place (suc place + length places) cells (cells_rise accused (suc place) places) in
    places_first accused.axis (length places) place cells None cells none.0 none.1
    ∙ ap (λ (l : List (Option Message)). None ∷ l) (places_back accused (suc place) places)
places_back accused place (Some s ∷ places) =
    let m : Message = with_cell (cell_on accused.axis accused.index place) s in
    let cells : List Message = cells_of accused (suc place) places in
    let at : position accused.axis m.cell ≡ place = position_on accused.axis accused.index place in
    let same : eqb (position accused.axis m.cell) place ≡ true = grind (arith, nat_tests) in
    places_first accused.axis (length places) place (m ∷ cells) (Some m) cells
    (ap (λ (b : Bool). cond b (Some m) None) same) (ap (λ (b : Bool). cond b cells (m ∷ cells)) same)
    ∙ ap (λ (l : List (Option Message)). Some m ∷ l) (places_back accused (suc place) places)
