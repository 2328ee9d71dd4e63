-- Recoverable cells and facts are what lists derive.
use Rattle.std.proofs.Common.{inl, inr, ℕ, List, [], ◌∷◌, ◌++◌, refl, subst}
use Rattle.std.specs.List.{Contains}
use Rattle.std.proofs.lemmas.List.Elements.{Contains-append_left, Contains-append_right}
use Rattle.namespace_id.specs.declared.cells.Cell.{Cell}
use Rattle.namespace_id.specs.declared.shares.Share.{Share}
use Rattle.data_header.specs.Headers.{Roots}
use Rattle.axis_roots.specs.declared.message.messages.Message.{Message}
use Rattle.axis_roots.specs.Lines.{cell_on, entry}
use Rattle.repair_queue.specs.Closures.{Half, seen, filled, Fact, shown, rebuilt}
use Rattle.repair_queue.specs.Derivations.{AreDerived, IsListed, IsSeen, IsFilled, IsShownPair, IsRebuiltPair}
use Rattle.namespace_id.proofs.MemberLemmas.{contains_head, contains_tail, contains_none, contains_cons}

module _ {A : Type 0} (given : A → Type 0) (follows : List A → A → Type 0) (grows : (xs ys : List A) (x : A) → ((z : A) → Contains xs z → Contains ys z) → follows xs x → follows ys x) where
  -- two lists of derivations are one
  both_derived : (xs ys : List A) → AreDerived given follows xs → AreDerived given follows ys → AreDerived given follows (xs ++ ys)
  both_derived [] ys h k = k
  both_derived (x ∷ xs) ys (inl g, h) k = (inl g, both_derived xs ys h k)
  both_derived (x ∷ xs) ys (inr f, h) k = (inr (grows xs (xs ++ ys) x (λ z at. Contains-append_left xs ys z at) f), both_derived xs ys h k)

  -- a set that holds what is given and what follows holds all that is listed
  derived_least : (X : A → Type 0) → ((x : A) → given x → X x) → ((xs : List A) (x : A) → ((z : A) → Contains xs z → X z) → follows xs x → X x)
      → (xs : List A) → AreDerived given follows xs → (z : A) → Contains xs z → X z
  derived_least X starts closed [] h z at = absurd (contains_none z at)
  derived_least X starts closed (x ∷ xs) (s, h) z at = elim (contains_cons x z xs at) [
    | inr later ↦ derived_least X starts closed xs h z later
    | inl e ↦ subst X e (elim s [ inl g ↦ starts x g | inr f ↦ closed xs x (derived_least X starts closed xs h) f ])
  ]

  -- listed items of some positions stand in one list
  all_listed : (f : ℕ → A) (chosen : List ℕ) → ((p : ℕ) → Contains chosen p → IsListed given follows (f p))
      → (ys : List A) × AreDerived given follows ys × ((p : ℕ) → Contains chosen p → Contains ys (f p))
  all_listed f [] each = ([], tt, λ p at. absurd (contains_none p at))
  all_listed f (q ∷ chosen) each =
      let one : IsListed given follows (f q) = each q (contains_head q chosen) in
      let rest : (ys : List A) × AreDerived given follows ys × ((p : ℕ) → Contains chosen p → Contains ys (f p)) =
      all_listed f chosen (λ p at. each p (contains_tail q p chosen at)) in (
        one.0 ++ rest.0,
        both_derived one.0 rest.0 one.1 rest.1,
        λ p at. elim (contains_cons q p chosen at) [
          | inl e ↦ Contains-append_left one.0 rest.0 (f p) (subst (λ (n : ℕ). Contains one.0 (f n)) e one.2)
          | inr later ↦ Contains-append_right one.0 rest.0 (f p) (rest.2 p later)
        ],
      )

-- ---- cells

-- what follows from some cells follows from more
filled_grows : (header : Roots) (xs ys : List Cell) (cell : Cell) → ((z : Cell) → Contains xs z → Contains ys z) → IsFilled header xs cell → IsFilled header ys cell
filled_grows header xs ys cell more f = record {
  axis = f.axis;
  index = f.index;
  chosen = f.chosen;
  pos = f.pos;
  within = f.within;
  are_chosen = f.are_chosen;
  cells_there = λ p at. more (cell_on f.axis f.index p) (f.cells_there p at);
  below = f.below;
  here = f.here;
}

-- recoverable cells are listed
pub half_listed : (header : Roots) (ms : List Message) (cell : Cell) → Half header ms cell → IsListed (IsSeen header ms) (IsFilled header) cell
half_listed header ms cell (seen m at proved) = (m.cell ∷ [], (inl (m, at, proved, refl), tt), contains_head m.cell [])
half_listed header ms cell (filled axis i chosen pos within are halves below) =
    let all = all_listed (IsSeen header ms) (IsFilled header) (filled_grows header) (λ (p : ℕ). cell_on axis i p) chosen
    (λ p at. half_listed header ms (cell_on axis i p) (halves p at)) in
    let follows : IsFilled header all.0 (cell_on axis i pos) = record {
      axis = axis;
      index = i;
      chosen = chosen;
      pos = pos;
      within = within;
      are_chosen = are;
      cells_there = all.2;
      below = below;
      here = refl;
    } in
    (cell_on axis i pos ∷ all.0, (inr follows, all.1), contains_head (cell_on axis i pos) all.0)

-- and listed cells are recoverable
pub listed_half : (header : Roots) (ms : List Message) (cell : Cell) → IsListed (IsSeen header ms) (IsFilled header) cell → Half header ms cell
listed_half header ms cell (xs, derived, at) =
    derived_least (IsSeen header ms) (IsFilled header) (filled_grows header) (λ c. Half header ms c)
    (λ c g. subst (λ (d : Cell). Half header ms d) g.3 (seen g.0 g.1 g.2))
    (λ ys c halves f. subst (λ (d : Cell). Half header ms d) f.here
    (filled f.axis f.index f.chosen f.pos f.within f.are_chosen (λ p in_chosen. halves (cell_on f.axis f.index p) (f.cells_there p in_chosen)) f.below))
    xs derived cell at

-- ---- cells with their shares

-- what follows from some pairs follows from more
rebuilt_grows : (header : Roots) (xs ys : List (Cell × Share)) (pair : Cell × Share) → ((z : Cell × Share) → Contains xs z → Contains ys z)
    → IsRebuiltPair header xs pair → IsRebuiltPair header ys pair
rebuilt_grows header xs ys pair more f = record {
  axis = f.axis;
  index = f.index;
  word = f.word;
  chosen = f.chosen;
  pos = f.pos;
  within = f.within;
  codeword = f.codeword;
  are_chosen = f.are_chosen;
  pairs_there = λ p at. more (cell_on f.axis f.index p, entry f.word p) (f.pairs_there p at);
  below = f.below;
  here = f.here;
}

-- facts are listed
pub fact_listed : (header : Roots) (ms : List Message) (cell : Cell) (share : Share) → Fact header ms cell share
    → IsListed (IsShownPair header ms) (IsRebuiltPair header) (cell, share)
fact_listed header ms cell share (shown m at proved) = ((m.cell, m.share) ∷ [], (inl (m, at, proved, refl), tt), contains_head (m.cell, m.share) [])
fact_listed header ms cell share (rebuilt axis i word chosen pos within code are facts below) =
    let all = all_listed (IsShownPair header ms) (IsRebuiltPair header) (rebuilt_grows header) (λ (p : ℕ). (cell_on axis i p, entry word p)) chosen
    (λ p at. fact_listed header ms (cell_on axis i p) (entry word p) (facts p at)) in
    let follows : IsRebuiltPair header all.0 (cell_on axis i pos, entry word pos) = record {
      axis = axis;
      index = i;
      word = word;
      chosen = chosen;
      pos = pos;
      within = within;
      codeword = code;
      are_chosen = are;
      pairs_there = all.2;
      below = below;
      here = refl;
    } in
    ((cell_on axis i pos, entry word pos) ∷ all.0, (inr follows, all.1), contains_head (cell_on axis i pos, entry word pos) all.0)

-- and listed pairs are facts
pub listed_fact : (header : Roots) (ms : List Message) (cell : Cell) (share : Share) → IsListed (IsShownPair header ms) (IsRebuiltPair header) (cell, share)
    → Fact header ms cell share
listed_fact header ms cell share (xs, derived, at) =
    derived_least (IsShownPair header ms) (IsRebuiltPair header) (rebuilt_grows header) (λ pair. Fact header ms pair.0 pair.1)
    (λ pair g. subst (λ (other : Cell × Share). Fact header ms other.0 other.1) g.3 (shown g.0 g.1 g.2))
    (λ ys pair facts f. subst (λ (other : Cell × Share). Fact header ms other.0 other.1) f.here
    (rebuilt f.axis f.index f.word f.chosen f.pos f.within f.codeword f.are_chosen
    (λ p in_chosen. facts (cell_on f.axis f.index p, entry f.word p) (f.pairs_there p in_chosen)) f.below))
    xs derived (cell, share) at
