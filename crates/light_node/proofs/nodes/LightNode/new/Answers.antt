use Rattle.std.proofs.Common.{◌∙◌, ◌*◌, ◌+◌, ◌≡◌, ℕ, zero, suc, List, [], get_or, replicate, Bool, true, false, true≢false, refl, sym, subst, ap, arith}
use Rattle.std.specs.Prelude.{◌↔◌}
use Rattle.std.proofs.lemmas.Option.{slice_get_within}
use Rattle.data_header.specs.Headers.{Roots}
use Rattle.namespace_id.specs.declared.cells.Cell.{Cell}
use Rattle.namespace_id.specs.Cells.{is_width}
use Rattle.namespace_id.proofs.WidthLemmas.{is_width-le}
use Rattle.light_node.specs.Events.{IsShownCell}
use Rattle.light_node.specs.Plans.{PicksInside}
use Rattle.light_node.specs.Nodes.{is_marked}
use Rattle.light_node.proofs.StepLemmas.{good_new}
use Rattle.light_node.proofs.nodes.LightNode.new.Goals as goal

-- it has planned nothing
pub invariant_of-result : goal.invariant_of-result
invariant_of-result g c = (
  c.in_ok-room.ensures ∙ c.width-k.ensures.value,
  good_new g.F.Picker.can_pick g.F.Picker.picks c.args.pick c.args.limit c.in_ok-header.header c.new-2.result.keys
      c.in_ok-shown.shown.items
      (subst (λ (k : ℕ). is_width k ≡ true) c.width-k.ensures.value c.width-k.ensures.width)
      (subst (λ (h : Roots). PicksInside g.F.Picker.can_pick g.F.Picker.picks c.args.pick c.args.limit h.k) (sym
      c.in_ok-header.ensures) c.requires.picker)
      (sym c.in_ok-shown.shown.ok.0 ∙ c.in_ok-shown.ensures.len ∙ ap (λ (k : ℕ). 2 * k * (2 * k)) c.width-k.ensures.value)
      c.new-2.ensures.empty,
  tt,
)

-- a row has few cells
pub overflow_mul-in_row : goal.overflow_mul-in_row
overflow_mul-in_row g c = omega (arith, is_width-le c.width-k.result c.width-k.ensures.width)

-- no mark is set
no_mark : (n i : ℕ) → get_or (replicate n false) i false ≡ false
no_mark zero i = refl
no_mark (suc n) zero = refl
no_mark (suc n) (suc i) = no_mark n i

-- so no cell is marked, as none is shown
none_marked : (n : ℕ) (header : Roots) (marks : List Bool) (cell : Cell) → marks ≡ replicate n false
    → (is_marked header.k marks cell ≡ true) ↔ IsShownCell header [] cell
none_marked n header marks cell e = (
  λ marked. absurd (true≢false (sym marked
      ∙ ap (λ (l : List Bool). is_marked header.k l cell) e ∙ no_mark n (cell.row * (2 * header.k) + cell.col))),
  λ shown. absurd (omega (arith, shown.1.1)),
)

-- it stands for no plan and no event
pub returns-clause-stands : goal.returns-clause-stands
returns-clause-stands g c =
    let fresh : c.in_ok-shown.shown.items ≡ replicate (2 * c.width-k.result * (2 * c.width-k.result)) false =
    c.in_ok-shown.ensures.items_if_clones_equal (λ y same. same) in
    record {
      count = refl;
      picked = λ number cell e. absurd (omega (arith, slice_get_within [] number cell e));
      wanted = c.new-2.ensures.empty;
      shown = λ cell within. none_marked _ c.in_ok-header.header c.in_ok-shown.shown.items cell fresh;
      claim = λ claim at accepts. omega (arith, at.1);
    }
