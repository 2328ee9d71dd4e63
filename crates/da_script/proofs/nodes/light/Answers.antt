use Rattle.std.proofs.Common.{◌≡◌, ◌∙◌, ◌<◌, List, [], length, slice_get, true, sym, ap, subst, arith}
use Rattle.std.specs.List.{list_all}
use Rattle.namespace_id.specs.declared.cells.Cell.{Cell}
use Rattle.namespace_id.specs.Cells.{is_in_square}
use Rattle.data_header.specs.Headers.{Roots}
use Rattle.sampling.specs.Draws.{drawn_cells}
use Rattle.light_node.specs.Nodes.{distinct}
use Rattle.da_script.proofs.PlanLemmas.{same_list, each_there, distinct_apart}
use Rattle.da_script.proofs.nodes.light.Goals as goal

-- each number has a cell, which is one of the square
pub new-requires : goal.new-requires
new-requires g c = record {
  picker = λ number below.
      let inside : list_all (is_in_square c.args.header.now.k) c.in-Ok.cells.items ≡ true =
      subst (λ (h : Roots). list_all (is_in_square h.k) c.in-Ok.cells.items ≡ true) c.header.view_is c.in-Ok.ensures.inside in
      let long : number < length (g.F.Listed.cells_of c.of.result) =
      subst (λ (l : List Cell). number < length l) (sym c.of.ensures) (omega (arith, below, c.in-Ok.ensures.count)) in (
        g.met.F.Listed.can c.of.result number long,
        λ cell is.
            each_there (is_in_square c.args.header.now.k) c.in-Ok.cells.items number cell inside
            (ap (λ (l : List Cell). slice_get l number) (sym c.of.ensures) ∙ g.met.F.Listed.only c.of.result number cell is),
      );
}

-- nothing was handed to it
pub returns-clause-fresh : goal.returns-clause-fresh
returns-clause-fresh g c =
    let planned = c.in_ok-more.ensures.stands [] [] c.in_ok-node.ensures.stands in
    (c.in_ok-more.ensures.kept.header ∙ c.in_ok-node.ensures.header, planned.0, planned.2)

-- it wants what was drawn
pub returns-clause-wanted : goal.returns-clause-wanted
returns-clause-wanted g c =
    let planned = c.in_ok-more.ensures.stands [] [] c.in_ok-node.ensures.stands in
    let pick = c.in_ok-more.ensures.kept.pick ∙ c.in_ok-node.ensures.picker in
    let drawn = c.in-Ok.cells.items in
    let same : planned.0 ≡ drawn =
    same_list planned.0 drawn (planned.1 ∙ sym c.in-Ok.ensures.count) (λ i cell there.
    ap (λ (l : List Cell). slice_get l i) (sym c.of.ensures)
    ∙ g.met.F.Listed.only c.of.result i cell (subst (λ (f : g.row.F.Denot). g.F.Picker.picks f i cell) pick (planned.2.picked i cell there))) in
    planned.2.wanted ∙ ap distinct same ∙ distinct_apart drawn c.in-Ok.ensures.apart ∙ c.in-Ok.ensures.drawn
    ∙ ap (λ (h : Roots). drawn_cells c.args.key.now h.k c.args.count) c.header.view_is
