use Rattle.std.proofs.Common.{◌≡◌, ◌∙◌, ◌+◌, ◌-◌, ℕ, List, take, drop, ap, arith}
use Rattle.namespace_id.specs.declared.cells.Axis.TheVariants.{Row}
use Rattle.namespace_id.specs.declared.shares.Share.{Share}
use Rattle.axis_roots.specs.Grids.{axis_shares}
use Rattle.square_serve.specs.Serving.{HeldParts}
use Rattle.square_serve.proofs.RowFrontLemmas.{length-row}
use Rattle.square_serve.proofs.FindingLemmas.{front_part}
use Rattle.square_serve.proofs.held.Held.shares.Goals as goal

-- they stand in the front of the row
pub returns : goal.returns
returns c =
    let k : ℕ = c.self.inside.grid.k in
    let grid : List Share = c.self.inside.grid.shares in
    let number : c.args.start + c.args.count - c.args.start ≡ c.args.count = omega arith in
    ap (λ (n : ℕ). take n (drop c.args.start c.front_of.result.now)) number
    ∙ front_part k c.args.start c.args.count (axis_shares k grid Row c.args.row) c.front_of.result.now c.front_of.ensures.shares
    (omega (arith, c.front_of.ensures.count, c.requires.columns, ap (λ (h : HeldParts). h.k) c.self.view_is)) c.front_of.ensures.count
    (omega (arith, length-row k grid c.args.row))
    ∙ ap (λ (h : HeldParts). take c.args.count (drop c.args.start (axis_shares h.k h.grid Row c.args.row))) c.self.view_is
