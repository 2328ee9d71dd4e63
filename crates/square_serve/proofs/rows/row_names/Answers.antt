use Rattle.std.proofs.Common.{◌≡◌, ◌∙◌, ℕ, ap, map, arith}
use Rattle.square_layout.specs.Blocks.{SquareShares}
use Rattle.namespace_id.specs.Lists.{ascending}
use Rattle.namespace_id.proofs.AscentLemmas.{mapped_none, mapped_more}
use Rattle.square_serve.specs.RowNames.{names_of}
use Rattle.square_serve.proofs.rows.row_names.Goals as goal

pub loop-row-init : goal.loop-row-init
loop-row-init c = λ grid extends. mapped_none (names_of c.args.square.now.k grid) c.in-Ok.names.items c.in-Ok.ensures.items

-- one row more
pub loop-row-preserved : goal.loop-row-preserved
loop-row-preserved c = λ grid extends.
    c.in-Ok-push.ensures.items
    ∙ mapped_more (names_of c.args.square.now.k grid) c.loop-row.row c.loop-row.names.items c.names_of.result (c.loop-row.invariant grid extends)
    (c.names_of.ensures grid extends)

-- behind the last one
pub returns : goal.returns
returns c = λ grid extends.
    let width : c.square.inside.k ≡ c.args.square.now.k = ap (λ (s : SquareShares). s.k) c.square.view_is in
    let all : c.loop-row.row ≡ c.args.square.now.k = omega (arith, width) in
    c.loop-row.invariant grid extends ∙ ap (λ (n : ℕ). map (names_of c.args.square.now.k grid) (ascending 0 n)) all
