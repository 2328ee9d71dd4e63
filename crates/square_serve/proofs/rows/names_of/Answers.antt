use Rattle.std.proofs.Common.{◌≡◌, ◌<◌, ◌*◌, ◌+◌, ℕ, List, refl, sym, ap, subst, arith}
use Rattle.namespace_id.specs.declared.cells.Axis.TheVariants.{Row}
use Rattle.namespace_id.specs.declared.namespaces.Namespace.{Namespace}
use Rattle.nmt_tree.specs.Spans.{name_at}
use Rattle.axis_roots.specs.Grids.{axis_names}
use Rattle.axis_roots.proofs.Grids.QuarterLemmas.{extension_shares}
use Rattle.square_layout.specs.Blocks.{SquareShares, IsSquare}
use Rattle.square_serve.proofs.HeaderLemmas.{own_ordered}
use Rattle.square_serve.proofs.OrderingLemmas.{name_read}
use Rattle.square_serve.proofs.WantedLemmas.{IsLastTo, last_first, last_next, last_same, names_told}
use Rattle.square_serve.proofs.rows.names_of.Goals.{then-not-is_parity, else-not-is_parity}
use Rattle.square_serve.proofs.rows.names_of.Goals as goal

-- the first leaf's
pub loop-col-init : goal.loop-col-init
loop-col-init c = λ grid extends.
    last_first (axis_names c.args.square.now.k grid Row c.args.row) c.name_over-least.result
    (name_read c.args.square.now.k grid Row c.args.row 0 _ c.name_over-least.result (omega (arith, c.requires.row)) refl (c.name_over-least.ensures grid extends))

-- the next leaf's, unless it is PARITY
pub loop-col-preserved : goal.loop-col-preserved
loop-col-preserved c = λ grid extends.
    let names : List Namespace = axis_names c.args.square.now.k grid Row c.args.row in
    let col : ℕ = c.loop-col.col in
    let width : c.square.inside.k ≡ c.args.square.now.k = ap (λ (s : SquareShares). s.k) c.square.view_is in
    let within : col < 2 * c.args.square.now.k = omega (arith, c.loop-col-test.true, width) in
    let here : c.name_over-name.result ≡ name_at names col =
    name_read c.args.square.now.k grid Row c.args.row col _ c.name_over-name.result within refl (c.name_over-name.ensures grid extends) in
    elim c.if-not-is_parity.branch [
      | then-not-is_parity w ↦
          subst (IsLastTo names (col + 1)) (sym w.greatest-is)
          (last_next names col c.loop-col.greatest c.name_over-name.result (c.loop-col.invariant grid extends) here (sym w.if-not-is_parity.ensures))
      | else-not-is_parity w ↦
          subst (IsLastTo names (col + 1)) (sym w.greatest-is)
          (last_same names col c.loop-col.greatest c.name_over-name.result (c.loop-col.invariant grid extends) here (sym w.if-not-is_parity.ensures))
    ]

-- those of the root
pub returns : goal.returns
returns c = λ grid extends.
    let names : List Namespace = axis_names c.args.square.now.k grid Row c.args.row in
    let width : c.square.inside.k ≡ c.args.square.now.k = ap (λ (s : SquareShares). s.k) c.square.view_is in
    let all : c.loop-col.col ≡ c.args.square.now.k = omega (arith, c.loop-col-test.false, width, c.requires.row) in
    let whole : IsSquare c.args.square.now = subst IsSquare c.square.view_is c.square.invariant in
    names_told c.args.square.now.k grid c.args.row whole.width (extension_shares c.args.square.now.k c.args.square.now.shares grid whole.width extends)
    (own_ordered c.args.square.now c.requires.header grid extends) c.requires.row
    c.name_over-least.result c.loop-col.greatest
    (name_read c.args.square.now.k grid Row c.args.row 0 _ c.name_over-least.result (omega (arith, c.requires.row)) refl (c.name_over-least.ensures grid extends))
    (subst (λ (n : ℕ). IsLastTo names n c.loop-col.greatest) all (c.loop-col.invariant grid extends))
