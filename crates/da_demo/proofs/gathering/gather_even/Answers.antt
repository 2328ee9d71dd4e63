use Rattle.std.proofs.Common.{arith}
use Rattle.namespace_id.proofs.WidthLemmas.{is_width-le}
use Rattle.axis_roots.proofs.Grids.NumberLemmas.{inside}
use Rattle.da_demo.proofs.gathering.gather_even.Goals as goal

-- a square has few rows
pub is_even-requires-clause-row : goal.is_even-requires-clause-row
is_even-requires-clause-row c =
    omega (
      arith,
      is_width-le c.args.grid.now.k c.requires.width,
      (inside c.args.grid.now.k c.args.cell c.requires.cell).0,
    )

-- and few columns
pub is_even-requires-clause-col : goal.is_even-requires-clause-col
is_even-requires-clause-col c =
    omega (
      arith,
      is_width-le c.args.grid.now.k c.requires.width,
      (inside c.args.grid.now.k c.args.cell c.requires.cell).1,
    )
