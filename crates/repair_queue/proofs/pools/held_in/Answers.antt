use Rattle.std.proofs.Common.{◌≡◌, true, sym, subst}
use Rattle.namespace_id.specs.Cells.{is_in_square}
use Rattle.repair_queue.specs.Pools.{PoolParts}
use Rattle.repair_queue.proofs.pools.held_in.Goals as goal

-- the cell is in the square
pub at-requires : goal.at-requires
at-requires c = record { cell = subst (λ (p : PoolParts). is_in_square p.places.k c.args.cell ≡ true) (sym c.pool.view_is) c.requires.cell }
