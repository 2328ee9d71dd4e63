-- A pool that got capacity for more samples, and a session over it.
use Rattle.std.proofs.Common.{◌≡◌, ap, sym, subst}
use Rattle.std.specs.Prelude.{Option, Some, None}
use Rattle.data_header.specs.Headers.{Roots}
use Rattle.repair_queue.specs.declared.boards.Board.{Board}
use Rattle.repair_queue.specs.declared.tools.Tools.{Tools}
use Rattle.repair_queue.specs.declared.ending.Ending.{Ending}
use Rattle.repair_queue.specs.Pools.{PoolParts}
use Rattle.repair_queue.specs.OpenBoards.{IsOpenBoard}
use Rattle.repair_queue.specs.Views.{parts_by}

-- a board with another pool
abbrev pub with_pool : Board → PoolParts → Board
with_pool b pool = record { pool = pool; marks = b.marks; counts = b.counts; grid = b.grid; leaves = b.leaves }

module _ (header : Roots) (b : Board) (pool : PoolParts)
    (kept : pool ≡ record { places = b.pool.places; given = b.pool.given; free = b.pool.free; capacity = pool.capacity }) where
  -- what holds of the board while nothing has ended the session holds of it with that pool
  pub grown_open : (tools : Tools) (end : Option Ending) → IsOpenBoard header b tools end → IsOpenBoard header (with_pool b pool) tools end
  grown_open tools None held = subst (λ (p : PoolParts). IsOpenBoard header (with_pool b p) tools None) (sym kept) (
    record {
      width = held.0.width;
      parts = record {
        pool_width = held.0.parts.pool_width;
        marks_width = held.0.parts.marks_width;
        counts_width = held.0.parts.counts_width;
        digests = held.0.parts.digests;
      };
      sound = held.0.sound;
      leaves = held.0.leaves;
      counted = held.0.counted;
      queued = held.0.queued;
    },
    held.1,
    held.2,
  )
  grown_open tools (Some end) held = tt

  -- and contracts see the same session
  pub grown_parts : (end : Option Ending) → parts_by header (with_pool b pool) end ≡ parts_by header b end
  grown_parts end = ap (λ (p : PoolParts). parts_by header (with_pool b p) end) kept
