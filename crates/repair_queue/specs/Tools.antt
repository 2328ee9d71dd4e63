-- What the steps of a session are lent, and what they gather.
use Rattle.std.specs.Prelude.{◌≡◌, ℕ, ◌*◌, ◌<◌, ◌≤◌, List, length, get_or, true, Option, Some, Vec, vec_capacity}
use Rattle.std.specs.declared.alloc.Global.{Global}
use Rattle.namespace_id.specs.declared.cells.Axis.{Axis}
use Rattle.namespace_id.specs.declared.shares.Share.{Share}
use Rattle.axis_roots.specs.declared.message.proved.Proved.{Proved}
use Rattle.axis_roots.specs.Lines.{cell_on, blank}
use Rattle.repair_queue.specs.declared.tools.Tools.{Tools}
use Rattle.repair_queue.specs.Slots.{Kept, Flags}
use Rattle.repair_queue.specs.Steps.{IsSpare}
use Rattle.repair_queue.specs.Boards.{Shared, is_found, found_share}

-- a list for k samples that was not handed out
abbrev pub HasSpare : ℕ → Option (Vec Proved Global) → Type 0
HasSpare k spare = (cells : Vec Proved Global) × (spare ≡ Some cells) × IsSpare k cells

-- buffers for the steps over a square of width k
pub record AreTools (k : ℕ) (t : Tools) : Type 0 where
  pub room : t.room.k ≡ k
  pub code : t.code ≡ k
  pub line : length t.line.items ≡ 2 * k
  pub known : k ≤ vec_capacity t.known
  pub given : k ≤ vec_capacity t.given
  pub names : length t.names.items ≡ 2 * k
  pub digests : length t.digests.items ≡ 2 * k
  pub folded : length t.folded.items ≡ 2 * k
  pub across : length t.across.items ≡ 2 * k
  pub spare : HasSpare k t.spare

-- cells of a row or a column at these positions are known, and these are their shares
pub record AreGathered (slot : Kept) (flag : Flags) (shares : Shared) (axis : Axis) (i : ℕ) (known : List ℕ) (given : List Share) : Type 0 where
  pub count : length given ≡ length known
  pub found : (j : ℕ) → j < length known → is_found slot flag (cell_on axis i (get_or known j 0)) ≡ true
  pub share : (j : ℕ) → j < length known → get_or given j blank ≡ found_share slot flag shares (cell_on axis i (get_or known j 0))
