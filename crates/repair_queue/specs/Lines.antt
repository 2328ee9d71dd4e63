-- A line of facts.
use Rattle.std.specs.Prelude.{ℕ, ◌*◌, ◌<◌, List}
use Rattle.namespace_id.specs.declared.cells.Axis.{Axis}
use Rattle.namespace_id.specs.declared.shares.Share.{Share}
use Rattle.data_header.specs.Headers.{Roots}
use Rattle.axis_roots.specs.declared.message.messages.Message.{Message}
use Rattle.axis_roots.specs.Lines.{entry, cell_on}
use Rattle.repair_queue.specs.Closures.{Fact}

-- the shares of a line are facts
abbrev pub AreFacts : Roots → List Message → Axis → ℕ → List Share → Type 0
AreFacts header ms axis i line = (pos : ℕ) → pos < 2 * header.k → Fact header ms (cell_on axis i pos) (entry line pos)
