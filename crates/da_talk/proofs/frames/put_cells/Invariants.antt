use Rattle.std.proofs.Common.{vec_len, length}
use Rattle.std.specs.List.{flat_map}
use Rattle.frame_payloads.specs.codec.Texts.{cell_bytes}
use Rattle.da_talk.proofs.PutLoops.{IsPutting}
use Rattle.da_talk.proofs.frames.put_cells.Given as goal
use Rattle.std.proofs.Common.{◌+◌, ◌++◌}

-- what is there and what is left are all, and there is capacity for what is left
abbrev pub invariant-loop-cell : goal.invariant-loop-cell
invariant-loop-cell l = IsPutting cell_bytes l.cells l.cell-index l.fn.text l.text
    (l.fn.text.items ++ flat_map cell_bytes l.cells) (vec_len l.fn.text + length (flat_map cell_bytes l.cells))
