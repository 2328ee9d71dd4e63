use Rattle.std.proofs.Common.{◌∙◌, sym, arith}
use Rattle.std.proofs.lemmas.List.{ext_get_or}
use Rattle.namespace_id.specs.Names.{parity}
use Rattle.axis_roots.specs.Lines.{line_names}
use Rattle.axis_roots.proofs.Grids.LineLemmas.{length-line_names, get_or-line_names}
use Rattle.axis_roots.proofs.square.lines.name_leaves.Goals as goal

pub returns : goal.returns
returns c =
    let names = line_names c.args.k c.args.axis c.args.index c.args.line.now in
    ext_get_or parity c.loop-pos.names names (omega (arith, length-line_names c.args.k c.args.axis c.args.index c.args.line.now))
    (λ pos h. c.loop-pos.invariant pos (omega arith)
    ∙ sym (get_or-line_names c.args.k c.args.axis c.args.index c.args.line.now pos parity (omega arith)))
