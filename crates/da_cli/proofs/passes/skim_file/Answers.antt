use Rattle.std.proofs.Common.{◌≡◌, ◌≤◌, ◌+◌, ℕ, take, length, length-take-le, subst, arith}
use Rattle.std.specs.String.{string_bytes}
use Rattle.da_cli.proofs.StreamedLemmas.{IsPassing, one_read, pass_on}
use Rattle.da_cli.proofs.passes.skim_file.Goals as goal

-- one read more
pub loop-count-preserved : goal.loop-count-preserved
loop-count-preserved g c =
    let within : c.in-Ok.count ≤ length c.read.new.buf = c.in-Ok.ensures.bound.0 in
    let len : length (take c.in-Ok.count c.read.new.buf) ≡ c.in-Ok.count = length-take-le c.in-Ok.count c.read.new.buf within in
    let read = one_read g.I.Inputs c.loop-count.inputs c.read.new.self c.read.new.buf c.in-Ok.count within c.in-Ok.ensures.rest.0 c.in-Ok.ensures.given c.in-Ok.ensures.faults
    (g.met.I.Inputs.counted c.loop-count.inputs).1 c.in-Ok.ensures.ended c.in-Ok.ensures.picks c.in-Ok.ensures.picked c.in-Ok.ensures.files in (
      subst (λ (n : ℕ). IsPassing g.I.Inputs (string_bytes c.args.name) c.args.inputs.now c.read.new.self (c.loop-count.taken + n)) len
          (pass_on g.I.Inputs (string_bytes c.args.name) c.args.inputs.now c.loop-count.inputs c.read.new.self c.loop-count.taken (take c.in-Ok.count c.read.new.buf) c.loop-count.invariant.0 read),
      omega (arith, c.if-count-taken.false, c.loop-count.invariant.1),
    )
