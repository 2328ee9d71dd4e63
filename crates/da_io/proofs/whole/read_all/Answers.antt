use Rattle.std.proofs.Common.{arith, ◌++◌, take, refl}
use Rattle.std.proofs.KnownBytes.{Consumes-trans}
use Rattle.std.proofs.lemmas.List.{length-append}
use Rattle.da_io.proofs.whole.read_all.Goals as goal

-- the piece that went past the limit came too
pub returns-then-count-limit-clause-taken : goal.returns-then-count-limit-clause-taken
returns-then-count-limit-clause-taken g c =
    let size = length-append c.loop-count.content.items (take c.in-Ok.count c.read.new.buf) in
    record {
      bytes = c.loop-count.content.items ++ take c.in-Ok.count c.read.new.buf;
      moved = Consumes-trans _ _ _ _ _ c.loop-count.invariant.content c.in-Ok.ensures.rest.0;
      counted = omega (arith, size, c.in-Ok.ensures.bound.1, c.loop-count.invariant.given, c.in-Ok.ensures.given);
      answer = (refl, omega (arith, size, c.in-Ok.ensures.bound.1));
    }

-- the piece that no memory was found for came too
pub returns-then-is_err-clause-taken : goal.returns-then-is_err-clause-taken
returns-then-is_err-clause-taken g c =
    let size = length-append c.loop-count.content.items (take c.in-Ok.count c.read.new.buf) in
    record {
      bytes = c.loop-count.content.items ++ take c.in-Ok.count c.read.new.buf;
      moved = Consumes-trans _ _ _ _ _ c.loop-count.invariant.content c.in-Ok.ensures.rest.0;
      counted = omega (arith, size, c.in-Ok.ensures.bound.1, c.loop-count.invariant.given, c.in-Ok.ensures.given);
      answer = omega (arith, size, c.in-Ok.ensures.bound.1);
    }
