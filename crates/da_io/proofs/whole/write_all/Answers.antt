use Rattle.std.proofs.Common.{◌<◌, rules, arith, length, take, drop, sym, take-append-drop}
use Rattle.std.proofs.KnownBytes.{Appends-kept}
use Rattle.std.proofs.lemmas.List.{length-drop}
use Rattle.da_io.proofs.PieceLemmas.{appends_on}
use Rattle.da_io.proofs.whole.write_all.Goals as goal

-- the slice that was written begins where the front ends
pub loop-at-preserved : goal.loop-at-preserved
loop-at-preserved g c = record {
  within = omega (arith, length-drop c.loop-at.at c.args.bytes.now, c.in-Ok.ensures.bound);
  taken = appends_on _ _ _ c.args.bytes.now c.loop-at.at c.in-Ok.count c.loop-at.invariant.taken c.in-Ok.ensures.taken;
  told = search rules;
  faults = search rules;
}

-- the front was taken, the write that failed took nothing of the rest, and the rest is not empty
pub returns-in_default-clause-taken : goal.returns-in_default-clause-taken
returns-in_default-clause-taken g c =
    let at = c.loop-at.at in
    let bytes = c.args.bytes.now in
    let some : 0 < length (drop at bytes) = omega (arith, c.loop-at-test.true, length-drop at bytes) in
    let kept = Appends-kept _ _ _ (take at bytes) c.loop-at.invariant.taken c.in_default.ensures.taken in
    (take at bytes, (drop at bytes, some, sym (take-append-drop at bytes)), kept)
