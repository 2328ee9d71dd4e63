use Rattle.std.proofs.Common.{◌∙◌, [], sym, ap, arith}
use Rattle.std.proofs.lemmas.List.{drop_all}
use Rattle.data_header.specs.DataRoots.{led}
use Rattle.data_header.proofs.LedLemmas.{led-step, led-nil, raised-even, raised-odd}
use Rattle.data_header.proofs.hashing.led.Goals.{then-place-eq0, else-place-eq0}
use Rattle.data_header.proofs.hashing.led.Goals as goal

-- the next hash stands on the side that the place tells
pub loop-hash-preserved : goal.loop-hash-preserved
loop-hash-preserved c =
    led-step c.args.hashes.now c.loop-hash.hash-index c.loop-hash.place c.loop-hash.top c.if-place-eq0.top _ [] c.loop-hash-test.true c.loop-hash.invariant
    (elim c.if-place-eq0.branch [
      | then-place-eq0 w ↦ w.top-is ∙ w.inner_hash-top.ensures ∙ raised-even c.loop-hash.place c.loop-hash.top _ w.if-place-eq0.true
      | else-place-eq0 w ↦ w.top-is ∙ w.inner_hash-top-else-place-eq0.ensures ∙ raised-odd c.loop-hash.place c.loop-hash.top _ w.if-place-eq0.false
    ])

-- no hash is left
pub returns : goal.returns
returns c =
    sym (led-nil c.loop-hash.place c.loop-hash.top)
    ∙ ap (led c.loop-hash.place c.loop-hash.top) (sym (drop_all c.loop-hash.hash-index c.args.hashes.now (omega arith)))
    ∙ c.loop-hash.invariant
