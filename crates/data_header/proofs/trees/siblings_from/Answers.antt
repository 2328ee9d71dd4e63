use Rattle.std.proofs.Common.{◌≡◌, ◌∙◌, ◌+◌, ◌-◌, ◌^◌, ◌++◌, ℕ, suc, length, [], ◌∷◌, ap, subst, arith, get_or, length-append}
use Rattle.data_header.specs.HashTrees.{siblings}
use Rattle.data_header.proofs.HashTreeLemmas.{beside-lt, siblings_next, siblings_end}
use Rattle.data_header.proofs.trees.siblings_from.Goals as goal

-- the place beside is below the same node
pub bounds-hashes-beside : goal.bounds-hashes-beside
bounds-hashes-beside c =
    omega (arith, c.requires.even, c.beside.ensures, beside-lt c.loop.at (2 ^ c.args.levels) (omega (arith, c.loop.invariant.within, c.requires.even)))

-- one level less is left
pub loop-preserved : goal.loop-preserved
loop-preserved c =
    let left : ℕ = c.args.levels - (c.loop.counter + 1) in
    let more : c.args.levels - c.loop.counter ≡ suc left = omega (arith, c.loop-test.true) in
    record {
      all = siblings_next left c.args.hashes.now c.loop.path c.push.new.self (siblings c.args.levels c.args.hashes.now c.args.place) c.loop.at _
          (subst (λ (n : ℕ). c.loop.path ++ siblings n c.args.hashes.now c.loop.at ≡ siblings c.args.levels c.args.hashes.now c.args.place) more c.loop.invariant.all)
          (ap (λ (p : ℕ). get_or c.args.hashes.now p []) c.beside.ensures) c.push.ensures;
      count = ap length c.push.ensures ∙ omega (arith, c.loop.invariant.count, length-append c.loop.path (get_or c.args.hashes.now c.beside.result [] ∷ []));
      within = omega (arith, c.loop.invariant.within);
    }

-- none is left
pub returns : goal.returns
returns c =
    siblings_end c.args.hashes.now c.loop.path (siblings c.args.levels c.args.hashes.now c.args.place) c.loop.at (c.args.levels - c.loop.counter)
    (omega (arith, c.loop-test.false)) c.loop.invariant.all
