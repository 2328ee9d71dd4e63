use Rattle.std.proofs.Common.{◌≡◌, ◌∙◌, ◌<◌, ◌-◌, length, take, drop, refl, ap, arith, length-drop}
use Rattle.std.proofs.lemmas.List.{take_all}
use Rattle.nmt_tree.proofs.CountLemmas.{leaf_count-pos}
use Rattle.nmt_tree.proofs.LevelLemmas.{read_leaf, read_above, read_halves}
use Rattle.nmt_tree.proofs.levels.+read.Goals as goal

-- the halves of both counts are counts, and the place is halved with them
pub read-requires : goal.read-requires
read-requires t c =
    let n = c.args.count in
    let digests = c.args.digests.now in
    let halved = read_halves n c.args.from c.args.size c.requires.count c.requires.size c.if-size-eq1.false c.requires.aligned c.requires.within in
    let all : length (take (length digests - n) (drop n digests)) ≡ length (drop n digests) = ap length (take_all _ _ (omega (arith, length-drop n digests))) in
    let some : 0 < c.args.size = leaf_count-pos c.args.size c.requires.size in
    (omega arith, (halved.0, (halved.1.0, (halved.1.1.0, (halved.1.1.1.0, omega (arith, all, length-drop n digests, halved.1.1.1.1))))))

pub returns-then-size-eq1 : goal.returns-then-size-eq1
returns-then-size-eq1 t c = λ leaves len e.
    read_leaf c.args.count c.args.from c.args.digests.now leaves _ c.args.size c.requires.count c.if-size-eq1.true (omega arith) len e refl

pub returns-else-size-eq1 : goal.returns-else-size-eq1
returns-else-size-eq1 t c = λ leaves len e.
    read_above c.args.count c.args.from c.args.size c.args.digests.now leaves c.read.result c.requires.count c.requires.size c.if-size-eq1.false c.requires.aligned c.requires.within len e
    (λ ls length_is rest. c.read.ensures ls length_is (take_all _ _ (omega (arith, length-drop c.args.count c.args.digests.now)) ∙ rest))
