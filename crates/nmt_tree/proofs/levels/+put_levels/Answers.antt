use Rattle.std.proofs.Common.{◌≡◌, ◌∙◌, ◌<◌, ◌≤◌, ◌/◌, sym, arith, length}
use Rattle.std.proofs.lemmas.List.{length-take-le, take_all}
use Rattle.namespace_id.proofs.PowerLemmas.{power-pos}
use Rattle.nmt_tree.proofs.LevelLemmas.{levels_step, levels_one}
use Rattle.nmt_tree.proofs.levels.+put_levels.Goals as goal

pub returns-then-count-gt1 : goal.returns-then-count-gt1
returns-then-count-gt1 t c =
    let several : c.args.count ≡ 1 → ⊥ = λ one. omega arith in
    let fits : c.args.count / 2 ≤ length c.split_at_mut-level.result.1.now = omega (arith, c.split_at_mut-level.ensures.back_len, c.requires.room) in
    levels_step c.args.count c.args.digests.now c.split_at_mut-level.result.0.now c.put_pairs.new.above _ c.put_levels.new.digests
    c.requires.count several c.split_at_mut-level.ensures.front c.put_pairs.ensures
    (c.put_pairs.auto.above ∙ length-take-le (c.args.count / 2) c.split_at_mut-level.result.1.now fits)
    c.put_levels.ensures

pub returns-else-count-gt1 : goal.returns-else-count-gt1
returns-else-count-gt1 t c =
    let some : 0 < c.args.count = power-pos c.args.count c.requires.count in
    let one : c.args.count ≡ 1 = omega arith in
    sym (levels_one c.args.count _ one ∙ take_all c.args.count c.args.digests.now (omega arith))
