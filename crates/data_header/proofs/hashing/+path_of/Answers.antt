use Rattle.std.proofs.Common.{◌∙◌}
use Rattle.data_header.proofs.RootLemmas.{are_halves, IsPathOf, path_of-one, path_of-left, path_of-right, path_of-room}
use Rattle.data_header.proofs.hashing.+path_of.Goals as goal

-- one digest has no hash above it
pub returns-then-digests-eq1 : goal.returns-then-digests-eq1
returns-then-digests-eq1 t c =
    let value : IsPathOf c.args.digests.now c.args.place c.new.result = λ depth e.
    c.new.ensures ∙ path_of-one c.args.digests.now c.args.place depth c.if-digests-eq1.true e in
    record { value = value; room = path_of-room c.args.digests.now c.args.place c.new.result c.requires.count value }

-- the path in the left half, and the right half's root
pub returns-then-place-half : goal.returns-then-place-half
returns-then-place-half t c =
    let halves = are_halves c.args.digests.now c.split_at.result.0.now c.split_at.result.1.now c.if-digests-eq1.false
    c.split_at.ensures.front c.split_at.ensures.back c.split_at.ensures.front_len c.split_at.ensures.back_len in
    let value : IsPathOf c.args.digests.now c.args.place c.push.new.self = λ depth e.
    path_of-left c.args.digests.now c.split_at.result.0.now c.split_at.result.1.now c.args.place depth
    c.path_of-path.result c.push.new.self c.merkle_root.result halves e c.if-place-half.true c.path_of-path.ensures.value c.merkle_root.ensures c.push.ensures in
    record { value = value; room = path_of-room c.args.digests.now c.args.place c.push.new.self c.requires.count value }

-- the path in the right half, and the left half's root
pub returns-else-place-half : goal.returns-else-place-half
returns-else-place-half t c =
    let halves = are_halves c.args.digests.now c.split_at.result.0.now c.split_at.result.1.now c.if-digests-eq1.false
    c.split_at.ensures.front c.split_at.ensures.back c.split_at.ensures.front_len c.split_at.ensures.back_len in
    let value : IsPathOf c.args.digests.now c.args.place c.push-else-place-half.new.self = λ depth e.
    path_of-right c.args.digests.now c.split_at.result.0.now c.split_at.result.1.now c.args.place depth
    c.path_of-path-else-place-half.result c.push-else-place-half.new.self c.merkle_root-else-place-half.result halves e c.if-place-half.false
    c.path_of-path-else-place-half.ensures.value c.merkle_root-else-place-half.ensures c.push-else-place-half.ensures in
    record { value = value; room = path_of-room c.args.digests.now c.args.place c.push-else-place-half.new.self c.requires.count value }
