use Rattle.std.proofs.Common.{◌∙◌, ◌+◌, ℕ, length, sym, ap, ap₂, arith}
use Rattle.da_net.specs.Nets.{NetParts}
use Rattle.da_script.specs.Scripts.{moves_of}
use Rattle.da_script.specs.Parts.{payload_sizes}
use Rattle.da_script.proofs.CountLemmas.{few_of, refused_by, first_nodes}
use Rattle.da_script.proofs.OutcomeLemmas.{made_played, same_moves, same_counts, same_told}
use Rattle.da_script.proofs.playing.play_moves.Goals as goal

-- there is no network
pub returns-in-Err : goal.returns-in-Err
returns-in-Err g c = λ items are.
    let same = same_moves c.args.frames.now items c.args.script.now c.moves-moves.result.now are c.moves-moves.ensures in
    let counts = same_counts (payload_sizes c.args.frames.now) c.count_moves-counts.result _ _ c.count_moves-counts.ensures.moves c.count_moves-counts.ensures.pooling
    c.count_moves-counts.ensures.bytes same in
    made_played c.args.header (payload_sizes c.args.frames.now) items (moves_of (length items) c.args.script.now) c.args.script.now c.in-Err.why
    (c.in-Err.ensures (payload_sizes c.args.frames.now) (moves_of (length items) c.args.script.now) counts)

-- there are few nodes
pub overflow_add-count : goal.overflow_add-count
overflow_add-count g c =
    let items = c.requires.items.0 in
    let same = same_moves c.args.frames.now items c.args.script.now c.moves-moves.result.now c.requires.items.1 c.moves-moves.ensures in
    let counts = same_counts (payload_sizes c.args.frames.now) c.count_moves-counts.result _ _ c.count_moves-counts.ensures.moves c.count_moves-counts.ensures.pooling
    c.count_moves-counts.ensures.bytes same in
    let made = c.in-Ok.ensures (payload_sizes c.args.frames.now) (moves_of (length items) c.args.script.now) counts in
    let few = few_of c.args.header.k c.count_moves-counts.result c.args.script.now
    (refused_by c.args.header.k (payload_sizes c.args.frames.now) c.count_moves-counts.result (moves_of (length items) c.args.script.now) c.args.script.now counts ∙ made.0) in
    omega (arith, few.fulls_are, few.lights_are, c.full_count.ensures, c.light_count.ensures)

-- these are all nodes
pub tell-requires-clause-nodes : goal.tell-requires-clause-nodes
tell-requires-clause-nodes g c =
    let items = c.requires.items.0 in
    let same = same_moves c.args.frames.now items c.args.script.now c.moves-moves.result.now c.requires.items.1 c.moves-moves.ensures in
    let counts = same_counts (payload_sizes c.args.frames.now) c.count_moves-counts.result _ _ c.count_moves-counts.ensures.moves c.count_moves-counts.ensures.pooling
    c.count_moves-counts.ensures.bytes same in
    let made = c.in-Ok.ensures (payload_sizes c.args.frames.now) (moves_of (length items) c.args.script.now) counts in
    ap₂ (λ (a b : ℕ). a + b) c.full_count.ensures c.light_count.ensures
    ∙ sym (first_nodes c.args.header (moves_of (length items) c.args.script.now) c.args.script.now)
    ∙ ap (λ (n : NetParts). length n.nodes) (sym made.1)

-- the room is for the width of the header
pub tell-requires-clause-room : goal.tell-requires-clause-room
tell-requires-clause-room g c =
    let items = c.requires.items.0 in
    let same = same_moves c.args.frames.now items c.args.script.now c.moves-moves.result.now c.requires.items.1 c.moves-moves.ensures in
    let counts = same_counts (payload_sizes c.args.frames.now) c.count_moves-counts.result _ _ c.count_moves-counts.ensures.moves c.count_moves-counts.ensures.pooling
    c.count_moves-counts.ensures.bytes same in
    let made = c.in-Ok.ensures (payload_sizes c.args.frames.now) (moves_of (length items) c.args.script.now) counts in
    c.in_ok-room.ensures.k ∙ c.width-k.ensures.value ∙ ap (λ (n : NetParts). n.header.k) (sym made.1)

-- the lines are those of the first network
pub returns : goal.returns
returns g c = λ items are.
    let same = same_moves c.args.frames.now items c.args.script.now c.moves-moves.result.now are c.moves-moves.ensures in
    let counts = same_counts (payload_sizes c.args.frames.now) c.count_moves-counts.result _ _ c.count_moves-counts.ensures.moves c.count_moves-counts.ensures.pooling
    c.count_moves-counts.ensures.bytes same in
    let made = c.in-Ok.ensures (payload_sizes c.args.frames.now) (moves_of (length items) c.args.script.now) counts in
    (made.0, same_told items c.in-Ok.net _ _ _ c.in_ok-text.text.items made.1 same (c.in_ok-text.ensures items are))
