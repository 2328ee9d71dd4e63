use Rattle.std.proofs.Common.{refl}
use Rattle.hash_clash.proofs.SideLemmas.{leaf_opened, leaf_listed, left_joined, right_joined, list_joined}
use Rattle.hash_clash.proofs.sides.look.Goals as goal

pub returns-then-depth-eq0 : goal.returns-then-depth-eq0
returns-then-depth-eq0 c = leaf_opened c.args.depth c.args.start c.in-Opened.pos c.args.side c.in-Opened.opening c.in-Opened.nodes c.in-Opened.is c.if-depth-eq0.true

pub returns-then-depth-eq0-2 : goal.returns-then-depth-eq0-2
returns-then-depth-eq0-2 c = leaf_listed c.args.depth c.args.start c.args.side c.in-Listed.names c.in-Listed.shares _ _ c.in-Listed.is c.requires.side c.if-depth-eq0-2.true

pub returns-then-pos-start : goal.returns-then-pos-start
returns-then-pos-start c =
    left_joined c.args.depth c.args.start c.in-Opened.pos c.leaf_count.result c.args.side c.in-Opened.opening c.in-Opened.nodes
    c.split_at.result.0 c.split_at.result.1 _ c.in-Opened.is c.requires.side c.if-depth-eq0.false c.leaf_count.ensures c.if-pos-start.true
    c.split_at.ensures.front c.split_at.ensures.back refl

pub returns-else-pos-start : goal.returns-else-pos-start
returns-else-pos-start c =
    right_joined c.args.depth c.args.start c.in-Opened.pos c.leaf_count.result c.args.side c.in-Opened.opening c.in-Opened.nodes
    c.split_at-else-pos-start.result.0 c.split_at-else-pos-start.result.1 _ c.in-Opened.is c.requires.side c.if-depth-eq0.false c.leaf_count.ensures c.if-pos-start.false
    c.split_at-else-pos-start.ensures.front c.split_at-else-pos-start.ensures.back refl

pub returns-else-depth-eq0-2 : goal.returns-else-depth-eq0-2
returns-else-depth-eq0-2 c =
    list_joined c.args.depth c.args.start c.args.side c.in-Listed.names c.split_at-in-Listed.result.0 c.split_at-in-Listed.result.1
    c.in-Listed.shares c.split_at-in-Listed-2.result.0 c.split_at-in-Listed-2.result.1 c.in-Listed.is c.requires.side c.if-depth-eq0-2.false
    c.split_at-in-Listed.ensures.front c.split_at-in-Listed.ensures.back c.split_at-in-Listed-2.ensures.front c.split_at-in-Listed-2.ensures.back
