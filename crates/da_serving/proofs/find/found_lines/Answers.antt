use Rattle.std.proofs.Common.{◌∙◌, sym, arith}
use Rattle.std.proofs.lemmas.List.{nil_from_length}
use Rattle.da_serving.proofs.FindLemmas.{walk_passes, walk_has, walk_bytes, walk_count, walk_goes, walk_ends}
use Rattle.da_serving.proofs.find.found_lines.Goals as goal

-- past padding
pub loop-share-preserved-then-stated_size-eq0 : goal.loop-share-preserved-then-stated_size-eq0
loop-share-preserved-then-stated_size-eq0 c =
    walk_passes c.loop-share.invariant c.in-Some.ensures.cases.0 (sym c.stated_size.ensures ∙ c.if-stated_size-eq0.true)

-- a share that states a length is a blob's
pub unreachable-requires : goal.unreachable-requires
unreachable-requires c =
    walk_has c.loop-share.invariant c.in-Some.ensures.cases.0 (λ e. c.if-stated_size-eq0.false (c.stated_size.ensures ∙ e))
    (nil_from_length c.loop-share.left.now c.in_default-split_first.ensures.cases)

-- the blob has bytes, and its shares are there
pub put_found-requires-clause-some : goal.put_found-requires-clause-some
put_found-requires-clause-some c =
    walk_bytes c.loop-share.invariant c.in-Some.ensures.cases.0 (λ e. c.if-stated_size-eq0.false (c.stated_size.ensures ∙ e)) c.in-Some-split_first.ensures.cases.0

pub put_found-requires-clause-few : goal.put_found-requires-clause-few
put_found-requires-clause-few c =
    let few = walk_count c.loop-share.invariant c.in-Some.ensures.cases.0 (λ e. c.if-stated_size-eq0.false (c.stated_size.ensures ∙ e)) c.in-Some-split_first.ensures.cases.0 in
    omega (arith, few, c.loop-share.invariant.size, c.requires.few)

pub count_of-count-requires : goal.count_of-count-requires
count_of-count-requires c =
    walk_bytes c.loop-share.invariant c.in-Some.ensures.cases.0 (λ e. c.if-stated_size-eq0.false (c.stated_size.ensures ∙ e)) c.in-Some-split_first.ensures.cases.0

pub split_at-requires : goal.split_at-requires
split_at-requires c =
    let few = walk_count c.loop-share.invariant c.in-Some.ensures.cases.0 (λ e. c.if-stated_size-eq0.false (c.stated_size.ensures ∙ e)) c.in-Some-split_first.ensures.cases.0 in
    omega (arith, few, c.count_of-count.ensures)

-- past them
pub loop-share-preserved : goal.loop-share-preserved
loop-share-preserved c =
    walk_goes c.loop-share.invariant c.in-Some.ensures.cases.0 (λ e. c.if-stated_size-eq0.false (c.stated_size.ensures ∙ e)) c.in-Some-split_first.ensures.cases.0
    c.count_of-count.ensures c.split_at.ensures.back c.in_ok-put_found.ensures

-- all shares were passed
pub returns : goal.returns
returns c = walk_ends c.loop-share.invariant (nil_from_length c.loop-share.rest.now c.in_default.ensures.cases)
