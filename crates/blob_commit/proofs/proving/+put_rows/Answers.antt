use Rattle.std.proofs.Common.{◌∙◌, List, ◌++◌, length, ap, arith}
use Rattle.namespace_id.specs.declared.digests.Digest.{Digest}
use Rattle.blob_commit.specs.Commitments.{leaf_hashes}
use Rattle.blob_commit.specs.Proofs.{RowParts}
use Rattle.blob_commit.proofs.WalkLemmas.{subtrees-none, length-subtrees, room_behind, subtrees-more}
use Rattle.blob_commit.proofs.proving.+put_rows.Goals as goal

pub returns-in_default : goal.returns-in_default
returns-in_default t c = subtrees-none c.args.hashes.now c.args.rows.now c.in_default.ensures.cases

pub put_digests-requires : goal.put_digests-requires
put_digests-requires t c =
    let mine = c.deref.ensures.value ∙ ap (λ (r : RowParts). r.subtrees) c.row.view_is in
    omega (arith, c.requires, length-subtrees c.args.rows.now c.in-Some.others.now c.in-Some.row.now c.in-Some.ensures.cases.0, ap length mine)

pub put_rows-requires : goal.put_rows-requires
put_rows-requires t c =
    let mine = c.deref.ensures.value ∙ ap (λ (r : RowParts). r.subtrees) c.row.view_is in
    (omega (arith, c.decreases, c.in-Some.ensures.cases.1), room_behind c.args.hashes.now c.put_digests.new.hashes c.args.rows.now c.in-Some.others.now c.in-Some.row.now c.in-Some.ensures.cases.0 (c.put_digests.ensures ∙ ap (λ (l : List Digest). c.args.hashes.now ++ leaf_hashes l) mine) c.requires)

pub returns : goal.returns
returns t c =
    let mine = c.deref.ensures.value ∙ ap (λ (r : RowParts). r.subtrees) c.row.view_is in
    subtrees-more c.args.hashes.now c.put_digests.new.hashes c.put_rows.new.hashes c.args.rows.now c.in-Some.others.now c.in-Some.row.now c.in-Some.ensures.cases.0
    (c.put_digests.ensures ∙ ap (λ (l : List Digest). c.args.hashes.now ++ leaf_hashes l) mine) c.put_rows.ensures
