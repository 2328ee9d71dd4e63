use Rattle.std.proofs.Common.{◌∙◌, sym, ap, arith}
use Rattle.share_split.specs.Blobs.{NamedBytes}
use Rattle.namespace_id.specs.Names.{namespace_refusal}
use Rattle.square_layout.proofs.RefusalLemmas.{bad_blob-found, bad_blob-passed, bad_blob-none}
use Rattle.square_layout.proofs.checking.bad_blob.Goals as goal

pub returns-in-Some : goal.returns-in-Some
returns-in-Some c =
    bad_blob-found c.loop-i.i c.args.blobs.now c.index-blobs-i.result c.in-Some.e c.loop-i-test.true (sym c.index-blobs-i.is)
    (sym (ap (λ (b : NamedBytes). namespace_refusal b.namespace.0) c.blob.view_is) ∙ sym c.in-Some.ensures) c.loop-i.invariant

pub loop-i-preserved : goal.loop-i-preserved
loop-i-preserved c =
    bad_blob-passed c.loop-i.i c.args.blobs.now c.index-blobs-i.result c.loop-i-test.true (sym c.index-blobs-i.is)
    (sym (ap (λ (b : NamedBytes). namespace_refusal b.namespace.0) c.blob.view_is) ∙ sym c.in_default.ensures) c.loop-i.invariant

pub returns : goal.returns
returns c = bad_blob-none c.loop-i.i c.args.blobs.now (omega arith) c.loop-i.invariant
