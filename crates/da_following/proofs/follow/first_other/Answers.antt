use Rattle.std.proofs.Common.{◌∙◌, sym, arith}
use Rattle.namespace_id.specs.Names.{is_blob_namespace}
use Rattle.da_following.specs.Follow.{is_followed}
use Rattle.da_files.proofs.RequestLemmas.{failing_none, failing_here, failing_later}
use Rattle.da_following.proofs.EachOnceLemmas.{fails_by, passes_by}
use Rattle.da_following.proofs.follow.first_other.Goals as goal

pub returns-then-is_err : goal.returns-then-is_err
returns-then-is_err c =
    sym (c.loop-name.invariant.first
    ∙ failing_here is_followed c.loop-name.number _ _ _ c.in-Some.ensures.0
    (fails_by c.blob.result (is_blob_namespace c.in-Some.name.0) c.blob.ensures.accepts (sym c.is_err.ensures.value ∙ c.if-is_err.true)))

pub loop-name-preserved : goal.loop-name-preserved
loop-name-preserved c = record {
  first = c.loop-name.invariant.first
      ∙ failing_later is_followed c.loop-name.number _ _ _ c.in-Some.ensures.0
      (passes_by c.blob.result (is_blob_namespace c.in-Some.name.0) c.blob.ensures.accepts (sym c.is_err.ensures.value ∙ c.if-is_err.false));
  few = omega (arith, c.loop-name.invariant.few, c.in-Some.ensures.1);
}

pub returns : goal.returns
returns c = sym (c.loop-name.invariant.first ∙ failing_none is_followed c.loop-name.number _ c.in_default.ensures)
