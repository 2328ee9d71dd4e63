use Rattle.std.proofs.Common.{◌≡◌, ◌∙◌, ◌==◌, ℕ, false, length, sym, ap, arith}
use Rattle.std.proofs.lemmas.Bool.Decides.{nat_tests}
use Rattle.share_split.specs.Blobs.{NamedBytes}
use Rattle.square_layout.proofs.RefusalLemmas.{empty_blob-found, empty_blob-passed, empty_blob-none}
use Rattle.square_layout.proofs.checking.empty_blob.Goals as goal

pub returns-then-is_empty : goal.returns-then-is_empty
returns-then-is_empty c =
    let size : length c.index-blobs-i.result.bytes ≡ length c.blob.inside.bytes.items = sym (ap (λ (b : NamedBytes). length b.bytes) c.blob.view_is) in
    let none : length c.blob.inside.bytes.items ≡ 0 = grind (arith, nat_tests) in
    empty_blob-found c.loop-i.i c.args.blobs.now c.index-blobs-i.result c.loop-i-test.true (sym c.index-blobs-i.is)
    (size ∙ none) c.loop-i.invariant

pub loop-i-preserved : goal.loop-i-preserved
loop-i-preserved c =
    let size : length c.index-blobs-i.result.bytes ≡ length c.blob.inside.bytes.items = sym (ap (λ (b : NamedBytes). length b.bytes) c.blob.view_is) in
    let some : (length c.blob.inside.bytes.items == 0) ≡ false = grind (arith, nat_tests) in
    empty_blob-passed c.loop-i.i c.args.blobs.now c.index-blobs-i.result c.loop-i-test.true (sym c.index-blobs-i.is)
    (ap (λ (n : ℕ). n == 0) size ∙ some) c.loop-i.invariant

pub returns : goal.returns
returns c = empty_blob-none c.loop-i.i c.args.blobs.now (omega arith) c.loop-i.invariant
