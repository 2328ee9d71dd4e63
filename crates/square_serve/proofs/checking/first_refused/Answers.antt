use Rattle.std.proofs.Common.{◌≡◌, ◌∙◌, ℕ, Some, None, ap, ap₂, arith}
use Rattle.namespace_id.specs.declared.digests.Digest.{Digest}
use Rattle.data_header.specs.Headers.{Roots}
use Rattle.square_serve.specs.Answers.{found_refusal}
use Rattle.square_serve.proofs.Judging.RefusalLemmas.{refusal_of, refused_here, opened_here, refused_none}
use Rattle.square_serve.proofs.checking.first_refused.Goals as goal

-- an entry that doesn't open
pub returns-in-Err : goal.returns-in-Err
returns-in-Err c =
    let k : c.header.inside.k ≡ c.args.header.now.k = ap (λ (r : Roots). r.k) c.header.view_is in
    let refused : Some c.in-Err.why ≡ refusal_of c.args.header.now c.args.name.now c.index-entries-i.result =
    c.in-Err.ensures ∙ ap₂ (λ (n : ℕ) (root : Digest). found_refusal n root c.args.name.now c.index-entries-i.result.found) k c.root_of-root.ensures in
    refused_here c.args.header.now c.args.name.now c.args.entries.now c.loop-i.i c.index-entries-i.result c.in-Err.why c.loop-i-test.true c.index-entries-i.is refused
    ∙ c.loop-i.invariant

-- one that opens
pub loop-i-preserved : goal.loop-i-preserved
loop-i-preserved c =
    let k : c.header.inside.k ≡ c.args.header.now.k = ap (λ (r : Roots). r.k) c.header.view_is in
    let opens : None ≡ refusal_of c.args.header.now c.args.name.now c.index-entries-i.result =
    c.in_default.ensures ∙ ap₂ (λ (n : ℕ) (root : Digest). found_refusal n root c.args.name.now c.index-entries-i.result.found) k c.root_of-root.ensures in
    opened_here c.args.header.now c.args.name.now c.args.entries.now c.loop-i.i c.index-entries-i.result c.loop-i-test.true c.index-entries-i.is opens
    ∙ c.loop-i.invariant

-- all open
pub returns : goal.returns
returns c = refused_none c.args.header.now c.args.name.now c.args.entries.now c.loop-i.i (omega (arith, c.loop-i-test.false)) ∙ c.loop-i.invariant
