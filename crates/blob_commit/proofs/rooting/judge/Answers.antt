use Rattle.std.proofs.Common.{◌≡◌, ◌∙◌, true, Some, sym, subst}
use Rattle.std.proofs.lemmas.Bool.{true≢false}
use Rattle.blob_commit.specs.declared.rooting.RootedRefusal.TheVariants.{Root}
use Rattle.blob_commit.specs.Proofs.{RootedParts}
use Rattle.blob_commit.specs.Refusals.{rooted_refusal}
use Rattle.blob_commit.proofs.RootedRefusalLemmas.{root_refused}
use Rattle.blob_commit.proofs.rooting.judge.Goals as goal

-- a search for this goes through all widths
pub returns-then-not-open_root-clause-first : goal.returns-then-not-open_root-clause-first
returns-then-not-open_root-clause-first c =
    let proof : RootedParts = record { k = c.proof.inside.k; message = c.proof.inside.message; root = c.proof.inside.root; up = c.proof.inside.up } in
    subst (λ (p : RootedParts). Some Root ≡ rooted_refusal c.args.root.now p) c.proof.view_is
    (root_refused c.args.root.now proof c.index.result (sym c.is_width.ensures ∙ c.if-not-is_width.false) (sym c.is_in_square.ensures ∙ c.if-not-is_in_square.false) c.index.ensures
    (λ led. let yes : c.open_root.result ≡ true = c.open_root.ensures.1 led in absurd (true≢false (sym yes ∙ c.if-not-open_root.true))))
