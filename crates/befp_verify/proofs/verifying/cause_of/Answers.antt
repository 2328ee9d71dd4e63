use Rattle.std.proofs.Common.{rules, ◌≡◌, ◌∙◌, ℕ, List, Some, None, true, sym, ap, subst}
use Rattle.std.proofs.lemmas.Bool.{false≢true, and_parts}
use Rattle.std.specs.List.{list_all}
use Rattle.namespace_id.specs.Cells.{is_in_square}
use Rattle.data_header.specs.Headers.{AreRoots}
use Rattle.axis_roots.specs.declared.message.messages.Message.{Message}
use Rattle.axis_roots.specs.Claims.{ClaimParts, has_shape, has_set_shape, claimed_root, AreProved}
use Rattle.befp_verify.specs.Lines.{IsRootThrough}
use Rattle.befp_verify.specs.Refusals.{is_shaped, cell_refusal, refused_from, first_unproved, unopened}
use Rattle.befp_verify.proofs.UnprovedLemmas.{all_proved}
use Rattle.befp_verify.proofs.CauseLemmas.{accepted}
use Rattle.befp_verify.proofs.verifying.cause_of.Goals as goal

-- all cells are in the square
pub root_through-requires-clause-inside : goal.root_through-requires-clause-inside
root_through-requires-clause-inside c =
    let roots : AreRoots c.args.header.now = subst AreRoots c.header.view_is c.header.invariant in
    let none : None ≡ first_unproved c.args.header.now c.args.claim.now =
    sym c.in_default.is ∙ c.first_unproved.ensures
    ∙ ap (λ (ms : List Message). refused_from (cell_refusal c.args.header.now c.args.claim.now) 0 ms) (ap (λ (p : ClaimParts). p.cells) c.claim.view_is) in
    let proved : AreProved c.args.header.now c.args.claim.now c.args.claim.now.cells =
    all_proved c.args.header.now c.args.claim.now (λ m. c.message_laws.ensures.refusal c.args.header.now m roots) 0 c.args.claim.now.cells c.view_law.ensures.messages (sym none) in
    let shaped : is_shaped c.args.header.now.k c.args.claim.now ≡ true = search rules in
    let both = and_parts (has_shape c.args.header.now.k c.args.claim.now) (has_set_shape c.args.header.now.k c.args.claim.now) shaped in
    subst (λ (k : ℕ). list_all (λ m. is_in_square k m.cell) c.args.claim.now.cells ≡ true) (sym (c.unopened.ensures.room ∙ c.requires.room))
    (c.claim_laws.ensures.inside c.args.header.now c.args.claim.now both.1 proved)

-- another root, or none
pub returns-else-is_root-clause-cause : goal.returns-else-is_root-clause-cause
returns-else-is_root-clause-cause c =
    let roots : AreRoots c.args.header.now = subst AreRoots c.header.view_is c.header.invariant in
    let none : None ≡ first_unproved c.args.header.now c.args.claim.now =
    sym c.in_default.is ∙ c.first_unproved.ensures
    ∙ ap (λ (ms : List Message). refused_from (cell_refusal c.args.header.now c.args.claim.now) 0 ms) (ap (λ (p : ClaimParts). p.cells) c.claim.view_is) in
    let proved : AreProved c.args.header.now c.args.claim.now c.args.claim.now.cells =
    all_proved c.args.header.now c.args.claim.now (λ m. c.message_laws.ensures.refusal c.args.header.now m roots) 0 c.args.claim.now.cells c.view_law.ensures.messages (sym none) in
    let shaped : is_shaped c.args.header.now.k c.args.claim.now ≡ true = search rules in
    let opened : None ≡ unopened c.args.header.now c.args.claim.now = sym c.in_default-unopened.is ∙ c.unopened.ensures.refusal in
    let root : c.root_of-root.result ≡ claimed_root c.args.header.now c.args.claim.now =
    c.root_of-root.ensures ∙ ap (claimed_root c.args.header.now) c.claim.view_is in
    accepted c.args.header.now c.args.claim.now c.root_through.result roots.width c.view_law.ensures shaped proved (sym opened)
    (subst (λ (k : ℕ). IsRootThrough k c.args.claim.now c.root_through.result) (c.unopened.ensures.room ∙ c.requires.room) c.root_through.ensures.root)
    (λ e. false≢true (c.if-is_root.ensures.1 (e ∙ ap Some (sym root))))
