use Rattle.std.proofs.Common.{◌≡◌, ◌∙◌, ℕ, List, Some, true, refl, sym, ap, subst}
use Rattle.std.specs.List.{AllByRecursion}
use Rattle.std.proofs.lemmas.Bool.{false≢true}
use Rattle.data_header.specs.Headers.{AreRoots}
use Rattle.axis_roots.specs.declared.message.proved.Proved.{Proved}
use Rattle.axis_roots.specs.Openings.{IsProved}
use Rattle.axis_roots.specs.Claims.{ClaimParts, claim_with, IsThrough}
use Rattle.axis_roots.specs.Lines.{line_strict_root}
use Rattle.axis_roots.proofs.Messages.ClaimLemmas.{are_inside}
use Rattle.befp_maker.proofs.DecisionLemmas.{kept_proved, proved_inside, through_same, accepted}
use Rattle.befp_maker.proofs.halves.from_half.Goals as goal

-- the cells of proved samples are in the square
pub rebuild-requires-clause-inside : goal.rebuild-requires-clause-inside
rebuild-requires-clause-inside c =
    let claim : ClaimParts = claim_with c.args.axis c.args.index c.args.cells.items in
    let proved : AllByRecursion (IsProved c.args.header.now) claim.cells =
    kept_proved c.args.header.now (c.message_laws.ensures.certificate c.args.header.now) c.args.cells.items c.requires.half.under in
    subst (λ (cs : List Proved). are_inside c.args.room.now.k (claim_with c.args.axis c.args.index cs).cells ≡ true) (sym c.deref.ensures.value)
    (subst (λ (n : ℕ). are_inside n claim.cells ≡ true) (sym c.requires.room) (proved_inside c.args.header.now claim.cells proved))

-- a line with the header's root
pub returns-then-is_root-clause-bad : goal.returns-then-is_root-clause-bad
returns-then-is_root-clause-bad c =
    let claim : ClaimParts = claim_with c.args.axis c.args.index c.args.cells.items in
    let roots : AreRoots c.args.header.now = subst AreRoots c.header.view_is c.header.invariant in
    let through : IsThrough c.args.header.now.k claim c.rebuild.new.self.shares =
    through_same _ _ _ _ _ _ _ c.requires.room c.deref.ensures.value c.rebuild.ensures.through in
    let proved : AllByRecursion (IsProved c.args.header.now) claim.cells =
    kept_proved c.args.header.now (c.message_laws.ensures.certificate c.args.header.now) c.args.cells.items c.requires.half.under in (
      λ e. absurd (false≢true e),
      λ accepts. absurd (c.claim_laws.ensures.apart c.args.header.now.k claim _ roots.width (proved_inside c.args.header.now claim.cells proved) accepts.bad
          (record {
            word = c.rebuild.new.self.shares;
            through = through;
            same = ap (λ (k : ℕ). line_strict_root k c.args.axis c.args.index c.rebuild.new.self.shares) (sym c.requires.room)
                ∙ sym c.rebuild.ensures.root ∙ c.is_root.ensures.0 c.if-is_root.true ∙ ap Some c.root_of-root.ensures;
          })),
    )

-- a line with another root, or none
pub returns-else-is_root-clause-bad : goal.returns-else-is_root-clause-bad
returns-else-is_root-clause-bad c =
    let claim : ClaimParts = claim_with c.args.axis c.args.index c.args.cells.items in
    let through : IsThrough c.args.header.now.k claim c.rebuild.new.self.shares =
    through_same _ _ _ _ _ _ _ c.requires.room c.deref.ensures.value c.rebuild.ensures.through in (
      λ _. accepted c.args.header.now claim c.rebuild.new.self.shares c.rebuild.result refl c.requires.half.shape
          (kept_proved c.args.header.now (c.message_laws.ensures.certificate c.args.header.now) c.args.cells.items c.requires.half.under) through
          (c.rebuild.ensures.root ∙ ap (λ (k : ℕ). line_strict_root k c.args.axis c.args.index c.rebuild.new.self.shares) c.requires.room)
          (λ e. absurd (false≢true (sym c.if-is_root.false ∙ c.is_root.ensures.1 (e ∙ ap Some (sym c.root_of-root.ensures))))),
      λ _. refl,
    )
