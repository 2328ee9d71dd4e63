use Rattle.std.proofs.Common.{◌≡◌, ◌∙◌, ℕ, List, IsTrue, sym, ap, ap₂, subst}
use Rattle.std.specs.Option.{option_map}
use Rattle.namespace_id.specs.declared.shares.Share.{Share}
use Rattle.namespace_id.proofs.StringLemmas.{front}
use Rattle.leopard_code.specs.Codewords.{are_positions}
use Rattle.axis_roots.specs.Lines.{line_strict_root}
use Rattle.axis_roots.specs.Claims.{ClaimParts, positions_of}
use Rattle.axis_roots.proofs.Messages.ClaimLemmas.{positions_fit, shape_of}
use Rattle.befp_verify.specs.Lines.{IsRootThrough}
use Rattle.befp_verify.proofs.ShapeLemmas.{line_through}
use Rattle.befp_verify.proofs.verifying.root_through.Goals as goal

-- the positions that were gathered are those of the claim
pub rebuild-requires-clause-positions : goal.rebuild-requires-clause-positions
rebuild-requires-clause-positions c =
    let known : c.deref.result.now ≡ positions_of c.args.claim.now =
    c.deref.ensures.value ∙ front c.gather.new.known _ _ (c.gather.auto.known ∙ c.deref_mut.ensures.len)
    ∙ c.gather.ensures.known
    ∙ ap positions_of c.claim.view_is in
    let width : c.room.inside.code ≡ c.args.room.now = c.room.invariant.coded ∙ c.room.view_is in
    subst (λ (k : ℕ). IsTrue (are_positions k c.deref.result.now)) (sym width)
    (subst (λ (ps : List ℕ). IsTrue (are_positions c.args.room.now ps)) (sym known)
    (positions_fit c.args.room.now c.args.claim.now (shape_of c.args.room.now c.args.claim.now c.requires.shape) c.requires.inside))

-- the line that was rebuilt is through the claim's cells
pub returns-clause-root : goal.returns-clause-root
returns-clause-root c =
    let parts : ClaimParts = record { axis = c.claim.inside.axis; index = c.claim.inside.index; cells = c.claim.inside.cells.now; set = option_map (λ nodes. nodes.now) c.claim.inside.set } in
    subst (λ (p : ClaimParts). IsRootThrough c.args.room.now p c.line_strict_root.result) c.claim.view_is
    (line_through c.args.room.now c.room.inside.code parts c.deref.result.now c.deref-2.result.now c.rebuild.new.all c.line_strict_root.result
    (c.room.invariant.coded ∙ c.room.view_is)
    (c.deref.ensures.value ∙ front c.gather.new.known _ _ (c.gather.auto.known ∙ c.deref_mut.ensures.len)
    ∙ c.gather.ensures.known)
    (c.deref-2.ensures.value ∙ front c.gather.new.shares _ _ (c.gather.auto.shares ∙ c.deref_mut-2.ensures.len)
    ∙ c.gather.ensures.shares)
    c.rebuild.ensures.codeword c.rebuild.ensures.known
    (c.line_strict_root.ensures
    ∙ ap₂ (λ (k : ℕ) (line : List Share). line_strict_root k c.claim.inside.axis c.claim.inside.index line) c.room.view_is
    (c.deref-3.ensures.value ∙ front c.rebuild.new.all _ _ (c.rebuild.auto.all ∙ c.deref_mut-3.ensures.len))))
