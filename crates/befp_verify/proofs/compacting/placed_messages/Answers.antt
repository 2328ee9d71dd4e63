use Rattle.std.proofs.Common.{◌≡◌, ◌∙◌, ◌+◌, ◌<◌, ℕ, List, [], ◌∷◌, ◌++◌, length, map, take, sym, ap, ap₂}
use Rattle.std.proofs.lemmas.List.{map-append}
use Rattle.namespace_id.specs.declared.cells.Axis.{Axis}
use Rattle.nmt_proofs.specs.Merging.{Branch}
use Rattle.axis_roots.specs.declared.message.messages.Message.{Message}
use Rattle.axis_roots.specs.Sets.{along_in}
use Rattle.befp_verify.specs.Compacting.{branch_of}
use Rattle.befp_verify.specs.Placed.{placed_of, placed_branches}
use Rattle.befp_verify.proofs.AlongLemmas.{along_more, along_same}
use Rattle.befp_verify.proofs.compacting.placed_messages.Goals as goal
use Rattle.befp_verify.proofs.compacting.placed_messages.Goals.{then-is_along+in-Ok, else-is_along}

pub loop-i-init : goal.loop-i-init
unfolding along_in
loop-i-init c = ap placed_branches c.in_ok-made.ensures.items

-- one more, where it is along the axis
pub loop-i-preserved : goal.loop-i-preserved
loop-i-preserved c =
    let axis : Axis = c.args.axis in
    let cells : List Message = c.args.cells.now in
    let i : ℕ = c.loop-i.i in
    let m : Message = c.index-cells-i.result in
    let so_far : List Message = along_in axis (take i cells) in
    let inside : i < length cells = c.loop-i-test.true in
    elim c.if-is_along.branch [
      | then-is_along+in-Ok w ↦
          let more : along_in axis (take (i + 1) cells) ≡ so_far ++ m ∷ [] = along_more axis cells i m inside c.index-cells-i.is (sym c.is_along.ensures ∙ w.if-is_along.true) in
          ap placed_branches (ap (λ (v : _). v.items) w.made-is ∙ w.in-Ok.ensures.items)
          ∙ map-append placed_of c.loop-i.made.items (w.placed_message.result ∷ [])
          ∙ ap₂ (λ (x : List Branch) (y : Branch). x ++ y ∷ []) c.loop-i.invariant w.placed_message.ensures
          ∙ sym (ap (map (branch_of c.args.k axis)) more ∙ map-append (branch_of c.args.k axis) so_far (m ∷ []))
      | else-is_along w ↦
          let same : along_in axis (take (i + 1) cells) ≡ so_far = along_same axis cells i m inside c.index-cells-i.is (sym c.is_along.ensures ∙ w.if-is_along.false) in
          ap (λ (v : _). placed_branches v.items) w.made-is ∙ c.loop-i.invariant ∙ sym (ap (map (branch_of c.args.k axis)) same)
    ]
