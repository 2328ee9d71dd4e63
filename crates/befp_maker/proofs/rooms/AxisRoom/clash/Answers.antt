use Rattle.std.proofs.Common.{◌≡◌, ◌∙◌, sym, ap, subst}
use Rattle.namespace_id.proofs.StringLemmas.{front}
use Rattle.axis_roots.specs.Lines.{line_names, line_root}
use Rattle.befp_maker.specs.Rooms.{RoomParts}
use Rattle.befp_maker.proofs.RootLemmas.{same_roots, lists_apart}
use Rattle.befp_maker.proofs.rooms.AxisRoom.clash.Goals as goal

-- the two lists of leaves have one root
pub clash_leaves-clash-requires-clause-root : goal.clash_leaves-clash-requires-clause-root
clash_leaves-clash-requires-clause-root c =
    let same : line_root c.self.inside.k c.args.axis c.args.index c.args.line.now ≡ line_root c.self.inside.k c.args.axis c.args.index c.self.inside.shares.items =
    subst (λ (r : RoomParts). line_root r.k c.args.axis c.args.index c.args.line.now ≡ line_root r.k c.args.axis c.args.index r.shares) (sym c.self.view_is)
    c.requires.root in
    same_roots c.self.inside.k c.args.axis c.args.index c.args.line.now c.deref-4.result.now c.deref-2.result.now c.deref-3.result.now
    (c.deref-2.ensures.value ∙ front c.name_leaves.new.names _ _ (c.name_leaves.auto.names ∙ c.deref_mut.ensures.len)
    ∙ c.name_leaves.ensures)
    (c.deref-3.ensures.value ∙ front c.name_leaves-2.new.names _ _ (c.name_leaves-2.auto.names
    ∙ c.deref_mut-2.ensures.len) ∙ c.name_leaves-2.ensures
    ∙ ap (line_names c.self.inside.k c.args.axis c.args.index) (c.deref.ensures.value ∙ sym c.deref-4.ensures.value))
    (same ∙ ap (line_root c.self.inside.k c.args.axis c.args.index) (sym c.deref-4.ensures.value))

-- and they differ
pub clash_leaves-clash-requires-clause-apart : goal.clash_leaves-clash-requires-clause-apart
clash_leaves-clash-requires-clause-apart c =
    lists_apart c.deref-2.result.now c.deref-3.result.now c.args.line.now c.deref-4.result.now
    (λ e. c.requires.apart (e ∙ c.deref-4.ensures.value ∙ ap (λ (r : RoomParts). r.shares) c.self.view_is))
