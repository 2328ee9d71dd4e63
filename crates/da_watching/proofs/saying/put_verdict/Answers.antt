use Rattle.std.proofs.Common.{◌≡◌, ◌∙◌, ◌<◌, [], length, refl, sym}
use Rattle.std.proofs.lemmas.List.{nil_from_length}
use Rattle.namespace_id.specs.Cells.{CellList}
use Rattle.nmt_proofs.proofs.Parts.StepLemmas.{is_none, is_some}
use Rattle.light_node.specs.declared.events.Light.TheVariants as light
use Rattle.da_wire.specs.declared.frames.Frame.TheVariants.{State, Missing}
use Rattle.da_watching.proofs.VerdictLemmas.{said_all, state_said, all_shown, some_wait}
use Rattle.da_watching.proofs.saying.put_verdict.Goals as goal

-- no cell waits, and no claim was accepted
pub returns-then-is_empty-clause-written : goal.returns-then-is_empty-clause-written
returns-then-is_empty-clause-written g c = λ plan events stands none.
    let empty : c.waiting.new.room.list ≡ [] = sym c.cells-list.ensures.list ∙ nil_from_length c.cells-list.result.now (is_none _ _ c.is_empty.ensures c.if-is_empty.true) in (
      light.Available,
      (
        none,
        all_shown c.args.node.now.header plan events c.waiting.new.room c.state-state.result empty none (c.waiting.ensures.filled plan events stands)
            (c.state-state.ensures plan events stands),
      ),
      state_said c.put_state_frame.new.text.items
          (said_all State c.args.text.now.items c.put_state_frame.new.text.items c.requires.empty c.put_state_frame.ensures.appended),
      refl,
    )

-- some do
pub returns-clause-written : goal.returns-clause-written
returns-clause-written g c = λ plan events stands none.
    let cells : CellList = record { k = c.args.k; list = c.cells-list.result.now } in
    let some : 0 < length c.cells-list.result.now = is_some _ _ c.is_empty.ensures c.if-is_empty.false in (
      light.Waiting cells,
      some_wait c.args.node.now.header plan events c.waiting.new.room c.args.k c.cells-list.result.now
          (c.waiting.ensures.width ∙ c.requires.cells ∙ sym c.requires.width) c.cells-list.ensures.list some none (c.waiting.ensures.filled plan events stands),
      said_all (Missing cells) c.args.text.now.items c.put_missing_frame.new.text.items c.requires.empty c.put_missing_frame.ensures.appended,
      refl,
    )
