use Rattle.std.proofs.Common.{◌≡◌, List, get_or, subst, sym, arith}
use Rattle.std.proofs.lemmas.List.{same_lists}
use Rattle.std.proofs.lemmas.Option.{slice_get-get_or, get_or_from_slice_get}
use Rattle.namespace_id.specs.declared.cells.Cell.{Cell}
use Rattle.namespace_id.specs.Cells.{is_in_square}
use Rattle.namespace_id.proofs.RefusalLemmas.{ok_within}
use Rattle.namespace_id.proofs.RoomLemmas.{all_each}
use Rattle.light_node.specs.Events.{IsLight}
use Rattle.light_node.proofs.ListLemmas.{listed_at}
use Rattle.da_wire.specs.Frames.{frames_of}
use Rattle.da_judging.specs.Light.{events_in}
use Rattle.da_judging.proofs.light.verdict.Goals as goal

-- each number has a cell, which is one of the square
pub judge-requires : goal.judge-requires
judge-requires c = λ number below. (
  omega arith,
  λ cell here.
      all_each (is_in_square c.args.header.now.k) c.args.planned.now c.requires.inside cell (listed_at c.args.planned.now number cell here),
)

-- the plan is the list of cells
pub returns : goal.returns
returns c =
    let events = events_in (frames_of c.args.messages.now) in
    ok_within _ (IsLight c.args.header.now c.args.planned.now events) c.judge.result
    (λ light found.
    let same : found.0 ≡ c.args.planned.now = same_lists found.0 c.args.planned.now found.1
    (λ i d below.
    let cell = get_or found.0 i d in
    sym (get_or_from_slice_get c.args.planned.now i cell d (found.2 i cell (slice_get-get_or found.0 i d below)))) in
    subst (λ (plan : List Cell). IsLight c.args.header.now plan events light) same found.3) c.judge.ensures
