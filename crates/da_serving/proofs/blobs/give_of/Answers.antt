use Rattle.std.proofs.Common.{◌∙◌, length, IsSome, ap, subst, arith}
use Rattle.square_layout.specs.Blocks.{SquareShares}
use Rattle.da_wire.specs.declared.frames.Frame.{Frame}
use Rattle.da_wire.specs.Spelling.{spelling}
use Rattle.da_serving.specs.Blobs.{behind_compact}
use Rattle.da_serving.proofs.BlobsLemmas.{square_few, answer_few}
use Rattle.da_serving.proofs.blobs.give_of.Goals as goal

-- a square has few shares
pub give_blobs-requires : goal.give_blobs-requires
give_blobs-requires g c =
    let square : SquareShares = record { k = c.square.inside.k; shares = c.square.inside.shares.items } in
    omega (arith, square_few square c.square.invariant, ap length (c.behind_compact.ensures ∙ ap behind_compact c.deref.ensures.value))

-- so has an answer that can be written
pub give_blobs-requires-in-Ok : goal.give_blobs-requires-in-Ok
give_blobs-requires-in-Ok g c =
    let some = subst (λ (f : Frame). IsSome (spelling f)) c.in-Names.is c.requires in
    omega (arith, answer_few c.in-Names.field-0 c.in-Names.answer some, ap length (c.deref-in-Ok.ensures.value ∙ c.in-Ok.ensures))
