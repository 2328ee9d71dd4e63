use Rattle.std.proofs.Common.{◌∙◌, refl, sym, ap, subst, Err}
use Rattle.square_layout.specs.Blocks.{IsSquare}
use Rattle.da_files.specs.Frames.{Writes}
use Rattle.da_serving.specs.Prove.{ProvesRange}
use Rattle.da_status.proofs.EndLemmas.{once_within, once_request}
use Rattle.da_serving.proofs.HeaderLemmas.{own_header}
use Rattle.da_serving.proofs.ProveLemmas.{proves_range, proves_none, proves_nothing}
use Rattle.da_serving.proofs.prove.prove_range.Goals as goal

-- the header is the grid's
pub range_proof-requires : goal.range_proof-requires
range_proof-requires g c = sym (sym c.in-Ok-Some.field-0-is ∙ c.in-Ok-Some.ensures)

-- what is written is the frame of the proof
pub returns-in-Ok-range_proof : goal.returns-in-Ok-range_proof
returns-in-Ok-range_proof g c =
    let square = c.args.square.now in
    let header = c.in-Ok-Some.header in
    let proof = c.in-Ok-range_proof.proof in
    let own = own_header square c.in-Ok.grid.k c.in-Ok.grid.shares header (subst IsSquare c.square.view_is c.square.invariant) c.in-Ok.ensures.k
    c.in-Ok.ensures.extends (sym c.in-Ok-Some.field-0-is ∙ c.in-Ok-Some.ensures) in
    once_within (Writes c.commit_frame.result) (ProvesRange square c.args.start c.args.count) _ _ _ _ _ _
    (proves_range square header c.args.start c.args.count own proof c.commit_frame.result c.in-Ok-range_proof.ensures.k c.in-Ok-range_proof.ensures.start
    c.in-Ok-range_proof.ensures.count c.commit_law.ensures c.in-Ok-range_proof.ensures.holds c.commit_frame.ensures.value) c.give.ensures

-- the range is none of the square's
pub returns-in-Err-Range : goal.returns-in-Err-Range
returns-in-Err-Range g c =
    let square = c.args.square.now in
    let header = c.in-Ok-Some.header in
    let own = own_header square c.in-Ok.grid.k c.in-Ok.grid.shares header (subst IsSquare c.square.view_is c.square.invariant) c.in-Ok.ensures.k
    c.in-Ok.ensures.extends (sym c.in-Ok-Some.field-0-is ∙ c.in-Ok-Some.ensures) in
    once_request (ProvesRange square c.args.start c.args.count) _ _ _ _ refl
    (proves_none square header c.args.start c.args.count own (c.in-Err-Range.ensures.range (ap Err c.in-Err-Range.field-0-is))) refl

-- the square has no header
pub returns-in-Ok-None : goal.returns-in-Ok-None
returns-in-Ok-None g c =
    once_request (ProvesRange c.args.square.now c.args.start c.args.count) _ _ _ _ refl
    (proves_nothing c.args.square.now c.args.start c.args.count c.in-Ok.grid.k c.in-Ok.grid.shares c.in-Ok.ensures.k
    (sym c.in-Ok-None.field-0-is ∙ c.in-Ok-None.ensures)
    (λ header none. c.grid_laws.ensures.no_header c.args.square.now c.in-Ok.grid.shares header c.in-Ok.ensures.extends none)) refl
