use Rattle.std.proofs.Common.{◌∙◌, ◌+◌, refl, sym}
use Rattle.da_following.specs.Heights.{fed_by}
use Rattle.da_following.proofs.WayLemmas.{way_said, way_closed}
use Rattle.da_following.proofs.heights.Way.close.Goals as goal

-- the height under way was told
pub returns-clause-way : goal.returns-clause-way
returns-clause-way c = λ all rest none on.
    let names = c.args.names.now in
    let is = sym c.take.ensures.value ∙ c.in-Some.is in
    way_closed names all c.args.self.now
    (record { told = c.put_height.new.told; number = c.args.self.now.number + 1; height = c.take.new.self }) rest c.in-Some.height on is
    none c.take.ensures.after refl
    (c.in_ok-put_height.ensures.more (fed_by names all) (way_said names all c.args.self.now rest c.in-Some.height on is none))
