use Rattle.std.proofs.Common.{Some, refl}
use Rattle.std.proofs.lemmas.Result.{on_ok_weaker}
use Rattle.da_following.proofs.WayLemmas.{way_early, way_answered}
use Rattle.da_following.proofs.heights.Way.answer.Goals as goal

-- there is no height yet
pub returns-in_default-clause-way : goal.returns-in_default-clause-way
returns-in_default-clause-way c = λ names all later on.
    way_early names all c.args.self.now later (record { name = c.args.name.now; answer = c.args.answer.now }) on c.in_default.is

-- one answer more at the height under way
pub returns-clause-way : goal.returns-clause-way
returns-clause-way c =
    on_ok_weaker c.take.result
    (λ more names all later on. way_answered names all c.args.self.now
    (record { told = c.args.self.now.told; number = c.args.self.now.number; height = Some c.take.new.self }) later
    (record { name = c.args.name.now; answer = c.args.answer.now }) c.in-Some.height c.take.new.self on c.in-Some.is refl refl refl
    c.take.ensures.header (λ name found. more name)) c.take.ensures.said
