use Rattle.da_net.proofs.MissingLemmas.{full_misses, light_misses}
use Rattle.da_net.proofs.seats.missing.Goals as goal

-- what the session misses
pub returns-in-Some-clause-missed : goal.returns-in-Some-clause-missed
returns-in-Some-clause-missed g c = λ header items is.
    full_misses g.F.Picker.picks header items c.args.seat.now c.in-Full.node c.in-Some.session c.missing.new.room c.requires.open c.in-Full.is c.in-Some.is is
    c.missing.ensures.left

-- what the light node waits for
pub returns-in-Light-clause-missed : goal.returns-in-Light-clause-missed
returns-in-Light-clause-missed g c = λ header items is.
    light_misses g.F.Picker.picks header items c.args.seat.now c.in-Light.node c.waiting.new.room c.in-Light.is is c.waiting.ensures.filled
