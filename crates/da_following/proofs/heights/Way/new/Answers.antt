use Rattle.std.proofs.Common.{None, refl}
use Rattle.da_following.proofs.WayLemmas.{way_new}
use Rattle.da_following.proofs.heights.Way.new.Goals as goal

-- nothing was told yet
pub returns-clause-way : goal.returns-clause-way
returns-clause-way c = λ names items.
    way_new names (record { told = record { text = c.new.result; missing = 0 }; number = 0; height = None }) items refl refl
    c.new.ensures.items refl
