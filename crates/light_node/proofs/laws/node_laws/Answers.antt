use Rattle.light_node.proofs.StandingLemmas.{stands_refused, stands_later}
use Rattle.light_node.proofs.laws.node_laws.Goals as goal

pub returns-clause-refused : goal.returns-clause-refused
returns-clause-refused g c = λ node plan events claim stands refused.
    stands_refused g.F.Picker.picks node plan events claim stands refused

pub returns-clause-later : goal.returns-clause-later
returns-clause-later g c = λ node plan events claim first stands is.
    stands_later g.F.Picker.picks node plan events claim stands first is
