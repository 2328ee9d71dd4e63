use Rattle.std.proofs.Common.{ℕ, IsSome, sym, subst, rules}
use Rattle.axis_roots.specs.Grids.{header_of_grid}
use Rattle.da_demo.specs.Sessions.{IsCheat}
use Rattle.da_demo.proofs.CheatLemmas.{cheat_header}
use Rattle.da_demo.proofs.trials.spoil_last.Goals as goal

-- the names of all leaves are as they were
pub returns-clause-header : goal.returns-clause-header
returns-clause-header c =
    let cheat : IsCheat c.args.grid.now.k c.args.grid.now.shares c.set.new.self.shares = search rules in
    λ some. subst (λ (k : ℕ). IsSome (header_of_grid k c.set.new.self.shares)) (sym c.set.ensures.k)
    (cheat_header c.args.grid.now.k c.args.grid.now.shares c.set.new.self.shares cheat some)
