use Rattle.std.proofs.Common.{◌≡◌, ℕ, sym, subst, arith}
use Rattle.light_node.specs.Plans.{PicksInside}
use Rattle.peer_tests.proofs.light_nodes.follows_the_diagonal.Goals as goal

-- the header has the width of the grid, 2
pub new-requires : goal.new-requires
new-requires g c =
    let wide : c.header-header.result.k ≡ 2 = omega (arith) in
    record { picker = subst (λ (k : ℕ). PicksInside g.F.Picker.can_pick g.F.Picker.picks c.args.pick 4 k) (sym wide) c.requires }
