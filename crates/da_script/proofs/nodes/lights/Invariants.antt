use Rattle.std.proofs.Common.{◌≡◌, ◌*◌, ◌-◌, ◌≤◌, ◌++◌, false, length, map}
use Rattle.std.specs.List.{AllByRecursion, list_any}
use Rattle.da_script.specs.Scripts.{draws_at}
use Rattle.da_net.specs.Networks.{light}
use Rattle.da_net.specs.Nodes.{IsFreshNode}
use Rattle.da_script.specs.Plays.{light_of}
use Rattle.da_script.specs.Parts.{is_wide}
use Rattle.da_script.proofs.nodes.lights.Given as goal

-- so many were made, and the bytes that are left have the others
abbrev pub invariant-loop : goal.invariant-loop
invariant-loop g l = record {
  size : 34 * (l.count - l.counter) ≤ length l.rest;
  few : list_any (is_wide l.header.k) (draws_at (l.count - l.counter) l.rest) ≡ false;
  fresh : AllByRecursion (IsFreshNode g.F.Picker.picks l.header) l.nodes.items;
  kinds : map (λ n. light n.wanted) l.nodes.items ++ map (light_of l.header.k) (draws_at (l.count - l.counter) l.rest)
      ≡ map (light_of l.header.k) (draws_at l.count l.draws);
}
