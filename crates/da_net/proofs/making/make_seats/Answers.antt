use Rattle.std.proofs.Common.{replicate}
use Rattle.std.proofs.lemmas.Result.{IfOk-weaker}
use Rattle.da_net.specs.Networks.{full}
use Rattle.da_net.proofs.making.make_seats.Goals as goal

-- the seats of light nodes stand behind those of full ones
pub returns : goal.returns
returns g c =
    IfOk-weaker c.add_lights.result _ _ (λ more is. is (replicate c.args.count full) c.in_ok-seats.ensures) c.add_lights.ensures
