use Rattle.std.proofs.Common.{IfOk, IsErrOf, subst}
use Rattle.square_layout.specs.Blocks.{SquareShares}
use Rattle.axis_roots.specs.Grids.{HasNoHeader}
use Rattle.square_serve.specs.declared.held.HeldError.TheVariants.{NoHeader}
use Rattle.square_serve.specs.Serving.{Holds}
use Rattle.one_answer.proofs.HeldLemmas.{one_holding}
use Rattle.one_answer.proofs.squares.held_of_twice.Goals as goal

pub returns : goal.returns
returns c =
    one_holding c.args.square (λ grid other. c.grid_laws.ensures.one_extension c.args.square grid other)
    (λ held. c.serve_laws.ensures.header held c.args.square) c.of-first.result c.of-second.result c.of-first.ensures.no_header
    (subst (λ (square : SquareShares). IsErrOf c.of-second.result NoHeader → HasNoHeader square) c.requires.copy c.of-second.ensures.no_header)
    c.of-first.ensures.held
    (subst (λ (square : SquareShares). IfOk c.of-second.result (λ held. Holds held square)) c.requires.copy c.of-second.ensures.held)
