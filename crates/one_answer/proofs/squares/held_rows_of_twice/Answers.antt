use Rattle.std.proofs.Common.{IfOk, IsErrOf, subst, ◌≡◌}
use Rattle.std.specs.Prelude.{IsOk}
use Rattle.square_layout.specs.Blocks.{SquareShares}
use Rattle.axis_roots.specs.Grids.{HasNoHeader}
use Rattle.square_serve.specs.declared.held.HeldError.TheVariants.{NoHeader}
use Rattle.square_serve.specs.Rows.{HasHeader}
use Rattle.one_answer.proofs.HeldLemmas.{one_rows}
use Rattle.one_answer.proofs.squares.held_rows_of_twice.Goals as goal

pub returns : goal.returns
returns c =
    one_rows c.args.square c.of-first.result c.of-second.result c.of-first.ensures.no_header
    (subst (λ (square : SquareShares). IsErrOf c.of-second.result NoHeader → HasNoHeader square) c.requires.copy c.of-second.ensures.no_header)
    c.of-first.ensures.header
    (subst (λ (square : SquareShares). IsOk c.of-second.result → HasHeader square) c.requires.copy c.of-second.ensures.header)
    c.of-first.ensures.held
    (subst (λ (square : SquareShares). IfOk c.of-second.result (λ held. held ≡ square)) c.requires.copy c.of-second.ensures.held)
