use Rattle.std.proofs.Common.{◌∙◌, ap, sym, subst}
use Rattle.square_layout.specs.Blocks.{SquareShares}
use Rattle.axis_roots.specs.Grids.{IsHeaderOf}
use Rattle.square_serve.specs.Shares.{namespace_shares}
use Rattle.da_serving.proofs.AnswerLemmas.{complete_short}
use Rattle.da_serving.proofs.namespace.HeldRowsServer.frame.Goals as goal

-- a complete answer is short enough to be written
pub answer_frame-requires : goal.answer_frame-requires
answer_frame-requires c =
    let is = c.requires.2 in
    complete_short c.requires.1 c.requires.0 c.args.name c.in-Ok.found is.0 (c.in-Ok.ensures.complete c.requires.1 (subst (IsHeaderOf c.requires.1) (sym is.1) is.0))

-- it is one to the request
pub returns-in-Ok-clause-allowed : goal.returns-in-Ok-clause-allowed
returns-in-Ok-clause-allowed c = λ square header is. (
  c.in-Ok.found,
  record {
    complete = c.in-Ok.ensures.complete header (subst (IsHeaderOf header) (sym is.1) is.0);
    shares = c.in-Ok.ensures.shares ∙ ap (λ (s : SquareShares). namespace_shares s c.args.name) is.1;
  },
  c.answer_frame.ensures.value,
)
