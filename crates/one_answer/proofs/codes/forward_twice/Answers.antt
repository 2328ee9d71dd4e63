use Rattle.std.proofs.Common.{List, subst}
use Rattle.namespace_id.specs.declared.shares.Share.{Share}
use Rattle.lch_fft.specs.Transforms.{Evaluates}
use Rattle.one_answer.proofs.codes.forward_twice.Goals as goal

-- both are the values of one list
pub returns : goal.returns
returns g c = record {
  state =
      c.transform_laws.ensures.only_values c.args.shift c.args.one.now _ _ c.shares_law.ensures c.shares_law-2.ensures c.forward.ensures
      (subst (λ (l : List Share). Evaluates g.M.Factor.reading c.args.shift l c.forward-2.new.shares) c.requires.same c.forward-2.ensures);
}
