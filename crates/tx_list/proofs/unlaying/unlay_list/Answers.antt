use Rattle.std.proofs.Common.{◌∙◌, List, ℕ, sym, subst}
use Rattle.tx_list.specs.Backs.{IsBack}
use Rattle.tx_list.proofs.BackLawLemmas.{is_back}
use Rattle.tx_list.proofs.unlaying.unlay_list.Goals as goal

-- the square of the list that was read is this one
there : (c : goal.In_ok-again) → IsBack c.args.square.now c.in_ok-transactions.transactions.items
there c = is_back c.args.square.now c.in_ok-transactions.transactions.items c.in_ok-again.ensures.first c.in_ok-transactions.ensures.list
    c.in_ok-again.ensures.named

-- and the list is in its one spelling
pub returns-clause-list : goal.returns-clause-list
returns-clause-list c = c.in_ok-again.ensures.list ∙ (there c).canonical ∙ c.in_ok-transactions.ensures.list

pub returns-clause-back : goal.returns-clause-back
returns-clause-back c =
    subst (λ (list : List (List ℕ)). IsBack c.args.square.now list) (sym (c.in_ok-again.ensures.list ∙ (there c).canonical)) (there c)
