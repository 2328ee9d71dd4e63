use Rattle.nmt_proofs.proofs.Agreement.MadeLemmas.{made_opens}
use Rattle.nmt_proofs.proofs.Parts.OrderLemmas.{joins_in_order, order_of_joins}
use Rattle.std.proofs.Common.{◌≡◌, ◌+◌, ◌^◌, ◌≤◌, ℕ, suc, length, subst, arith, sym}
use Rattle.nmt_proofs.specs.Openings.{outside, leaves_at}
use Rattle.nmt_proofs.specs.Places.{AreAscending}
use Rattle.nmt_proofs.proofs.Sets.FewLemmas.{set_few}
use Rattle.nmt_proofs.proofs.Agreement.MergeLemmas.{merged_opens}
use Rattle.nmt_proofs.proofs.Sets.TileLemmas.{intervals_open}
use Rattle.nmt_proofs.proofs.making.making_laws.Goals as goal

pub returns-clause-opens : goal.returns-clause-opens
returns-clause-opens c = made_opens

pub returns-clause-in_order : goal.returns-clause-in_order
returns-clause-in_order c = λ depth names shares leaves. (joins_in_order depth 0 names shares, order_of_joins depth 0 names shares)

pub returns-clause-merged : goal.returns-clause-merged
returns-clause-merged c = merged_opens

pub returns-clause-subtrees : goal.returns-clause-subtrees
returns-clause-subtrees c = intervals_open

pub returns-clause-few : goal.returns-clause-few
returns-clause-few c = λ depth places names shares some h k up.
    let next : suc depth ≡ depth + 1 = omega arith in
    subst (λ (n : ℕ). length (outside n 0 (leaves_at places names shares)) ≤ 2 ^ depth) next
    (set_few depth places names shares some h k (subst (λ (n : ℕ). AreAscending 0 (2 ^ n) places) (sym next) up))
