use Rattle.std.proofs.Common.{◌≡◌, ◌∙◌, ◌+◌, ◌++◌, ◌≤◌, ℕ, Bool, nat_lt, not, false, inl, inr, filter, drop, map, length, List, if◌then◌else◌, refl, sym, ap, subst}
use Rattle.std.specs.List.{AllByRecursion}
use Rattle.std.proofs.lemmas.Bool.{and_parts}
use Rattle.std.proofs.lemmas.List.{drop_all, append-nil}
use Rattle.std.proofs.lemmas.Result.{err_from_is_err_and}
use Rattle.tx_list.specs.Payments.{PaymentParts, IsPayment}
use Rattle.tx_list.specs.Reads.{is_payment, payment_of}
use Rattle.tx_list.specs.Walks.{judgement, taken_payments}
use Rattle.tx_list.specs.ReadRefusals.{transaction_refusal, transactions_refusal}
use Rattle.tx_list.proofs.CheckLemmas.{drop-one, transaction_found, transaction_passed, transactions_none}
use Rattle.tx_list.proofs.JudgeLemmas.{front_counted, paid_next, count_next, few_next}
use Rattle.tx_list.proofs.TakingLemmas.{taken_next, all_taken, payments_kept}
use Rattle.tx_list.proofs.taking.payments_behind.Goals as goal

-- the next one isn't taken
pub returns-in_err-plain-clause-first : goal.returns-in_err-plain-clause-first
returns-in_err-plain-clause-first c =
    let one = c.index-transactions-i.result in
    let left = drop-one c.args.transactions.now c.loop-i.i one c.loop-i-test.true c.index-transactions-i.is in
    let p = err_from_is_err_and c.from_residual.result c.from_residual.ensures.1 in
    rw (p.1, p.2)
    (inl (sym (transaction_found c.loop-i.i (nat_lt c.loop-i.plain c.loop-i.i) one _ _ c.in_err-plain.field-0.0 _ left
    (c.in_err-plain.ensures.refused c.deref.result.now c.read_one-judged.ensures.judged
    ∙ ap (transaction_refusal c.loop-i.i (nat_lt c.loop-i.plain c.loop-i.i)) (c.deref.ensures.value ∙ c.one.view_is)) c.loop-i.invariant.same)))

-- it is
pub loop-i-preserved : goal.loop-i-preserved
loop-i-preserved c =
    let so_far = c.loop-i.invariant in
    let one = c.index-transactions-i.result in
    let left = drop-one c.args.transactions.now c.loop-i.i one c.loop-i-test.true c.index-transactions-i.is in
    let bytes : c.deref.result.now ≡ one = c.deref.ensures.value ∙ c.one.view_is in
    let judged = c.read_one-judged.ensures.judged ∙ ap (judgement c.loop-i.i) bytes in
    let plain : c.in_ok-plain.plain ≡ (if is_payment one then c.loop-i.plain else c.loop-i.plain + 1) = c.in_ok-plain.ensures.count one judged in
    let passed = c.in_ok-plain.ensures.refused one judged in
    record {
      few = subst (λ (n : ℕ). n ≤ c.loop-i.i + 1) (sym plain) (few_next c.loop-i.plain c.loop-i.i one so_far.few);
      same = transaction_passed c.loop-i.i (nat_lt c.loop-i.plain c.loop-i.i) one _ _ _ left passed so_far.same
          ∙ ap (λ (b : Bool). transactions_refusal (c.loop-i.i + 1) b (drop (c.loop-i.i + 1) c.args.transactions.now))
          (paid_next c.loop-i.i c.loop-i.plain one so_far.few (sym passed) ∙ ap (λ (n : ℕ). nat_lt n (c.loop-i.i + 1)) (sym plain));
      count = ap (λ (n : ℕ). n + length (filter (λ one. not (is_payment one)) (drop (c.loop-i.i + 1) c.args.transactions.now))) plain
          ∙ count_next c.loop-i.plain one _ _ left
          ∙ so_far.count;
      kept = λ whole.
          let both = and_parts c.loop-i.is_whole c.read_one-judged.result.1 (sym c.both-is_whole.ensures ∙ whole) in
          taken_next c.loop-i.i (nat_lt c.loop-i.plain c.loop-i.i) one _ _ c.loop-i.payments.items c.read_one-judged.new.payments.items left (sym passed)
          (c.read_one-judged.ensures.kept both.1
          ∙ ap (λ (l : List ℕ). c.loop-i.payments.items ++ taken_payments (judgement c.loop-i.i l) l) bytes)
          ∙ so_far.kept both.0;
    }

-- all are, and there was no memory
pub returns-then-not-is_whole-clause-first : goal.returns-then-not-is_whole-clause-first
returns-then-not-is_whole-clause-first c =
    inr (
      sym (transactions_none c.loop-i.i (nat_lt c.loop-i.plain c.loop-i.i) _ _ (drop_all c.loop-i.i c.args.transactions.now c.loop-i-test.false)
          c.loop-i.invariant.same),
      refl,
    )

-- all are
pub returns-clause-first : goal.returns-clause-first
returns-clause-first c =
    sym (transactions_none c.loop-i.i (nat_lt c.loop-i.plain c.loop-i.i) _ _ (drop_all c.loop-i.i c.args.transactions.now c.loop-i-test.false)
    c.loop-i.invariant.same)

-- so the plain ones stand in front
pub returns-clause-units : goal.returns-clause-units
returns-clause-units c =
    let all = drop_all c.loop-i.i c.args.transactions.now c.loop-i-test.false in
    sym (front_counted c.args.transactions.now _ c.loop-i.i c.loop-i.plain c.loop-i.invariant.same all c.loop-i.invariant.count).0

-- and the payments are all
pub returns-clause-payments : goal.returns-clause-payments
returns-clause-payments c =
    let all = drop_all c.loop-i.i c.args.transactions.now c.loop-i-test.false in
    sym (append-nil c.loop-i.payments.items)
    ∙ sym (ap (λ (l : List (List ℕ)). c.loop-i.payments.items ++ map payment_of (filter is_payment l)) all)
    ∙ c.loop-i.invariant.kept c.if-not-is_whole.false

pub returns-clause-payable : goal.returns-clause-payable
returns-clause-payable c =
    subst (λ (payments : List PaymentParts). AllByRecursion IsPayment payments) (sym (returns-clause-payments c))
    (payments_kept c.args.transactions.now (all_taken 0 false c.args.transactions.now (returns-clause-first c)))
