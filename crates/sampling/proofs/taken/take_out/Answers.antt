use Rattle.std.proofs.Common.{◌≡◌, ◌∙◌, ◌+◌, List, ℕ, sym, ap, subst, arith}
use Rattle.std.specs.List.{insert}
use Rattle.sampling.specs.Taken.{AscendFrom, passed, with_taken}
use Rattle.sampling.proofs.TakenLemmas.{taken_with}
use Rattle.sampling.proofs.taken.take_out.Goals as goal

pub returns-clause-ascend : goal.returns-clause-ascend
returns-clause-ascend c =
    let taken : List ℕ = c.args.taken.now.items in
    let before : c.passed-before.result ≡ passed taken c.args.place =
    c.passed-before.ensures.value ∙ ap (λ (l : List ℕ). passed l c.args.place) c.deref.ensures.value in
    let all : c.insert.new.self.items ≡ with_taken taken c.args.place =
    c.in-Ok.ensures.items ∙ ap (λ (n : ℕ). insert taken n (c.args.place + n)) before in
    subst (AscendFrom 0) (sym all) (taken_with taken 0 c.args.place (omega arith) c.requires.ascend)
