use Rattle.std.proofs.Common.{◌≡◌, true, subst}
use Rattle.std.specs.Prelude.{◌↔◌}
use Rattle.data_header.specs.Headers.{Roots}
use Rattle.one_answer.proofs.CellLemmas.{one_test, HasAll}
use Rattle.one_answer.proofs.sessions.has_all_twice.Goals as goal

-- both tell whether all cells are recoverable
pub returns : goal.returns
returns c = λ ms stands stood.
    one_test (HasAll c.args.one.now.header ms) c.has_all.result c.has_all-2.result (c.has_all.ensures ms stands)
    (subst (λ (h : Roots). (c.has_all-2.result ≡ true) ↔ HasAll h ms) c.requires.header (c.has_all-2.ensures ms stood))
