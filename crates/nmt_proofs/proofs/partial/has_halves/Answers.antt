use Rattle.std.proofs.Common.{◌≡◌, ◌∙◌, ◌+◌, ◌*◌, ℕ, List, true, sym, ap, true≢false}
use Rattle.std.specs.Str.{bytes_eq}
use Rattle.std.proofs.lemmas.Slice.Eq.{bytes_eq-Decides}
use Rattle.namespace_id.specs.declared.digests.Digest.{Digest}
use Rattle.nmt_proofs.specs.Partial.{digest_at}
use Rattle.nmt_proofs.proofs.partial.has_halves.Goals as goal

-- digests of the same bytes are one
one : (a b : Digest) → bytes_eq a.0 b.0 ≡ true → a ≡ b
one a b same = ap (λ (bytes : List ℕ). record { 0 = bytes }) ((bytes_eq-Decides a.0 b.0).0 same)

-- both were compared, or the first wasn't the one that is kept
pub returns-then-eq-clause-left : goal.returns-then-eq-clause-left
returns-then-eq-clause-left c = λ _. one c.args.left.now (digest_at c.args.nodes.now (2 * c.args.i)) (sym c.if-eq.ensures)

pub returns-then-eq-clause-right : goal.returns-then-eq-clause-right
returns-then-eq-clause-right c = λ both.
    one c.args.right.now (digest_at c.args.nodes.now (2 * c.args.i + 1)) (sym c.eq-then-eq.ensures ∙ both)

pub returns-else-eq-clause-left : goal.returns-else-eq-clause-left
returns-else-eq-clause-left c = λ both. absurd (true≢false (sym both ∙ c.if-eq.false))

pub returns-else-eq-clause-right : goal.returns-else-eq-clause-right
returns-else-eq-clause-right c = λ both. absurd (true≢false (sym both ∙ c.if-eq.false))
