use Rattle.std.proofs.Common.{◌≡◌, ◌∙◌, ◌++◌, ℕ, List, codes, map, string_bytes, ap, ap₂, append_assoc}
use Rattle.std.proofs.lemmas.Result.{on_ok_weaker}
use Rattle.da_show.specs.Text.{following, unit_line, transactions_line}
use Rattle.da_show.proofs.text.kinds.transactions.Goals as goal

-- the lengths stand behind the own line
pub returns : goal.returns
returns c =
    let old : List ℕ = string_bytes c.args.out.now in
    let lengths = λ (units : List (List ℕ)). following (map (unit_line (codes "transaction")) units) in
    let units : c.deref.result.now ≡ c.args.units.now = c.deref.ensures.value ∙ c.units.view_is in
    let put = λ (whole : string_bytes c.put_units.new.out ≡ string_bytes c.put_transactions.new.out ++ lengths c.deref.result.now).
    whole ∙ ap₂ (λ (l m : List ℕ). l ++ m) c.in_ok-put_transactions.ensures (ap lengths units)
    ∙ append_assoc old (transactions_line c.args.units.now) (lengths c.args.units.now) in
    on_ok_weaker c.put_units.result put c.put_units.ensures
