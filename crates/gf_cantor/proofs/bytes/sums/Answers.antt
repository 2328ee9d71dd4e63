use Rattle.std.proofs.Common.{[], ◌∷◌, get_or, ap, ◌∙◌, arith}
use Rattle.std.proofs.lemmas.List.FromFn.{get_or-map-range_with_len}
use Rattle.gf_cantor.specs.Field.{combine}
use Rattle.gf_cantor.proofs.Rows.{sums_listed}
use Rattle.gf_cantor.proofs.bytes.sums.Goals as goal

-- entry by entry
pub returns : goal.returns
returns c n h =
    let a = c.args.one in
    let b = c.args.two in
    let d = c.args.four in
    let e = c.args.eight in
    ap (λ l. get_or l n 0) (sums_listed a b d e) ∙ get_or-map-range_with_len (combine (a ∷ b ∷ d ∷ e ∷ [])) 0 16 n n 0 h (omega arith)
