use Rattle.std.proofs.Common.{◌≡◌, ◌∙◌, ◌++◌, ℕ, List, ap, string_bytes}
use Rattle.std.proofs.lemmas.Result.{on_ok_weaker}
use Rattle.da_show.specs.JsonTexts.{in_quotes}
use Rattle.da_show.proofs.HexDigits.{quotes_are}
use Rattle.da_show.proofs.objects.parts.put_hex.Goals as goal

-- no digit is escaped
pub returns : goal.returns
returns c =
    let old : List ℕ = string_bytes c.args.out.now in
    let same = quotes_are c.args.bytes.now c.as_str.result.now c.bytes_law.ensures (c.as_str.ensures.value ∙ c.in_ok-digits.ensures) in
    let put = λ (whole : string_bytes c.put_quoted.new.out ≡ old ++ in_quotes c.as_str.result.now).
    whole ∙ ap (λ (l : List ℕ). old ++ l) same in
    on_ok_weaker c.put_quoted.result put c.put_quoted.ensures
