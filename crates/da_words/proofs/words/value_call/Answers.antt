use Rattle.std.proofs.Common.{◌≡◌, ◌∙◌, length, codes, sym, ap₂, arith, rules}
use Rattle.std.specs.String.{string_bytes}
use Rattle.da_words.specs.Words.{light_call}
use Rattle.da_words.proofs.WordLemmas.{light_words}
use Rattle.da_words.proofs.words.value_call.Goals as goal

-- the third and the fourth word behind that of light are its key and its count
pub returns-in-light-len4-clause-value : goal.returns-in-light-len4-clause-value
returns-in-light-len4-clause-value c =
    let word = c.in_ok-word.word.now in
    let rest = c.in_ok-word.rest.now in
    let four : length rest ≡ 4 = omega (arith, c.in-light-len4.len_at_least, c.in-light-len4.len_below) in
    let text : c.as_str.result.now ≡ codes "light" = search rules in
    let key : c.deref.result.now ≡ string_bytes c.key-item.result = search rules in
    let count : c.deref-in-light-len4.result.now ≡ string_bytes c.count-item.result = search rules in
    c.light_call.ensures.value ∙ ap₂ light_call key count
    ∙ sym (light_words c.args.words.now rest word c.key-item.result c.count-item.result c.in_ok-word.ensures.cases.0
    (sym c.as_str.ensures.value ∙ text) four c.key-item.is c.count-item.is)
