use Rattle.std.proofs.Common.{◌≡◌, ◌∙◌, ◌&&◌, Bool, true, List, ℕ, [], length, get_or, codes, sym, ap, arith, rules}
use Rattle.std.specs.String.{string_bytes}
use Rattle.da_words.specs.Values.{is_command}
use Rattle.da_words.specs.Words.{words_of}
use Rattle.da_words.proofs.WordLemmas.{word_at, command_count}
use Rattle.da_conversing.specs.Words.{is_once}
use Rattle.da_conversing.proofs.words.has_watch.Goals as goal

-- the words are watch and four more
pub returns : goal.returns
returns c =
    let words = c.args.words.now in
    let is : is_command (words_of words) (codes "watch") 4 ≡ true = search rules in
    let five : length words ≡ 5 = command_count words (codes "watch") 4 is in
    let first : c.deref.result.now ≡ string_bytes c.index-words-1.result = search rules in
    let second : c.deref-2.result.now ≡ string_bytes c.index-words-2.result = search rules in
    let fourth : c.deref-3.result.now ≡ string_bytes c.index-words-4.result = search rules in
    let header = first ∙ sym (word_at words 1 c.index-words-1.result (omega (arith, five)) c.index-words-1.is) in
    let key = second ∙ sym (word_at words 2 c.index-words-2.result (omega (arith, five)) c.index-words-2.is) in
    let talk = fourth ∙ sym (word_at words 4 c.index-words-4.result (omega (arith, five)) c.index-words-4.is) in
    c.is_once.ensures
    ∙ ap (λ (h : List ℕ). is_once h c.deref-2.result.now c.deref-3.result.now) header
    ∙ ap (λ (k : List ℕ). is_once (get_or (words_of words) 1 []) k c.deref-3.result.now) key
    ∙ ap (λ (t : List ℕ). is_once (get_or (words_of words) 1 []) (get_or (words_of words) 2 []) t) talk
    ∙ ap (λ (b : Bool). b && is_once (get_or (words_of words) 1 []) (get_or (words_of words) 2 []) (get_or (words_of words) 4 [])) (sym is)
