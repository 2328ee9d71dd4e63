use Rattle.std.proofs.Common.{◌≡◌, ◌++◌, ℕ, List, codes, string_bytes}
use Rattle.std.proofs.lemmas.Result.{on_ok_weaker}
use Rattle.da_show.specs.JsonTexts.{entry_text, list_text, names_end, names_text}
use Rattle.da_show.proofs.Pieces.{three_pieces}
use Rattle.da_show.proofs.objects.kinds.put_names.Goals as goal

-- the entries stand between a word and the kind
pub returns : goal.returns
unfolding names_text
returns c =
    let old : List ℕ = string_bytes c.args.out.now in
    let put = λ (whole : string_bytes c.put_names_end.new.out ≡ string_bytes c.put_entries.new.out ++ names_end c.args.name.now).
    three_pieces old (codes "{\"entries\":") (list_text entry_text c.args.entries.now) (names_end c.args.name.now) _ _ _ c.in_ok-push_str.ensures.bytes c.in_ok-put_entries.ensures whole in
    on_ok_weaker c.put_names_end.result put c.put_names_end.ensures
