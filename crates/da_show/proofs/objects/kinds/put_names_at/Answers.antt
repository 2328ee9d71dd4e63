use Rattle.std.proofs.Common.{◌≡◌, ◌++◌, ℕ, List, codes, string_bytes}
use Rattle.std.proofs.lemmas.Result.{on_ok_weaker}
use Rattle.da_show.specs.JsonTexts.{entry_place_text, list_text, names_end, places_text}
use Rattle.da_show.proofs.Pieces.{three_pieces}
use Rattle.da_show.proofs.objects.kinds.put_names_at.Goals as goal

-- the entries stand between a word and the kind
pub returns : goal.returns
unfolding places_text
returns c =
    let old : List ℕ = string_bytes c.args.out.now in
    let put = λ (whole : string_bytes c.put_names_end.new.out ≡ string_bytes c.put_places.new.out ++ names_end c.args.name.now).
    three_pieces old (codes "{\"entries\":") (list_text entry_place_text c.args.places.now) (names_end c.args.name.now) _ _ _ c.in_ok-push_str.ensures.bytes c.in_ok-put_places.ensures whole in
    on_ok_weaker c.put_names_end.result put c.put_names_end.ensures
