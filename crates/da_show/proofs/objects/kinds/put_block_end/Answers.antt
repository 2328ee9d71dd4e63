use Rattle.std.proofs.Common.{◌≡◌, ◌++◌, codes, string_bytes}
use Rattle.std.proofs.lemmas.Result.{on_ok_weaker}
use Rattle.da_show.specs.JsonTexts.{block_end, units_end, length_text, list_text}
use Rattle.da_show.proofs.Pieces.{three_pieces}
use Rattle.da_show.proofs.objects.kinds.put_block_end.Goals as goal

-- the units of payments stand behind a word
pub returns : goal.returns
unfolding block_end
returns c =
    let put = λ (whole : string_bytes c.put_units_end.new.out ≡ string_bytes c.put_lengths.new.out ++ units_end c.args.units.now c.args.width).
    three_pieces (string_bytes c.args.out.now) (codes ",\"kind\":\"block\",\"pay\":") (list_text length_text c.args.pay.now) (units_end c.args.units.now c.args.width) _ _ _ c.in_ok-push_str.ensures.bytes c.in_ok-put_lengths.ensures whole in
    on_ok_weaker c.put_units_end.result put c.put_units_end.ensures
