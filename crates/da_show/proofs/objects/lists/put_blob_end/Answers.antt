use Rattle.std.proofs.Common.{◌≡◌, ◌++◌, codes, string_bytes}
use Rattle.std.proofs.lemmas.Result.{on_ok_weaker}
use Rattle.da_show.specs.JsonTexts.{blob_end, quoted_name, signer_text}
use Rattle.da_show.proofs.Pieces.{four_pieces, put_where_ok}
use Rattle.da_show.proofs.objects.lists.put_blob_end.Goals as goal

-- the namespace stands behind a word, and a bracket at the end
pub returns : goal.returns
unfolding blob_end
returns c =
    let put = λ (whole : string_bytes c.push_str-2.new.self ≡ string_bytes c.put_signer.new.out ++ codes "}").
    four_pieces (string_bytes c.args.out.now) (codes ",\"namespace\":") (quoted_name c.args.name.now) (signer_text c.args.signer.now) (codes "}") _ _ _ _ c.in_ok-push_str.ensures.bytes c.in_ok-put_name.ensures c.in_ok-put_signer.ensures whole in
    on_ok_weaker c.push_str-2.result put (put_where_ok c.push_str-2.result _ _ _ c.push_str-2.ensures.bytes)
