use Rattle.std.proofs.lemmas.List.{take_rest}
use Rattle.da_script.proofs.reading.next_draw.Goals as goal

pub returns : goal.returns
returns c = take_rest c.args.bytes.now 34
