use Rattle.std.proofs.Common.{ℕ, List, subst, arith}
use Rattle.std.specs.String.{string_bytes}
use Rattle.da_words.specs.Words.{words_of}
use Rattle.da_cli.specs.StreamedRepair.{StreamsSecond}
use Rattle.da_cli.proofs.GatheredLemmas.{name_here}
use Rattle.da_cli.proofs.SecondLemmas.{stream_second, stream_first, stream_on}
use Rattle.da_cli.proofs.repair.stream.Goals as goal

-- HEADER was not read
pub returns-in-Err : goal.returns-in-Err
returns-in-Err g c =
    let read = c.in-Err.ensures in
    let here = name_here c.args.words.now 0 c.index-words-0.result c.in-Ok.first (omega (arith, c.requires)) c.index-words-0.is c.in-Ok.ensures.cases in
    stream_first g.I.Inputs g.O.Sink (words_of c.args.words.now) (string_bytes c.in-Ok.first) c.args.inputs.now c.read_file.new.inputs c.args.out.now c.in-Err.stop
    (g.met.I.Inputs.counted c.args.inputs.now).2 here
    (record { content = read.content; stop = read.stop; faults = read.faults; within = read.within; picks = read.picks; fine = tt; picked = read.picked; files = read.files })

-- it was
pub returns : goal.returns
returns g c =
    let read = c.in-Ok-read_file.ensures in
    let names = words_of c.args.words.now in
    let text = c.in-Ok-read_file.text.items in
    let here = name_here c.args.words.now 0 c.index-words-0.result c.in-Ok.first (omega (arith, c.requires)) c.index-words-0.is c.in-Ok.ensures.cases in
    let next = name_here c.args.words.now 1 c.index-words-1.result c.in-Ok-clone.second (omega (arith, c.requires)) c.index-words-1.is c.in-Ok-clone.ensures.cases in
    let come = stream_on g.I.Inputs g.O.Sink names (string_bytes c.in-Ok.first) text c.args.inputs.now c.read_file.new.inputs (g.met.I.Inputs.counted c.args.inputs.now).2 here
    (record { content = read.content; stop = tt; faults = read.faults; within = read.within; picks = read.picks; fine = read.fine; picked = read.picked; files = read.files }) in
    stream_second g.I.Inputs g.O.Sink names (string_bytes c.in-Ok-clone.second) text c.args.inputs.now c.read_file.new.inputs c.second_file.new.inputs c.args.out.now c.second_file.new.out c.second_file.result
    come next
    (subst (λ (t : List ℕ). StreamsSecond g.I.Inputs g.O.Sink (string_bytes c.in-Ok-clone.second) t c.read_file.new.inputs c.second_file.new.inputs c.args.out.now c.second_file.new.out c.second_file.result)
    c.deref.ensures.value c.second_file.ensures)
