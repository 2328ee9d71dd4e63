use Rattle.std.specs.String.{string_bytes}
use Rattle.da_conversing.proofs.WatchLemmas.{under_key, under_named}
use Rattle.da_conversing.proofs.watching.answer_header.Goals as goal

-- the word is the key
pub returns-in-Key-clause-course : goal.returns-in-Key-clause-course
returns-in-Key-clause-course g c =
    under_key g.I.Inputs g.O.Sink _ _ _ _ c.args.header.now _ c.args.words.key c.in-Key.key c.args.words.count c.talk_file.result
    (string_bytes c.args.names.key) (string_bytes c.args.names.talk) c.in-Key.is c.talk_file.ensures c.answer_key.ensures.course

-- it names a file of the key
pub returns-in-Ok-clause-course : goal.returns-in-Ok-clause-course
returns-in-Ok-clause-course g c =
    under_named g.I.Inputs g.O.Sink _ _ _ _ c.args.header.now _ c.key_of.new.inputs c.args.words.key c.in-Ok.key c.args.words.count c.talk_file.result
    (string_bytes c.args.names.key) (string_bytes c.args.names.talk) c.in-Named.is c.talk_file.ensures c.in-Ok.ensures.key
    (c.in-Ok.ensures.picked, c.in-Ok.ensures.picks) c.in-Ok.ensures.files c.answer_key-in-Ok.ensures.course
