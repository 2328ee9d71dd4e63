use Rattle.std.proofs.Common.{◌∙◌, ℕ, List, Ok, Some, inr, ap, subst}
use Rattle.std.specs.String.{string_bytes}
use Rattle.da_files.specs.Frames.{header_in}
use Rattle.da_words.specs.Words.{words_of}
use Rattle.da_conversing.specs.Words.{key_file_name}
use Rattle.da_conversing.specs.Inputs.{HasValue}
use Rattle.da_conversing.specs.Watches.{WatchesUnder}
use Rattle.da_conversing.proofs.watching.answer_watch.Goals as goal

-- HEADER is a header
pub returns-in-Ok-header_of-clause-course : goal.returns-in-Ok-header_of-clause-course
returns-in-Ok-header_of-clause-course g c =
    let Under = λ (file name : List ℕ). WatchesUnder g.I.Inputs g.O.Sink c.header_of.new.inputs c.answer_header.new.inputs c.args.out.now c.answer_header.new.out c.in-Ok-header_of.header c.args.values.key c.args.values.count file name c.answer_header.result in (
      c.args.values,
      c.requires,
      inr (inr (
        c.in-Ok-header_of.header,
        c.header_of.new.inputs,
        subst (λ (name : List ℕ). HasValue header_in (g.I.Inputs.files c.args.inputs.now) name (Ok c.in-Ok-header_of.header)) c.in-Ok.ensures c.in-Ok-header_of.ensures.header,
        (c.in-Ok-header_of.ensures.picked ∙ ap (λ (name : List ℕ). Some name) c.in-Ok.ensures, c.in-Ok-header_of.ensures.picks),
        c.in-Ok-header_of.ensures.files,
        subst (λ (name : List ℕ). Under (key_file_name (words_of c.args.words.now)) name) c.in-Ok-names_of.ensures.talk
            (subst (λ (file : List ℕ). Under file (string_bytes c.in-Ok-names_of.names.talk)) c.in-Ok-names_of.ensures.key c.answer_header.ensures.course),
      )),
    )
