use Rattle.std.proofs.Common.{◌∙◌, ◌++◌, ℕ, List, Some, sym, ap}
use Rattle.blob_feed.specs.Feeds.{read_of}
use Rattle.da_following.specs.Heights.{said}
use Rattle.da_following.proofs.KeptLemmas.{said_refused, said_complete}
use Rattle.da_following.proofs.feed_lines.text_of.Goals as goal

-- an answer that is refused says nothing
pub returns-in-Err-Refused : goal.returns-in-Err-Refused
returns-in-Err-Refused c =
    let is = c.in-Err-Refused.is in
    let why = c.in-Err-Refused.field-0-is in
    sym (said_refused c.args.header.now (record { name = c.args.name.now; answer = c.args.answer.now }) c.in-Err-Refused.field-0-0
    ((c.in-Err-Refused.ensures.refused c.in-Err-Refused.field-0-0).0 cc))

-- one that is complete says what its shares are read as
pub returns : goal.returns
returns c =
    ap (λ (l : List ℕ). Some l) (c.in_ok-put_entry.ensures ∙ ap (λ (l : List ℕ). l ++ said (read_of c.in-Ok.entry)) c.new-text.ensures.items)
    ∙ sym (said_complete c.args.header.now (record { name = c.args.name.now; answer = c.args.answer.now }) (read_of c.in-Ok.entry)
    c.in-Ok.ensures.complete c.in-Ok.ensures.read)
