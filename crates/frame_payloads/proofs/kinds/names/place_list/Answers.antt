use Rattle.std.proofs.Common.{◌≡◌, List, subst}
use Rattle.std.specs.Prelude.{IfOk}
use Rattle.std.specs.Int.{w16}
use Rattle.frame_payloads.specs.declared.shown.EntryPlace.{EntryPlace}
use Rattle.frame_payloads.specs.kinds.Names.{most_entries, entry_place, entry_at}
use Rattle.frame_payloads.proofs.Fields.Many.{turned_some, turned_items}
use Rattle.frame_payloads.proofs.kinds.names.place_list.Goals as goal

-- where all entries can be read, so can their places
pub list16-requires : goal.list16-requires
list16-requires c = turned_some entry_place entry_at w16 most_entries c.args.bytes.now c.requires

-- the places are those of the entries
pub returns : goal.returns
returns c =
    subst (λ (places : List EntryPlace). IfOk c.list16.result (λ made. made.items ≡ places))
    (turned_items entry_place entry_at w16 most_entries c.args.bytes.now) c.list16.ensures
