-- Shares are read as blobs, or as units, exactly where they are their shares.
use Rattle.std.proofs.Common.{◌≡◌, ◌∙◌, ◌↔◌, ℕ, inl, inr, List, [], Option, None, Some, Result, Ok, Err, sym, ap}
use Rattle.std.specs.Option.{option_map_or}
use Rattle.namespace_id.specs.Shares.{AreShares}
use Rattle.namespace_id.specs.declared.shares.Share.{Share}
use Rattle.share_split.specs.Blobs.{NamedBytes}
use Rattle.share_split.specs.Walks.{blobs_from, blobs_joined, Sequence, sequence_from, units_from, bad_reserved, reserved_units, units_in, units_of}
use Rattle.share_split.specs.declared.joining.JoinError.TheVariants.{BadReserved}
use Rattle.share_split.specs.Units.{starts_from}
use Rattle.share_split.specs.Steps.{units_placed}
use Rattle.share_split.specs.Joined.{AreBlobs, AreUnits}
use Rattle.share_split.proofs.Reading.UnitWalk.{sequence_from-none}
use Rattle.share_split.proofs.Reading.BlobRead.{pieces_read}
use Rattle.share_split.proofs.Reading.BlobTold.{blobs_told}
use Rattle.share_split.proofs.Reading.UnitRead.{compact_read}
use Rattle.share_split.proofs.Reading.UnitTold.{units_told}

-- shares of blobs are read as these
blobs_read : (shares : List Share) (blobs : List NamedBytes) → AreBlobs shares blobs → blobs_joined shares ≡ Ok blobs
blobs_read shares blobs are = ap (blobs_from 0 None) are.parts ∙ pieces_read 0 are.pieces are.are_pieces ∙ ap Ok (sym are.shown)

-- shares are read as blobs exactly where they are their shares
pub blobs_law : (shares : List Share) (blobs : List NamedBytes) → AreShares shares → (blobs_joined shares ≡ Ok blobs) ↔ AreBlobs shares blobs
blobs_law shares blobs wholes = (λ e. blobs_told shares 0 None blobs wholes tt e, λ are. blobs_read shares blobs are)

-- shares of units are read as these
units_read : (shares : List Share) (units : List (List ℕ)) → AreUnits shares units → units_of shares ≡ Ok units
units_read shares units (inl none) = ap units_of none.0 ∙ ap (units_in []) (sequence_from-none 0) ∙ ap Ok (sym none.1)
units_read shares units (inr are) = ap units_of are.parts ∙ compact_read are.name units are.name_is are.few

-- shares are read as units exactly where they are their shares
pub units_law : (shares : List Share) (units : List (List ℕ)) → AreShares shares → (units_of shares ≡ Ok units) ↔ AreUnits shares units
units_law shares units wholes = (λ e. units_told shares units wholes e, λ are. units_read shares units are)

-- ---- the steps of a call

-- a text in which all lengths are good
text_read : (r : Result (List (List ℕ)) ℕ) (units : List (List ℕ)) → units_placed r ≡ Ok units → r ≡ Ok units
text_read (Err at) units e = absurd cc
text_read (Ok some) units e = let same : some ≡ units = cc in ap Ok same

-- the steps of a call give what reading gives
pub units_whole : (shares : List Share) (s : Sequence) (text : List ℕ) (units : List (List ℕ)) (starts : List ℕ) → sequence_from 0 None shares ≡ Ok (Some s)
    → text ≡ s.content → units_placed (units_from 0 0 text) ≡ Ok units → starts ≡ starts_from 0 units → bad_reserved 0 starts shares ≡ None
    → units_of shares ≡ Ok units
units_whole shares s text units starts whole text_is read starts_are good =
    ap (units_in shares) whole
    ∙ ap (reserved_units shares) (ap (units_from 0 0) (sym text_is) ∙ text_read (units_from 0 0 text) units read)
    ∙ ap (λ (o : Option ℕ). option_map_or (λ i. Err (BadReserved i)) o (Ok units)) (ap (λ (l : List ℕ). bad_reserved 0 l shares) (sym starts_are) ∙ good)
