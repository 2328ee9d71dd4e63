-- What a script comes to, by what its parts do.
use Rattle.std.proofs.Common.{◌≡◌, ◌∙◌, ℕ, List, map, drop, length, Result, Ok, Err, None, Vec, ap, ap₂, subst}
use Rattle.std.specs.declared.alloc.Global.{Global}
use Rattle.data_header.specs.Headers.{Roots}
use Rattle.da_wire.specs.declared.frames.RawFrame.{RawFrame}
use Rattle.da_wire.specs.Reading.{Raw}
use Rattle.da_wire.specs.Walks.{walk_from}
use Rattle.da_net.specs.declared.items.Item.{Item}
use Rattle.da_net.specs.Networks.{NodeKind}
use Rattle.da_net.specs.Nets.{NetParts, fresh}
use Rattle.da_script.specs.declared.playing.PlayError.{PlayError}
use Rattle.da_script.specs.declared.playing.PlayError.TheVariants.{BadScript, Nodes, NoMemory}
use Rattle.da_script.specs.declared.reading.Counts.{Counts}
use Rattle.da_script.specs.declared.reading.Move.{Move}
use Rattle.da_script.specs.Scripts.{full_count, draws_of, front_size, move_at, moves_of, bad_script}
use Rattle.da_script.specs.Plays.{items_in, item_sizes, light_of, pooling, put_bytes, first_net, TellsPlay, Plays}
use Rattle.da_script.specs.Parts.{AreFramesOf, AreCounts, IsMadeNet, IsPlayed}
use Rattle.da_script.proofs.CountLemmas.{item_count}

-- why there is no network is why there are no lines
pub made_played : (header : Roots) (sizes : List ℕ) (items : List Item) (moves : List Move) (script : List ℕ) (why : PlayError)
    → IsMadeNet header sizes moves script (Err why) → IsPlayed header sizes items moves script (Err why)
made_played header sizes items moves script (BadScript at) made = made
made_played header sizes items moves script Nodes made = made
made_played header sizes items moves script NoMemory made = made

-- what a script that is in its form comes to
pub played_plays : (header : Roots) (frames : List Raw) (script : List ℕ) (r : Result (Vec ℕ Global) PlayError)
    → bad_script (length (items_in frames)) script ≡ None
    → IsPlayed header (item_sizes frames) (items_in frames) (moves_of (length (items_in frames)) script) script r → Plays header frames script r
played_plays header frames script (Ok text) none played = (none, played.0, played.1)
played_plays header frames script (Err (BadScript at)) none played = absurd played
played_plays header frames script (Err Nodes) none played = (none, played)
played_plays header frames script (Err NoMemory) none played = tt

-- the events of a script, over as many items as there are frames of them
pub same_moves : (frames : List RawFrame) (items : List Item) (script bytes : List ℕ) → AreFramesOf frames items → bytes ≡ drop (front_size script) script
    → walk_from (move_at (length frames)) 0 bytes ≡ moves_of (length items) script
same_moves frames items script bytes are is = ap₂ (λ (n : ℕ) (l : List ℕ). walk_from (move_at n) 0 l) (item_count frames items are) is

-- the counts of events are those of the same events
pub same_counts : (sizes : List ℕ) (counts : Counts) (read moves : List Move) → counts.moves ≡ length read → counts.pooling ≡ pooling read
    → counts.bytes ≡ put_bytes sizes read → read ≡ moves → AreCounts sizes counts moves
same_counts sizes counts read moves all some bytes same = record {
  moves_are = all ∙ ap (λ (l : List Move). length l) same;
  pooling_are = some ∙ ap pooling same;
  bytes_are = bytes ∙ ap (put_bytes sizes) same;
}

-- what is told of the same events over the same network
pub same_told : (items : List Item) (one other : NetParts) (read moves : List Move) (w : List ℕ) → one ≡ other → read ≡ moves → TellsPlay items one read w
    → TellsPlay items other moves w
same_told items one other read moves w net same told =
    subst (λ (n : NetParts). TellsPlay items n moves w) net (subst (λ (l : List Move). TellsPlay items one l w) same told)

-- the network of these nodes and counts is the first one
pub first_is : (header : Roots) (script : List ℕ) (moves : List Move) (counts : Counts) (sizes : List ℕ) (fulls : ℕ) (kinds : List NodeKind) → fulls ≡ full_count script
    → kinds ≡ map (light_of header.k) (draws_of script) → AreCounts sizes counts moves
    → fresh header fulls kinds counts.pooling counts.moves ≡ first_net header moves script
first_is header script moves counts sizes fulls kinds fulls_are kinds_are are =
    ap₂ (λ (n : ℕ) (l : List NodeKind). fresh header n l counts.pooling counts.moves) fulls_are kinds_are
    ∙ ap₂ (λ (items steps : ℕ). fresh header (full_count script) (map (light_of header.k) (draws_of script)) items steps) are.pooling_are are.moves_are
