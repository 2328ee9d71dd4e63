-- What `net` writes under the header of a square.
use Rattle.std.proofs.Common.{◌≡◌, ℕ, Bool, true, false, List, length, ap}
use Rattle.data_header.specs.Headers.{Roots}
use Rattle.square_layout.specs.Blocks.{SquareShares}
use Rattle.da_wire.specs.Reading.{Raw}
use Rattle.da_script.specs.Scripts.{moves_of}
use Rattle.da_script.specs.Plays.{items_in, item_sizes, is_refused, first_net, TellsPlay}
use Rattle.da_script.specs.Alarms.{TellsOwn}
use Rattle.da_script.proofs.LetterLemmas.{has_c}
use Rattle.da_script.proofs.AlarmLemmas.{says_none}
use Rattle.da_status.specs.declared.status.Status.{Status}
use Rattle.da_status.specs.declared.status.Status.TheVariants.{Done}
use Rattle.da_commands.specs.Net.{Limited, Nets}

-- it says that a node rejects or has a collision only where an item names one, by what is known of the lines of this script
pub nets_own : (header : Roots) (frames : List Raw) (script : List ℕ) (square : SquareShares) (w : List ℕ) (status : Status)
    → (TellsPlay (items_in frames) (first_net header (moves_of (length (items_in frames)) script) script) (moves_of (length (items_in frames)) script) w
    → TellsOwn (items_in frames) square w)
    → Nets header frames script w status → TellsOwn (items_in frames) square w
nets_own header frames script square w status known answers =
    by (is_refused header.k (item_sizes frames) (moves_of (length (items_in frames)) script) script) answers
  where
    by : (over : Bool) → Limited over
        (λ w status. TellsPlay (items_in frames) (first_net header (moves_of (length (items_in frames)) script) script)
        (moves_of (length (items_in frames)) script) w × (status ≡ Done)) w status → TellsOwn (items_in frames) square w
    by true (empty, refused) = λ says. absurd (says_none w (ap has_c empty) says)
    by false (told, done) = known told
