-- Walks over the events of a script.
use Rattle.std.proofs.Common.{◌≡◌, ◌∙◌, ℕ, ◌≤◌, List, drop, length, Option, Some, None, Bool, if◌then◌else◌, sym, ap}
use Rattle.std.specs.Option.{option_map}
use Rattle.std.proofs.lemmas.Bool.{le-ltb}
use Rattle.da_wire.specs.Walks.{stop_from}
use Rattle.da_script.specs.declared.reading.Move.{Move}
use Rattle.da_script.specs.Scripts.{front_size, move_at, bad_script}

-- an event that was read stands there, with its length
pub found_here : (o : Option Move) (read : Option (Move × ℕ)) (one : Move) → option_map (λ move. (move, 7)) o ≡ read → o ≡ Some one → read ≡ Some (one, 7)
found_here o read one value is = sym value ∙ ap (λ (x : Option Move). option_map (λ move. (move, 7)) x) is

-- and none does where none was read
pub missed_here : (o : Option Move) (read : Option (Move × ℕ)) → option_map (λ move. (move, 7)) o ≡ read → o ≡ None → read ≡ None
missed_here o read value is = sym value ∙ ap (λ (x : Option Move). option_map (λ move. (move, 7)) x) is

-- behind the front the first bad event decides
pub bad_behind : (items : ℕ) (script : List ℕ) → front_size script ≤ length script
    → bad_script items script ≡ stop_from (move_at items) 0 (front_size script) (drop (front_size script) script)
bad_behind items script within =
    ap (λ (b : Bool). if b then Some 0 else stop_from (move_at items) 0 (front_size script) (drop (front_size script) script))
    (le-ltb (length script) (front_size script) within)
