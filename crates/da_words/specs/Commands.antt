-- Which commands can be run.
use Rattle.std.specs.Prelude.{◌≡◌, ℕ, ◌&&◌, nat_le, Bool, true, ⊤}
use Rattle.namespace_id.specs.Cells.{is_width}
use Rattle.da_words.specs.declared.command.Command.{Command}
use Rattle.da_words.specs.declared.command.Command.TheVariants.{Demo}

-- whether a trial may have this width
abbrev pub is_trial_width : ℕ → Bool
is_trial_width k = is_width k && nat_le 2 k

-- a command can be run: the width of a demo is a trial's
abbrev pub IsRunnable : Command → Type 0
IsRunnable (Demo number k) = is_trial_width k ≡ true
IsRunnable command = ⊤
