-- The powers of two up to 1,024, and how often they are halved.
use Rattle.std.specs.Prelude.{ℕ, ◌==◌, ◌||◌, Bool, if◌then◌else◌}

-- whether a number is a power of two from 1 to 1,024
abbrev pub is_power : ℕ → Bool
is_power n = (n == 1) || (n == 2) || (n == 4) || (n == 8) || (n == 16) || (n == 32) || (n == 64) || (n == 128) || (n == 256) || (n == 512) || (n == 1024)

-- how often such a number is halved until it is 1
abbrev pub halvings : ℕ → ℕ
halvings n =
    if n == 1 then 0 else
    (if n == 2 then 1 else
    (if n == 4 then 2 else
    (if n == 8 then 3 else
    (if n == 16 then 4 else
    (if n == 32 then 5 else
    (if n == 64 then 6 else
    (if n == 128 then 7 else
    (if n == 256 then 8 else
    (if n == 512 then 9 else 10)))))))))
