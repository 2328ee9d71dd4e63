-- How many bytes frames have that are appended to a text.
use Rattle.std.specs.Prelude.{ℕ, ◌+◌, ◌*◌}

-- the bytes of the frame of a refusal
abbrev pub refusal_size : ℕ
refusal_size = 5 + 9

-- the most bytes of a frame of missing cells of a square of width k: a head, a width, a count, and four bytes for each cell
abbrev pub most_missing : ℕ → ℕ
most_missing k = 11 + 4 * (2 * k * (2 * k))
