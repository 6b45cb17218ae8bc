-- Words for a buffer of n bytes from address a.
use Rattle.std.specs.Prelude.{ℕ, ◌+◌, ◌/◌, ◌%◌, Bool, ◌&&◌, ◌==◌}

-- frames that the buffer touches
abbrev pub span : ℕ → ℕ → ℕ
span a n = (a % 4096 + n + 4095) / 4096

-- address and length are multiples of a frame
abbrev pub whole : ℕ → ℕ → Bool
whole a n = a % 4096 == 0 && n % 4096 == 0
