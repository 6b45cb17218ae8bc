-- Numbers as bytes, lowest byte first.
use Rattle.std.specs.Prelude.{ℕ, zero, suc, ◌+◌, ◌*◌, ◌/◌, ◌%◌, List, [], ◌∷◌}

-- the number that the first k bytes write
abbrev pub little : ℕ → List ℕ → ℕ
little zero bytes = 0
little (suc k) [] = 0
little (suc k) (b ∷ bytes) = b + 256 * little k bytes

-- n in k bytes
abbrev pub bytes_of : ℕ → ℕ → List ℕ
bytes_of zero n = []
bytes_of (suc k) n = n % 256 ∷ bytes_of k (n / 256)
