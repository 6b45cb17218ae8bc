-- Main memory byte by byte, and the moves of bytes that calls make.
use Rattle.std.specs.Prelude.{ℕ, ◌+◌, ◌-◌, Bool, cond, ◌&&◌, List, length, nat_le, nat_lt, slice_index}

-- the byte at each address
abbrev pub Bytes : Type 0
Bytes = ℕ → ℕ

-- a slice, byte by byte
unfoldable pub bytes_of : List ℕ → Bytes
bytes_of m p = slice_index m p

-- q is one of n numbers from a
abbrev pub within : ℕ → ℕ → ℕ → Bool
within a n q = nat_le a q && nat_lt q (a + n)

-- n bytes from `to` on made 0
unfoldable pub clear : ℕ → ℕ → Bytes → Bytes
clear to n x q = cond (within to n q) 0 (x q)

-- n bytes copied to `to` from `from`
unfoldable pub copy : ℕ → ℕ → ℕ → Bytes → Bytes
copy to from n x q = cond (within to n q) (x (from + (q - to))) (x q)

-- the bytes t written at a
unfoldable pub paste : ℕ → List ℕ → Bytes → Bytes
paste a t x q = cond (within a (length t) q) (slice_index t (q - a)) (x q)

-- the answer buffer t after n bytes from a on were read into it; its further bytes stay
unfoldable pub read_into : List ℕ → ℕ → ℕ → Bytes → Bytes
read_into t n a x i = cond (nat_lt i n) (x (a + i)) (slice_index t i)
