-- What the bits of a table word say: bit 0 read, bit 1 write, bits 12 to 51 a number, every other bit 0.
use Rattle.std.specs.Prelude.{ℕ, ◌+◌, ◌*◌, ◌/◌, ◌%◌, ◌^◌, Bool, true, false, ◌&&◌, ◌||◌, ◌==◌, nat_lt}
use Rattle.units.specs.declared.direction.Rights.{Rights}

abbrev pub bit : Bool → ℕ
bit true = 1
bit false = 0

-- the word with these rights and this number
abbrev pub word_of : Rights → ℕ → ℕ
word_of r n = bit r.read + 2 * bit r.write + 4096 * n

-- the rights of bits 0 and 1
abbrev pub rights_in : ℕ → Rights
rights_in w = record { read = w % 2 == 1; write = w / 2 % 2 == 1 }

-- the number of bits 12 to 51
abbrev pub number_in : ℕ → ℕ
number_in w = w / 4096 % 2 ^ 40

-- bits 2 to 11 and those above 51 are 0
abbrev pub is_clear : ℕ → Bool
is_clear w = w / 4 % 1024 == 0 && nat_lt w (2 ^ 52)

-- a word with a right
abbrev pub is_present : ℕ → Bool
is_present w = (rights_in w).read || (rights_in w).write

-- a word that can exist: its reserved bits are 0, and one with neither right is 0 altogether
abbrev pub can_exist : ℕ → Bool
can_exist w = is_clear w && (is_present w || w == 0)

-- both rights, as each word above level 1 has
abbrev pub both : Rights
both = record { read = true; write = true }
