-- The parts of a page's number by which a walk finds its way: 9 bits for each level.
use Rattle.std.specs.Prelude.{ℕ, zero, suc, ◌/◌, ◌%◌, ◌^◌, List, [], ◌∷◌}

-- what a page's number has in common with all pages below its table of level l: the number without its lowest l parts
abbrev pub prefix : ℕ → ℕ → ℕ
prefix zero q = q
prefix (suc l) q = prefix l q / 512

-- the index in a table of level l + 1: of device address v, bits 20-12, 29-21, 38-30 and 47-39 for l = 0 to 3
abbrev pub index : ℕ → ℕ → ℕ
index l q = prefix l q % 512

-- the indices of levels 4, 3, 2 and 1
abbrev pub indices_of : ℕ → List ℕ
indices_of q = index 3 q ∷ index 2 q ∷ index 1 q ∷ index 0 q ∷ []

-- the 9 bits of a device address from bit k on
abbrev pub bits_from : ℕ → ℕ → ℕ
bits_from k v = v / 2 ^ k % 512
