-- How tables stand at set-up.
use Rattle.std.specs.Prelude.{◌≡◌, ℕ, ◌*◌, ◌<◌, cond, List, length, nat_lt, replicate, slice_index_or}
use Rattle.units.specs.declared.number.Geometry.{Geometry}
use Rattle.tree.specs.declared.place.Table.{Table}
use Rattle.tree.specs.declared.place.Table.TheVariants.{Missing, Free}
use Rattle.tree.specs.Places.{table_at, place}
use Rattle.table_meaning.specs.Choosing.{accepts}

-- of T tables for C cards, those of the cards' numbers are roots and the others are free
abbrev pub start_of : ℕ → ℕ → ℕ → Table
start_of C T t = cond (nat_lt t T) (cond (nat_lt t C) (place 4 t) Free) Missing

abbrev pub Started : ℕ → ℕ → List Table → Type 0
Started C T ts = (t : ℕ) → table_at ts t ≡ start_of C T t

-- each word of T tables is 0
abbrev pub Cleared : ℕ → List ℕ → Type 0
Cleared T ws = (i : ℕ) → i < T * 512 → slice_index_or ws i 0 ≡ 0

-- the words that a set-up leaves: all 0, or as they were where it is refused
abbrev pub words_left : Geometry → ℕ → List ℕ → List ℕ
words_left g T ws = cond (accepts g T (length ws)) (replicate (length ws) 0) ws
