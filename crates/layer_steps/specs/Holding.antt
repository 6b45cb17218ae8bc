-- Which bytes a card holds above, by what it holds below and the loans.
use Rattle.std.specs.Prelude.{ℕ, ◌*◌, ◌/◌, Bool, false, not, ◌&&◌, List, Some, None, Option}
use Rattle.std.specs.List.{list_any, range_with_len}
use Rattle.units.specs.declared.buffer.Buffer.{Buffer}
use Rattle.units.specs.declared.mapping.Mapping.{Mapping}
use Rattle.meaning.specs.Memory.{within}
use Rattle.meaning.specs.Mappings.{held}
use Rattle.layer.specs.Lifting.{Loans}
use Rattle.pool.specs.declared.pool.Pool.{Pool}
use Rattle.pool.specs.Lending.{loan_in}

-- byte b is outside the pool, and held below
abbrev pub held_below : Pool → List Mapping → ℕ → Bool
held_below q p b = not (within q.first.0 q.count (b / 4096)) && held p b

abbrev pub held_for : Option Buffer → Bool → ℕ → Bool
held_for None h b = false
held_for (Some r) h b = within r.address r.length b && h

-- byte b is in the buffer that the run from frame f on is lent to, and the frame is held below
abbrev pub held_through : Loans → List Mapping → ℕ → ℕ → Bool
held_through loan p b f = held_for (loan f) (held p (f * 4096)) b

-- byte b is in a buffer whose frames are held below
abbrev pub held_in_pool : Pool → List Mapping → ℕ → Bool
held_in_pool q p b = list_any (held_through (loan_in q) p b) (range_with_len q.first.0 q.count)
