-- When a run of pool frames may be given back.
use Rattle.std.specs.Prelude.{◌≡◌, ℕ, ◌/◌, true, List, Some}
use Rattle.units.specs.declared.buffer.Buffer.{Buffer}
use Rattle.units.specs.declared.mapping.Mapping.{Mapping}
use Rattle.units.specs.Buffers.{span}
use Rattle.meaning.specs.Memory.{within}
use Rattle.meaning.specs.Mappings.{In, Lands}
use Rattle.pool.specs.declared.pool.Pool.{Pool}
use Rattle.pool.specs.Lending.{loan_in}

-- of these open mappings none lands in the frames that are lent from frame f on
abbrev pub Unlanded : Pool → List Mapping → ℕ → Type 0
Unlanded q p f = (b : Buffer) → loan_in q f ≡ Some b → (m : Mapping) → In m p → (a : ℕ) → Lands m a → within f (span b.address b.length) (a / 4096) ≡ true → ⊥
