-- A call on a layer that is let pass: what it answers, leaves open, moves and has the mapper below do.
use Rattle.mapper.specs.declared.laws.Meaning.{Ghosts as Meaning}
use Rattle.std.proofs.Common.{◌≡◌, ℕ, ◌*◌, ◌<◌, true, List, length, Some, ltb, eqb, is_some, ◌&&◌, Option, subst, inl, inr, arith}
use Rattle.std.proofs.lemmas.Bool.{cases_Bool, cond-false, ltb-true, eqb-true, and_parts}
use Rattle.units.specs.declared.fault.FaultKind.TheVariants.{NoCard, OutsideMemory, OtherMapping, WrongHolder}
use Rattle.units.specs.declared.mapping.Mapping.{Mapping}
use Rattle.units.specs.declared.mapping.Sync.{Sync}
use Rattle.units.specs.Directions.{code_of}
use Rattle.units.specs.Holders.{turned_by}
use Rattle.meaning.specs.Memory.{bytes_of}
use Rattle.meaning.specs.Mappings.{find}
use Rattle.meaning.specs.Worlds.{World, world}
use Rattle.meaning.specs.Calls.{Call, Answer}
use Rattle.meaning.specs.Checks.{fine, ◌then◌, is_card, is_direction, is_memory, as_opened, turnable, unmap_checks, sync_checks, verdict}
use Rattle.meaning.specs.Effects.{accepted, moved, said}
use Rattle.meaning.proofs.Verdicts.{then_fine, unless_fine}
use Rattle.mapper.specs.Tasks.{Task}
use Rattle.mapper.specs.Called.{seen}
use Rattle.layer.specs.Choosing.{layer_kind}
use Rattle.layer.specs.Pools.{if_pool}
use Rattle.pool.specs.declared.pool.Pool.{Pool}
use Rattle.layer_steps.specs.After.{LeftOver}
use Rattle.layer_steps.specs.Tied.{setup_over, open_over, Tied}

module _ {M : Type 0} (I : Meaning M) (m : M) (q : Pool) (x : List ℕ) where
  -- the layer, handed the memory x
  abbrev pub world_over : World
  world_over = world (layer_kind I.kind) (setup_over I m q) (length x)

  pub record Step (m' : M) (q' : Pool) (x' : List ℕ) (k : Call) (task : Task) (a : Answer) : Type 0 where
    pub set : I.setup m' ≡ I.setup m
    pub first : q'.first.0 ≡ q.first.0
    pub count : q'.count ≡ q.count
    pub passes : verdict world_over (open_over I m q) k ≡ fine
    pub says : a ≡ said world_over (seen (open_over I m q) x) k
    pub opens : open_over I m' q' ≡ accepted world_over (open_over I m q) k
    pub moves : bytes_of x' ≡ moved world_over (open_over I m q) (bytes_of x) k
    pub tied : Tied I m' q'
    pub left : LeftOver I m q task m' q'

-- a layer with cards has a pool
pub some_pool : (c count n : ℕ) → c < if_pool count n → 0 < count
some_pool c count n h = elim (cases_Bool (ltb 0 count)) [
  | inl t ↦ ltb-true 0 count t
  | inr f ↦ (let none = cond-false (ltb 0 count) n 0 f in absurd (omega arith))
]

-- what an unmap that passes names
pub record Named (W : World) (o : List Mapping) (c v d n : ℕ) (m : Mapping) : Type 0 where
  pub card : c < W.cards
  pub memory : W.size ≡ W.frames * 4096
  pub len : m.buffer.length ≡ n
  pub direction : code_of m.direction ≡ d

pub named : (W : World) (o : List Mapping) (c v d n : ℕ) (m : Mapping) → unmap_checks W o c d v n ≡ fine → find o c v ≡ Some m → Named W o c v d n m
named W o c v d n m e f =
    let a = then_fine (is_card W c) (is_direction d then is_memory W then as_opened (find o c v) v d n) e in
    let b = then_fine (is_direction d) (is_memory W then as_opened (find o c v) v d n) a.1 in
    let g = then_fine (is_memory W) (as_opened (find o c v) v d n) b.1 in
    let same : as_opened (Some m) v d n ≡ fine = subst (λ (z : Option Mapping). as_opened z v d n ≡ fine) f g.1 in
    let p = and_parts (eqb m.buffer.length n) (eqb (code_of m.direction) d) (unless_fine (eqb m.buffer.length n && eqb (code_of m.direction) d) OtherMapping m.buffer.length same) in
    record {
      card = ltb-true c W.cards (unless_fine (ltb c W.cards) NoCard c a.0);
      memory = eqb-true W.size (W.frames * 4096) (unless_fine (eqb W.size (W.frames * 4096)) OutsideMemory (W.frames * 4096) g.0);
      len = eqb-true m.buffer.length n p.0;
      direction = eqb-true (code_of m.direction) d p.1;
    }

-- what a sync that passes turns
pub record Turns (W : World) (c : ℕ) (s : Sync) (m : Mapping) : Type 0 where
  pub card : c < W.cards
  pub memory : W.size ≡ W.frames * 4096
  pub turns : is_some (turned_by m.holder s) ≡ true

pub turns_named : (W : World) (o : List Mapping) (c v : ℕ) (s : Sync) (m : Mapping) → sync_checks W o s c v ≡ fine → find o c v ≡ Some m → Turns W c s m
turns_named W o c v s m e f =
    let a = then_fine (is_card W c) (is_memory W then turnable (find o c v) v s) e in
    let g = then_fine (is_memory W) (turnable (find o c v) v s) a.1 in
    let same : turnable (Some m) v s ≡ fine = subst (λ (z : Option Mapping). turnable z v s ≡ fine) f g.1 in
    record {
      card = ltb-true c W.cards (unless_fine (ltb c W.cards) NoCard c a.0);
      memory = eqb-true W.size (W.frames * 4096) (unless_fine (eqb W.size (W.frames * 4096)) OutsideMemory (W.frames * 4096) g.0);
      turns = unless_fine (is_some (turned_by m.holder s)) WrongHolder v same;
    }
