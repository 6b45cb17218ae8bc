-- Card A's own call in one of two runs: their memories stay tied.
use Rattle.std.proofs.Common.{◌≡◌, ℕ, ◌+◌, ◌-◌, ◌/◌, true, List, length, subst, ◌∙◌, arith, ◌↔◌}
use Rattle.std.proofs.lemmas.Bool.{eqb-true, false≢true}
use Rattle.units.specs.declared.direction.Access.TheVariants.{Write}
use Rattle.units.specs.declared.mapping.Holder.{Holder}
use Rattle.units.specs.declared.mapping.Mapping.{Mapping}
use Rattle.units.specs.Directions.{rights_of}
use Rattle.meaning.specs.Memory.{Bytes, paste}
use Rattle.meaning.specs.Mappings.{Lands, reach_of, turned}
use Rattle.meaning.specs.Worlds.{Setup, Kind, world}
use Rattle.meaning.specs.Calls.{Call, map, unmap, sync, cpu_read, cpu_write, card_read, card_write, report}
use Rattle.meaning.specs.Checks.{Verdict, fine, errs, verdict}
use Rattle.meaning.specs.Effects.{on_fine, accepted, moved, reached_byte}
use Rattle.isolation.specs.Lists.{is_own}
use Rattle.isolation.proofs.Landing.{Lawful}
use Rattle.isolation.proofs.Tied.{Tied, one_write}
use Rattle.isolation.proofs.Passing.{site}

-- card A may write through the mapping
pub record Writable (A : ℕ) (m : Mapping) : Type 0 where
  pub card : m.card.0 ≡ A
  pub writes : (rights_of m.direction).write ≡ true

pub writable_turned : (A : ℕ) (h : Holder) (m : Mapping) → Writable A m ↔ Writable A (turned h m)
writable_turned A h m = ((λ w. record { card = w.card; writes = w.writes }), (λ w. record { card = w.card; writes = w.writes }))

module _ (K : Kind) (S : Setup) (n A : ℕ) (G : ℕ → Type 0) (o : List Mapping) (x y : Bytes)
    (laws : Lawful S (K.reserved S) o) (t : Tied (K.reserved S) (Writable A) G o x y) where
  -- through the mapping reached
  written : (c v : ℕ) (s : List ℕ) → c ≡ A → verdict (world K S n) o (card_write c v s) ≡ fine
      → Tied (K.reserved S) (Writable A) G o (paste (reached_byte (reach_of o c (v / 4096)) v) s x) y
  unfolding verdict
  written c v s own e =
      let h = site S o laws.pages (world K S n) Write c v (length s) (length s) (K.level S o c (v / 4096)) e in
      let a = reached_byte (reach_of o c (v / 4096)) v in
      one_write S (K.reserved S) (Writable A) G o x y laws t h.mapping h.is_open (record { card = h.card ∙ own; writes = h.right }) a s
      (λ q f l. let i : a + (q - a) ≡ q = omega arith in subst (Lands h.mapping) i (h.lands (q - a) (omega arith)))

  pub own_tied : (c : Call) (w : Verdict) → verdict (world K S n) o c ≡ w → is_own A c ≡ true
      → Tied (K.reserved S) (Writable A) G (on_fine w (accepted (world K S n) o c) o) (on_fine w (moved (world K S n) o x c) x) y
  own_tied c (errs f) e own = t
  own_tied (map r) fine e own = absurd (false≢true own)
  own_tied (unmap c d v l) fine e own = absurd (false≢true own)
  own_tied (sync k c v) fine e own = absurd (false≢true own)
  own_tied (cpu_read a l b) fine e own = absurd (false≢true own)
  own_tied (cpu_write a b) fine e own = absurd (false≢true own)
  own_tied (card_read c v l b) fine e own = t
  own_tied (card_write c v b) fine e own = written c v b (eqb-true c A own) e
  own_tied (report c) fine e own = t
