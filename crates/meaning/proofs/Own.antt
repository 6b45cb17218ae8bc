-- A buffer that lands at its own address: the copies change nothing.
use Rattle.std.proofs.Common.{◌≡◌, ℕ, ◌+◌, ◌-◌, ◌/◌, Bool, true, false, cond, ◌&&◌, sym, refl, ap, ◌∙◌, inl, inr, arith}
use mathlib.Core.Path.{fun_ext}
use Rattle.std.proofs.lemmas.Bool.{cases_Bool}
use Rattle.units.specs.declared.mapping.Mapping.{Mapping}
use Rattle.units.specs.declared.mapping.Sync.{Sync}
use Rattle.units.specs.declared.mapping.Sync.TheVariants.{ForCpu, ForCard}
use Rattle.units.specs.Directions.{rights_of}
use Rattle.meaning.specs.Memory.{Bytes, within, copy}
use Rattle.meaning.specs.Mappings.{lands_on}
use Rattle.meaning.specs.Effects.{copy_in, copy_back, copy_at_unmap, copy_at_sync}
use Rattle.meaning.proofs.Facts.{within_true}

same_byte : (a b n : ℕ) (x : Bytes) (q : ℕ) → a ≡ b → cond (within b n q) (x (a + (q - b))) (x q) ≡ x q
same_byte a b n x q e = elim (cases_Bool (within b n q)) [
  | inl t ↦ (let low = (within_true b n q t).0 in let here : a + (q - b) ≡ q = omega arith in cc)
  | inr f ↦ cc
]

copy_own : (a b n : ℕ) (x : Bytes) → a ≡ b → copy b a n x ≡ x
unfolding copy
copy_own a b n x e = fun_ext (λ q. same_byte a b n x q e)

either_way : (b : Bool) (x y : Bytes) → y ≡ x → cond b y x ≡ x
either_way true x y e = e
either_way false x y e = refl

module _ (m : Mapping) (own : m.landing ≡ m.buffer.address) (x : Bytes) where
  pub own_in : copy_in (λ f. false) m x ≡ x
  unfolding copy_in
  own_in = fun_ext (λ q. ap (λ (z : ℕ). cond (within m.landing m.buffer.length q) (x (m.buffer.address + (q - m.landing))) z) (outside q)
      ∙ same_byte m.buffer.address m.landing m.buffer.length x q (sym own))
    where
      nothing : (b : Bool) (q : ℕ) → cond (b && false) 0 (x q) ≡ x q
      nothing true q = refl
      nothing false q = refl

      outside : (q : ℕ) → cond (lands_on m (q / 4096) && false) 0 (x q) ≡ x q
      outside q = nothing (lands_on m (q / 4096)) q

  back : copy_back m x ≡ x
  back = either_way (rights_of m.direction).write x _ (copy_own m.landing m.buffer.address m.buffer.length x own)

  pub own_unmap : copy_at_unmap m x ≡ x
  own_unmap = back

  pub own_sync : (s : Sync) → copy_at_sync s m x ≡ x
  own_sync ForCpu = back
  own_sync ForCard = either_way (rights_of m.direction).read x _ (copy_own m.buffer.address m.landing m.buffer.length x (sym own))
