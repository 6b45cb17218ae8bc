-- What is known once the checks have let an access pass: where its bytes lie.
use Rattle.std.proofs.Common.{◌≡◌, ℕ, ◌+◌, ◌-◌, ◌*◌, ◌/◌, ◌%◌, ◌<◌, ◌≤◌, true, false, List, Some, None, Option, unwrap_or, refl, ap, inl, inr, arith, ◌⊎◌, zero, suc}
use Rattle.units.specs.declared.direction.Access.{Access}
use Rattle.units.specs.declared.fault.FaultKind.TheVariants.{ReservedFrame, Lacking}
use Rattle.units.specs.declared.mapping.Mapping.{Mapping}
use Rattle.units.specs.declared.mapping.Reach.{Reach}
use Rattle.units.specs.Buffers.{span}
use Rattle.units.specs.Directions.{allows, coded, rights_of}
use Rattle.meaning.specs.Mappings.{In, Lands, reach_of, first_frame, first_page, page_count}
use Rattle.meaning.specs.Worlds.{Setup, World}
use Rattle.meaning.specs.Laws.{DisjointPages}
use Rattle.meaning.specs.Checks.{fine, is_card, is_access, in_memory, is_memory, none_reserved, one_page, allowed, cpu_checks, card_checks}
use Rattle.meaning.specs.Effects.{direction_of, reached_byte}
use Rattle.meaning.proofs.Facts.{page_fact}
use Rattle.meaning.proofs.Reaching.{through}
use Rattle.meaning.proofs.Verdicts.{then_fine, unless_fine, none_of_lem, card_access}
use Rattle.isolation.proofs.Moves.{lands_reached, frames_held}

-- no byte that the CPU reaches is reserved
pub cpu_clean : (W : World) (o : List Mapping) (a n room : ℕ) → cpu_checks W o a n room ≡ fine
    → (i : ℕ) → i < n → W.reserved ((a + i) / 4096) ≡ false
cpu_clean W o a n room e i l =
    let m = then_fine (is_access n room) _ e in
    let r = then_fine (in_memory W a n) _ m.1 in
    let h = then_fine (none_reserved W.reserved (a / 4096) (span a n)) _ r.1 in
    let f = frames_held a n (a + i) (omega arith) (omega arith) in
    none_of_lem ReservedFrame W.reserved (a / 4096) (span a n) h.0 ((a + i) / 4096) f.0 f.1

allowed_fine : (r : Option Reach) (l : ℕ) (a : Access) → allowed r l a ≡ fine → (s : Reach) × (r ≡ Some s) × (allows a s.rights ≡ true)
allowed_fine None l a e = absurd (cc)
allowed_fine (Some s) l a e = (s, refl, unless_fine (allows a s.rights) Lacking l e)

-- an open mapping of card c, through which its access of n bytes from device address v goes
pub record Site (o : List Mapping) (a : Access) (c v n : ℕ) : Type 0 where
  pub mapping : Mapping
  pub is_open : In mapping o
  pub card : mapping.card.0 ≡ c
  pub right : allows a (rights_of mapping.direction) ≡ true
  pub lands : (i : ℕ) → i < n → Lands mapping (reached_byte (reach_of o c (v / 4096)) v + i)
  pub lies : (i k : ℕ) → reached_byte (reach_of o c (v / 4096)) v + i ≡ mapping.landing + k → v + i ≡ mapping.device.0 + k

pub site : (S : Setup) (o : List Mapping) → DisjointPages S o → (W : World) (a : Access) (c v n room l : ℕ)
    → card_checks W c v n room (allowed (reach_of o c (v / 4096)) l a) ≡ fine → Site o a c v n
site S o law W a c v n room l e =
    let w = allowed (reach_of o c (v / 4096)) l a in
    let page = (card_access W c v n room w e).page in
    let h1 = then_fine (is_card W c) _ e in
    let h2 = then_fine (is_access n room) _ h1.1 in
    let h3 = then_fine (is_memory W) _ h2.1 in
    let r = allowed_fine (reach_of o c (v / 4096)) l a (then_fine (one_page v n) w h3.1).1 in
    let s = r.0 in
    let t = through o c (v / 4096) s r.1 in
    let m = t.mapping in
    let f = page_fact c (v / 4096) m t.page in
    let j = v / 4096 - first_page m in
    let low = f.1.from in
    let high = f.1.to in
    let below : j < page_count m = omega arith in
    let frame : first_frame m + j ≡ s.frame.0 = ap (λ (z : Option Reach). (unwrap_or z s).frame.0) t.leads in
    let b = reached_byte (reach_of o c (v / 4096)) v in
    let at_frame : b ≡ s.frame.0 * 4096 + v % 4096 = ap (λ (z : Option Reach). reached_byte z v) r.1 in
    let rights : allows a (rights_of m.direction) ≡ allows a s.rights = ap (λ (z : Option Reach). allows a (unwrap_or z s).rights) t.leads in
    record {
      mapping = m;
      is_open = t.is_open;
      card = f.0;
      right = cc;
      lands = λ i k. lands_reached m s.frame.0 j 0 (b + i) (omega arith) below (omega arith) (omega arith);
      lies = λ i k u. omega (arith, law.offset_device m t.is_open, law.offset_landing m t.is_open);
    }

-- the numbers of the directions under which a card may write
pub writes_number : (d : ℕ) → d ≤ 2 → (rights_of (direction_of (coded d))).write ≡ true → (d ≡ 0) ⊎ (d ≡ 2)
writes_number zero l e = inl refl
writes_number (suc zero) l e = absurd (cc)
writes_number (suc (suc zero)) l e = inr refl
writes_number (suc (suc (suc d))) l e = absurd (omega arith)
