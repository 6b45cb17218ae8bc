-- The example's mapper shields, and its two runs, worked out.
use Rattle.std.proofs.Common.{◌≡◌, ℕ, zero, suc, ◌+◌, ◌/◌, ◌%◌, ◌<◌, ◌≤◌, Bool, true, false, cond, ◌⊎◌, List, [], ◌∷◌, Ok, Err, refl, sym, ap, subst, inl, inr, arith, nat_le}
use Rattle.std.proofs.lemmas.Bool.{both_ways, leb-true}
use Rattle.std.proofs.lemmas.Bool.Decides.{nat_tests}
use Rattle.units.specs.declared.fault.FaultKind.TheVariants.{NoFrames}
use Rattle.units.specs.declared.mapping.Holder.{Holder}
use Rattle.units.specs.declared.mapping.Mapping.{Mapping}
use Rattle.units.specs.declared.mapping.Placement.{Placement}
use Rattle.units.specs.declared.mapping.Request.{Request}
use Rattle.units.specs.Buffers.{span, whole}
use Rattle.meaning.specs.Memory.{within, copy, paste}
use Rattle.meaning.specs.Mappings.{In, Whole, Lands, Pages, page_count, starts, insert, remove, turn, turned, find, held, reach_of}
use Rattle.meaning.specs.Worlds.{Choice, world, last_of}
use Rattle.meaning.specs.Laws.{DisjointPages, Landings, Bounced}
use Rattle.meaning.specs.Calls.{unmap, cpu_write, card_read, card_write}
use Rattle.meaning.specs.Checks.{verdict, none_of}
use Rattle.meaning.specs.Effects.{new_mapping, copy_in, on_choice}
use Rattle.meaning.specs.Runs.{answers, final}
use Rattle.meaning.proofs.Verdicts.{Admitted}
use Rattle.meaning.proofs.Keeping.{Stable, opens_kept}
use Rattle.isolation.specs.Lists.{struck, struck_answers}
use Rattle.isolation.specs.Shielding.{Shielding}
use Rattle.isolation.specs.Example.{in_place, in_pool, choice, one_mapping, small, zeros, lent, written, unwritten, Example}
use Rattle.isolation.proofs.Shielding.{shielded, isolated}

-- the one mapping
record One (m : Mapping) : Type 0 where
  last : last_of small m.card.0 ≡ 1048575
  short : page_count m ≤ 8
  device : m.device.0 ≡ 4096 + m.buffer.address % 4096
  lands : (Whole m × (m.landing ≡ m.buffer.address)) ⊎ ((Whole m → ⊥) × ((m.landing ≡ 24576 + m.buffer.address % 4096) × (page_count m ≤ 2)))

abbrev AtMost : List Mapping → Type 0
AtMost [] = Unit {0}
AtMost (m ∷ []) = One m
AtMost (m ∷ n ∷ o) = ⊥

last_page : (c : ℕ) → c < 2 → last_of small c ≡ 1048575
last_page zero l = refl
last_page (suc zero) l = refl
last_page (suc (suc c)) l = absurd (omega arith)

opened : (r : Request) (p : Placement) (n : ℕ) → Admitted (world one_mapping small n) r → choice [] r ≡ Ok p → One (new_mapping r p)
opened r p n a e = go (whole r.buffer.address r.buffer.length) refl (nat_le (span r.buffer.address r.buffer.length) 2) refl e
  where
    go : (b : Bool) → whole r.buffer.address r.buffer.length ≡ b → (d : Bool) → nat_le (span r.buffer.address r.buffer.length) 2 ≡ d
        → cond {A = Choice} b (Ok (in_place r)) (cond {A = Choice} d (Ok (in_pool r)) (Err (record { kind = NoFrames; layer = 0; place = span r.buffer.address r.buffer.length }))) ≡ Ok p → One (new_mapping r p)
    go true w d s i =
        let v : 4096 ≡ p.device.0 = ap (λ (z : Choice). on_choice z 0 (λ p. p.device.0)) i in
        let l : r.buffer.address ≡ p.landing = ap (λ (z : Choice). on_choice z 0 (λ p. p.landing)) i in
        let f : r.buffer.address % 4096 ≡ 0 = grind (arith, nat_tests) in
        let g : r.buffer.length % 4096 ≡ 0 = grind (arith, nat_tests) in
        record {
          last = last_page r.card.0 a.card;
          short = a.short;
          device = omega arith;
          lands = inl (record { starts = f; ends = g }, sym l);
        }
    go false w true s i =
        let v : 4096 + r.buffer.address % 4096 ≡ p.device.0 = ap (λ (z : Choice). on_choice z 0 (λ p. p.device.0)) i in
        let l : 24576 + r.buffer.address % 4096 ≡ p.landing = ap (λ (z : Choice). on_choice z 0 (λ p. p.landing)) i in
        record {
          last = last_page r.card.0 a.card;
          short = a.short;
          device = sym v;
          lands = inr (
            (λ h. let f = h.starts in let g = h.ends in
                let t : whole r.buffer.address r.buffer.length ≡ true = grind (arith, nat_tests) in both_ways (whole r.buffer.address r.buffer.length) w t),
            (sym l, leb-true (span r.buffer.address r.buffer.length) 2 s),
          );
        }
    go false w false s i = absurd (cc)

grown : (n : ℕ) (o : List Mapping) (r : Request) (p : Placement) → Admitted (world one_mapping small n) r → choice o r ≡ Ok p → AtMost o → AtMost (insert (new_mapping r p) o)
unfolding insert
grown n [] r p a e h = opened r p n a e
grown n (m ∷ o) r p a e h = absurd (cc)

shrunk : (c v : ℕ) (o : List Mapping) → AtMost o → AtMost (remove c v o)
unfolding remove
shrunk c v [] h = tt
shrunk c v (m ∷ []) h = go (starts c v m)
  where
    go : (b : Bool) → AtMost (cond b [] (m ∷ []))
    go true = tt
    go false = h
shrunk c v (m ∷ n ∷ o) h = absurd h

turned_one : (t : Holder) (c v : ℕ) (o : List Mapping) → AtMost o → AtMost (turn t c v o)
unfolding turn
turned_one t c v [] h = tt
turned_one t c v (m ∷ []) h = go (starts c v m)
  where
    other : (Whole m × (m.landing ≡ m.buffer.address)) ⊎ ((Whole m → ⊥) × ((m.landing ≡ 24576 + m.buffer.address % 4096) × (page_count m ≤ 2)))
        → (Whole (turned t m) × (m.landing ≡ m.buffer.address)) ⊎ ((Whole (turned t m) → ⊥) × ((m.landing ≡ 24576 + m.buffer.address % 4096) × (page_count m ≤ 2)))
    other (inl w) = inl (record { starts = w.0.starts; ends = w.0.ends }, w.1)
    other (inr w) = inr ((λ x. w.0 (record { starts = x.starts; ends = x.ends })), w.1)

    go : (b : Bool) → AtMost (cond b (turned t m) m ∷ [])
    go true = record { last = h.last; short = h.short; device = h.device; lands = other h.lands }
    go false = h
turned_one t c v (m ∷ n ∷ o) h = absurd h

stable : (n : ℕ) (o : List Mapping) → Stable (world one_mapping small n) AtMost o
stable n o = record { grows = λ r p a e h. grown n o r p a e h; shrinks = λ c v h. shrunk c v o h; turns = λ t c v h. turned_one t c v o h }

only : (P : Mapping → Type 0) (k : Mapping) → P k → (m : Mapping) → In m (k ∷ []) → P m
only P k h m (inl e) = subst P (sym e) h
only P k h m (inr i) = absurd i

pages : (o : List Mapping) → AtMost o → DisjointPages small o
pages [] h = record { offset_device = λ m i. absurd i; offset_landing = λ m i. absurd i; pages_given = λ m i. absurd i; pages_apart = tt }
pages (k ∷ []) h = record {
  offset_device = only (λ m. m.device.0 % 4096 ≡ m.buffer.address % 4096) k (let e = h.device in omega arith);
  offset_landing = only (λ m. m.landing % 4096 ≡ m.buffer.address % 4096) k (elim h.lands [ inl w ↦ ap (λ (z : ℕ). z % 4096) w.1 | inr w ↦ (let e = w.1.0 in omega arith) ]);
  pages_given = only (λ m. (p : ℕ) → Pages m p → (1 ≤ p) × (p ≤ last_of small m.card.0)) k (λ p i. let e = h.device in let f = h.short in let g = h.last in
      (omega (arith, i.from), omega (arith, i.to)));
  pages_apart = ((λ n i. absurd i), tt);
}
pages (k ∷ n ∷ o) h = absurd h

pool : (m : Mapping) → One m → (Whole m → ⊥) → (q : ℕ) → Lands m q → within 6 2 (q / 4096) ≡ true
pool m h n q l = elim h.lands [ inl w ↦ absurd (n w.0) | inr w ↦ (let e = w.1.0 in let f = w.1.1 in let a : 6 ≤ q / 4096 = omega (arith, l.from) in let b : q / 4096 < 8 = omega (arith, l.to) in grind (arith, nat_tests)) ]

landing : (o : List Mapping) → AtMost o → Landings (λ f. within 6 2 f) o
landing [] h = record { lands = λ m i. absurd i; landings_apart = tt }
landing (k ∷ []) h = record {
  lands = only (λ m. (m.landing ≡ m.buffer.address → ⊥) → (Whole m → ⊥) × ((q : ℕ) → Lands m q → within 6 2 (q / 4096) ≡ true)) k
      (λ n. elim h.lands [ inl w ↦ absurd (n w.1) | inr w ↦ (w.0, pool k h w.0) ]);
  landings_apart = ((λ n i. absurd i), tt);
}
landing (k ∷ n ∷ o) h = absurd h

bounced : (o : List Mapping) → AtMost o → Bounced (λ f. within 6 2 f) o
bounced [] h = λ m i. absurd i
bounced (k ∷ []) h = only (λ m. (Whole m → ⊥) → (q : ℕ) → Lands m q → within 6 2 (q / 4096) ≡ true) k (λ n q l. pool k h n q l)
bounced (k ∷ n ∷ o) h = absurd h

shielding : Shielding one_mapping small (λ S. AtMost)
shielding = record {
  start = tt;
  kept = λ o n c h. opens_kept (world one_mapping small n) AtMost o (stable n o) h c;
  disjoint_pages = pages;
  landing = landing;
  bounced = bounced;
}

pub example : Example
unfolding struck struck_answers answers final verdict none_of find held copy paste copy_in insert remove turn reach_of
example = record {
  shields = shielded one_mapping small (λ S. AtMost) shielding;
  same = refl;
  isolated = isolated one_mapping small (λ S. AtMost) shielding 32768 0 zeros written unwritten refl;
  told_first = refl;
  told_second = refl;
  excepted = record {
    before = cpu_write 256 (65 ∷ 66 ∷ []) ∷ [];
    request = lent;
    rest = card_write 0 4353 (90 ∷ []) ∷ card_read 1 4352 1 (0 ∷ []) ∷ unmap 0 0 4352 2 ∷ [];
    made = refl;
    device = 4352;
    given = refl;
    card = refl;
    direction = inl refl;
    from = omega arith;
    to = omega arith;
  };
  written_byte = refl;
  unwritten_byte = refl;
}
