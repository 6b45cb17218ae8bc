-- That two memories stay tied where mappings are opened, closed or turned in both.
use Rattle.std.proofs.Common.{◌≡◌, ℕ, ◌+◌, ◌-◌, ◌/◌, Bool, true, false, ◌&&◌, List, sym, subst, inl, inr, arith}
use Rattle.std.proofs.lemmas.Bool.{both_ways, and_from}
use Rattle.units.specs.declared.mapping.Holder.{Holder}
use Rattle.units.specs.declared.mapping.Mapping.{Mapping}
use Rattle.meaning.specs.Memory.{Bytes}
use Rattle.meaning.specs.Mappings.{In, Holds, Lands, lands_on, insert, turned}
use Rattle.meaning.specs.Worlds.{Setup}
use Rattle.meaning.specs.Effects.{copy_in}
use Rattle.meaning.proofs.Lists.{Turned, in_insert, insert_in}
use Rattle.isolation.proofs.Moves.{copied_in, lands_or_not, lands_test, lands_byte, whole_or_not}
use Rattle.isolation.proofs.Landing.{Lawful, one_landing, whole_lands}
use Rattle.isolation.proofs.Tied.{Tied, Apart}

-- a list whose mappings all stand in o, but for the holder
pub fewer : (reserved : ℕ → Bool) (F : Mapping → Type 0) (G : ℕ → Type 0) (o p : List Mapping) (x y : Bytes) (h : Holder)
    → ((m : Mapping) → F (turned h m) → F m) → ((m : Mapping) → F m → F (turned h m))
    → ((n : Mapping) → In n p → Turned h n o) → Tied reserved F G o x y → Tied reserved F G p x y
fewer reserved F G o p x y h down up from t = record {
  plain = t.plain;
  pooled = λ n i. let f = from n i in elim f.same [
    | inl e ↦ subst Pool (sym e) (t.pooled f.was f.is_open)
    | inr e ↦ subst Pool (sym e) (λ q l r v k. t.pooled f.was f.is_open q (record { from = l.from; to = l.to }) r (λ w. v (up f.was w)) k)
  ];
  granted = λ n i. let f = from n i in elim f.same [
    | inl e ↦ subst Grant (sym e) (t.granted f.was f.is_open)
    | inr e ↦ subst Grant (sym e) (λ w b l. t.granted f.was f.is_open (down f.was w) b (record { from = l.from; to = l.to }))
  ];
  clean = λ n i. let f = from n i in elim f.same [
    | inl e ↦ subst Clean (sym e) (t.clean f.was f.is_open)
    | inr e ↦ subst Clean (sym e) (λ b l. t.clean f.was f.is_open b (record { from = l.from; to = l.to }))
  ];
}
  where
    Pool : Mapping → Type 0
    Pool m = (q : ℕ) → Lands m q → reserved (q / 4096) ≡ true → (F m → ⊥) → Apart G m q → x q ≡ y q

    Grant : Mapping → Type 0
    Grant m = F m → (b : ℕ) → Holds m b → G b

    Clean : Mapping → Type 0
    Clean m = (b : ℕ) → Holds m b → reserved (b / 4096) ≡ false

-- a new mapping, copied in, in both
pub mapped : (S : Setup) (reserved : ℕ → Bool) (F : Mapping → Type 0) (G H : ℕ → Type 0) (o : List Mapping) (x y : Bytes) (m : Mapping)
    → Lawful S reserved (insert m o) → ((b : ℕ) → G b → H b)
    → ((b : ℕ) → Holds m b → reserved (b / 4096) ≡ false) → (F m → (b : ℕ) → Holds m b → H b)
    → Tied reserved F G o x y → Tied reserved F H (insert m o) (copy_in reserved m x) (copy_in reserved m y)
mapped S reserved F G H o x y m laws up fresh grant t = record {
  plain = λ b r n. copied_in reserved m x y b (λ f e. elim (whole_or_not m) [
    | inl w ↦ (let u : b ≡ m.buffer.address + (b - m.landing) = omega (arith, whole_lands S reserved (insert m o) laws m here w) in
        subst (λ (q : ℕ). x q ≡ y q) u (t.plain b r (λ g. n (up b g))))
    | inr s ↦ absurd (both_ways (reserved (b / 4096)) r (laws.bounced m here s b (lands_byte m b (laws.pages.offset_landing m here) f e)))
  ]) (λ e. t.plain b r (λ g. n (up b g)));
  pooled = λ k j q l r v n. elim (lands_or_not m q) [
    | inl lm ↦ new q lm r (subst (λ (z : Mapping). Apart H z q) (sym (one_landing S reserved (insert m o) laws m k here j q lm l r)) n)
    | inr out ↦ elim (in_insert m k o j) [
      | inl e ↦ absurd (both_ways (lands_on m (q / 4096)) out (lands_test m q (subst (λ (z : Mapping). Lands z q) e l)))
      | inr i ↦ copied_in reserved m x y q
          (λ f e. absurd (both_ways (lands_on m (q / 4096)) out (lands_test m q (lands_byte m q (laws.pages.offset_landing m here) f e))))
          (λ e. t.pooled k i q l r v (λ h lt u g. n h lt u (up (k.buffer.address + h) g)))
    ]
  ];
  granted = λ k j w b h. elim (in_insert m k o j) [
    | inl e ↦ grant (subst F e w) b (subst (λ (z : Mapping). Holds z b) e h)
    | inr i ↦ up b (t.granted k i w b h)
  ];
  clean = λ k j b h. elim (in_insert m k o j) [
    | inl e ↦ fresh b (subst (λ (z : Mapping). Holds z b) e h)
    | inr i ↦ t.clean k i b h
  ];
}
  where
    here : In m (insert m o)
    here = insert_in m o

    new : (q : ℕ) → Lands m q → reserved (q / 4096) ≡ true → Apart H m q → copy_in reserved m x q ≡ copy_in reserved m y q
    new q lm r n = copied_in reserved m x y q
        (λ f e. let b = m.buffer.address + (q - m.landing) in
        t.plain b (fresh b (record { from = omega arith; to = omega arith })) (λ g. n (q - m.landing) (omega arith) (omega arith) (up b g)))
        (λ e. absurd (both_ways (lands_on m (q / 4096) && reserved (q / 4096)) e (and_from (lands_on m (q / 4096)) (reserved (q / 4096)) (lands_test m q lm) r)))
