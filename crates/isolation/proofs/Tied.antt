-- What ties the memories of two runs together, with the same mappings open in both, and that every move keeps it.
-- G are the bytes that may differ, and F the mappings whose landings may differ anywhere.
use Rattle.std.proofs.Common.{◌≡◌, ℕ, ◌+◌, ◌-◌, ◌/◌, ◌<◌, ◌≤◌, Bool, true, false, cond, List, length, sym, subst, ◌∙◌, inl, inr, arith}
use Rattle.std.proofs.lemmas.Bool.{both_ways}
use Rattle.units.specs.declared.mapping.Mapping.{Mapping}
use Rattle.units.specs.declared.mapping.Sync.{Sync}
use Rattle.units.specs.declared.mapping.Sync.TheVariants.{ForCpu, ForCard}
use Rattle.units.specs.Directions.{rights_of}
use Rattle.meaning.specs.Memory.{Bytes, copy, paste}
use Rattle.meaning.specs.Mappings.{In, Holds, Lands}
use Rattle.meaning.specs.Worlds.{Setup}
use Rattle.meaning.specs.Effects.{copy_back, copy_again, copy_at_unmap, copy_at_sync}
use Rattle.isolation.proofs.Moves.{copied, pasted, untouched, lands_byte}
use Rattle.isolation.proofs.Landing.{Lawful, one_landing, landed}

-- byte q lies in no landing byte of m whose buffer byte is in G
abbrev pub Apart : (ℕ → Type 0) → Mapping → ℕ → Type 0
Apart G m q = (i : ℕ) → i < m.buffer.length → q ≡ m.landing + i → G (m.buffer.address + i) → ⊥

pub record Tied (reserved : ℕ → Bool) (F : Mapping → Type 0) (G : ℕ → Type 0) (o : List Mapping) (x y : Bytes) : Type 0 where
  pub plain : (b : ℕ) → reserved (b / 4096) ≡ false → (G b → ⊥) → x b ≡ y b
  pub pooled : (m : Mapping) → In m o → (q : ℕ) → Lands m q → reserved (q / 4096) ≡ true → (F m → ⊥) → Apart G m q → x q ≡ y q
  pub granted : (m : Mapping) → In m o → F m → (b : ℕ) → Holds m b → G b
  pub clean : (m : Mapping) → In m o → (b : ℕ) → Holds m b → reserved (b / 4096) ≡ false

pub more_granted : (reserved : ℕ → Bool) (F : Mapping → Type 0) (G H : ℕ → Type 0) (o : List Mapping) (x y : Bytes) → ((b : ℕ) → G b → H b)
    → Tied reserved F G o x y → Tied reserved F H o x y
more_granted reserved F G H o x y up t = record {
  plain = λ b r n. t.plain b r (λ g. n (up b g));
  pooled = λ m i q l r w n. t.pooled m i q l r w (λ k lt e g. n k lt e (up (m.buffer.address + k) g));
  granted = λ m i w b h. up b (t.granted m i w b h);
  clean = t.clean;
}

pub swapped : (reserved : ℕ → Bool) (F : Mapping → Type 0) (G : ℕ → Type 0) (o : List Mapping) (x y : Bytes)
    → Tied reserved F G o x y → Tied reserved F G o y x
swapped reserved F G o x y t = record {
  plain = λ b r n. sym (t.plain b r n);
  pooled = λ m i q l r w n. sym (t.pooled m i q l r w n);
  granted = t.granted;
  clean = t.clean;
}

module _ (S : Setup) (reserved : ℕ → Bool) (F : Mapping → Type 0) (G : ℕ → Type 0) (o : List Mapping) (x y : Bytes)
    (laws : Lawful S reserved o) (t : Tied reserved F G o x y) where
  -- a write through one of F's mappings, in one run alone
  pub one_write : (m : Mapping) → In m o → F m → (a : ℕ) (s : List ℕ)
      → ((q : ℕ) → a ≤ q → q < a + length s → Lands m q) → Tied reserved F G o (paste a s x) y
  one_write m i w a s page = record {
    plain = λ b r n. untouched a s x b (λ f e. elim (landed S reserved o laws m i b (page b f e)) [
      | inl h ↦ n (t.granted m i w b h.0)
      | inr h ↦ both_ways (reserved (b / 4096)) r h
    ]) ∙ t.plain b r n;
    pooled = λ k j q l r v n.
        untouched a s x q (λ f e. v (subst F (one_landing S reserved o laws m k i j q (page q f e) l r) w)) ∙ t.pooled k j q l r v n;
    granted = t.granted;
    clean = t.clean;
  }

  -- the same write in both
  pub same_write : (a : ℕ) (s : List ℕ) → Tied reserved F G o (paste a s x) (paste a s y)
  same_write a s = record {
    plain = λ b r n. pasted a s x y b (t.plain b r n);
    pooled = λ k j q l r v n. pasted a s x y q (t.pooled k j q l r v n);
    granted = t.granted;
    clean = t.clean;
  }

  -- each buffer byte becomes its landing byte, in both
  from_landing : (m : Mapping) → In m o
      → Tied reserved F G o (copy m.buffer.address m.landing m.buffer.length x) (copy m.buffer.address m.landing m.buffer.length y)
  from_landing m i = record {
    plain = λ b r n. copied m.buffer.address m.landing m.buffer.length x y b (λ f e.
        let q = m.landing + (b - m.buffer.address) in
        let l : Lands m q = lands_byte m q (laws.pages.offset_landing m i) (omega arith) (omega arith) in
        elim (landed S reserved o laws m i q l) [
          | inl h ↦ (let s : q ≡ b = omega (arith, h.1) in t.plain q (t.clean m i q h.0) (λ g. n (subst G s g)))
          | inr s ↦ t.pooled m i q l s (λ w. n (t.granted m i w b (record { from = f; to = e })))
              (λ k lt u g. let v : m.buffer.address + k ≡ b = omega arith in n (subst G v g))
        ]) (t.plain b r n);
    pooled = λ k j q l r v n. copied m.buffer.address m.landing m.buffer.length x y q
        (λ f e. absurd (both_ways (reserved (q / 4096)) (t.clean m i q (record { from = f; to = e })) r)) (t.pooled k j q l r v n);
    granted = t.granted;
    clean = t.clean;
  }

  -- each landing byte becomes its buffer byte, in both
  from_buffer : (m : Mapping) → In m o
      → Tied reserved F G o (copy m.landing m.buffer.address m.buffer.length x) (copy m.landing m.buffer.address m.buffer.length y)
  from_buffer m i = record {
    plain = λ b r n. copied m.landing m.buffer.address m.buffer.length x y b (λ f e.
        elim (landed S reserved o laws m i b (lands_byte m b (laws.pages.offset_landing m i) f e)) [
          | inl h ↦ (let u : b ≡ m.buffer.address + (b - m.landing) = omega (arith, h.1) in subst (λ (q : ℕ). x q ≡ y q) u (t.plain b r n))
          | inr s ↦ absurd (both_ways (reserved (b / 4096)) r s)
        ]) (t.plain b r n);
    pooled = λ k j q l r v n. copied m.landing m.buffer.address m.buffer.length x y q (λ f e.
        let u : m ≡ k = one_landing S reserved o laws m k i j q (lands_byte m q (laws.pages.offset_landing m i) f e) l r in
        let here : Apart G m q = subst (λ (z : Mapping). Apart G z q) (sym u) n in
        t.plain (m.buffer.address + (q - m.landing)) (t.clean m i (m.buffer.address + (q - m.landing)) (record { from = omega arith; to = omega arith }))
        (here (q - m.landing) (omega arith) (omega arith))) (t.pooled k j q l r v n);
    granted = t.granted;
    clean = t.clean;
  }

  back : (m : Mapping) → In m o → Tied reserved F G o (copy_back m x) (copy_back m y)
  back m i = go (rights_of m.direction).write
    where
      go : (b : Bool) → Tied reserved F G o (cond b (copy m.buffer.address m.landing m.buffer.length x) x) (cond b (copy m.buffer.address m.landing m.buffer.length y) y)
      go true = from_landing m i
      go false = t

  again : (m : Mapping) → In m o → Tied reserved F G o (copy_again m x) (copy_again m y)
  again m i = go (rights_of m.direction).read
    where
      go : (b : Bool) → Tied reserved F G o (cond b (copy m.landing m.buffer.address m.buffer.length x) x) (cond b (copy m.landing m.buffer.address m.buffer.length y) y)
      go true = from_buffer m i
      go false = t

  pub same_unmap : (m : Mapping) → In m o → Tied reserved F G o (copy_at_unmap m x) (copy_at_unmap m y)
  same_unmap m i = back m i

  pub same_sync : (s : Sync) (m : Mapping) → In m o → Tied reserved F G o (copy_at_sync s m x) (copy_at_sync s m y)
  same_sync ForCpu m i = back m i
  same_sync ForCard m i = again m i

  -- a byte that is found through a mapping of none of F's
  pub same_byte : (m : Mapping) → In m o → (F m → ⊥) → (q : ℕ) → Lands m q → Apart G m q → x q ≡ y q
  same_byte m i other q l none = elim (landed S reserved o laws m i q l) [
    | inl h ↦ t.plain q (t.clean m i q h.0) (λ g. let f = h.0.from in let u = h.0.to in
        let e : q ≡ m.buffer.address + (q - m.buffer.address) = omega arith in
        none (q - m.buffer.address) (omega arith) (omega (arith, h.1)) (subst G e g))
    | inr r ↦ t.pooled m i q l r other none
  ]
