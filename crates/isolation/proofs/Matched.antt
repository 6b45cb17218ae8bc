-- The states of two runs after lists of calls that are the same without card A's, and that each call keeps them matched.
use Rattle.std.proofs.Common.{◌≡◌, ℕ, ◌+◌, ◌/◌, ◌<◌, Bool, true, false, ◌⊎◌, List, length, slice_index, refl, sym, ap, subst, ◌∙◌, inl, inr, nat_lt}
use Rattle.std.proofs.lemmas.Bool.{eqb-true, eqb-false, false≢true, ltb-true}
use Rattle.units.specs.declared.direction.Access.TheVariants.{Read}
use Rattle.units.specs.declared.mapping.Mapping.{Mapping}
use Rattle.units.specs.declared.report.Report.{Report}
use Rattle.meaning.specs.Memory.{Bytes, read_into}
use Rattle.meaning.specs.Mappings.{reach_of}
use Rattle.meaning.specs.Worlds.{Setup, Kind, World, world}
use Rattle.meaning.specs.Calls.{Call, map, unmap, sync, cpu_read, cpu_write, card_read, card_write, report, tells}
use Rattle.meaning.specs.Checks.{Verdict, fine, errs, verdict}
use Rattle.meaning.specs.Effects.{State, answer, answered, after, said, opens_after, on_fine, accepted, noting, buffer_after, reached_byte}
use Rattle.isolation.specs.Lists.{is_own, without_bytes}
use Rattle.isolation.specs.Promise.{StandsFor}
use Rattle.isolation.proofs.Moves.{cond_same}
use Rattle.isolation.proofs.Landing.{Lawful}
use Rattle.isolation.proofs.Tied.{Tied, more_granted, swapped, same_byte}
use Rattle.isolation.proofs.Passing.{cpu_clean, site, writes_number}
use Rattle.isolation.proofs.Reports.{Told, told_both, told_one, told_swapped, told_at}
use Rattle.isolation.proofs.Writing.{Writable, writable_turned, own_tied}
use Rattle.isolation.proofs.Together.{both_tied}
use Rattle.isolation.proofs.Granting.{Grants, given_at, low_direction}

pub record Matched (reserved : ℕ → Bool) (A : ℕ) (G : ℕ → Type 0) (s t : State) : Type 0 where
  pub opens : s.opens ≡ t.opens
  pub tied : Tied reserved (Writable A) G s.opens s.memory t.memory
  pub told : Told A s.reports t.reports

abbrev pub with_opens : List Mapping → State → State
with_opens o t = record { opens = o; memory = t.memory; reports = t.reports }

pub matched_more : (reserved : ℕ → Bool) (A : ℕ) (G H : ℕ → Type 0) (s t : State) → ((b : ℕ) → G b → H b)
    → Matched reserved A G s t → Matched reserved A H s t
matched_more reserved A G H s t up m = record {
  opens = m.opens;
  tied = more_granted reserved (Writable A) G H s.opens s.memory t.memory up m.tied;
  told = m.told;
}

pub matched_swapped : (reserved : ℕ → Bool) (A : ℕ) (G : ℕ → Type 0) (s t : State) → Matched reserved A G s t → Matched reserved A G t s
matched_swapped reserved A G s t m = record {
  opens = sym m.opens;
  tied = subst (λ (o : List Mapping). Tied reserved (Writable A) G o t.memory s.memory) m.opens
      (swapped reserved (Writable A) G s.opens s.memory t.memory m.tied);
  told = told_swapped A s.reports t.reports m.told;
}

-- Card A's own call leaves open what was open
own_opens : (W : World) (o : List Mapping) (A : ℕ) (c : Call) (w : Verdict) → is_own A c ≡ true → on_fine w (accepted W o c) o ≡ o
own_opens W o A c (errs f) e = refl
own_opens W o A (map r) fine e = absurd (false≢true e)
own_opens W o A (unmap c d v n) fine e = absurd (false≢true e)
own_opens W o A (sync k c v) fine e = absurd (false≢true e)
own_opens W o A (cpu_read a n t) fine e = refl
own_opens W o A (cpu_write a t) fine e = refl
own_opens W o A (card_read c v n t) fine e = refl
own_opens W o A (card_write c v t) fine e = refl
own_opens W o A (report c) fine e = refl

own_told : (A : ℕ) (w : Verdict) (r s : ℕ → Report) (c : Call) → is_own A c ≡ true → Told A r s → Told A (noting w r c) s
own_told A w r s (map q) e t = t
own_told A w r s (unmap c d v n) e t = t
own_told A w r s (sync k c v) e t = t
own_told A w r s (cpu_read a n b) e t = t
own_told A w r s (cpu_write a b) e t = t
own_told A w r s (card_read c v n b) e t = told_one A c v w r s (eqb-true c A e) t
own_told A w r s (card_write c v b) e t = told_one A c v w r s (eqb-true c A e) t
own_told A w r s (report c) e t = t

module _ (K : Kind) (S : Setup) (n A : ℕ) (G : ℕ → Type 0) where
  -- card A's own call, in the first run
  pub own_step : (s t : State) (c : Call) → is_own A c ≡ true → Lawful S (K.reserved S) s.opens → Matched (K.reserved S) A G s t
      → Matched (K.reserved S) A G (after (world K S n) s c) t
  own_step s t c e laws m =
      let w = verdict (world K S n) s.opens c in
      record {
        opens = own_opens (world K S n) s.opens A c w e ∙ m.opens;
        tied = own_tied K S n A G s.opens s.memory t.memory laws m.tied c w refl e;
        told = own_told A w s.reports t.reports c e m.told;
      }

  -- a call in both
  pub both_step : (s t : State) (c : Call) → Lawful S (K.reserved S) s.opens → Lawful S (K.reserved S) (opens_after (world K S n) s.opens c)
      → Matched (K.reserved S) A G s t
      → Matched (K.reserved S) A (λ b. G b ⊎ Grants (world K S n) A s c b) (after (world K S n) s c) (after (world K S n) t c)
  both_step s t c laws later m =
      let W = world K S n in
      let w = verdict W s.opens c in
      let H = λ (b : ℕ). G b ⊎ Grants W A s c b in
      subst (λ (o : List Mapping). Matched (K.reserved S) A H (after W s c) (after W (with_opens o t) c)) m.opens (record {
        opens = refl;
        tied = both_tied K S n (Writable A) (writable_turned A) G s.opens s.memory t.memory laws m.tied H (λ b g. inl g) c w refl later
            (λ r p ec ew eh q b h. let f : verdict W s.opens (map r) ≡ fine = subst (λ (z : Call). verdict W s.opens z ≡ fine) ec ew in inr (record {
              request = r;
              asked = ec;
              device = p.device.0;
              given = given_at W s r p f eh;
              card = q.card;
              direction = writes_number r.direction (low_direction W s r f) q.writes;
              from = h.from;
              to = h.to;
            }));
        told = told_both A w s.reports t.reports c m.told;
      })

  -- its answer
  answered_same : (o : List Mapping) (x y : Bytes) (r q : ℕ → Report) (c : Call) (w : Verdict) → is_own A c ≡ false → Told A r q
      → without_bytes (answered w (said (world K S n) (record { opens = o; memory = x; reports = r }) c))
      ≡ without_bytes (answered w (said (world K S n) (record { opens = o; memory = y; reports = q }) c))
  answered_same o x y r q c (errs f) e u = refl
  answered_same o x y r q (map k) fine e u = refl
  answered_same o x y r q (unmap c d v l) fine e u = refl
  answered_same o x y r q (sync k c v) fine e u = refl
  answered_same o x y r q (cpu_read a l b) fine e u = refl
  answered_same o x y r q (cpu_write a b) fine e u = refl
  answered_same o x y r q (card_read c v l b) fine e u = refl
  answered_same o x y r q (card_write c v b) fine e u = refl
  answered_same o x y r q (report c) fine e u = ap (λ (z : Report). tells z) (told_at A r q u c (eqb-false c A e))

  pub same_answer : (s t : State) (c : Call) → is_own A c ≡ false → Matched (K.reserved S) A G s t
      → without_bytes (answer (world K S n) s c) ≡ without_bytes (answer (world K S n) t c)
  same_answer s t c e m =
      subst (λ (o : List Mapping). without_bytes (answer (world K S n) s c) ≡ without_bytes (answer (world K S n) (with_opens o t) c)) m.opens
      (answered_same s.opens s.memory t.memory s.reports t.reports c (verdict (world K S n) s.opens c) e m.told)

  -- byte i of what the CPU reads
  cpu_bytes : (o : List Mapping) (x y : Bytes) (r q : ℕ → Report) (a l : ℕ) (b : List ℕ) (w : Verdict) → verdict (world K S n) o (cpu_read a l b) ≡ w
      → Tied (K.reserved S) (Writable A) G o x y → (i : ℕ) → (i < l → G (a + i) → ⊥)
      → buffer_after (answered w (said (world K S n) (record { opens = o; memory = x; reports = r }) (cpu_read a l b))) b i
      ≡ buffer_after (answered w (said (world K S n) (record { opens = o; memory = y; reports = q }) (cpu_read a l b))) b i
  unfolding verdict read_into
  cpu_bytes o x y r q a l b (errs f) e t i none = refl
  cpu_bytes o x y r q a l b fine e t i none =
      cond_same (nat_lt i l) (x (a + i)) (y (a + i)) (slice_index b i) (slice_index b i)
      (λ h. let lt = ltb-true i l h in t.plain (a + i) (cpu_clean (world K S n) o a l (length b) e i lt) (none lt)) (λ h. refl)

  pub same_cpu_byte : (s t : State) (a l : ℕ) (b : List ℕ) → Matched (K.reserved S) A G s t → (i : ℕ) → (i < l → G (a + i) → ⊥)
      → buffer_after (answer (world K S n) s (cpu_read a l b)) b i ≡ buffer_after (answer (world K S n) t (cpu_read a l b)) b i
  same_cpu_byte s t a l b m i none =
      subst (λ (o : List Mapping). buffer_after (answer (world K S n) s (cpu_read a l b)) b i ≡ buffer_after (answer (world K S n) (with_opens o t) (cpu_read a l b)) b i) m.opens
      (cpu_bytes s.opens s.memory t.memory s.reports t.reports a l b (verdict (world K S n) s.opens (cpu_read a l b)) refl m.tied i none)

  -- byte i of what another card reads
  card_bytes : (o : List Mapping) (x y : Bytes) (r q : ℕ → Report) (c v l : ℕ) (b : List ℕ) (w : Verdict) → verdict (world K S n) o (card_read c v l b) ≡ w
      → (c ≡ A → ⊥) → Lawful S (K.reserved S) o → Tied (K.reserved S) (Writable A) G o x y
      → (i : ℕ) → (i < l → (k : ℕ) → StandsFor o c (v + i) k → G k → ⊥)
      → buffer_after (answered w (said (world K S n) (record { opens = o; memory = x; reports = r }) (card_read c v l b))) b i
      ≡ buffer_after (answered w (said (world K S n) (record { opens = o; memory = y; reports = q }) (card_read c v l b))) b i
  unfolding verdict read_into
  card_bytes o x y r q c v l b (errs f) e other laws t i none = refl
  card_bytes o x y r q c v l b fine e other laws t i none =
      let a = reached_byte (reach_of o c (v / 4096)) v in
      cond_same (nat_lt i l) (x (a + i)) (y (a + i)) (slice_index b i) (slice_index b i)
      (λ h. let lt = ltb-true i l h in
      let p = site S o laws.pages (world K S n) Read c v l (length b) (K.level S o c (v / 4096)) e in
      same_byte S (K.reserved S) (Writable A) G o x y laws t p.mapping p.is_open (λ z. other (sym p.card ∙ z.card)) (a + i) (p.lands i lt)
      (λ k below z g. none lt (p.mapping.buffer.address + k)
      (record { mapping = p.mapping; is_open = p.is_open; card = p.card; index = k; below = below; address = p.lies i k z; byte = refl }) g))
      (λ h. refl)

  pub same_card_byte : (s t : State) (c v l : ℕ) (b : List ℕ) → (c ≡ A → ⊥) → Lawful S (K.reserved S) s.opens → Matched (K.reserved S) A G s t
      → (i : ℕ) → (i < l → (k : ℕ) → StandsFor s.opens c (v + i) k → G k → ⊥)
      → buffer_after (answer (world K S n) s (card_read c v l b)) b i ≡ buffer_after (answer (world K S n) t (card_read c v l b)) b i
  same_card_byte s t c v l b other laws m i none =
      subst (λ (o : List Mapping). buffer_after (answer (world K S n) s (card_read c v l b)) b i ≡ buffer_after (answer (world K S n) (with_opens o t) (card_read c v l b)) b i) m.opens
      (card_bytes s.opens s.memory t.memory s.reports t.reports c v l b (verdict (world K S n) s.opens (card_read c v l b)) refl other laws m.tied i none)
