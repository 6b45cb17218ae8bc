-- The buffers that pool frames are lent to, through every change.
use Rattle.std.proofs.Common.{◌≡◌, ℕ, ◌+◌, ◌*◌, ◌/◌, ◌<◌, ◌≤◌, Bool, true, false, cond, not, ◌&&◌, eqb, ltb, ◌⊎◌, List, [], ◌∷◌, Some, None, sym, refl, ap, ◌∙◌, inl, inr, arith}
use Rattle.std.proofs.lemmas.Bool.{cases_Bool, cond-true, cond-false, eqb-true, eq-eqb, and_parts, and_from, not-true}
use Rattle.units.specs.declared.buffer.Buffer.{Buffer}
use Rattle.units.specs.declared.mapping.Holder.{Holder}
use Rattle.units.specs.declared.mapping.Mapping.{Mapping}
use Rattle.meaning.specs.Memory.{within}
use Rattle.meaning.specs.Mappings.{In, Whole, Lands, first_frame, page_count, key, starts, turned, insert, remove, turn}
use Rattle.meaning.proofs.Facts.{within_from}
use Rattle.meaning.proofs.Lists.{insert_in, insert_keeps, pairwise_in, pair_uninsert}
use Rattle.layer.specs.Pools.{is_whole}
use Rattle.layer.specs.Possible.{Fitting, Standing}
use Rattle.layer.specs.Lifting.{loan_of}
use Rattle.layer.proofs.LawsAbove.{or_false, both}
use Rattle.layer.proofs.Choosing.{whole_true, whole_test}

-- whose buffer is not whole, and lands from frame f on
abbrev pub borrows : Mapping → ℕ → Bool
borrows m f = not (is_whole m) && eqb (first_frame m) f

borrows_facts : (m : Mapping) (f : ℕ) → borrows m f ≡ true → (is_whole m ≡ false) × (first_frame m ≡ f)
borrows_facts m f e = let a = and_parts (not (is_whole m)) (eqb (first_frame m) f) e in (not-true (is_whole m) a.0, eqb-true (first_frame m) f a.1)

borrows_test : (m : Mapping) (f : ℕ) → is_whole m ≡ false → first_frame m ≡ f → borrows m f ≡ true
borrows_test m f w e = and_from (not (is_whole m)) (eqb (first_frame m) f) (ap not w) (eq-eqb (first_frame m) f e)

-- the mapping that borrows from frame f on
pub record Borrower (o : List Mapping) (f : ℕ) (b : Buffer) : Type 0 where
  pub mapping : Mapping
  pub is_open : In mapping o
  pub part : is_whole mapping ≡ false
  pub frame : first_frame mapping ≡ f
  pub buffer : mapping.buffer ≡ b

pub borrower : (o : List Mapping) (f : ℕ) (b : Buffer) → loan_of o f ≡ Some b → Borrower o f b
unfolding loan_of
borrower [] f b e = absurd (cc)
borrower (m ∷ o) f b e = go (borrows m f) refl e (λ h. borrower o f b h)
  where
    go : (t : Bool) → borrows m f ≡ t → cond t (Some m.buffer) (loan_of o f) ≡ Some b → (loan_of o f ≡ Some b → Borrower o f b) → Borrower (m ∷ o) f b
    go true s h later = let p = borrows_facts m f s in record { mapping = m; is_open = inl refl; part = p.0; frame = p.1; buffer = cc }
    go false s h later = let r = later h in record { mapping = r.mapping; is_open = inr r.is_open; part = r.part; frame = r.frame; buffer = r.buffer }

pub no_loan : (o : List Mapping) (f : ℕ) → ((m : Mapping) → In m o → borrows m f ≡ false) → loan_of o f ≡ None
unfolding loan_of
no_loan [] f h = refl
no_loan (m ∷ o) f h = cond-false (borrows m f) (Some m.buffer) (loan_of o f) (h m (inl refl)) ∙ no_loan o f (λ n i. h n (inr i))

pub loan_in : (o : List Mapping) (f : ℕ) (m : Mapping) → In m o → borrows m f ≡ true → ((n : Mapping) → In n o → borrows n f ≡ true → n ≡ m) → loan_of o f ≡ Some m.buffer
unfolding loan_of
loan_in [] f m i s one = elim i [ ]
loan_in (k ∷ o) f m i s one = go (borrows k f) refl i (λ j. loan_in o f m j s (λ n l. one n (inr l)))
  where
    go : (t : Bool) → borrows k f ≡ t → (m ≡ k) ⊎ In m o → (In m o → loan_of o f ≡ Some m.buffer) → cond t (Some k.buffer) (loan_of o f) ≡ Some m.buffer
    go true e j later = ap (λ (z : Mapping). Some z.buffer) (one k (inl refl) e)
    go false e (inl j) later = absurd (both (borrows m f) s (ap (λ (z : Mapping). borrows z f) j ∙ e))
    go false e (inr j) later = later j

-- Where mappings land -------------------------------------------------------------------------------------

module _ (frames : ℕ) (reserved : ℕ → Bool) (first count : ℕ) where
  some_count : (m : Mapping) → Fitting frames reserved first count m → 0 < page_count m
  some_count m f = let s = f.some in omega arith

  -- the frames of a landing are the pool's where the buffer is not whole
  pub frames_in : (m : Mapping) (x : ℕ) → Fitting frames reserved first count m → is_whole m ≡ false → first_frame m ≤ x → x < first_frame m + page_count m → within first count x ≡ true
  frames_in m x f w l h =
      let p = f.pooled (λ y. both (is_whole m) (whole_test m.buffer.address m.buffer.length y.starts y.ends) w) in
      let low = p.0 in
      let high = p.1 in within_from first count x (omega arith) (omega arith)

  -- and else none of them
  pub frames_out : (m : Mapping) (x : ℕ) → Fitting frames reserved first count m → is_whole m ≡ true → first_frame m ≤ x → x < first_frame m + page_count m → within first count x ≡ false
  frames_out m x f w l h =
      let t = whole_true m.buffer.address m.buffer.length w in
      let ww : Whole m = record { starts = t.0; ends = t.1 } in
      let own = f.own ww in
      let low : m.buffer.address ≤ x * 4096 = omega (arith, t.0) in
      let high : x * 4096 < m.buffer.address + m.buffer.length = omega (arith, t.0, t.1) in
      let c = (or_false (within first count (x * 4096 / 4096)) (reserved (x * 4096 / 4096)) (f.clean (x * 4096) (record { from = low; to = high }))).0 in
      let same : x * 4096 / 4096 ≡ x = omega arith in
      ap (λ (z : ℕ). within first count z) (sym same) ∙ c

  -- two that borrow from one frame are one
  pub one_borrower : (o : List Mapping) → Standing frames reserved first count o → (m n : Mapping) (x : ℕ) → In m o → In n o → is_whole m ≡ false → is_whole n ≡ false
      → first_frame m ≤ x → x < first_frame m + page_count m → first_frame n ≤ x → x < first_frame n + page_count n → n ≡ m
  one_borrower o s m n x i j w v l h k u =
      let same : x * 4096 / 4096 ≡ x = omega arith in
      let a : Lands m (x * 4096) = record { from = omega arith; to = omega arith } in
      let b : Lands n (x * 4096) = record { from = omega arith; to = omega arith } in
      let p : within first count (x * 4096 / 4096) ≡ true = ap (λ (z : ℕ). within first count z) same ∙ frames_in m x (s.each m i) w l h in
      elim (pairwise_in (λ y z. (q : ℕ) → Lands y q → Lands z q → within first count (q / 4096) ≡ true → ⊥) o s.unshared m n i j) [
        | inl e ↦ sym e
        | inr (inl r) ↦ absurd (r (x * 4096) a b p)
        | inr (inr r) ↦ absurd (r (x * 4096) b a p)
      ]

  -- each borrows from its first frame
  pub one_first : (o : List Mapping) → Standing frames reserved first count o → (m n : Mapping) (f : ℕ) → In m o → In n o → borrows m f ≡ true → borrows n f ≡ true → n ≡ m
  one_first o s m n f i j a b =
      let x = borrows_facts m f a in
      let y = borrows_facts n f b in
      let e = x.1 in
      let g = y.1 in
      let pm = some_count m (s.each m i) in
      let pn = some_count n (s.each n j) in
      one_borrower o s m n f i j x.0 y.0 (omega arith) (omega arith) (omega arith) (omega arith)

  -- the loan of the frame where a mapping lands first
  pub own_loan : (o : List Mapping) → Standing frames reserved first count o → (m : Mapping) → In m o → loan_of o (first_frame m) ≡ cond (is_whole m) None (Some m.buffer)
  own_loan o s m i = elim (cases_Bool (is_whole m)) [
    | inl w ↦ no_loan o (first_frame m) (λ n j. elim (cases_Bool (borrows n (first_frame m))) [
      | inl t ↦ (let p = borrows_facts n (first_frame m) t in
          let e = p.1 in
          let pm = some_count m (s.each m i) in
          let pn = some_count n (s.each n j) in
          absurd (both (within first count (first_frame m)) (frames_in n (first_frame m) (s.each n j) p.0 (omega arith) (omega arith)) (frames_out m (first_frame m) (s.each m i) w (omega arith) (omega arith))))
      | inr t ↦ t
    ]) ∙ sym (cond-true (is_whole m) None (Some m.buffer) w)
    | inr w ↦ (let b = borrows_test m (first_frame m) w refl in
        loan_in o (first_frame m) m i b (λ n j t. one_first o s m n (first_frame m) i j b t) ∙ sym (cond-false (is_whole m) None (Some m.buffer) w))
  ]

-- Changes -------------------------------------------------------------------------------------------------

loan_insert_lem : (m : Mapping) (o : List Mapping) (f : ℕ) → ((n : Mapping) → In n o → borrows n f ≡ true → borrows m f ≡ false)
    → loan_of (insert m o) f ≡ cond (borrows m f) (Some m.buffer) (loan_of o f)
unfolding loan_of insert
loan_insert_lem m [] f h = refl
loan_insert_lem m (k ∷ o) f h = go (ltb (key m) (key k)) (borrows k f) refl (borrows m f) refl (loan_insert_lem m o f (λ n i. h n (inr i)))
  where
    go : (b t : Bool) → borrows k f ≡ t → (u : Bool) → borrows m f ≡ u → loan_of (insert m o) f ≡ cond (borrows m f) (Some m.buffer) (loan_of o f)
        → loan_of (cond b (m ∷ k ∷ o) (k ∷ insert m o)) f ≡ cond (borrows m f) (Some m.buffer) (cond (borrows k f) (Some k.buffer) (loan_of o f))
    go true t e u g later = refl
    go false true e true g later = absurd (both (borrows m f) g (h k (inl refl) e))
    go false true e false g later = cc
    go false false e u g later = cc

loan_remove_lem : (c v : ℕ) (m : Mapping) (o : List Mapping) (f : ℕ) → ((n : Mapping) → In n o → starts c v n ≡ true → n ≡ m)
    → ((n : Mapping) → In n o → borrows n f ≡ true → borrows m f ≡ true → starts c v n ≡ true)
    → loan_of (remove c v o) f ≡ cond (borrows m f) None (loan_of o f)
unfolding loan_of remove
loan_remove_lem c v m [] f one lent = elim (cases_Bool (borrows m f)) [ inl t ↦ cc | inr t ↦ cc ]
loan_remove_lem c v m (k ∷ o) f one lent =
    go (starts c v k) refl (borrows k f) refl (borrows m f) refl (loan_remove_lem c v m o f (λ n i. one n (inr i)) (λ n i. lent n (inr i)))
  where
    go : (s : Bool) → starts c v k ≡ s → (t : Bool) → borrows k f ≡ t → (u : Bool) → borrows m f ≡ u → loan_of (remove c v o) f ≡ cond (borrows m f) None (loan_of o f)
        → loan_of (cond s (remove c v o) (k ∷ remove c v o)) f ≡ cond (borrows m f) None (cond (borrows k f) (Some k.buffer) (loan_of o f))
    go true a t b true d later = cc
    go true a true b false d later = absurd (both (borrows m f) (ap (λ (z : Mapping). borrows z f) (sym (one k (inl refl) a)) ∙ b) d)
    go true a false b false d later = cc
    go false a true b true d later = absurd (both (starts c v k) (lent k (inl refl) b d) a)
    go false a false b true d later = cc
    go false a true b false d later = cc
    go false a false b false d later = cc

pub loan_turn : (h : Holder) (c v : ℕ) (o : List Mapping) (f : ℕ) → loan_of (turn h c v o) f ≡ loan_of o f
unfolding loan_of turn
loan_turn h c v [] f = refl
loan_turn h c v (k ∷ o) f = go (starts c v k) (loan_turn h c v o f)
  where
    go : (b : Bool) → loan_of (turn h c v o) f ≡ loan_of o f → loan_of (cond b (turned h k) k ∷ turn h c v o) f ≡ cond (borrows k f) (Some k.buffer) (loan_of o f)
    go true later = ap (cond (borrows k f) (Some k.buffer)) later
    go false later = ap (cond (borrows k f) (Some k.buffer)) later

module _ (frames : ℕ) (reserved : ℕ → Bool) (first count : ℕ) where
  -- a mapping that is opened borrows its frames, if its buffer is not whole
  pub loan_insert : (m : Mapping) (o : List Mapping) (f : ℕ) → Standing frames reserved first count (insert m o) → loan_of (insert m o) f ≡ cond (borrows m f) (Some m.buffer) (loan_of o f)
  loan_insert m o f s = loan_insert_lem m o f (λ n i t. elim (cases_Bool (borrows m f)) [
    | inl u ↦ (let a = borrows_facts m f u in
        let b = borrows_facts n f t in
        let fm = s.each m (insert_in m o) in
        let fn = s.each n (insert_keeps m n o i) in
        let pm = some_count frames reserved first count m fm in
        let pn = some_count frames reserved first count n fn in
        let ea = a.1 in
        let eb = b.1 in
        let same : f * 4096 / 4096 ≡ f = omega arith in
        let x : Lands m (f * 4096) = record { from = omega arith; to = omega arith } in
        let y : Lands n (f * 4096) = record { from = omega arith; to = omega arith } in
        let p : within first count (f * 4096 / 4096) ≡ true = ap (λ (z : ℕ). within first count z) same ∙ frames_in frames reserved first count m f fm a.0 (omega arith) (omega arith) in
        elim ((pair_uninsert (λ z w. (q : ℕ) → Lands z q → Lands w q → within first count (q / 4096) ≡ true → ⊥) m o s.unshared).0 n i) [
          | inl r ↦ absurd (r (f * 4096) x y p)
          | inr r ↦ absurd (r (f * 4096) y x p)
        ])
    | inr u ↦ u
  ])

  -- a mapping that is closed gives them back
  pub loan_remove : (c v : ℕ) (m : Mapping) (o : List Mapping) (f : ℕ) → Standing frames reserved first count o → In m o → starts c v m ≡ true
      → ((n : Mapping) → In n o → starts c v n ≡ true → n ≡ m) → loan_of (remove c v o) f ≡ cond (borrows m f) None (loan_of o f)
  loan_remove c v m o f s i t one = loan_remove_lem c v m o f one (λ n j a b. ap (starts c v) (one_first frames reserved first count o s m n f i j b a) ∙ t)
