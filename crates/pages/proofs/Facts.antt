-- The tests of lawful mappings, as facts, through every change.
use Rattle.std.proofs.Common.{◌≡◌, ℕ, suc, ◌+◌, ◌*◌, ◌/◌, ◌%◌, ◌^◌, ◌<◌, ◌≤◌, true, false, not, ◌&&◌, ◌⊎◌, List, [], ◌∷◌, sym, refl, ap, ◌∙◌, subst, inl, inr, arith}
use Rattle.std.proofs.lemmas.Bool.Decides.{nat_tests}
use Rattle.std.proofs.lemmas.Bool.{and_parts, and_from, not-true, cases_Bool, cases_lt}
use Rattle.units.specs.declared.mapping.Holder.{Holder}
use Rattle.units.specs.declared.mapping.Mapping.{Mapping}
use Rattle.meaning.specs.Mappings.{In, Pairwise, Pages, first_page, page_count, key, starts, turned, insert, remove, turn}
use Rattle.meaning.specs.Worlds.{Setup, last_of}
use Rattle.meaning.proofs.Facts.{page_fact}
use Rattle.meaning.proofs.Lists.{in_insert, insert_in, insert_keeps, in_remove, in_turn, pair_insert, pair_uninsert, pair_remove, pair_turn}
use Rattle.meaning.proofs.Unique.{start_page}
use Rattle.pages.specs.Lawful.{fits, share, apart_from, lawful}

pub record Fitting (S : Setup) (m : Mapping) : Type 0 where
  pub card : m.card.0 < S.cards
  pub some : 0 < m.buffer.length
  pub short : page_count m ≤ 8
  pub inside : m.buffer.address + m.buffer.length ≤ S.frames * 4096
  pub own : m.landing ≡ m.buffer.address
  pub offset : m.device.0 % 4096 ≡ m.buffer.address % 4096
  pub low : 1 ≤ first_page m
  pub high : first_page m + page_count m ≤ suc (last_of S m.card.0)

pub fits_facts : (S : Setup) (m : Mapping) → fits S m ≡ true → Fitting S m
fits_facts S m e = record {
  card = grind (arith, nat_tests);
  some = grind (arith, nat_tests);
  short = grind (arith, nat_tests);
  inside = grind (arith, nat_tests);
  own = grind (arith, nat_tests);
  offset = grind (arith, nat_tests);
  low = grind (arith, nat_tests);
  high = grind (arith, nat_tests);
}

pub fits_test : (S : Setup) (m : Mapping) → Fitting S m → fits S m ≡ true
fits_test S m f = grind (arith, nat_tests)

-- a common page, and none
pub share_none : (m n : Mapping) → share m n ≡ false → m.card.0 ≡ n.card.0 → (p : ℕ) → Pages m p → Pages n p → ⊥
share_none m n e c p a b = grind (arith, nat_tests)

pub share_test : (m n : Mapping) → 0 < page_count m → 0 < page_count n → (m.card.0 ≡ n.card.0 → (p : ℕ) → Pages m p → Pages n p → ⊥) → share m n ≡ false
share_test m n pm pn h = elim (cases_Bool (share m n)) [
  | inl t ↦ (let same : m.card.0 ≡ n.card.0 = grind (arith, nat_tests) in
      let l : first_page m < first_page n + page_count n = grind (arith, nat_tests) in
      let r : first_page n < first_page m + page_count m = grind (arith, nat_tests) in
      elim (cases_lt (first_page m) (first_page n)) [
        | inl lt ↦ absurd (h same (first_page n) (record { from = omega arith; to = r }) (record { from = omega arith; to = omega arith }))
        | inr ge ↦ absurd (h same (first_page m) (record { from = omega arith; to = omega arith }) (record { from = ge; to = l }))
      ])
  | inr f ↦ f
]

-- Lists ---------------------------------------------------------------------------------------------------

abbrev Apart : Mapping → Mapping → Type 0
Apart m n = share m n ≡ false

apart_facts : (m : Mapping) (o : List Mapping) → apart_from m o ≡ true → (n : Mapping) → In n o → Apart m n
unfolding apart_from
apart_facts m [] e n i = elim i [ ]
apart_facts m (k ∷ o) e n i = let h = and_parts (not (share m k)) (apart_from m o) e in go i (not-true (share m k) h.0) (λ j. apart_facts m o h.1 n j)
  where
    go : (n ≡ k) ⊎ In n o → share m k ≡ false → (In n o → Apart m n) → Apart m n
    go (inl s) f later = ap (share m) s ∙ f
    go (inr j) f later = later j

apart_test : (m : Mapping) (o : List Mapping) → ((n : Mapping) → In n o → Apart m n) → apart_from m o ≡ true
unfolding apart_from
apart_test m [] h = refl
apart_test m (k ∷ o) h = and_from (not (share m k)) (apart_from m o) (ap not (h k (inl refl))) (apart_test m o (λ n i. h n (inr i)))

pub record Lawful (S : Setup) (o : List Mapping) : Type 0 where
  pub each : (m : Mapping) → In m o → Fitting S m
  pub apart : Pairwise (λ m n. share m n ≡ false) o

pub lawful_facts : (S : Setup) (o : List Mapping) → lawful S o ≡ true → Lawful S o
unfolding lawful
lawful_facts S [] e = record { each = λ m i. elim i [ ]; apart = tt }
lawful_facts S (k ∷ o) e =
    let h = and_parts (fits S k) (apart_from k o && lawful S o) e in
    let g = and_parts (apart_from k o) (lawful S o) h.1 in
    let later = lawful_facts S o g.1 in
    record { each = λ m i. first m i (fits_facts S k h.0) (later.each m); apart = (apart_facts k o g.0, later.apart) }
  where
    first : (m : Mapping) → (m ≡ k) ⊎ In m o → Fitting S k → (In m o → Fitting S m) → Fitting S m
    first m (inl s) f later = subst (λ (z : Mapping). Fitting S z) (sym s) f
    first m (inr j) f later = later j

pub lawful_test : (S : Setup) (o : List Mapping) → Lawful S o → lawful S o ≡ true
unfolding lawful
lawful_test S [] l = refl
lawful_test S (k ∷ o) l =
    and_from (fits S k) (apart_from k o && lawful S o) (fits_test S k (l.each k (inl refl)))
    (and_from (apart_from k o) (lawful S o) (apart_test k o l.apart.0)
    (lawful_test S o (record { each = λ m i. l.each m (inr i); apart = l.apart.1 })))

fitting_turned : (S : Setup) (h : Holder) (m : Mapping) → Fitting S m → Fitting S (turned h m)
fitting_turned S h m f = record { card = f.card; some = f.some; short = f.short; inside = f.inside; own = f.own; offset = f.offset; low = f.low; high = f.high }

pub lawful_insert : (S : Setup) (m : Mapping) (o : List Mapping) → Fitting S m → ((n : Mapping) → In n o → (share m n ≡ false) × (share n m ≡ false)) → lawful S o ≡ true → lawful S (insert m o) ≡ true
lawful_insert S m o f h e =
    let l = lawful_facts S o e in
    lawful_test S (insert m o) (record {
      each = λ n i. elim (in_insert m n o i) [ inl s ↦ subst (λ (z : Mapping). Fitting S z) (sym s) f | inr j ↦ l.each n j ];
      apart = pair_insert Apart m o h l.apart;
    })

pub lawful_remove : (S : Setup) (c v : ℕ) (o : List Mapping) → lawful S o ≡ true → lawful S (remove c v o) ≡ true
lawful_remove S c v o e =
    let l = lawful_facts S o e in
    lawful_test S (remove c v o) (record { each = λ n i. l.each n (in_remove c v n o i); apart = pair_remove Apart c v o l.apart })

pub lawful_turn : (S : Setup) (h : Holder) (c v : ℕ) (o : List Mapping) → lawful S o ≡ true → lawful S (turn h c v o) ≡ true
lawful_turn S h c v o e =
    let l = lawful_facts S o e in
    lawful_test S (turn h c v o) (record {
      each = λ n i. let t = in_turn h c v n o i in let f = l.each t.was t.is_open in
          elim t.same [ inl s ↦ subst (λ (z : Mapping). Fitting S z) (sym s) f | inr s ↦ subst (λ (z : Mapping). Fitting S z) (sym s) (fitting_turned S h t.was f) ];
      apart = pair_turn Apart h c v o (λ m n s. (s, s)) l.apart;
    })

-- a mapping that was put into a lawful list shares no page with the others
pub record Uninserted (S : Setup) (m : Mapping) (o : List Mapping) : Type 0 where
  pub first : Fitting S m
  pub others : lawful S o ≡ true
  pub rest : (n : Mapping) → In n o → Fitting S n
  pub apart : (n : Mapping) → In n o → share m n ≡ false

some_pages : (S : Setup) (m : Mapping) → Fitting S m → 0 < page_count m
some_pages S m f = let some = f.some in omega arith

share_other : (S : Setup) (m n : Mapping) → Fitting S m → Fitting S n → share n m ≡ false → share m n ≡ false
share_other S m n f g e = share_test m n (some_pages S m f) (some_pages S n g) (λ same p a b. share_none n m e (sym same) p b a)

pub lawful_uninsert : (S : Setup) (m : Mapping) (o : List Mapping) → lawful S (insert m o) ≡ true → Uninserted S m o
lawful_uninsert S m o e =
    let l = lawful_facts S (insert m o) e in
    let p = pair_uninsert Apart m o l.apart in
    let f = l.each m (insert_in m o) in
    let rest : (n : Mapping) → In n o → Fitting S n = λ n i. l.each n (insert_keeps m n o i) in
    record {
      first = f;
      others = lawful_test S o (record { each = rest; apart = p.1 });
      rest = rest;
      apart = λ n i. elim (p.0 n i) [ inl s ↦ s | inr s ↦ share_other S m n f (rest n i) s ];
    }

-- of two that share no page at most one starts at a device address
pub start_apart : (S : Setup) (c v : ℕ) (m n : Mapping) → Fitting S m → Fitting S n → share m n ≡ false → starts c v m ≡ true → starts c v n ≡ false
start_apart S c v m n f g e s = elim (cases_Bool (starts c v n)) [
  | inl t ↦ (let a = page_fact c (v / 4096) m (start_page c v m f.some s) in
      let b = page_fact c (v / 4096) n (start_page c v n g.some t) in
      absurd (share_none m n e (a.0 ∙ sym b.0) (v / 4096) a.1 b.1))
  | inr k ↦ k
]

-- mappings that share no page have different keys
pub key_apart : (S : Setup) (m n : Mapping) → ((c : ℕ) → c < S.cards → last_of S c < 2 ^ 36) → Fitting S m → Fitting S n → share m n ≡ false → key n ≡ key m → ⊥
key_apart S m n last f g e k =
    let a = f.high in
    let b = g.high in
    let x = last m.card.0 f.card in
    let y = last n.card.0 g.card in
    let p = some_pages S m f in
    let q = some_pages S n g in
    let card : m.card.0 ≡ n.card.0 = omega arith in
    let page : first_page m ≡ first_page n = omega arith in
    share_none m n e card (first_page m) (record { from = omega arith; to = omega arith }) (record { from = omega arith; to = omega arith })
