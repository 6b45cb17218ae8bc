-- The list below, beside the list above.
use Rattle.std.proofs.Common.{◌≡◌, ℕ, ◌+◌, ◌*◌, ◌/◌, ◌%◌, ◌<◌, ◌≤◌, Bool, true, false, cond, eqb, ltb, List, [], ◌∷◌, length, Some, None, sym, refl, ap, ◌∙◌, subst, inl, inr, arith}
use Rattle.std.proofs.lemmas.Bool.{cases_Bool, cond-true, cond-false, eqb-true, eqb-false}
use Rattle.std.proofs.lemmas.Bool.Decides.{nat_tests}
use Rattle.units.specs.declared.mapping.Holder.{Holder}
use Rattle.units.specs.declared.mapping.Mapping.{Mapping}
use Rattle.units.specs.Buffers.{span}
use Rattle.meaning.specs.Mappings.{In, Pairwise, Whole, Pages, first_page, first_frame, page_count, key, on_page, starts, turned, insert, remove, turn, find, reach_of}
use Rattle.meaning.specs.Worlds.{Setup}
use Rattle.meaning.specs.Laws.{DisjointPages}
use Rattle.meaning.proofs.Lists.{find_none, find_in, find_is_in, find_starts}
use Rattle.meaning.proofs.Unique.{one_on_page, start_page}
use Rattle.layer.specs.Lowering.{base_of, down, lowered}
use Rattle.layer.proofs.Finding.{starts_facts, starts_test, missed}

-- One mapping ---------------------------------------------------------------------------------------------

pub span_frames : (k n : ℕ) → span (k * 4096) (n * 4096) ≡ n
span_frames k n = omega arith

pub down_page : (m : Mapping) → first_page (down m) ≡ first_page m
down_page m = omega arith

pub down_frame : (m : Mapping) → first_frame (down m) ≡ first_frame m
down_frame m = omega arith

pub down_count : (m : Mapping) → page_count (down m) ≡ page_count m
down_count m = span_frames (first_frame m) (page_count m)

pub down_key : (m : Mapping) → key (down m) ≡ key m
down_key m = let p = down_page m in cc

pub pages_down : (m : Mapping) (p : ℕ) → Pages m p → Pages (down m) p
pages_down m p h =
    let f = down_page m in
    let n = down_count m in
    let from = h.from in
    let to = h.to in record { from = omega arith; to = omega arith }

same_mapping : (m n : Mapping) → m.card ≡ n.card → m.direction ≡ n.direction → m.buffer ≡ n.buffer → m.device ≡ n.device → m.landing ≡ n.landing → m.holder ≡ n.holder → m ≡ n
same_mapping m n a b c d e f = λ i. record { card = a i; direction = b i; buffer = c i; device = d i; landing = e i; holder = f i }

-- a whole buffer at its own address goes down as it is
pub down_own : (m : Mapping) → Whole m → m.landing ≡ m.buffer.address → m.device.0 % 4096 ≡ m.buffer.address % 4096 → down m ≡ m
down_own m w own offset =
    let s = w.starts in
    let e = w.ends in
    let land : base_of m.landing ≡ m.landing = omega arith in
    let address : base_of m.landing ≡ m.buffer.address = omega arith in
    let len : page_count m * 4096 ≡ m.buffer.length = omega arith in
    let device : base_of m.device.0 ≡ m.device.0 = omega arith in
    same_mapping (down m) m refl refl (λ i. record { address = address i; length = len i }) (λ i. record { 0 = device i }) land refl

-- Lists ---------------------------------------------------------------------------------------------------

pub lowered_none : lowered [] ≡ []
unfolding lowered
lowered_none = refl

pub lowered_cons : (m : Mapping) (o : List Mapping) → lowered (m ∷ o) ≡ down m ∷ lowered o
unfolding lowered
lowered_cons m o = refl

pub length_lowered : (o : List Mapping) → length (lowered o) ≡ length o
unfolding lowered
length_lowered [] = refl
length_lowered (m ∷ o) = let later = length_lowered o in omega arith

pub in_lowered : (m : Mapping) (o : List Mapping) → In m o → In (down m) (lowered o)
unfolding lowered
in_lowered m [] i = i
in_lowered m (k ∷ o) (inl e) = inl (ap down e)
in_lowered m (k ∷ o) (inr i) = inr (in_lowered m o i)

-- a mapping below, with the one above
pub record Raised (n : Mapping) (o : List Mapping) : Type 0 where
  pub mapping : Mapping
  pub is_open : In mapping o
  pub same : n ≡ down mapping

pub from_lowered : (n : Mapping) (o : List Mapping) → In n (lowered o) → Raised n o
unfolding lowered
from_lowered n [] i = elim i [ ]
from_lowered n (k ∷ o) (inl e) = record { mapping = k; is_open = inl refl; same = e }
from_lowered n (k ∷ o) (inr i) = let r = from_lowered n o i in record { mapping = r.mapping; is_open = inr r.is_open; same = r.same }

-- what holds of each pair below holds of each pair above
pub pairs_above : (R Q : Mapping → Mapping → Type 0) (o : List Mapping) → ((m n : Mapping) → R (down m) (down n) → Q m n) → Pairwise R (lowered o) → Pairwise Q o
unfolding lowered
pairs_above R Q [] f h = tt
pairs_above R Q (m ∷ o) f h = ((λ n i. f m n (h.0 (down n) (in_lowered n o i))), pairs_above R Q o f h.1)

-- above a card reaches what it reaches below
pub reach_lowered : (o : List Mapping) (c p : ℕ) → reach_of (lowered o) c p ≡ reach_of o c p
unfolding lowered reach_of
reach_lowered [] c p = refl
reach_lowered (m ∷ o) c p =
    let a = down_page m in
    let b = down_frame m in
    let n = down_count m in
    let later = reach_lowered o c p in
    cc

-- Opened, closed, turned, found ---------------------------------------------------------------------------

pub lowered_insert : (m : Mapping) (o : List Mapping) → lowered (insert m o) ≡ insert (down m) (lowered o)
unfolding lowered insert
lowered_insert m [] = refl
lowered_insert m (k ∷ o) =
    let a = down_key m in
    let b = down_key k in
    let e : ltb (key m) (key k) ≡ ltb (key (down m)) (key (down k)) = cc in
    subst (λ (z : Bool). lowered (cond (ltb (key m) (key k)) (m ∷ k ∷ o) (k ∷ insert m o)) ≡ cond z (down m ∷ down k ∷ lowered o) (down k ∷ insert (down m) (lowered o))) e
    (go (ltb (key m) (key k)) (lowered_insert m o))
  where
    go : (b : Bool) → lowered (insert m o) ≡ insert (down m) (lowered o)
        → lowered (cond b (m ∷ k ∷ o) (k ∷ insert m o)) ≡ cond b (down m ∷ down k ∷ lowered o) (down k ∷ insert (down m) (lowered o))
    go true later = refl
    go false later = ap (λ (z : List Mapping). down k ∷ z) later

-- what starts at v above starts below at the page that v lies in
abbrev pub SameStarts : ℕ → ℕ → List Mapping → Type 0
SameStarts c v o = (n : Mapping) → In n o → starts c v n ≡ starts c (base_of v) (down n)

lowered_remove_lem : (c v : ℕ) (o : List Mapping) → SameStarts c v o → lowered (remove c v o) ≡ remove c (base_of v) (lowered o)
unfolding lowered remove
lowered_remove_lem c v [] h = refl
lowered_remove_lem c v (m ∷ o) h =
    subst (λ (z : Bool). lowered (cond (starts c v m) (remove c v o) (m ∷ remove c v o)) ≡ cond z (remove c (base_of v) (lowered o)) (down m ∷ remove c (base_of v) (lowered o)))
    (h m (inl refl)) (go (starts c v m) (lowered_remove_lem c v o (λ n i. h n (inr i))))
  where
    go : (b : Bool) → lowered (remove c v o) ≡ remove c (base_of v) (lowered o)
        → lowered (cond b (remove c v o) (m ∷ remove c v o)) ≡ cond b (remove c (base_of v) (lowered o)) (down m ∷ remove c (base_of v) (lowered o))
    go true later = later
    go false later = ap (λ (z : List Mapping). down m ∷ z) later

lowered_turn_lem : (h : Holder) (c v : ℕ) (o : List Mapping) → SameStarts c v o → lowered (turn h c v o) ≡ turn h c (base_of v) (lowered o)
unfolding lowered turn
lowered_turn_lem h c v [] s = refl
lowered_turn_lem h c v (m ∷ o) s =
    subst (λ (z : Bool). lowered (cond (starts c v m) (turned h m) m ∷ turn h c v o) ≡ cond z (turned h (down m)) (down m) ∷ turn h c (base_of v) (lowered o))
    (s m (inl refl)) (go (starts c v m) (lowered_turn_lem h c v o (λ n i. s n (inr i))))
  where
    go : (b : Bool) → lowered (turn h c v o) ≡ turn h c (base_of v) (lowered o)
        → lowered (cond b (turned h m) m ∷ turn h c v o) ≡ cond b (turned h (down m)) (down m) ∷ turn h c (base_of v) (lowered o)
    go true later = ap (λ (z : List Mapping). turned h (down m) ∷ z) later
    go false later = ap (λ (z : List Mapping). down m ∷ z) later

find_lowered_lem : (c v : ℕ) (o : List Mapping) (m : Mapping) → SameStarts c v o → find o c v ≡ Some m → find (lowered o) c (base_of v) ≡ Some (down m)
unfolding lowered find
find_lowered_lem c v [] m s e = absurd (cc)
find_lowered_lem c v (k ∷ o) m s e = go (starts c v k) refl e (λ i. find_lowered_lem c v o m (λ n j. s n (inr j)) i)
  where
    go : (b : Bool) → starts c v k ≡ b → cond b (Some k) (find o c v) ≡ Some m → (find o c v ≡ Some m → find (lowered o) c (base_of v) ≡ Some (down m))
        → cond (starts c (base_of v) (down k)) (Some (down k)) (find (lowered o) c (base_of v)) ≡ Some (down m)
    go true h i later = let same : k ≡ m = cc in
        cond-true (starts c (base_of v) (down k)) (Some (down k)) (find (lowered o) c (base_of v)) (sym (s k (inl refl)) ∙ h) ∙ ap (λ (z : Mapping). Some (down z)) same
    go false h i later = cond-false (starts c (base_of v) (down k)) (Some (down k)) (find (lowered o) c (base_of v)) (sym (s k (inl refl)) ∙ h) ∙ later i

-- a mapping starts below where its page starts
pub starts_below : (c v : ℕ) (n : Mapping) → starts c v n ≡ true → starts c (base_of v) (down n) ≡ true
starts_below c v n s = let f = starts_facts c v n s in starts_test c (base_of v) (down n) f.0 (ap base_of f.1)

-- and lies on that page
pub on_page_below : (c v : ℕ) (n : Mapping) → 0 < n.buffer.length → starts c (base_of v) (down n) ≡ true → on_page c (v / 4096) n ≡ true
on_page_below c v n some s =
    let f = starts_facts c (base_of v) (down n) s in
    let d : base_of n.device.0 ≡ base_of v = f.1 in
    let card : n.card.0 ≡ c = f.0 in
    let low : first_page n ≤ v / 4096 = omega arith in
    let high : v / 4096 < first_page n + page_count n = omega arith in grind (arith, nat_tests)

module _ (S : Setup) (o : List Mapping) (law : DisjointPages S o) (some : (m : Mapping) → In m o → 0 < m.buffer.length) (c v : ℕ) where
  -- where a mapping starts at v, what starts below is that one alone
  pub same_starts : (m : Mapping) → In m o → starts c v m ≡ true → SameStarts c v o
  same_starts m i s n j = elim (cases_Bool (starts c (base_of v) (down n))) [
    | inl t ↦ (let same = one_on_page S o law c (v / 4096) m n i j (start_page c v m (some m i) s) (on_page_below c v n (some n j) t) in
        ap (starts c v) same ∙ s ∙ sym t)
    | inr f ↦ elim (cases_Bool (starts c v n)) [
      | inl t ↦ t ∙ sym (starts_below c v n t)
      | inr g ↦ g ∙ sym f
    ]
  ]

  pub lowered_remove : (m : Mapping) → In m o → starts c v m ≡ true → lowered (remove c v o) ≡ remove c (base_of v) (lowered o)
  lowered_remove m i s = lowered_remove_lem c v o (same_starts m i s)

  pub lowered_turn : (h : Holder) (m : Mapping) → In m o → starts c v m ≡ true → lowered (turn h c v o) ≡ turn h c (base_of v) (lowered o)
  lowered_turn h m i s = lowered_turn_lem h c v o (same_starts m i s)

  pub find_lowered : (m : Mapping) → In m o → starts c v m ≡ true → find o c v ≡ Some m → find (lowered o) c (base_of v) ≡ Some (down m)
  find_lowered m i s e = find_lowered_lem c v o m (same_starts m i s) e

  -- nothing found below: nothing above
  pub find_nothing : find (lowered o) c (base_of v) ≡ None → find o c v ≡ None
  find_nothing e = find_none c v o (λ n i. elim (cases_Bool (starts c v n)) [
    | inl t ↦ (let f = missed c (base_of v) (lowered o) e (down n) (in_lowered n o i) in let b = starts_below c v n t in absurd (cc))
    | inr f ↦ f
  ])

  -- what is found below, and the mapping above it: it is found at v if it starts right there
  pub record Found (d : Mapping) : Type 0 where
    pub mapping : Mapping
    pub is_open : In mapping o
    pub same : d ≡ down mapping
    pub card : mapping.card.0 ≡ c
    pub page : base_of mapping.device.0 ≡ base_of v
    pub found : find o c v ≡ cond (eqb mapping.device.0 v) (Some mapping) None

  pub find_above : (d : Mapping) → find (lowered o) c (base_of v) ≡ Some d → Found d
  find_above d e =
      let r = from_lowered d o (find_is_in c (base_of v) (lowered o) d e) in
      let m = r.mapping in
      let s : starts c (base_of v) (down m) ≡ true = subst (λ (z : Mapping). starts c (base_of v) z ≡ true) r.same (find_starts c (base_of v) (lowered o) d e) in
      let f = starts_facts c (base_of v) (down m) s in
      let here = on_page_below c v m (some m r.is_open) s in
      let one : (n : Mapping) → In n o → starts c v n ≡ true → n ≡ m = λ n j t. one_on_page S o law c (v / 4096) m n r.is_open j here (start_page c v n (some n j) t) in
      record {
        mapping = m;
        is_open = r.is_open;
        same = r.same;
        card = f.0;
        page = f.1;
        found = elim (cases_Bool (eqb m.device.0 v)) [
          | inl t ↦ find_in c v o m r.is_open (starts_test c v m f.0 (eqb-true m.device.0 v t)) one ∙ sym (cond-true (eqb m.device.0 v) (Some m) None t)
          | inr g ↦ find_none c v o (λ n j. elim (cases_Bool (starts c v n)) [
            | inl t ↦ absurd (eqb-false m.device.0 v g (ap (λ (z : Mapping). z.device.0) (sym (one n j t)) ∙ (starts_facts c v n t).1))
            | inr k ↦ k
          ]) ∙ sym (cond-false (eqb m.device.0 v) (Some m) None g)
        ];
      }
