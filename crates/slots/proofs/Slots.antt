-- The slots as a list of open mappings: who is in it, and what opening, turning and closing a slot does.
use Rattle.std.proofs.Common.{◌≡◌, ℕ, zero, suc, ◌<◌, ◌≤◌, Bool, true, false, cond, eqb, List, [], ◌∷◌, length, get_or, set, replicate, Some, None, Option, sym, refl, ap, ◌∙◌, subst, inl, inr, arith}
use Rattle.std.proofs.lemmas.Bool.{eqb-true, eq-eqb, cond-true, cond-false, cases_Bool, both_ways}
use Rattle.units.specs.declared.mapping.Holder.{Holder}
use Rattle.units.specs.declared.mapping.Mapping.{Mapping}
use Rattle.units.specs.declared.number.DevicePage.{DevicePage}
use Rattle.chooser.specs.declared.gap.Range.{Range}
use Rattle.chooser.specs.Gaps.{Holds, Untouched}
use Rattle.meaning.specs.Mappings.{In, Pages, key, starts, on_page, turned, insert, remove, turn, reach_of, reach_through}
use Rattle.meaning.specs.Worlds.{Setup}
use Rattle.meaning.specs.Effects.{on_found}
use Rattle.meaning.proofs.Lists.{insert_in, insert_keeps, in_insert, insert_comm, length_insert, Sorted, sorted_insert, remove_insert_same, remove_insert_other, turn_none, turn_insert, reach_of_in, reach_insert_other}
use Rattle.pages.specs.Lawful.{lawful}
use Rattle.pages.specs.Pages.{page_number, pages_of, used_pages}
use Rattle.pages.proofs.Facts.{lawful_uninsert, start_apart}
use Rattle.pages.proofs.Taking.{untouched_used, used_untouched}
use Rattle.slots.specs.declared.slot.Slot.{Slot}
use Rattle.slots.specs.Slots.{free_slot, holding, is_free, has, opened_of, reach_in, no_pages, pages_in, all_pages}

-- Who is open ---------------------------------------------------------------------------------------------

step : (x : Slot) (xs : List Slot) (f : Option Mapping) → x.mapping ≡ f → opened_of (x ∷ xs) ≡ on_found f (opened_of xs) (λ m. insert m (opened_of xs))
unfolding opened_of
step x xs f e = ap (λ (z : Option Mapping). on_found z (opened_of xs) (λ m. insert m (opened_of xs))) e

pub in_opened : (ss : List Slot) (i : ℕ) (m : Mapping) → i < length ss → (get_or ss i free_slot).mapping ≡ Some m → In m (opened_of ss)
in_opened [] i m l e = absurd (omega arith)
in_opened (x ∷ xs) zero m l e = subst (In m) (sym (step x xs (Some m) e)) (insert_in m (opened_of xs))
in_opened (x ∷ xs) (suc i) m l e = go x.mapping refl (in_opened xs i m (omega arith) e)
  where
    go : (f : Option Mapping) → x.mapping ≡ f → In m (opened_of xs) → In m (opened_of (x ∷ xs))
    go None h later = subst (In m) (sym (step x xs None h)) later
    go (Some k) h later = subst (In m) (sym (step x xs (Some k) h)) (insert_keeps k m (opened_of xs) later)

pub opened_none : (n : ℕ) → opened_of (replicate n free_slot) ≡ []
unfolding opened_of
opened_none zero = refl
opened_none (suc n) = opened_none n

-- a slot that holds the mapping
pub record HolderOf (ss : List Slot) (m : Mapping) : Type 0 where
  pub index : ℕ
  pub below : index < length ss
  pub holds : (get_or ss index free_slot).mapping ≡ Some m

pub opened_in : (ss : List Slot) (m : Mapping) → In m (opened_of ss) → HolderOf ss m
unfolding opened_of
opened_in [] m i = elim i [ ]
opened_in (x ∷ xs) m i = go x.mapping refl i (λ j. opened_in xs m j)
  where
    later_on : HolderOf xs m → HolderOf (x ∷ xs) m
    later_on h = let b = h.below in record { index = suc h.index; below = omega arith; holds = h.holds }

    go : (f : Option Mapping) → x.mapping ≡ f → In m (on_found f (opened_of xs) (λ k. insert k (opened_of xs))) → (In m (opened_of xs) → HolderOf xs m) → HolderOf (x ∷ xs) m
    go None h j later = later_on (later j)
    go (Some k) h j later = elim (in_insert k m (opened_of xs) j) [
      | inl s ↦ record { index = 0; below = omega arith; holds = h ∙ ap (λ (z : Mapping). Some z) (sym s) }
      | inr l ↦ later_on (later l)
    ]

pub opened_sorted : (ss : List Slot) → Sorted (opened_of ss)
unfolding opened_of
opened_sorted [] = tt
opened_sorted (x ∷ xs) = go x.mapping (opened_sorted xs)
  where
    go : (f : Option Mapping) → Sorted (opened_of xs) → Sorted (on_found f (opened_of xs) (λ m. insert m (opened_of xs)))
    go None later = later
    go (Some m) later = sorted_insert m (opened_of xs) later

-- a question that no slot answers with yes holds of no open mapping
pub nowhere : (such : Mapping → Bool) (ss : List Slot) → ((k : ℕ) → k < length ss → has such (get_or ss k free_slot) ≡ false) → (m : Mapping) → In m (opened_of ss) → such m ≡ false
nowhere such ss h m i = let o = opened_in ss m i in
    ap (λ (z : Option Mapping). on_found z false such) (sym o.holds) ∙ h o.index o.below

-- How many ------------------------------------------------------------------------------------------------

pub free_is : (slot : Slot) → is_free slot ≡ true → slot.mapping ≡ None
free_is slot e = go slot.mapping e
  where
    go : (f : Option Mapping) → on_found f true (λ m. false) ≡ true → f ≡ None
    go None e = refl
    go (Some m) e = absurd (cc)

pub count_free : (x : Slot) (xs : List Slot) → is_free x ≡ true → length (opened_of (x ∷ xs)) ≡ length (opened_of xs)
count_free x xs e = ap length (step x xs None (free_is x e))

pub count_held : (x : Slot) (xs : List Slot) → is_free x ≡ false → length (opened_of (x ∷ xs)) ≡ suc (length (opened_of xs))
unfolding opened_of
count_held x xs e = go x.mapping e
  where
    go : (f : Option Mapping) → on_found f true (λ m. false) ≡ false → length (on_found f (opened_of xs) (λ m. insert m (opened_of xs))) ≡ suc (length (opened_of xs))
    go None e = absurd (cc)
    go (Some m) e = length_insert m (opened_of xs)

pub count_none : length (opened_of []) ≡ 0
unfolding opened_of
count_none = refl

pub count_most : (ss : List Slot) → length (opened_of ss) ≤ length ss
count_most [] = let z = count_none in omega arith
count_most (x ∷ xs) = let later = count_most xs in elim (cases_Bool (is_free x)) [
  | inl e ↦ (let z = count_free x xs e in omega arith)
  | inr e ↦ (let z = count_held x xs e in omega arith)
]

pub count_full : (ss : List Slot) → ((k : ℕ) → k < length ss → is_free (get_or ss k free_slot) ≡ false) → length (opened_of ss) ≡ length ss
count_full [] h = count_none
count_full (x ∷ xs) h = count_held x xs (h 0 (omega arith)) ∙ ap suc (count_full xs (λ k l. h (suc k) (omega arith)))

pub count_room : (ss : List Slot) (i : ℕ) → i < length ss → is_free (get_or ss i free_slot) ≡ true → length (opened_of ss) < length ss
count_room [] i l e = absurd (omega arith)
count_room (x ∷ xs) zero l e = let z = count_free x xs e in let m = count_most xs in omega arith
count_room (x ∷ xs) (suc i) l e = let later = count_room xs i (omega arith) e in elim (cases_Bool (is_free x)) [
  | inl f ↦ (let z = count_free x xs f in omega arith)
  | inr f ↦ (let z = count_held x xs f in omega arith)
]

-- Changes of one slot -----------------------------------------------------------------------------------

pub open_slot : (ss : List Slot) (i : ℕ) (m : Mapping) → i < length ss → (get_or ss i free_slot).mapping ≡ None → ((n : Mapping) → In n (opened_of ss) → key n ≡ key m → ⊥)
    → opened_of (set ss i (holding m)) ≡ insert m (opened_of ss)
open_slot [] i m l e h = absurd (omega arith)
open_slot (x ∷ xs) zero m l e h = step (holding m) xs (Some m) refl ∙ ap (insert m) (sym (step x xs None e))
open_slot (x ∷ xs) (suc i) m l e h = go x.mapping refl (λ k. open_slot xs i m (omega arith) e k)
  where
    go : (f : Option Mapping) → x.mapping ≡ f → (((n : Mapping) → In n (opened_of xs) → key n ≡ key m → ⊥) → opened_of (set xs i (holding m)) ≡ insert m (opened_of xs))
        → opened_of (x ∷ set xs i (holding m)) ≡ insert m (opened_of (x ∷ xs))
    go None s later = step x _ None s ∙ later (λ n j. h n (subst (In n) (sym (step x xs None s)) j)) ∙ ap (insert m) (sym (step x xs None s))
    go (Some k) s later =
        let all : (n : Mapping) → In n (insert k (opened_of xs)) → key n ≡ key m → ⊥ = λ n j. h n (subst (In n) (sym (step x xs (Some k) s)) j) in
        step x _ (Some k) s ∙ ap (insert k) (later (λ n j. all n (insert_keeps k n (opened_of xs) j)))
        ∙ insert_comm k m (opened_of xs) (all k (insert_in k (opened_of xs))) ∙ ap (insert m) (sym (step x xs (Some k) s))

module _ (S : Setup) (c v : ℕ) (m : Mapping) (s : starts c v m ≡ true) where
  -- nothing else that is open starts there
  alone : (o : List Mapping) → lawful S (insert m o) ≡ true → (n : Mapping) → In n o → starts c v n ≡ false
  alone o e n i = let u = lawful_uninsert S m o e in start_apart S c v m n u.first (u.rest n i) (u.apart n i) s

  aside : (k : Mapping) (o : List Mapping) → lawful S (insert k o) ≡ true → In m o → starts c v k ≡ false
  aside k o e i = let u = lawful_uninsert S k o e in elim (cases_Bool (starts c v k)) [
    | inl t ↦ absurd (both_ways (starts c v m) (start_apart S c v k m u.first (u.rest m i) (u.apart m i) t) s)
    | inr f ↦ f
  ]

  pub close_slot : (ss : List Slot) (i : ℕ) → i < length ss → (get_or ss i free_slot).mapping ≡ Some m → lawful S (opened_of ss) ≡ true
      → opened_of (set ss i free_slot) ≡ remove c v (opened_of ss)
  close_slot [] i l e h = absurd (omega arith)
  close_slot (x ∷ xs) zero l e h =
      let h' : lawful S (insert m (opened_of xs)) ≡ true = ap (lawful S) (sym (step x xs (Some m) e)) ∙ h in
      step free_slot xs None refl ∙ sym (remove_insert_same c v m (opened_of xs) s (alone (opened_of xs) h')) ∙ ap (remove c v) (sym (step x xs (Some m) e))
  close_slot (x ∷ xs) (suc i) l e h = go x.mapping refl (λ k. close_slot xs i (omega arith) e k) (in_opened xs i m (omega arith) e)
    where
      go : (f : Option Mapping) → x.mapping ≡ f → (lawful S (opened_of xs) ≡ true → opened_of (set xs i free_slot) ≡ remove c v (opened_of xs)) → In m (opened_of xs)
          → opened_of (x ∷ set xs i free_slot) ≡ remove c v (opened_of (x ∷ xs))
      go None t later j = step x _ None t ∙ later (ap (lawful S) (sym (step x xs None t)) ∙ h) ∙ ap (remove c v) (sym (step x xs None t))
      go (Some k) t later j =
          let h' : lawful S (insert k (opened_of xs)) ≡ true = ap (lawful S) (sym (step x xs (Some k) t)) ∙ h in
          step x _ (Some k) t ∙ ap (insert k) (later (lawful_uninsert S k (opened_of xs) h').others)
          ∙ sym (remove_insert_other c v k (opened_of xs) (aside k (opened_of xs) h' j) (opened_sorted xs)) ∙ ap (remove c v) (sym (step x xs (Some k) t))

  pub turn_slot : (t : Holder) (ss : List Slot) (i : ℕ) → i < length ss → (get_or ss i free_slot).mapping ≡ Some m → lawful S (opened_of ss) ≡ true
      → opened_of (set ss i (holding (turned t m))) ≡ turn t c v (opened_of ss)
  turn_slot t [] i l e h = absurd (omega arith)
  turn_slot t (x ∷ xs) zero l e h =
      let h' : lawful S (insert m (opened_of xs)) ≡ true = ap (lawful S) (sym (step x xs (Some m) e)) ∙ h in
      step (holding (turned t m)) xs (Some (turned t m)) refl ∙ ap (insert (turned t m)) (sym (turn_none t c v (opened_of xs) (alone (opened_of xs) h')))
      ∙ ap (λ (z : Mapping). insert z (turn t c v (opened_of xs))) (sym (cond-true (starts c v m) (turned t m) m s)) ∙ sym (turn_insert t c v m (opened_of xs))
      ∙ ap (turn t c v) (sym (step x xs (Some m) e))
  turn_slot t (x ∷ xs) (suc i) l e h = go x.mapping refl (λ k. turn_slot t xs i (omega arith) e k) (in_opened xs i m (omega arith) e)
    where
      go : (f : Option Mapping) → x.mapping ≡ f → (lawful S (opened_of xs) ≡ true → opened_of (set xs i (holding (turned t m))) ≡ turn t c v (opened_of xs)) → In m (opened_of xs)
          → opened_of (x ∷ set xs i (holding (turned t m))) ≡ turn t c v (opened_of (x ∷ xs))
      go None q later j = step x _ None q ∙ later (ap (lawful S) (sym (step x xs None q)) ∙ h) ∙ ap (turn t c v) (sym (step x xs None q))
      go (Some k) q later j =
          let h' : lawful S (insert k (opened_of xs)) ≡ true = ap (lawful S) (sym (step x xs (Some k) q)) ∙ h in
          step x _ (Some k) q ∙ ap (insert k) (later (lawful_uninsert S k (opened_of xs) h').others)
          ∙ ap (λ (z : Mapping). insert z (turn t c v (opened_of xs))) (sym (cond-false (starts c v k) (turned t k) k (aside k (opened_of xs) h' j)))
          ∙ sym (turn_insert t c v k (opened_of xs)) ∙ ap (turn t c v) (sym (step x xs (Some k) q))

-- Reach, by the slots themselves ------------------------------------------------------------------------

pub reach_slots : (c p : ℕ) (ss : List Slot)
    → ((m n : Mapping) → In m (opened_of ss) → In n (opened_of ss) → on_page c p m ≡ true → on_page c p n ≡ true → n ≡ m) → reach_in ss c p ≡ reach_of (opened_of ss) c p
unfolding reach_in opened_of reach_of
reach_slots c p [] one = refl
reach_slots c p (x ∷ xs) one = go x.mapping one (λ k. reach_slots c p xs k)
  where
    go : (f : Option Mapping) → ((m n : Mapping) → In m (on_found f (opened_of xs) (λ k. insert k (opened_of xs))) → In n (on_found f (opened_of xs) (λ k. insert k (opened_of xs)))
        → on_page c p m ≡ true → on_page c p n ≡ true → n ≡ m)
        → (((m n : Mapping) → In m (opened_of xs) → In n (opened_of xs) → on_page c p m ≡ true → on_page c p n ≡ true → n ≡ m) → reach_in xs c p ≡ reach_of (opened_of xs) c p)
        → cond (on_found f false (on_page c p)) (on_found f None (λ m. cond (on_page c p m) (reach_through m p) None)) (reach_in xs c p) ≡ reach_of (on_found f (opened_of xs) (λ k. insert k (opened_of xs))) c p
    go None u later = later u
    go (Some m) u later = elim (cases_Bool (on_page c p m)) [
      | inl e ↦ (cond-true (on_page c p m) (cond (on_page c p m) (reach_through m p) None) (reach_in xs c p) e ∙ cond-true (on_page c p m) (reach_through m p) None e
          ∙ sym (reach_of_in c p (insert m (opened_of xs)) m (insert_in m (opened_of xs)) e (λ n i. u m n (insert_in m (opened_of xs)) i e)))
      | inr e ↦ (cond-false (on_page c p m) (cond (on_page c p m) (reach_through m p) None) (reach_in xs c p) e
          ∙ later (λ n k i j. u n k (insert_keeps m n (opened_of xs) i) (insert_keeps m k (opened_of xs) j)) ∙ sym (reach_insert_other c p m (opened_of xs) e))
    ]

-- Pages in use --------------------------------------------------------------------------------------------

-- the pages that a slot takes are those of its mapping, if that is of the card
slot_pages : (c x : ℕ) (slot : Slot) (m : Mapping) → slot.mapping ≡ Some m → m.card.0 ≡ c → Pages m x → Holds page_number (pages_in c slot) x
slot_pages c x slot m e s p =
    let same : pages_in c slot ≡ pages_of m = ap (λ (z : Option Mapping). on_found z no_pages (λ k. cond (eqb k.card.0 c) (pages_of k) no_pages)) e ∙ cond-true (eqb m.card.0 c) (pages_of m) no_pages (eq-eqb m.card.0 c s) in
    subst (λ (z : Range DevicePage). Holds page_number z x) (sym same) (p.from, p.to)

record On (c x : ℕ) (slot : Slot) : Type 0 where
  mapping : Mapping
  holds : slot.mapping ≡ Some mapping
  card : mapping.card.0 ≡ c
  page : Pages mapping x

pages_slot : (c x : ℕ) (slot : Slot) → Holds page_number (pages_in c slot) x → On c x slot
pages_slot c x slot h = go slot.mapping refl h
  where
    go : (f : Option Mapping) → slot.mapping ≡ f → Holds page_number (on_found f no_pages (λ k. cond (eqb k.card.0 c) (pages_of k) no_pages)) x → On c x slot
    go None e k = let a = k.0 in let b = k.1 in absurd (omega arith)
    go (Some m) e k = side (eqb m.card.0 c) refl k
      where
        side : (b : Bool) → eqb m.card.0 c ≡ b → Holds page_number (cond b (pages_of m) no_pages) x → On c x slot
        side true s k = record { mapping = m; holds = e; card = eqb-true m.card.0 c s; page = record { from = k.0; to = k.1 } }
        side false s k = let a = k.0 in let b = k.1 in absurd (omega arith)

untouched_at : (c x : ℕ) (ss : List Slot) → Untouched page_number (all_pages c ss) x → (k : ℕ) → k < length ss → Holds page_number (pages_in c (get_or ss k free_slot)) x → ⊥
unfolding all_pages
untouched_at c x [] u k l h = omega arith
untouched_at c x (slot ∷ ss) u zero l h = u.0 h
untouched_at c x (slot ∷ ss) u (suc k) l h = untouched_at c x ss u.1 k (omega arith) h

at_untouched : (c x : ℕ) (ss : List Slot) → ((k : ℕ) → k < length ss → Holds page_number (pages_in c (get_or ss k free_slot)) x → ⊥) → Untouched page_number (all_pages c ss) x
unfolding all_pages
at_untouched c x [] h = tt
at_untouched c x (slot ∷ ss) h = (h 0 (omega arith), at_untouched c x ss (λ k l. h (suc k) (omega arith)))

-- slot by slot or mapping by mapping, the same pages are free
pub pages_same : (c x : ℕ) (ss : List Slot) → Untouched page_number (all_pages c ss) x → Untouched page_number (used_pages (opened_of ss) c) x
pages_same c x ss u = used_untouched (opened_of ss) c x (λ m i e p.
    let o = opened_in ss m i in untouched_at c x ss u o.index o.below (slot_pages c x (get_or ss o.index free_slot) m o.holds e p))

pub pages_back : (c x : ℕ) (ss : List Slot) → Untouched page_number (used_pages (opened_of ss) c) x → Untouched page_number (all_pages c ss) x
pages_back c x ss u = at_untouched c x ss (λ k l h.
    let q = pages_slot c x (get_or ss k free_slot) h in untouched_used (opened_of ss) c x u q.mapping (in_opened ss k q.mapping l q.holds) q.card q.page)
