-- What the first slot that answers with yes tells of the open mappings.
use Rattle.std.proofs.Common.{◌≡◌, ℕ, zero, suc, ◌<◌, inl, inr, Bool, true, false, cond, ◌&&◌, ◌||◌, List, [], ◌∷◌, length, get_or, set, Some, None, Option, sym, refl, ap, ◌∙◌, ltb, arith, Bor, ext_get_or, not, leb, filter}
use Rattle.std.specs.List.{list_any, position_or_len, slice_get, find as first_of}
use Rattle.std.specs.Option.{option_map}
use Rattle.std.proofs.lemmas.List.Folds.{find_at}
use Rattle.std.proofs.lemmas.List.Sums.{fails_before_first, passes_at_first}
use Rattle.std.proofs.lemmas.Option.{slice_get_within, get_or_from_slice_get, slice_get-get_or}
use Rattle.std.proofs.lemmas.Bool.Decides.{nat_tests}
use Rattle.std.specs.Array.{IsFromFnResult}
use Rattle.std.specs.Fn.{Called}
use denote.Param.Members.{Mut}
use Rattle.std.proofs.lemmas.Bool.{cases_lt, cases_Bool}
use Rattle.units.specs.declared.number.DevicePage.{DevicePage}
use Rattle.chooser.specs.declared.gap.Range.{Range}
use Rattle.std.proofs.lemmas.Bool.{cond-true, cond-false}
use Rattle.units.specs.declared.mapping.Holder.{Holder}
use Rattle.units.specs.declared.mapping.Mapping.{Mapping}
use Rattle.meaning.specs.Mappings.{starts, on_page, covers, card_holds, turned, insert, remove, turn, find, held, reach_of, reach_through}
use Rattle.meaning.specs.Worlds.{Setup}
use Rattle.meaning.specs.Effects.{on_found}
use Rattle.meaning.proofs.Lists.{find_in, find_none, held_insert, reach_of_in, reach_none, remove_none, turn_none}
use Rattle.meaning.proofs.Unique.{one_start, one_on_page}
use Rattle.pages.specs.Lawful.{lawful}
use Rattle.pages.proofs.Made.{made_each}
use Rattle.pages.proofs.Facts.{lawful_facts}
use Rattle.pages.proofs.Laws.{disjoint}
use Rattle.slots.specs.declared.slot.Slot.{Slot}
use Rattle.slots.specs.Slots.{free_slot, holding, is_free, has, place_in, opened_of, reach_by, no_pages, pages_in, all_pages, first_becomes}
use Rattle.slots.proofs.Slots.{in_opened, nowhere, count_none, count_free, count_held, count_most, close_slot, turn_slot}

-- the mapping of a slot of which a question holds
pub record Such (such : Mapping → Bool) (slot : Slot) : Type 0 where
  pub mapping : Mapping
  pub holds : slot.mapping ≡ Some mapping
  pub is : such mapping ≡ true

pub has_such : (such : Mapping → Bool) (slot : Slot) → has such slot ≡ true → Such such slot
has_such such slot e = go slot.mapping refl e
  where
    go : (f : Option Mapping) → slot.mapping ≡ f → on_found f false such ≡ true → Such such slot
    go None h k = absurd (cc)
    go (Some m) h k = record { mapping = m; holds = h; is = k }

module _ (S : Setup) (ss : List Slot) (e : lawful S (opened_of ss) ≡ true) (i : ℕ) (l : i < length ss) where
  pub found_at : (c v : ℕ) → has (starts c v) (get_or ss i free_slot) ≡ true → (get_or ss i free_slot).mapping ≡ find (opened_of ss) c v
  found_at c v h =
      let s = has_such (starts c v) (get_or ss i free_slot) h in
      let o = opened_of ss in
      let here = in_opened ss i s.mapping l s.holds in
      let each = (lawful_facts S o e).each in
      s.holds ∙ sym (find_in c v o s.mapping here s.is (λ n j t. one_start S o (disjoint S o e) c v s.mapping n here j (each s.mapping here).some (each n j).some s.is t))

  pub reached_at : (c p : ℕ) → has (on_page c p) (get_or ss i free_slot) ≡ true → reach_by c p (get_or ss i free_slot) ≡ reach_of (opened_of ss) c p
  reached_at c p h =
      let s = has_such (on_page c p) (get_or ss i free_slot) h in
      let o = opened_of ss in
      let m = s.mapping in
      let here = in_opened ss i m l s.holds in
      ap (λ (z : Option Mapping). on_found z None (λ k. cond (on_page c p k) (reach_through k p) None)) s.holds
      ∙ cond-true (on_page c p m) (reach_through m p) None s.is ∙ sym (reach_of_in c p o m here s.is (λ n j t. one_on_page S o (disjoint S o e) c p m n here j s.is t))

  pub closed_at : (c v : ℕ) (slot : Slot) → slot ≡ free_slot → has (starts c v) (get_or ss i free_slot) ≡ true → opened_of (set ss i slot) ≡ remove c v (opened_of ss)
  closed_at c v slot f h =
      let s = has_such (starts c v) (get_or ss i free_slot) h in
      ap (λ (z : Slot). opened_of (set ss i z)) f ∙ close_slot S c v s.mapping s.is ss i l s.holds e

  pub turned_at : (t : Holder) (c v : ℕ) (slot : Slot) → ((m : Mapping) → (get_or ss i free_slot).mapping ≡ Some m → slot ≡ holding (turned t m)) → has (starts c v) (get_or ss i free_slot) ≡ true
      → opened_of (set ss i slot) ≡ turn t c v (opened_of ss)
  turned_at t c v slot f h =
      let s = has_such (starts c v) (get_or ss i free_slot) h in
      ap (λ (z : Slot). opened_of (set ss i z)) (f s.mapping s.holds) ∙ turn_slot S c v s.mapping s.is t ss i l s.holds e

pub not_found : (c v : ℕ) (ss : List Slot) → ((k : ℕ) → k < length ss → has (starts c v) (get_or ss k free_slot) ≡ false) → find (opened_of ss) c v ≡ None
not_found c v ss h = find_none c v (opened_of ss) (nowhere (starts c v) ss h)

pub not_reached : (c p : ℕ) (ss : List Slot) → ((k : ℕ) → k < length ss → has (on_page c p) (get_or ss k free_slot) ≡ false) → reach_of (opened_of ss) c p ≡ None
not_reached c p ss h = reach_none c p (opened_of ss) (nowhere (on_page c p) ss h)

pub not_closed : (c v : ℕ) (ss : List Slot) → ((k : ℕ) → k < length ss → has (starts c v) (get_or ss k free_slot) ≡ false) → opened_of ss ≡ remove c v (opened_of ss)
not_closed c v ss h = sym (remove_none c v (opened_of ss) (nowhere (starts c v) ss h))

pub not_turned : (t : Holder) (c v : ℕ) (ss : List Slot) → ((k : ℕ) → k < length ss → has (starts c v) (get_or ss k free_slot) ≡ false) → opened_of ss ≡ turn t c v (opened_of ss)
not_turned t c v ss h = sym (turn_none t c v (opened_of ss) (nowhere (starts c v) ss h))

-- the first slot that is such became another
pub first_at : (such : Slot → Bool) (f : Slot → Slot) (ss : List Slot) (i : ℕ) → i < length ss → such (get_or ss i free_slot) ≡ true
    → ((k : ℕ) → k < i → such (get_or ss k free_slot) ≡ false) → set ss i (f (get_or ss i free_slot)) ≡ first_becomes such f ss
unfolding first_becomes
first_at such f [] i l here before = absurd (omega arith)
first_at such f (s ∷ ss) zero l here before = sym (cond-true (such s) (f s ∷ ss) (s ∷ first_becomes such f ss) here)
first_at such f (s ∷ ss) (suc i) l here before =
    ap (λ (z : List Slot). s ∷ z) (first_at such f ss i (omega arith) here (λ k q. before (suc k) (omega arith)))
    ∙ sym (cond-false (such s) (f s ∷ ss) (s ∷ first_becomes such f ss) (before 0 (omega arith)))

pub none_such : (such : Slot → Bool) (f : Slot → Slot) (ss : List Slot) → ((k : ℕ) → k < length ss → such (get_or ss k free_slot) ≡ false) → ss ≡ first_becomes such f ss
unfolding first_becomes
none_such such f [] h = refl
none_such such f (s ∷ ss) h = ap (λ (z : List Slot). s ∷ z) (none_such such f ss (λ k l. h (suc k) (omega arith)))
    ∙ sym (cond-false (such s) (f s ∷ ss) (s ∷ first_becomes such f ss) (h 0 (omega arith)))

-- What a search of the slots gives ----------------------------------------------------------------------

-- a search gave a place
pub found_place : (such : Slot → Bool) (ss : List Slot) (i : ℕ) → Some i ≡ place_in such ss → (i < length ss) × (such (get_or ss i free_slot) ≡ true)
    × ((k : ℕ) → k < i → such (get_or ss k free_slot) ≡ false)
found_place such ss i e = (
  grind (arith, nat_tests),
  grind (arith, nat_tests, passes_at_first such ss free_slot),
  λ k l. fails_before_first such ss k free_slot (grind (arith, nat_tests)),
)

-- it gave none
pub found_none : (such : Slot → Bool) (ss : List Slot) → None ≡ place_in such ss → (k : ℕ) → k < length ss → such (get_or ss k free_slot) ≡ false
found_none such ss e k l = fails_before_first such ss k free_slot (grind (arith, nat_tests))

-- the slot that a search lent
pub found_slot : (such : Slot → Bool) (ss : List Slot) (r : Option (Bor Slot)) (slot : Bor Slot) → r ≡ Some slot → option_map (λ (x : Bor Slot). x.now) r ≡ first_of such ss
    → (k : ℕ) × (k < length ss) × (such (get_or ss k free_slot) ≡ true) × (get_or ss k free_slot ≡ slot.now)
found_slot such ss r slot e h =
    let k = position_or_len such ss in
    let at : slice_get ss k ≡ Some slot.now = sym (find_at such ss) ∙ sym h ∙ ap (option_map (λ (x : Bor Slot). x.now)) e in
    let l = slice_get_within ss k slot.now at in
    (k, l, passes_at_first such ss free_slot l, get_or_from_slice_get ss k slot.now free_slot at)

-- it lent none
pub found_no_slot : (such : Slot → Bool) (ss : List Slot) (r : Option (Bor Slot)) → r ≡ None → option_map (λ (x : Bor Slot). x.now) r ≡ first_of such ss
    → (k : ℕ) → k < length ss → such (get_or ss k free_slot) ≡ false
found_no_slot such ss r e h k l =
    let past : slice_get ss (position_or_len such ss) ≡ None = sym (find_at such ss) ∙ sym h ∙ ap (option_map (λ (x : Bor Slot). x.now)) e in
    elim (cases_lt k (position_or_len such ss)) [
      | inl before ↦ fails_before_first such ss k free_slot before
      | inr after ↦ (let here = slice_get-get_or ss (position_or_len such ss) free_slot (omega arith) in absurd (cc))
    ]

pub count_filter : (ss : List Slot) → length (filter (λ slot. not (is_free slot)) ss) ≡ length (opened_of ss)
count_filter [] = sym count_none
count_filter (slot ∷ ss) = let later = count_filter ss in elim (cases_Bool (is_free slot)) [
  | inl e ↦ grind (arith, nat_tests, count_free slot ss e)
  | inr e ↦ grind (arith, nat_tests, count_held slot ss e)
]

-- whether a slot is free
pub full_any : (ss : List Slot) → not (list_any is_free ss) ≡ leb (length ss) (length (opened_of ss))
full_any [] = ap (leb 0) (sym count_none)
full_any (slot ∷ ss) = go (is_free slot) refl (full_any ss)
  where
    go : (b : Bool) → is_free slot ≡ b → not (list_any is_free ss) ≡ leb (length ss) (length (opened_of ss)) → not (b || list_any is_free ss) ≡ leb (suc (length ss)) (length (opened_of (slot ∷ ss)))
    go true e later = grind (arith, nat_tests, count_most ss, count_free slot ss e)
    go false e later = grind (arith, nat_tests, count_held slot ss e)

-- whether a slot's buffer has the byte and is held by the card
pub held_any : (b : ℕ) (ss : List Slot) → list_any (has (λ m. card_holds m.holder && covers m b)) ss ≡ held (opened_of ss) b
unfolding opened_of held
held_any b [] = refl
held_any b (slot ∷ ss) = go slot.mapping (held_any b ss)
  where
    go : (f : Option Mapping) → list_any (has (λ m. card_holds m.holder && covers m b)) ss ≡ held (opened_of ss) b
        → (on_found f false (λ m. card_holds m.holder && covers m b) || list_any (has (λ m. card_holds m.holder && covers m b)) ss) ≡ held (on_found f (opened_of ss) (λ m. insert m (opened_of ss))) b
    go None later = later
    go (Some m) later = ap (λ (z : Bool). (card_holds m.holder && covers m b) || z) later ∙ sym (held_insert b m (opened_of ss))

pub pages_length : (c : ℕ) (ss : List Slot) → length (all_pages c ss) ≡ length ss
unfolding all_pages
pages_length c [] = refl
pages_length c (slot ∷ ss) = ap suc (pages_length c ss)

pub pages_at : (c : ℕ) (ss : List Slot) (i : ℕ) → i < length ss → get_or (all_pages c ss) i no_pages ≡ pages_in c (get_or ss i free_slot)
unfolding all_pages
pages_at c [] i l = absurd (omega arith)
pages_at c (slot ∷ ss) zero l = refl
pages_at c (slot ∷ ss) (suc i) l = pages_at c ss i (omega arith)

-- the slots' pages, one after the other
pub made_pages : {F : Type 0} (g : Mut F (ℕ × Unit {0}) (Range DevicePage)) (f : F) (card : ℕ) (ss : List Slot) (ys : List (Range DevicePage))
    → ((i : ℕ) (y : Range DevicePage) (q : F) → i < length ss → Called g f (i, tt) y q → (q ≡ f) × (y ≡ pages_in card (get_or ss i free_slot)))
    → (n : ℕ) → length ss ≡ n → IsFromFnResult g f ys n → ys ≡ all_pages card ss
made_pages g f card ss ys gives n held m =
    let made = made_each g f (λ i. pages_in card (get_or ss i free_slot)) no_pages n ys (λ i y q l k. gives i y q (omega arith) k) m in
    let long = made.0 in
    ext_get_or no_pages ys (all_pages card ss) (omega (arith, pages_length card ss)) (λ i l. made.1 i (omega arith) ∙ sym (pages_at card ss i (omega arith)))
