-- Which pages are open and what words they have, through every change of the open mappings.
use Rattle.std.proofs.Common.{◌≡◌, ℕ, zero, suc, ◌+◌, ◌-◌, ◌/◌, ◌%◌, ◌^◌, ◌<◌, ◌≤◌, Bool, true, false, cond, not, ◌||◌, List, [], ◌∷◌, ◌++◌, None, Option, ◌==◌, sym, refl, ap, ◌∙◌, inl, inr, arith}
use Rattle.std.proofs.lemmas.Bool.Decides.{nat_tests}
use Rattle.std.proofs.lemmas.Bool.{cases_Bool, cond-true, cond-false}
use Rattle.units.specs.declared.direction.Direction.{Direction}
use Rattle.units.specs.declared.direction.Direction.TheVariants.{Both, ToCard, FromCard}
use Rattle.units.specs.declared.mapping.Holder.{Holder}
use Rattle.units.specs.declared.mapping.Mapping.{Mapping}
use Rattle.units.specs.declared.mapping.Reach.{Reach}
use Rattle.units.specs.Directions.{rights_of}
use Rattle.meaning.specs.Memory.{within}
use Rattle.meaning.specs.Mappings.{In, key, first_page, first_frame, page_count, on_page, starts, turned, insert, remove, turn, reach_of, reach_through}
use Rattle.meaning.specs.Worlds.{Setup}
use Rattle.meaning.proofs.Lists.{insert_in, reach_of_in, reach_insert_other, reach_none, in_remove}
use Rattle.meaning.proofs.Facts.{within_from}
use Rattle.meaning.proofs.Unique.{one_on_page, one_start}
use Rattle.pages.specs.Lawful.{Ranged, lawful}
use Rattle.pages.proofs.Facts.{lawful_facts}
use Rattle.pages.proofs.Laws.{disjoint}
use Rattle.entry.specs.Words.{word_of}
use Rattle.tree.specs.Layout.{contains, put_span}
use Rattle.tree.specs.Counts.{pages_from}
use Rattle.tree.proofs.Sharing.{contains_append}
use Rattle.table_meaning.specs.Opened.{word_for, leaf_of, pages_of}

-- the last page of a mapping has 36 bits
abbrev pub Short : Mapping → Type 0
Short m = first_page m + page_count m ≤ 2 ^ 36

pub short_of : (S : Setup) (o : List Mapping) → Ranged S → lawful S o ≡ true → (m : Mapping) → In m o → Short m
short_of S o ranged e m i =
    let f = (lawful_facts S o e).each m i in
    let high = f.high in
    let last = (ranged.2 m.card.0 f.card).1 in
    omega arith

-- a page by its card and number, or by its number over all cards
pub on_page_key : (m : Mapping) (q : ℕ) → Short m → on_page (q / 2 ^ 36) (q % 2 ^ 36) m ≡ within (key m) (page_count m) q
on_page_key m q s = elim (cases_Bool (within (key m) (page_count m) q)) [
  | inl t ↦ (let low : key m ≤ q = grind (arith, nat_tests) in
      let high : q < key m + page_count m = grind (arith, nat_tests) in
      let card : m.card.0 ≡ q / 2 ^ 36 = omega arith in
      let from : first_page m ≤ q % 2 ^ 36 = omega arith in
      let to : q % 2 ^ 36 < first_page m + page_count m = omega arith in
      grind (arith, nat_tests))
  | inr f ↦ elim (cases_Bool (on_page (q / 2 ^ 36) (q % 2 ^ 36) m)) [
    | inl t ↦ (let card : m.card.0 ≡ q / 2 ^ 36 = grind (arith, nat_tests) in
        let from : first_page m ≤ q % 2 ^ 36 = grind (arith, nat_tests) in
        let to : q % 2 ^ 36 < first_page m + page_count m = grind (arith, nat_tests) in
        let low : key m ≤ q = omega arith in
        let high : q < key m + page_count m = omega arith in
        grind (arith, nat_tests))
    | inr g ↦ g ∙ sym f
  ]
]

-- Pages ---------------------------------------------------------------------------------------------------

pub contains_from : (q a n : ℕ) → contains q (pages_from a n) ≡ within a n q
contains_from q a zero = grind (arith, nat_tests)
contains_from q a (suc n) = let later = contains_from q a n in grind (arith, nat_tests)

some_right : (d : Direction) (n : ℕ) → word_of (rights_of d) n == 0 ≡ false
some_right Both n = grind (arith, nat_tests)
some_right ToCard n = grind (arith, nat_tests)
some_right FromCard n = grind (arith, nat_tests)

-- the pages that are open are those that have a word
pub listed : (o : List Mapping) → ((m : Mapping) → In m o → Short m) → (q : ℕ) → contains q (pages_of o) ≡ not (leaf_of o q == 0)
unfolding pages_of leaf_of reach_of
listed [] s q = refl
listed (m ∷ o) s q =
    contains_append q (pages_from (key m) (page_count m)) (pages_of o)
    ∙ ap (λ (b : Bool). b || contains q (pages_of o)) (contains_from q (key m) (page_count m) ∙ sym (on_page_key m q (s m (inl refl))))
    ∙ go (on_page (q / 2 ^ 36) (q % 2 ^ 36) m) (listed o (λ n i. s n (inr i)) q)
  where
    go : (b : Bool) → contains q (pages_of o) ≡ not (word_for (reach_of o (q / 2 ^ 36) (q % 2 ^ 36)) == 0)
        → (b || contains q (pages_of o)) ≡ not (word_for (cond b (reach_through m (q % 2 ^ 36)) (reach_of o (q / 2 ^ 36) (q % 2 ^ 36))) == 0)
    go true later = sym (ap not (some_right m.direction (first_frame m + (q % 2 ^ 36 - first_page m))))
    go false later = later

-- Changes -------------------------------------------------------------------------------------------------

-- the word of page j of a mapping
abbrev pub word_in : Mapping → ℕ → ℕ
word_in m j = word_of (rights_of m.direction) (first_frame m + j)

pub leaf_insert : (S : Setup) (m : Mapping) (o : List Mapping) → Ranged S → lawful S (insert m o) ≡ true → (q : ℕ)
    → put_span (leaf_of o) (key m) (page_count m) (word_in m) q ≡ leaf_of (insert m o) q
unfolding put_span leaf_of
leaf_insert S m o ranged e q =
    let c = q / 2 ^ 36 in
    let p = q % 2 ^ 36 in
    let same = on_page_key m q (short_of S (insert m o) ranged e m (insert_in m o)) in
    elim (cases_Bool (within (key m) (page_count m) q)) [
      | inl t ↦ (let here = same ∙ t in
          let low : key m ≤ q = grind (arith, nat_tests) in
          let card : m.card.0 ≡ c = grind (arith, nat_tests) in
          let ahead : q - key m ≡ p - first_page m = omega arith in
          let found = reach_of_in c p (insert m o) m (insert_in m o) here (λ n i g. one_on_page S (insert m o) (disjoint S (insert m o) e) c p m n (insert_in m o) i here g) in
          cond-true (within (key m) (page_count m) q) (word_in m (q - key m)) (word_for (reach_of o c p)) t ∙ ap (word_in m) ahead ∙ ap word_for (sym found))
      | inr f ↦ cond-false (within (key m) (page_count m) q) (word_in m (q - key m)) (word_for (reach_of o c p)) f ∙ ap word_for (sym (reach_insert_other c p m o (same ∙ f)))
    ]

-- what is left does not start there
pub remove_starts : (c v : ℕ) (n : Mapping) (o : List Mapping) → In n (remove c v o) → starts c v n ≡ false
unfolding remove
remove_starts c v n [] i = elim i [ ]
remove_starts c v n (k ∷ o) i = go (starts c v k) refl i (λ j. remove_starts c v n o j)
  where
    go : (b : Bool) → starts c v k ≡ b → In n (cond b (remove c v o) (k ∷ remove c v o)) → (In n (remove c v o) → starts c v n ≡ false) → starts c v n ≡ false
    go true s j later = later j
    go false s (inl e) later = ap (starts c v) e ∙ s
    go false s (inr j) later = later j

reach_remove_other : (c v d p : ℕ) (o : List Mapping) → ((n : Mapping) → In n o → starts c v n ≡ true → on_page d p n ≡ false) → reach_of (remove c v o) d p ≡ reach_of o d p
unfolding reach_of remove
reach_remove_other c v d p [] h = refl
reach_remove_other c v d p (k ∷ o) h = go (starts c v k) refl (reach_remove_other c v d p o (λ n i. h n (inr i)))
  where
    go : (b : Bool) → starts c v k ≡ b → reach_of (remove c v o) d p ≡ reach_of o d p → reach_of (cond b (remove c v o) (k ∷ remove c v o)) d p ≡ cond (on_page d p k) (reach_through k p) (reach_of o d p)
    go true s later = later ∙ sym (cond-false (on_page d p k) (reach_through k p) (reach_of o d p) (h k (inl refl) s))
    go false s later = ap (λ (z : Option Reach). cond (on_page d p k) (reach_through k p) z) later

-- what is reached beside a mapping that is closed
pub reach_remove : (S : Setup) (m : Mapping) (o : List Mapping) → lawful S o ≡ true → (c v d p : ℕ) → In m o → starts c v m ≡ true
    → on_page d p m ≡ false → reach_of (remove c v o) d p ≡ reach_of o d p
reach_remove S m o e c v d p i s f = reach_remove_other c v d p o (λ n j t.
    let each = (lawful_facts S o e).each in
    ap (on_page d p) (one_start S o (disjoint S o e) c v m n i j (each m i).some (each n j).some s t) ∙ f)

-- and on its pages nothing
pub reach_removed : (S : Setup) (m : Mapping) (o : List Mapping) → lawful S o ≡ true → (c v d p : ℕ) → In m o → starts c v m ≡ true
    → on_page d p m ≡ true → reach_of (remove c v o) d p ≡ None
reach_removed S m o e c v d p i s t = reach_none d p (remove c v o) (λ n j. elim (cases_Bool (on_page d p n)) [
  | inl u ↦ (let same = one_on_page S o (disjoint S o e) d p m n i (in_remove c v n o j) t u in
      let gone = remove_starts c v n o j in absurd (cc))
  | inr u ↦ u
])

pub leaf_remove : (S : Setup) (m : Mapping) (o : List Mapping) → Ranged S → lawful S o ≡ true → (c v : ℕ) → In m o → starts c v m ≡ true → (q : ℕ)
    → put_span (leaf_of o) (key m) (page_count m) (λ j. 0) q ≡ leaf_of (remove c v o) q
unfolding put_span leaf_of
leaf_remove S m o ranged e c v i s q =
    let same = on_page_key m q (short_of S o ranged e m i) in
    elim (cases_Bool (within (key m) (page_count m) q)) [
      | inl t ↦ cond-true (within (key m) (page_count m) q) 0 (word_for (reach_of o (q / 2 ^ 36) (q % 2 ^ 36))) t ∙ ap word_for (sym (reach_removed S m o e c v (q / 2 ^ 36) (q % 2 ^ 36) i s (same ∙ t)))
      | inr f ↦ cond-false (within (key m) (page_count m) q) 0 (word_for (reach_of o (q / 2 ^ 36) (q % 2 ^ 36))) f ∙ ap word_for (sym (reach_remove S m o e c v (q / 2 ^ 36) (q % 2 ^ 36) i s (same ∙ f)))
    ]

-- a holder has no part in it
turned_page : (h : Holder) (b : Bool) (c p : ℕ) (m : Mapping) → on_page c p (cond b (turned h m) m) ≡ on_page c p m
turned_page h true c p m = refl
turned_page h false c p m = refl

turned_through : (h : Holder) (b : Bool) (p : ℕ) (m : Mapping) → reach_through (cond b (turned h m) m) p ≡ reach_through m p
turned_through h true p m = refl
turned_through h false p m = refl

turned_from : (h : Holder) (b : Bool) (m : Mapping) → pages_from (key (cond b (turned h m) m)) (page_count (cond b (turned h m) m)) ≡ pages_from (key m) (page_count m)
turned_from h true m = refl
turned_from h false m = refl

pub reach_turn : (h : Holder) (c v d p : ℕ) (o : List Mapping) → reach_of (turn h c v o) d p ≡ reach_of o d p
unfolding reach_of turn
reach_turn h c v d p [] = refl
reach_turn h c v d p (m ∷ o) =
    ap (λ (b : Bool). cond b (reach_through (cond (starts c v m) (turned h m) m) p) (reach_of (turn h c v o) d p)) (turned_page h (starts c v m) d p m)
    ∙ ap (λ (z : Option Reach). cond (on_page d p m) z (reach_of (turn h c v o) d p)) (turned_through h (starts c v m) p m)
    ∙ ap (λ (z : Option Reach). cond (on_page d p m) (reach_through m p) z) (reach_turn h c v d p o)

pub leaf_turn : (h : Holder) (c v : ℕ) (o : List Mapping) (q : ℕ) → leaf_of (turn h c v o) q ≡ leaf_of o q
unfolding leaf_of
leaf_turn h c v o q = ap word_for (reach_turn h c v (q / 2 ^ 36) (q % 2 ^ 36) o)

pub pages_turn : (h : Holder) (c v : ℕ) (o : List Mapping) → pages_of (turn h c v o) ≡ pages_of o
unfolding pages_of turn
pages_turn h c v [] = refl
pages_turn h c v (m ∷ o) =
    ap (λ (z : List ℕ). z ++ pages_of (turn h c v o)) (turned_from h (starts c v m) m) ∙ ap (λ (z : List ℕ). pages_from (key m) (page_count m) ++ z) (pages_turn h c v o)

-- the word of an open mapping's page
pub leaf_at : (S : Setup) (m : Mapping) (o : List Mapping) → Ranged S → lawful S o ≡ true → In m o → (j : ℕ) → j < page_count m → leaf_of o (key m + j) ≡ word_in m j
unfolding leaf_of
leaf_at S m o ranged e i j b =
    let q = key m + j in
    let short = short_of S o ranged e m i in
    let inside : within (key m) (page_count m) q ≡ true = within_from (key m) (page_count m) q (omega arith) (omega arith) in
    let here = on_page_key m q short ∙ inside in
    let ahead : q % 2 ^ 36 - first_page m ≡ j = omega arith in
    ap word_for (reach_of_in (q / 2 ^ 36) (q % 2 ^ 36) o m i here (λ n k g. one_on_page S o (disjoint S o e) (q / 2 ^ 36) (q % 2 ^ 36) m n i k here g)) ∙ ap (word_in m) ahead

pub word_some : (m : Mapping) (j : ℕ) → word_in m j ≡ 0 → ⊥
word_some m j e = let s = some_right m.direction (first_frame m + j) in grind (arith, nat_tests)
