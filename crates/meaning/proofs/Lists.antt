-- Lists of open mappings: which are in them, in which order, and what the changes do.
use Rattle.std.proofs.Common.{◌≡◌, ℕ, suc, ◌<◌, ◌≤◌, Bool, true, false, cond, ◌&&◌, ◌||◌, ltb, ◌⊎◌, List, [], ◌∷◌, length, Some, None, Option, sym, refl, ap, ◌∙◌, subst, inl, inr, arith}
use Rattle.std.proofs.lemmas.Bool.{ltb-true, ltb-false, lt-ltb, le-ltb, cond-true, cond-false, cases_lt, cases_Bool}
use Rattle.units.specs.declared.mapping.Holder.{Holder}
use Rattle.units.specs.declared.mapping.Mapping.{Mapping}
use Rattle.units.specs.declared.mapping.Reach.{Reach}
use Rattle.meaning.specs.Mappings.{In, Pairwise, key, starts, covers, on_page, card_holds, turned, insert, remove, turn, find, held, reach_of, reach_through}

-- What is in a list ---------------------------------------------------------------------------------------

pub in_insert : (m n : Mapping) (o : List Mapping) → In n (insert m o) → (n ≡ m) ⊎ In n o
unfolding insert
in_insert m n [] i = i
in_insert m n (k ∷ o) i = go (ltb (key m) (key k)) i (λ j. in_insert m n o j)
  where
    go : (b : Bool) → In n (cond b (m ∷ k ∷ o) (k ∷ insert m o)) → (In n (insert m o) → (n ≡ m) ⊎ In n o) → (n ≡ m) ⊎ ((n ≡ k) ⊎ In n o)
    go true i later = i
    go false (inl e) later = inr (inl e)
    go false (inr j) later = elim (later j) [ inl e ↦ inl e | inr l ↦ inr (inr l) ]

pub insert_in : (m : Mapping) (o : List Mapping) → In m (insert m o)
unfolding insert
insert_in m [] = inl refl
insert_in m (k ∷ o) = go (ltb (key m) (key k)) (insert_in m o)
  where
    go : (b : Bool) → In m (insert m o) → In m (cond b (m ∷ k ∷ o) (k ∷ insert m o))
    go true later = inl refl
    go false later = inr later

pub insert_keeps : (m n : Mapping) (o : List Mapping) → In n o → In n (insert m o)
unfolding insert
insert_keeps m n [] i = elim i [ ]
insert_keeps m n (k ∷ o) i = go (ltb (key m) (key k)) i (λ j. insert_keeps m n o j)
  where
    go : (b : Bool) → (n ≡ k) ⊎ In n o → (In n o → In n (insert m o)) → In n (cond b (m ∷ k ∷ o) (k ∷ insert m o))
    go true i later = inr i
    go false (inl e) later = inl e
    go false (inr j) later = inr (later j)

insert_here : (m x : Mapping) (xs : List Mapping) → key m < key x → insert m (x ∷ xs) ≡ m ∷ x ∷ xs
unfolding insert
insert_here m x xs l = cond-true (ltb (key m) (key x)) (m ∷ x ∷ xs) (x ∷ insert m xs) (lt-ltb (key m) (key x) l)

insert_past : (m x : Mapping) (xs : List Mapping) → key x ≤ key m → insert m (x ∷ xs) ≡ x ∷ insert m xs
unfolding insert
insert_past m x xs l = cond-false (ltb (key m) (key x)) (m ∷ x ∷ xs) (x ∷ insert m xs) (le-ltb (key m) (key x) l)

insert_none : (m : Mapping) → insert m [] ≡ m ∷ []
unfolding insert
insert_none m = refl

pub length_insert : (m : Mapping) (o : List Mapping) → length (insert m o) ≡ suc (length o)
length_insert m [] = ap length (insert_none m)
length_insert m (k ∷ o) = let later = length_insert m o in grind (arith, insert_here, insert_past, cases_lt (key m) (key k))

-- each is in some place of the pairs
pub pairwise_in : (R : Mapping → Mapping → Type 0) (o : List Mapping) → Pairwise R o → (m n : Mapping) → In m o → In n o → (m ≡ n) ⊎ (R m n ⊎ R n m)
pairwise_in R [] p m n i j = elim i [ ]
pairwise_in R (k ∷ o) p m n (inl a) (inl b) = inl (a ∙ sym b)
pairwise_in R (k ∷ o) p m n (inl a) (inr j) = inr (inl (subst (λ (z : Mapping). R z n) (sym a) (p.0 n j)))
pairwise_in R (k ∷ o) p m n (inr i) (inl b) = inr (inr (subst (λ (z : Mapping). R z m) (sym b) (p.0 m i)))
pairwise_in R (k ∷ o) p m n (inr i) (inr j) = pairwise_in R o p.1 m n i j

pub in_remove : (c v : ℕ) (n : Mapping) (o : List Mapping) → In n (remove c v o) → In n o
unfolding remove
in_remove c v n [] i = i
in_remove c v n (k ∷ o) i = go (starts c v k) i (λ j. in_remove c v n o j)
  where
    go : (b : Bool) → In n (cond b (remove c v o) (k ∷ remove c v o)) → (In n (remove c v o) → In n o) → (n ≡ k) ⊎ In n o
    go true i later = inr (later i)
    go false (inl e) later = inl e
    go false (inr j) later = inr (later j)

-- a mapping of a list with a holder turned, as it was before
pub record Turned (h : Holder) (n : Mapping) (o : List Mapping) : Type 0 where
  pub was : Mapping
  pub is_open : In was o
  pub same : (n ≡ was) ⊎ (n ≡ turned h was)

pub in_turn : (h : Holder) (c v : ℕ) (n : Mapping) (o : List Mapping) → In n (turn h c v o) → Turned h n o
unfolding turn
in_turn h c v n [] i = elim i [ ]
in_turn h c v n (k ∷ o) i = go (starts c v k) i (λ j. in_turn h c v n o j)
  where
    go : (b : Bool) → (n ≡ cond b (turned h k) k) ⊎ In n (turn h c v o) → (In n (turn h c v o) → Turned h n o) → Turned h n (k ∷ o)
    go true (inl e) later = record { was = k; is_open = inl refl; same = inr e }
    go false (inl e) later = record { was = k; is_open = inl refl; same = inl e }
    go b (inr j) later = let t = later j in record { was = t.was; is_open = inr t.is_open; same = t.same }

-- Pairs through the changes -------------------------------------------------------------------------------

pub pair_map : (R Q : Mapping → Mapping → Type 0) (o : List Mapping) → ((m n : Mapping) → R m n → Q m n) → Pairwise R o → Pairwise Q o
pair_map R Q [] f p = tt
pair_map R Q (k ∷ o) f p = ((λ n i. f k n (p.0 n i)), pair_map R Q o f p.1)

pub pair_insert : (R : Mapping → Mapping → Type 0) (m : Mapping) (o : List Mapping) → ((n : Mapping) → In n o → R m n × R n m)
    → Pairwise R o → Pairwise R (insert m o)
unfolding insert
pair_insert R m [] h p = ((λ n i. elim i [ ]), tt)
pair_insert R m (k ∷ o) h p = go (ltb (key m) (key k)) (pair_insert R m o (λ n i. h n (inr i)) p.1)
  where
    go : (b : Bool) → Pairwise R (insert m o) → Pairwise R (cond b (m ∷ k ∷ o) (k ∷ insert m o))
    go true more = ((λ n i. (h n i).0), p)
    go false more = ((λ n i. elim (in_insert m n o i) [ inl e ↦ subst (R k) (sym e) (h k (inl refl)).1 | inr j ↦ p.0 n j ]), more)

pub pair_uninsert : (R : Mapping → Mapping → Type 0) (m : Mapping) (o : List Mapping) → Pairwise R (insert m o) → ((n : Mapping) → In n o → R m n ⊎ R n m) × Pairwise R o
unfolding insert
pair_uninsert R m [] p = ((λ n i. elim i [ ]), tt)
pair_uninsert R m (k ∷ o) p = go (ltb (key m) (key k)) p (λ q. pair_uninsert R m o q)
  where
    go : (b : Bool) → Pairwise R (cond b (m ∷ k ∷ o) (k ∷ insert m o)) → (Pairwise R (insert m o) → ((n : Mapping) → In n o → R m n ⊎ R n m) × Pairwise R o)
        → ((n : Mapping) → In n (k ∷ o) → R m n ⊎ R n m) × Pairwise R (k ∷ o)
    go true q later = ((λ n i. inl (q.0 n i)), q.1)
    go false q later = let l = later q.1 in
        ((λ n i. elim i [ inl e ↦ inr (subst (λ (z : Mapping). R z m) (sym e) (q.0 m (insert_in m o))) | inr j ↦ l.0 n j ]), ((λ n i. q.0 n (insert_keeps m n o i)), l.1))

pub pair_remove : (R : Mapping → Mapping → Type 0) (c v : ℕ) (o : List Mapping) → Pairwise R o → Pairwise R (remove c v o)
unfolding remove
pair_remove R c v [] p = tt
pair_remove R c v (k ∷ o) p = go (starts c v k) (pair_remove R c v o p.1)
  where
    go : (b : Bool) → Pairwise R (remove c v o) → Pairwise R (cond b (remove c v o) (k ∷ remove c v o))
    go true more = more
    go false more = ((λ n i. p.0 n (in_remove c v n o i)), more)

pub pair_turn : (R : Mapping → Mapping → Type 0) (t : Holder) (c v : ℕ) (o : List Mapping)
    → ((m n : Mapping) → R m n → R (turned t m) n × R m (turned t n)) → Pairwise R o → Pairwise R (turn t c v o)
unfolding turn
pair_turn R t c v [] f p = tt
pair_turn R t c v (k ∷ o) f p = (
  (λ n i. let r = in_turn t c v n o i in let h = p.0 r.was r.is_open in
      let g : R k n = elim r.same [ inl e ↦ subst (R k) (sym e) h | inr e ↦ subst (R k) (sym e) (f k r.was h).1 ] in
      first (starts c v k) n g),
  pair_turn R t c v o f p.1,
)
  where
    first : (b : Bool) (n : Mapping) → R k n → R (cond b (turned t k) k) n
    first true n g = (f k n g).0
    first false n g = g

-- In which order ------------------------------------------------------------------------------------------

-- mappings of different keys may be put in in either order
pub insert_comm : (a b : Mapping) (xs : List Mapping) → (key a ≡ key b → ⊥) → insert a (insert b xs) ≡ insert b (insert a xs)
insert_comm a b [] ne = grind (arith, insert_none, insert_here, insert_past, cases_lt (key a) (key b))
insert_comm a b (x ∷ xs) ne =
    let later = insert_comm a b xs ne in
    grind (arith, insert_here, insert_past, cases_lt (key a) (key b), cases_lt (key a) (key x), cases_lt (key b) (key x))

-- no key is below k; the keys rise
abbrev pub From : ℕ → List Mapping → Type 0
From k [] = Unit {0}
From k (x ∷ xs) = (k ≤ key x) × From k xs

abbrev pub Sorted : List Mapping → Type 0
Sorted [] = Unit {0}
Sorted (x ∷ xs) = From (key x) xs × Sorted xs

from_less : (k l : ℕ) (o : List Mapping) → k ≤ l → From l o → From k o
from_less k l [] h f = tt
from_less k l (x ∷ xs) h f = let a = f.0 in (omega arith, from_less k l xs h f.1)

from_insert : (k : ℕ) (m : Mapping) (o : List Mapping) → k ≤ key m → From k o → From k (insert m o)
unfolding insert
from_insert k m [] h f = (h, tt)
from_insert k m (x ∷ xs) h f = go (ltb (key m) (key x)) (from_insert k m xs h f.1)
  where
    go : (b : Bool) → From k (insert m xs) → From k (cond b (m ∷ x ∷ xs) (x ∷ insert m xs))
    go true later = (h, f)
    go false later = (f.0, later)

pub sorted_insert : (m : Mapping) (o : List Mapping) → Sorted o → Sorted (insert m o)
unfolding insert
sorted_insert m [] s = (tt, tt)
sorted_insert m (x ∷ xs) s = go (ltb (key m) (key x)) refl (sorted_insert m xs s.1)
  where
    go : (b : Bool) → ltb (key m) (key x) ≡ b → Sorted (insert m xs) → Sorted (cond b (m ∷ x ∷ xs) (x ∷ insert m xs))
    go true e later = let l = ltb-true (key m) (key x) e in ((omega arith, from_less (key m) (key x) xs (omega arith) s.0), s)
    go false e later = (from_insert (key x) m xs (ltb-false (key m) (key x) e) s.0, later)

insert_front : (m : Mapping) (k : ℕ) (o : List Mapping) → key m < k → From k o → insert m o ≡ m ∷ o
insert_front m k [] l f = insert_none m
insert_front m k (x ∷ xs) l f = let a = f.0 in insert_here m x xs (omega arith)

-- Changes -------------------------------------------------------------------------------------------------

from_remove : (k c v : ℕ) (o : List Mapping) → From k o → From k (remove c v o)
unfolding remove
from_remove k c v [] f = tt
from_remove k c v (x ∷ xs) f = go (starts c v x) (from_remove k c v xs f.1)
  where
    go : (b : Bool) → From k (remove c v xs) → From k (cond b (remove c v xs) (x ∷ remove c v xs))
    go true later = later
    go false later = (f.0, later)

pub remove_none : (c v : ℕ) (o : List Mapping) → ((n : Mapping) → In n o → starts c v n ≡ false) → remove c v o ≡ o
unfolding remove
remove_none c v [] h = refl
remove_none c v (x ∷ xs) h = cond-false (starts c v x) (remove c v xs) (x ∷ remove c v xs) (h x (inl refl)) ∙ ap (λ (z : List Mapping). x ∷ z) (remove_none c v xs (λ n i. h n (inr i)))

remove_hit : (c v : ℕ) (x : Mapping) (xs : List Mapping) → starts c v x ≡ true → remove c v (x ∷ xs) ≡ remove c v xs
unfolding remove
remove_hit c v x xs e = cond-true (starts c v x) (remove c v xs) (x ∷ remove c v xs) e

remove_miss : (c v : ℕ) (x : Mapping) (xs : List Mapping) → starts c v x ≡ false → remove c v (x ∷ xs) ≡ x ∷ remove c v xs
unfolding remove
remove_miss c v x xs e = cond-false (starts c v x) (remove c v xs) (x ∷ remove c v xs) e

pub remove_insert_same : (c v : ℕ) (m : Mapping) (o : List Mapping) → starts c v m ≡ true → ((n : Mapping) → In n o → starts c v n ≡ false) → remove c v (insert m o) ≡ o
remove_insert_same c v m [] e h = let none = remove_none c v [] h in grind (arith, insert_none, remove_hit)
remove_insert_same c v m (x ∷ xs) e h =
    let later = remove_insert_same c v m xs e (λ n i. h n (inr i)) in
    let none = remove_none c v (x ∷ xs) h in
    let other = h x (inl refl) in grind (arith, insert_here, insert_past, remove_hit, remove_miss, cases_lt (key m) (key x))

pub remove_insert_other : (c v : ℕ) (m : Mapping) (o : List Mapping) → starts c v m ≡ false → Sorted o → remove c v (insert m o) ≡ insert m (remove c v o)
remove_insert_other c v m [] e s = let none = remove_none c v [] (λ n i. elim i [ ]) in grind (arith, insert_none, remove_miss)
remove_insert_other c v m (x ∷ xs) e s =
    let later = remove_insert_other c v m xs e s.1 in
    let front : key m < key x → insert m (remove c v xs) ≡ m ∷ remove c v xs = λ l. insert_front m (key x) (remove c v xs) l (from_remove (key x) c v xs s.0) in
    grind (arith, insert_here, insert_past, remove_hit, remove_miss, cases_lt (key m) (key x), cases_Bool (starts c v x))

pub turn_none : (h : Holder) (c v : ℕ) (o : List Mapping) → ((n : Mapping) → In n o → starts c v n ≡ false) → turn h c v o ≡ o
unfolding turn
turn_none h c v [] f = refl
turn_none h c v (x ∷ xs) f =
    ap (λ (z : Mapping). z ∷ turn h c v xs) (cond-false (starts c v x) (turned h x) x (f x (inl refl)))
    ∙ ap (λ (z : List Mapping). x ∷ z) (turn_none h c v xs (λ n i. f n (inr i)))

turn_cons : (h : Holder) (c v : ℕ) (x : Mapping) (xs : List Mapping) → turn h c v (x ∷ xs) ≡ cond (starts c v x) (turned h x) x ∷ turn h c v xs
unfolding turn
turn_cons h c v x xs = refl

turned_key : (h : Holder) (b : Bool) (m : Mapping) → key (cond b (turned h m) m) ≡ key m
turned_key h true m = refl
turned_key h false m = refl

pub turn_insert : (h : Holder) (c v : ℕ) (m : Mapping) (o : List Mapping) → turn h c v (insert m o) ≡ insert (cond (starts c v m) (turned h m) m) (turn h c v o)
turn_insert h c v m [] = let none = turn_none h c v [] (λ n i. elim i [ ]) in grind (arith, insert_none, turn_cons)
turn_insert h c v m (x ∷ xs) =
    let later = turn_insert h c v m xs in
    let a = turned_key h (starts c v m) m in
    let b = turned_key h (starts c v x) x in grind (arith, insert_here, insert_past, turn_cons, cases_lt (key m) (key x))

-- Looking up ----------------------------------------------------------------------------------------------

pub find_none : (c v : ℕ) (o : List Mapping) → ((n : Mapping) → In n o → starts c v n ≡ false) → find o c v ≡ None
unfolding find
find_none c v [] h = refl
find_none c v (x ∷ xs) h = cond-false (starts c v x) (Some x) (find xs c v) (h x (inl refl)) ∙ find_none c v xs (λ n i. h n (inr i))

pub find_in : (c v : ℕ) (o : List Mapping) (m : Mapping) → In m o → starts c v m ≡ true → ((n : Mapping) → In n o → starts c v n ≡ true → n ≡ m) → find o c v ≡ Some m
unfolding find
find_in c v [] m i s one = elim i [ ]
find_in c v (x ∷ xs) m i s one = go (starts c v x) refl i (λ j. find_in c v xs m j s (λ n k. one n (inr k)))
  where
    go : (b : Bool) → starts c v x ≡ b → (m ≡ x) ⊎ In m xs → (In m xs → find xs c v ≡ Some m) → cond b (Some x) (find xs c v) ≡ Some m
    go true e j later = ap (λ (z : Mapping). Some z) (one x (inl refl) e)
    go false e (inl j) later = let t : true ≡ false = sym s ∙ (ap (starts c v) j ∙ e) in absurd (cc)
    go false e (inr j) later = later j

pub find_is_in : (c v : ℕ) (o : List Mapping) (m : Mapping) → find o c v ≡ Some m → In m o
unfolding find
find_is_in c v [] m e = absurd (cc)
find_is_in c v (x ∷ xs) m e = go (starts c v x) e (λ i. find_is_in c v xs m i)
  where
    go : (b : Bool) → cond b (Some x) (find xs c v) ≡ Some m → (find xs c v ≡ Some m → In m xs) → (m ≡ x) ⊎ In m xs
    go true h later = inl (cc)
    go false h later = inr (later h)

-- the mapping that is found starts there
pub find_starts : (c v : ℕ) (o : List Mapping) (m : Mapping) → find o c v ≡ Some m → starts c v m ≡ true
unfolding find
find_starts c v [] m e = absurd (cc)
find_starts c v (x ∷ xs) m e = go (starts c v x) refl e (λ i. find_starts c v xs m i)
  where
    go : (b : Bool) → starts c v x ≡ b → cond b (Some x) (find xs c v) ≡ Some m → (find xs c v ≡ Some m → starts c v m ≡ true) → starts c v m ≡ true
    go true s h later = let same : x ≡ m = cc in subst (λ (z : Mapping). starts c v z ≡ true) same s
    go false s h later = later h

pub held_insert : (b : ℕ) (m : Mapping) (o : List Mapping) → held (insert m o) b ≡ ((card_holds m.holder && covers m b) || held o b)
unfolding held insert
held_insert b m [] = refl
held_insert b m (x ∷ xs) = go (ltb (key m) (key x)) (held_insert b m xs)
  where
    swap : (y z w : Bool) → (z || (y || w)) ≡ (y || (z || w))
    swap true true w = refl
    swap true false w = refl
    swap false z w = refl

    go : (d : Bool) → held (insert m xs) b ≡ ((card_holds m.holder && covers m b) || held xs b) → held (cond d (m ∷ x ∷ xs) (x ∷ insert m xs)) b ≡ ((card_holds m.holder && covers m b) || held (x ∷ xs) b)
    go true later = refl
    go false later = ap (λ (z : Bool). (card_holds x.holder && covers x b) || z) later ∙ swap (card_holds m.holder && covers m b) (card_holds x.holder && covers x b) (held xs b)

pub reach_none : (c p : ℕ) (o : List Mapping) → ((n : Mapping) → In n o → on_page c p n ≡ false) → reach_of o c p ≡ None
unfolding reach_of
reach_none c p [] h = refl
reach_none c p (x ∷ xs) h = cond-false (on_page c p x) (reach_through x p) (reach_of xs c p) (h x (inl refl)) ∙ reach_none c p xs (λ n i. h n (inr i))

pub reach_of_in : (c p : ℕ) (o : List Mapping) (m : Mapping) → In m o → on_page c p m ≡ true → ((n : Mapping) → In n o → on_page c p n ≡ true → n ≡ m) → reach_of o c p ≡ reach_through m p
unfolding reach_of
reach_of_in c p [] m i s one = elim i [ ]
reach_of_in c p (x ∷ xs) m i s one = go (on_page c p x) refl i (λ j. reach_of_in c p xs m j s (λ n k. one n (inr k)))
  where
    go : (b : Bool) → on_page c p x ≡ b → (m ≡ x) ⊎ In m xs → (In m xs → reach_of xs c p ≡ reach_through m p) → cond b (reach_through x p) (reach_of xs c p) ≡ reach_through m p
    go true e j later = ap (λ (z : Mapping). reach_through z p) (one x (inl refl) e)
    go false e (inl j) later = let t : true ≡ false = sym s ∙ (ap (on_page c p) j ∙ e) in absurd (cc)
    go false e (inr j) later = later j

pub reach_insert_other : (c p : ℕ) (m : Mapping) (o : List Mapping) → on_page c p m ≡ false → reach_of (insert m o) c p ≡ reach_of o c p
unfolding reach_of insert
reach_insert_other c p m [] e = cond-false (on_page c p m) (reach_through m p) None e
reach_insert_other c p m (k ∷ o) e = go (ltb (key m) (key k)) (reach_insert_other c p m o e)
  where
    go : (b : Bool) → reach_of (insert m o) c p ≡ reach_of o c p → reach_of (cond b (m ∷ k ∷ o) (k ∷ insert m o)) c p ≡ cond (on_page c p k) (reach_through k p) (reach_of o c p)
    go true later = cond-false (on_page c p m) (reach_through m p) _ e
    go false later = ap (λ (z : Option Reach). cond (on_page c p k) (reach_through k p) z) later
