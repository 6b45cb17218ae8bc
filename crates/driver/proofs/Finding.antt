-- What is found at a device address once a mapping there is closed or turned.
use Rattle.std.proofs.Common.{◌≡◌, ◌≢◌, ◌⊎◌, inl, inr, ℕ, Bool, true, false, cond, List, [], ◌∷◌, Some, None, refl, ap, ◌∙◌, arith}
use Rattle.std.proofs.lemmas.Bool.{cond-true, cond-false}
use Rattle.std.proofs.lemmas.Bool.Decides.{nat_tests}
use Rattle.units.specs.declared.mapping.Holder.{Holder}
use Rattle.units.specs.declared.mapping.Mapping.{Mapping}
use Rattle.meaning.specs.Mappings.{starts, turned, remove, turn, find}

-- nothing is found where all that starts there was removed
pub find_removed : (c v : ℕ) (o : List Mapping) → find (remove c v o) c v ≡ None
unfolding find remove
find_removed c v [] = refl
find_removed c v (m ∷ o) = go (starts c v m) refl (find_removed c v o)
  where
    go : (b : Bool) → starts c v m ≡ b → find (remove c v o) c v ≡ None → find (cond b (remove c v o) (m ∷ remove c v o)) c v ≡ None
    go true e later = later
    go false e later = cond-false (starts c v m) (Some m) (find (remove c v o) c v) e ∙ later

-- a mapping is found turned
pub find_turned : (h : Holder) (c v : ℕ) (o : List Mapping) (m : Mapping) → find o c v ≡ Some m → find (turn h c v o) c v ≡ Some (turned h m)
unfolding find turn
find_turned h c v [] m e = absurd (cc)
find_turned h c v (n ∷ o) m e = go (starts c v n) refl e (λ i. find_turned h c v o m i)
  where
    go : (b : Bool) → starts c v n ≡ b → cond b (Some n) (find o c v) ≡ Some m → (find o c v ≡ Some m → find (turn h c v o) c v ≡ Some (turned h m))
        → cond (starts c v (cond b (turned h n) n)) (Some (cond b (turned h n) n)) (find (turn h c v o) c v) ≡ Some (turned h m)
    go true s f later = cond-true (starts c v n) (Some (turned h n)) (find (turn h c v o) c v) s ∙ (let same : n ≡ m = cc in ap (λ (z : Mapping). Some (turned h z)) same)
    go false s f later = cond-false (starts c v n) (Some n) (find (turn h c v o) c v) s ∙ later f

-- no mapping starts at two places
apart_starts : (c v d w : ℕ) (m : Mapping) → (d ≢ c) ⊎ (w ≢ v) → starts d w m ≡ true → starts c v m ≡ false
apart_starts c v d w m (inl n) s = grind (arith, nat_tests)
apart_starts c v d w m (inr n) s = grind (arith, nat_tests)

-- elsewhere the same is found
pub find_removed_other : (c v d w : ℕ) (o : List Mapping) → (d ≢ c) ⊎ (w ≢ v) → find (remove c v o) d w ≡ find o d w
unfolding find remove
find_removed_other c v d w [] n = refl
find_removed_other c v d w (m ∷ o) n = go (starts c v m) (starts d w m) refl refl (find_removed_other c v d w o n)
  where
    go : (a b : Bool) → starts c v m ≡ a → starts d w m ≡ b → find (remove c v o) d w ≡ find o d w
        → find (cond a (remove c v o) (m ∷ remove c v o)) d w ≡ cond b (Some m) (find o d w)
    go true true s t later = absurd (let f = apart_starts c v d w m n t in cc)
    go true false s t later = later
    go false true s t later = cond-true (starts d w m) (Some m) (find (remove c v o) d w) t
    go false false s t later = cond-false (starts d w m) (Some m) (find (remove c v o) d w) t ∙ later

pub find_turned_other : (h : Holder) (c v d w : ℕ) (o : List Mapping) → (d ≢ c) ⊎ (w ≢ v) → find (turn h c v o) d w ≡ find o d w
unfolding find turn
find_turned_other h c v d w [] n = refl
find_turned_other h c v d w (m ∷ o) n = go (starts c v m) (starts d w m) refl refl (find_turned_other h c v d w o n)
  where
    go : (a b : Bool) → starts c v m ≡ a → starts d w m ≡ b → find (turn h c v o) d w ≡ find o d w
        → cond (starts d w (cond a (turned h m) m)) (Some (cond a (turned h m) m)) (find (turn h c v o) d w) ≡ cond b (Some m) (find o d w)
    go true true s t later = absurd (let f = apart_starts c v d w m n t in cc)
    go true false s t later = cond-false (starts d w m) (Some (turned h m)) (find (turn h c v o) d w) t ∙ later
    go false true s t later = cond-true (starts d w m) (Some m) (find (turn h c v o) d w) t
    go false false s t later = cond-false (starts d w m) (Some m) (find (turn h c v o) d w) t ∙ later
