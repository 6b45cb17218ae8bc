-- What a look-up in a list of open mappings tells.
use Rattle.std.proofs.Common.{◌≡◌, ℕ, Bool, true, false, cond, ◌⊎◌, List, [], ◌∷◌, Some, None, sym, refl, ap, ◌∙◌, inl, inr, arith}
use Rattle.std.proofs.lemmas.Bool.Decides.{nat_tests}
use Rattle.units.specs.declared.mapping.Holder.{Holder}
use Rattle.units.specs.declared.mapping.Mapping.{Mapping}
use Rattle.meaning.specs.Mappings.{In, starts, turned, turn, find}

pub starts_facts : (c v : ℕ) (m : Mapping) → starts c v m ≡ true → (m.card.0 ≡ c) × (m.device.0 ≡ v)
starts_facts c v m e = (grind (arith, nat_tests), grind (arith, nat_tests))

pub starts_test : (c v : ℕ) (m : Mapping) → m.card.0 ≡ c → m.device.0 ≡ v → starts c v m ≡ true
starts_test c v m e f = grind (arith, nat_tests)

-- where none is found, none starts
pub missed : (c v : ℕ) (o : List Mapping) → find o c v ≡ None → (n : Mapping) → In n o → starts c v n ≡ false
unfolding find
missed c v [] e n i = elim i [ ]
missed c v (x ∷ xs) e n i = go (starts c v x) refl e i (λ h j. missed c v xs h n j)
  where
    go : (b : Bool) → starts c v x ≡ b → cond b (Some x) (find xs c v) ≡ None → (n ≡ x) ⊎ In n xs → (find xs c v ≡ None → In n xs → starts c v n ≡ false) → starts c v n ≡ false
    go true s h j later = absurd (cc)
    go false s h (inl j) later = ap (starts c v) j ∙ s
    go false s h (inr j) later = later h j

-- a turn to the holder that is there already
turned_same : (h : Holder) (m : Mapping) → m.holder ≡ h → turned h m ≡ m
turned_same h m e = sym (ap (λ (z : Holder). turned z m) e)

pub turn_same : (h : Holder) (c v : ℕ) (o : List Mapping) → ((n : Mapping) → In n o → starts c v n ≡ true → n.holder ≡ h) → turn h c v o ≡ o
unfolding turn
turn_same h c v [] f = refl
turn_same h c v (x ∷ xs) f = go (starts c v x) refl (turn_same h c v xs (λ n i. f n (inr i)))
  where
    go : (b : Bool) → starts c v x ≡ b → turn h c v xs ≡ xs → cond b (turned h x) x ∷ turn h c v xs ≡ x ∷ xs
    go true s later = let same = turned_same h x (f x (inl refl) s) in cc
    go false s later = cc
