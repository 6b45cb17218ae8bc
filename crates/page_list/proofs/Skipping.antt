-- Pages below the same absent word: none of them is reached.
use Rattle.std.proofs.Common.{◌≡◌, ℕ, zero, suc, ◌-◌, ◌/◌, ◌%◌, ◌^◌, ◌<◌, ◌≤◌, Bool, true, false, cond, ◌&&◌, List, None, Option, Err, refl, ap, ◌∙◌, subst, ◌⊎◌, inl, inr, nat_lt, arith}
use Rattle.units.specs.declared.direction.Access.{Access}
use Rattle.units.specs.declared.direction.Access.TheVariants.{Read, Write}
use Rattle.units.specs.declared.fault.Fault.{Fault}
use Rattle.units.specs.declared.fault.FaultKind.TheVariants.{Absent}
use Rattle.units.specs.Directions.{allows}
use Rattle.entry.specs.Words.{rights_in, number_in, is_clear, is_present}
use Rattle.walk.specs.Indices.{prefix, index}
use Rattle.walk.specs.Walks.{Walked, arrives, absent, lacking, cell, walk_from, walked, frame_at, both_walks, reach_in}
use Rattle.walk.specs.Told.{Tells, with_frame}
use Rattle.page_list.specs.Lists.{Alike}

-- a prefix fixes those of the levels above
prefix_up : (j k p q : ℕ) → j ≤ k → prefix j q ≡ prefix j p → prefix k q ≡ prefix k p
prefix_up j zero p q h e = let P : ℕ → Type 0 = λ i. prefix i q ≡ prefix i p in let same : j ≡ zero = omega arith in subst P same e
prefix_up j (suc k) p q h e = elim (split j k h) [
  | inl low ↦ ap (λ (x : ℕ). x / 512) (prefix_up j k p q low e)
  | inr same ↦ (let P : ℕ → Type 0 = λ i. prefix i q ≡ prefix i p in subst P same e)
]
  where
    split : (j k : ℕ) → j ≤ suc k → (j ≤ k) ⊎ (j ≡ suc k)
    split j k h = grind arith

-- a word that is absent, or one by which the walk goes on to such
absent_at : (b c : Bool) (l m : ℕ) (k : Walked) → cond b (cond c k (lacking l)) (absent l) ≡ absent m
    → ((b ≡ false) × (l ≡ m)) ⊎ (k ≡ absent m)
absent_at true true l m k h = inr h
absent_at true false l m k h = absurd (cc)
absent_at false c l m k h = inl (refl, cc)

stays_none : (b c : Bool) (l : ℕ) (k : Walked) → frame_at k ≡ None → frame_at (cond b (cond c k (lacking l)) (absent l)) ≡ None
stays_none true true l k h = h
stays_none true false l k h = refl
stays_none false c l k h = refl

none_absent : (b c : Bool) (l : ℕ) (k : Walked) → b ≡ false → frame_at (cond b (cond c k (lacking l)) (absent l)) ≡ None
none_absent true c l k h = absurd (cc)
none_absent false c l k h = refl

-- the level that an absent word has
pub level_is : (k : ℕ) (a : Access) (ws : List ℕ) (t p l : ℕ) → walk_from k a ws t p ≡ absent l → (1 ≤ l) × (l ≤ suc k)
unfolding walk_from
level_is zero a ws t p l h = let w = cell ws t (index 0 p) in elim (absent_at (is_clear w && is_present w) (allows a (rights_in w)) 1 l (arrives w) h) [
  | inl e ↦ (let same = e.1 in (omega arith, omega arith))
  | inr e ↦ absurd (cc)
]
level_is (suc k) a ws t p l h =
    let w = cell ws t (index (suc k) p) in
    elim (absent_at (is_clear w && is_present w) (allows a (rights_in w)) (suc (suc k)) l (walk_from k a ws (number_in w) p) h) [
      | inl e ↦ (let same = e.1 in (omega arith, omega arith))
      | inr e ↦ (let up = level_is k a ws (number_in w) p l e in (up.0, omega arith))
    ]

-- no walk arrives below it
pub none_below : (k : ℕ) (a b : Access) (ws : List ℕ) (t p q l : ℕ) → walk_from k a ws t p ≡ absent l → prefix (l - 1) q ≡ prefix (l - 1) p
    → frame_at (walk_from k b ws t q) ≡ None
unfolding walk_from
none_below zero a b ws t p q l h e =
    let w = cell ws t (index 0 p) in
    let v = cell ws t (index 0 q) in
    elim (absent_at (is_clear w && is_present w) (allows a (rights_in w)) 1 l (arrives w) h) [
      | inl f ↦ (let up : prefix 0 q ≡ prefix 0 p = prefix_up (l - 1) 0 p q (let same = f.1 in omega arith) e in
          none_absent (is_clear v && is_present v) (allows b (rights_in v)) 1 (arrives v) (ap (λ (x : ℕ). is_clear (cell ws t (x % 512)) && is_present (cell ws t (x % 512))) up ∙ f.0))
      | inr f ↦ absurd (cc)
    ]
none_below (suc k) a b ws t p q l h e =
    let w = cell ws t (index (suc k) p) in
    let v = cell ws t (index (suc k) q) in
    let level = level_is (suc k) a ws t p l h in
    let up : prefix (suc k) q ≡ prefix (suc k) p = prefix_up (l - 1) (suc k) p q (omega arith) e in
    let same : v ≡ w = ap (λ (x : ℕ). cell ws t (x % 512)) up in
    elim (absent_at (is_clear w && is_present w) (allows a (rights_in w)) (suc (suc k)) l (walk_from k a ws (number_in w) p) h) [
      | inl f ↦ none_absent (is_clear v && is_present v) (allows b (rights_in v)) (suc (suc k)) (walk_from k b ws (number_in v) q) (ap (λ (x : ℕ). is_clear x && is_present x) same ∙ f.0)
      | inr f ↦ (let on : frame_at (walk_from k b ws (number_in v) q) ≡ None = ap (λ (x : ℕ). frame_at (walk_from k b ws (number_in x) q)) same ∙ none_below k a b ws (number_in w) p q l f e in
          stays_none (is_clear v && is_present v) (allows b (rights_in v)) (suc (suc k)) (walk_from k b ws (number_in v) q) on)
    ]

both_none : (b : Bool) (x y : Option ℕ) → x ≡ None → y ≡ None → with_frame (cond b (both_walks x y) None) ≡ None
both_none true x y e f = ap (λ (z : Option ℕ). with_frame (both_walks z y)) e ∙ ap (λ (z : Option ℕ). with_frame (both_walks None z)) f
both_none false x y e f = refl

-- what a refused walk tells
told_absent : (k : Walked) (f : Fault) → Tells k (Err f) → f.kind ≡ Absent → k ≡ absent f.place
told_absent (arrives w) f h e = absurd h
told_absent (absent l) f h e = let g : l ≡ f.place = cc in ap absent g
told_absent (lacking l) f h e = absurd (cc)

module _ (ws : List ℕ) (c p : ℕ) (f : Fault) (told : Tells (walked Read ws c p) (Err f)) (kind : f.kind ≡ Absent) where
  blocked : walked Read ws c p ≡ absent f.place
  blocked = told_absent (walked Read ws c p) f told kind

  pub level : (1 ≤ f.place) × (f.place ≤ 4)
  level = level_is 3 Read ws c p f.place blocked

  pub none_reached : (n : ℕ) → Alike f.place p n → (C q : ℕ) → p ≤ q → q < n → with_frame (reach_in C ws c q) ≡ None
  none_reached n alike C q low high =
      let e = alike q low high in
      both_none (nat_lt c C && nat_lt q (2 ^ 36)) (frame_at (walked Read ws c q)) (frame_at (walked Write ws c q))
      (none_below 3 Read Read ws c p q f.place blocked e) (none_below 3 Read Write ws c p q f.place blocked e)
