-- What one level tells of the whole walk.
use Rattle.std.proofs.Common.{◌≡◌, ℕ, zero, suc, Bool, true, false, cond, ◌&&◌, List, Ok, Err, Result, refl, ap, sym, ◌∙◌, subst}
use Rattle.units.specs.declared.direction.Access.{Access}
use Rattle.units.specs.declared.fault.Fault.{Fault}
use Rattle.units.specs.Directions.{allows}
use Rattle.entry.specs.declared.entry.Entry.{Entry}
use Rattle.entry.specs.Words.{rights_in, number_in, is_clear, is_present}
use Rattle.walk.specs.Indices.{index}
use Rattle.walk.specs.Walks.{Walked, arrives, absent, lacking, cell, passing, walk_from}
use Rattle.walk.specs.Told.{Tells}

-- an entry lets the walk pass
passes : (b c : Bool) (l w : ℕ) (k : Walked) (e : Entry) → Tells (cond b (cond c (arrives w) (lacking l)) (absent l)) (Ok e)
    → (cond b (cond c k (lacking l)) (absent l) ≡ k) × (e.word ≡ w)
passes true true l w k e h = (refl, h)
passes true false l w k e h = absurd (cc)
passes false c l w k e h = absurd (cc)

-- a fault ends it
stops : (b c : Bool) (l w : ℕ) (k : Walked) (f : Fault) → Tells (cond b (cond c (arrives w) (lacking l)) (absent l)) (Err f)
    → Tells (cond b (cond c k (lacking l)) (absent l)) (Err f)
stops true true l w k f h = absurd h
stops true false l w k f h = h
stops false c l w k f h = h

-- a fault at index i of table t
pub level_ends : (l : ℕ) (a : Access) (ws : List ℕ) (t i p : ℕ) (f : Fault) → i ≡ index l p
    → Tells (passing (suc l) a (cell ws t i) (arrives (cell ws t i))) (Err f) → Tells (walk_from l a ws t p) (Err f)
unfolding walk_from
level_ends zero a ws t i p f e h = let P : ℕ → Type 0 = λ j. Tells (passing 1 a (cell ws t j) (arrives (cell ws t j))) (Err f) in subst P e h
level_ends (suc l) a ws t i p f e h =
    let P : ℕ → Type 0 = λ j. Tells (passing (suc (suc l)) a (cell ws t j) (walk_from l a ws (number_in (cell ws t j)) p)) (Err f) in
    let w = cell ws t i in
    subst P e (stops (is_clear w && is_present w) (allows a (rights_in w)) (suc (suc l)) w (walk_from l a ws (number_in w) p) f h)

-- an entry at index i of table t leads to table u
pub level_passes : (l : ℕ) (a : Access) (ws : List ℕ) (t u i p : ℕ) (x : Entry) → i ≡ index (suc l) p
    → Tells (passing (suc (suc l)) a (cell ws t i) (arrives (cell ws t i))) (Ok x) → u ≡ number_in x.word
    → walk_from (suc l) a ws t p ≡ walk_from l a ws u p
unfolding walk_from
level_passes l a ws t u i p x e h n =
    let P : ℕ → Type 0 = λ j. passing (suc (suc l)) a (cell ws t j) (walk_from l a ws (number_in (cell ws t j)) p) ≡ walk_from l a ws u p in
    let w = cell ws t i in
    let on = passes (is_clear w && is_present w) (allows a (rights_in w)) (suc (suc l)) w (walk_from l a ws (number_in w) p) x h in
    subst P e (on.0 ∙ ap (λ v. walk_from l a ws v p) (sym (n ∙ ap number_in on.1)))

-- level 1 answers what the walk from it comes to
pub level_answers : (a : Access) (ws : List ℕ) (t i p : ℕ) (r : Result Entry Fault) → i ≡ index 0 p
    → Tells (passing 1 a (cell ws t i) (arrives (cell ws t i))) r → Tells (walk_from 0 a ws t p) r
unfolding walk_from
level_answers a ws t i p r e h = let P : ℕ → Type 0 = λ j. Tells (passing 1 a (cell ws t j) (arrives (cell ws t j))) r in subst P e h
