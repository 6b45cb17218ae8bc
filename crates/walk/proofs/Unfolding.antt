-- How a walk goes on at each level, by the word that it finds there.
use Rattle.std.proofs.Common.{◌≡◌, ℕ, zero, suc, ◌^◌, ◌<◌, Bool, true, false, cond, ◌&&◌, ◌||◌, List, Some, None, Option, refl, ap, ◌∙◌, inl, inr, arith}
use Rattle.std.proofs.lemmas.Bool.{cases_Bool}
use Rattle.units.specs.declared.direction.Access.{Access}
use Rattle.units.specs.declared.direction.Access.TheVariants.{Read, Write}
use Rattle.units.specs.declared.direction.Rights.{Rights}
use Rattle.units.specs.declared.mapping.Reach.{Reach}
use Rattle.units.specs.Directions.{allows}
use Rattle.entry.specs.Words.{both, word_of, rights_in, number_in, is_clear, is_present}
use Rattle.entry.proofs.Words.{some_right, word-number, word-rights, word-present, word_clear}
use Rattle.std.proofs.lemmas.Bool.Decides.{nat_tests}
use Rattle.walk.specs.Indices.{index}
use Rattle.walk.specs.Told.{with_frame}
use Rattle.walk.specs.Walks.{Walked, arrives, absent, lacking, cell, passing, walk_from, frame_at, both_walks}

-- a wanted right that is there is a right
pub allowed_right : (a : Access) (r : Rights) → allows a r ≡ true → some_right r ≡ true
allowed_right Read r h = cc
allowed_right Write r h = elim (cases_Bool r.read) [ inl t ↦ cc | inr f ↦ cc ]

pub both_allow : (a : Access) → allows a both ≡ true
both_allow Read = refl
both_allow Write = refl

-- at a word with a right
pub passing_word : (l : ℕ) (a : Access) (r : Rights) (n : ℕ) (k : Walked) → n < 2 ^ 40 → some_right r ≡ true
    → passing l a (word_of r n) k ≡ cond (allows a r) k (lacking l)
passing_word l a r n k h s =
    let b = word_clear r n h in
    let p = word-present r n h ∙ s in
    let e = word-rights r n h in
    let test : (is_clear (word_of r n) && is_present (word_of r n)) ≡ true = cc in
    ap (λ (x : Bool). cond x (cond (allows a (rights_in (word_of r n))) k (lacking l)) (absent l)) test ∙ ap (λ (x : Rights). cond (allows a x) k (lacking l)) e

pub passing_zero : (l : ℕ) (a : Access) (k : Walked) → passing l a 0 k ≡ absent l
passing_zero l a k = refl

-- a word with the wanted right leads on to the table of its number
pub walk_on : (l : ℕ) (a : Access) (ws : List ℕ) (t p u : ℕ) (r : Rights) → u < 2 ^ 40 → allows a r ≡ true
    → cell ws t (index (suc l) p) ≡ word_of r u → walk_from (suc l) a ws t p ≡ walk_from l a ws u p
unfolding walk_from
walk_on l a ws t p u r h ok e =
    ap (λ (w : ℕ). passing (suc (suc l)) a w (walk_from l a ws (number_in w) p)) e
    ∙ passing_word (suc (suc l)) a r u (walk_from l a ws (number_in (word_of r u)) p) h (allowed_right a r ok)
    ∙ ap (λ (x : Bool). cond x (walk_from l a ws (number_in (word_of r u)) p) (lacking (suc (suc l)))) ok
    ∙ ap (λ (v : ℕ). walk_from l a ws v p) (word-number r u h)

-- and so does the word of a table
pub walk_link : (l : ℕ) (a : Access) (ws : List ℕ) (t p u : ℕ) → u < 2 ^ 40
    → cell ws t (index (suc l) p) ≡ word_of both u → walk_from (suc l) a ws t p ≡ walk_from l a ws u p
walk_link l a ws t p u h e = walk_on l a ws t p u both h (both_allow a) e

-- the word 0 is absent
pub walk_absent : (l : ℕ) (a : Access) (ws : List ℕ) (t p : ℕ) → cell ws t (index l p) ≡ 0 → walk_from l a ws t p ≡ absent (suc l)
unfolding walk_from
walk_absent zero a ws t p e = ap (λ (w : ℕ). passing 1 a w (arrives w)) e
walk_absent (suc l) a ws t p e = ap (λ (w : ℕ). passing (suc (suc l)) a w (walk_from l a ws (number_in w) p)) e

-- at level 1 the walk arrives, or the right is lacking
pub walk_page : (a : Access) (ws : List ℕ) (t p n : ℕ) (r : Rights) → n < 2 ^ 40 → some_right r ≡ true
    → cell ws t (index 0 p) ≡ word_of r n → walk_from 0 a ws t p ≡ cond (allows a r) (arrives (word_of r n)) (lacking 1)
unfolding walk_from
walk_page a ws t p n r h s e =
    ap (λ (w : ℕ). passing 1 a w (arrives w)) e ∙ passing_word 1 a r n (arrives (word_of r n)) h s

-- what is reached by a word of level 1
pub word_reach : (w n : ℕ) (r : Rights) → number_in w ≡ n → some_right r ≡ true
    → both_walks (frame_at (cond r.read (arrives w) (lacking 1))) (frame_at (cond r.write (arrives w) (lacking 1))) ≡ Some (record { frame = record { 0 = n }; rights = r })
word_reach w n r e s = go r.read r.write s
  where
    go : (x y : Bool) → (x || y) ≡ true
        → both_walks (frame_at (cond x (arrives w) (lacking 1))) (frame_at (cond y (arrives w) (lacking 1))) ≡ Some (record { frame = record { 0 = n }; rights = record { read = x; write = y } })
    go true true h = ap (λ (f : ℕ). both_walks (Some f) (Some f)) e
    go true false h = ap (λ (f : ℕ). both_walks (Some f) None) e
    go false true h = ap (λ (f : ℕ). both_walks None (Some f)) e
    go false false h = absurd (cc)

-- what is reached from a table of level 1 that has the page's word
pub page_reach : (ws : List ℕ) (t p n : ℕ) (r : Rights) → n < 2 ^ 40 → some_right r ≡ true → cell ws t (index 0 p) ≡ word_of r n
    → both_walks (frame_at (walk_from 0 Read ws t p)) (frame_at (walk_from 0 Write ws t p)) ≡ Some (record { frame = record { 0 = n }; rights = r })
page_reach ws t p n r h s e =
    ap (λ (k : Walked). both_walks (frame_at k) (frame_at (walk_from 0 Write ws t p))) (walk_page Read ws t p n r h s e)
    ∙ ap (λ (k : Walked). both_walks (frame_at (cond r.read (arrives (word_of r n)) (lacking 1))) (frame_at k)) (walk_page Write ws t p n r h s e)
    ∙ word_reach (word_of r n) n r (word-number r n h) s

-- the walks of words that agree are one
pub same_walk : (ws vs : List ℕ) → ((t i : ℕ) → cell ws t i ≡ cell vs t i) → (l : ℕ) (a : Access) (t p : ℕ) → walk_from l a ws t p ≡ walk_from l a vs t p
unfolding walk_from
same_walk ws vs h zero a t p = ap (λ (w : ℕ). passing 1 a w (arrives w)) (h t (index 0 p))
same_walk ws vs h (suc l) a t p =
    ap (λ (k : Walked). passing (suc (suc l)) a (cell ws t (index (suc l) p)) k) (same_walk ws vs h l a _ p)
    ∙ ap (λ (w : ℕ). passing (suc (suc l)) a w (walk_from l a vs (number_in w) p)) (h t (index (suc l) p))

-- where the numbers are those of frames, nothing reached is left out
pub with_frame_all : (o : Option Reach) → ((r : Reach) → o ≡ Some r → r.frame.0 < 2 ^ 32) → with_frame o ≡ o
with_frame_all None h = refl
with_frame_all (Some r) h = let e = h r refl in grind (arith, nat_tests)
