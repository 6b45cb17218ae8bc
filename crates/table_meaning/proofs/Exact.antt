-- What a card reaches by walks of the words is what the open mappings give, and a walk is judged as they are.
use Rattle.std.proofs.Common.{◌≡◌, ℕ, ◌+◌, ◌*◌, ◌/◌, ◌%◌, ◌^◌, ◌<◌, Bool, true, false, cond, not, ◌&&◌, ◌||◌, List, Some, None, Option, ◌==◌, ltb, sym, refl, ap, ◌∙◌, inl, inr, arith}
use Rattle.std.proofs.lemmas.Bool.Decides.{nat_tests}
use Rattle.std.proofs.lemmas.Bool.{cases_Bool, cond-true, cond-false}
use Rattle.units.specs.declared.direction.Access.{Access}
use Rattle.units.specs.declared.direction.Access.TheVariants.{Read, Write}
use Rattle.units.specs.declared.direction.Rights.{Rights}
use Rattle.units.specs.declared.fault.FaultKind.TheVariants.{Lacking}
use Rattle.units.specs.declared.mapping.Mapping.{Mapping}
use Rattle.units.specs.declared.mapping.Reach.{Reach}
use Rattle.units.specs.Directions.{allows, rights_of}
use Rattle.meaning.specs.Mappings.{on_page, reach_of}
use Rattle.meaning.specs.Worlds.{Setup}
use Rattle.meaning.specs.Checks.{fine, fault, allowed}
use Rattle.meaning.proofs.Facts.{page_fact}
use Rattle.meaning.proofs.Lists.{reach_none}
use Rattle.meaning.proofs.Reaching.{through, reached_inside}
use Rattle.pages.specs.Lawful.{Possible, none_reserved}
use Rattle.pages.proofs.Facts.{lawful_facts}
use Rattle.pages.proofs.Laws.{bounds}
use Rattle.entry.specs.Words.{word_of, rights_in, is_clear, is_present}
use Rattle.entry.proofs.Words.{some_right, direction_right, word-number, word-rights, word_clear, word-present, word_some}
use Rattle.walk.specs.Indices.{prefix}
use Rattle.walk.specs.Walks.{Walked, arrives, absent, lacking, passing, walked, frame_at, both_walks, reach_in}
use Rattle.tree.specs.declared.place.Table.{Table}
use Rattle.tree.specs.Places.{page_of}
use Rattle.tree.specs.Layout.{contains, shared, level_in, Fits}
use Rattle.tree.proofs.Sharing.{contains_shared}
use Rattle.table_meaning.specs.Opened.{word_for, leaf_of, pages_of}
use Rattle.table_meaning.specs.Choosing.{table_level}
use Rattle.table_meaning.specs.Judging.{verdict_of}
use Rattle.table_meaning.proofs.Leaves.{listed, short_of}
use Rattle.table_meaning.proofs.Walking.{told, walk_told}

-- what is reached has a right, and a frame that a word can name
pub record Proper (s : Reach) : Type 0 where
  pub right : some_right s.rights ≡ true
  pub small : s.frame.0 < 2 ^ 32

pub reached_proper : (S : Setup) (o : List Mapping) → Possible S o → (c p : ℕ) (s : Reach) → reach_of o c p ≡ Some s → Proper s
reached_proper S o h c p s e =
    let t = through o c p s e in
    let b = bounds S o h in
    let inside = reached_inside S (none_reserved S) o b c p s e in
    let few = b.frames in
    let rights : rights_of t.mapping.direction ≡ s.rights = ap (rights_in_reach s) t.leads in
    record { right = ap some_right (sym rights) ∙ direction_right t.mapping.direction; small = omega arith }
  where
    rights_in_reach : Reach → Option Reach → Rights
    rights_in_reach s None = s.rights
    rights_in_reach s (Some r) = r.rights

-- a walk to a page that is reached so
module _ (s : Reach) (h : Proper s) where
  fits : s.frame.0 < 2 ^ 40
  fits = let small = h.small in omega arith

  abbrev word : ℕ
  word = word_of s.rights s.frame.0

  there : (word == 0) ≡ false
  there = elim (cases_Bool (word == 0)) [ inl t ↦ absurd (word_some s.rights s.frame.0 fits h.right (grind (arith, nat_tests))) | inr f ↦ f ]

  usable : (is_clear word && is_present word) ≡ true
  usable = let a = word_clear s.rights s.frame.0 fits in let b = word-present s.rights s.frame.0 fits ∙ h.right in cc

  pub told_reached : (a : Access) (l : ℕ) → told a word l ≡ cond (allows a s.rights) (arrives word) (lacking 1)
  told_reached a l =
      cond-false (word == 0) (absent l) (passing 1 a word (arrives word)) there
      ∙ cond-true _ (cond (allows a (rights_in word)) (arrives word) (lacking 1)) (absent 1) usable
      ∙ ap (λ (z : Rights). cond (allows a z) (arrives word) (lacking 1)) (word-rights s.rights s.frame.0 fits)

  framed : (b : Bool) → frame_at (cond b (arrives word) (lacking 1)) ≡ cond b (Some s.frame.0) None
  framed true = ap Some (word-number s.rights s.frame.0 fits)
  framed false = refl

  together : (b d : Bool) → b ≡ s.rights.read → d ≡ s.rights.write → (b || d) ≡ true → both_walks (cond b (Some s.frame.0) None) (cond d (Some s.frame.0) None) ≡ Some s
  together true true e g k = same true true e g
    where
      same : (b d : Bool) → b ≡ s.rights.read → d ≡ s.rights.write → (let r : Reach = record { frame = record { 0 = s.frame.0 }; rights = record { read = b; write = d } } in Some r) ≡ Some s
      same b d e g = ap (λ (z : Bool). let r : Reach = record { frame = record { 0 = s.frame.0 }; rights = record { read = z; write = d } } in Some r) e
          ∙ ap (λ (z : Bool). let r : Reach = record { frame = record { 0 = s.frame.0 }; rights = record { read = s.rights.read; write = z } } in Some r) g
  together true false e g k =
      ap (λ (z : Bool). let r : Reach = record { frame = record { 0 = s.frame.0 }; rights = record { read = z; write = false } } in Some r) e
      ∙ ap (λ (z : Bool). let r : Reach = record { frame = record { 0 = s.frame.0 }; rights = record { read = s.rights.read; write = z } } in Some r) g
  together false true e g k =
      ap (λ (z : Bool). let r : Reach = record { frame = record { 0 = s.frame.0 }; rights = record { read = z; write = true } } in Some r) e
      ∙ ap (λ (z : Bool). let r : Reach = record { frame = record { 0 = s.frame.0 }; rights = record { read = s.rights.read; write = z } } in Some r) g
  together false false e g k = absurd (cc)

  pub walks_reached : (l : ℕ) → both_walks (frame_at (told Read word l)) (frame_at (told Write word l)) ≡ Some s
  walks_reached l =
      ap (λ (z : Option ℕ). both_walks z (frame_at (told Write word l))) (ap frame_at (told_reached Read l) ∙ framed s.rights.read)
      ∙ ap (both_walks (cond s.rights.read (Some s.frame.0) None)) (ap frame_at (told_reached Write l) ∙ framed s.rights.write)
      ∙ together s.rights.read s.rights.write refl refl h.right

-- an open page is absent at no level
pub level_open : (qs : List ℕ) (q : ℕ) → contains q qs ≡ true → level_in qs q ≡ 1
level_open qs q e =
    cond-true (shared qs 3 (prefix 3 q)) _ 4 (contains_shared q qs 3 e)
    ∙ cond-true (shared qs 2 (prefix 2 q)) _ 3 (contains_shared q qs 2 e)
    ∙ cond-true (shared qs 1 (prefix 1 q)) 1 2 (contains_shared q qs 1 e)

module _ (S : Setup) (T : ℕ) (ts : List Table) (o : List Mapping) (ws : List ℕ) (h : Possible S o) (f : Fits S.cards T ts (leaf_of o) (pages_of o) ws) where
  -- a card or a page that there is not
  pub nowhere : (c p : ℕ) → (ltb c S.cards && ltb p (2 ^ 36)) ≡ false → reach_of o c p ≡ None
  nowhere c p e = reach_none c p o (λ m i. elim (cases_Bool (on_page c p m)) [
    | inl t ↦ (let g = page_fact c p m t in
        let fit = (lawful_facts S o h.1).each m i in
        let short = short_of S o h.0 h.1 m i in
        let to = g.1.to in
        let card = fit.card in
        let same = g.0 in
        let below : c < S.cards = omega arith in
        let bits : p < 2 ^ 36 = omega arith in
        grind (arith, nat_tests))
    | inr g ↦ g
  ])

  leaf_is : (c p : ℕ) → p < 2 ^ 36 → leaf_of o (page_of c p) ≡ word_for (reach_of o c p)
  unfolding leaf_of
  leaf_is c p b =
      let card : (c * 2 ^ 36 + p) / 2 ^ 36 ≡ c = omega arith in
      let page : (c * 2 ^ 36 + p) % 2 ^ 36 ≡ p = omega arith in
      ap (λ (z : ℕ). word_for (reach_of o z ((c * 2 ^ 36 + p) % 2 ^ 36))) card ∙ ap (λ (z : ℕ). word_for (reach_of o c z)) page

  pub tables_reach : (c p : ℕ) → reach_in S.cards ws c p ≡ reach_of o c p
  tables_reach c p = elim (cases_Bool (ltb c S.cards && ltb p (2 ^ 36))) [
    | inr e ↦ cond-false (ltb c S.cards && ltb p (2 ^ 36)) _ None e ∙ sym (nowhere c p e)
    | inl e ↦ cond-true (ltb c S.cards && ltb p (2 ^ 36)) _ None e ∙ walks c p (grind (arith, nat_tests)) (grind (arith, nat_tests))
  ]
    where
      reached : (l : ℕ) (c p : ℕ) (r : Option Reach) → reach_of o c p ≡ r → both_walks (frame_at (told Read (word_for r) l)) (frame_at (told Write (word_for r) l)) ≡ r
      reached l c p None e = refl
      reached l c p (Some s) e = walks_reached s (reached_proper S o h c p s e) l

      walks : (c p : ℕ) → c < S.cards → p < 2 ^ 36 → both_walks (frame_at (walked Read ws c p)) (frame_at (walked Write ws c p)) ≡ reach_of o c p
      walks c p card bits =
          let w = walk_told S.cards T ts (leaf_of o) (pages_of o) ws f c p card bits in
          let l = level_in (pages_of o) (page_of c p) in
          let same = leaf_is c p bits in
          ap (λ (z : Walked). both_walks (frame_at z) (frame_at (walked Write ws c p))) (w Read ∙ ap (λ (z : ℕ). told Read z l) same)
          ∙ ap (λ (z : Walked). both_walks (frame_at (told Read (word_for (reach_of o c p)) l)) (frame_at z)) (w Write ∙ ap (λ (z : ℕ). told Write z l) same)
          ∙ reached l c p (reach_of o c p) refl

  -- a walk is judged as what the open mappings give
  pub walk_judged : (a : Access) (c p : ℕ) → c < S.cards → p < 2 ^ 36 → verdict_of (walked a ws c p) ≡ allowed (reach_of o c p) (table_level S o c p) a
  walk_judged a c p card bits =
      let l = level_in (pages_of o) (page_of c p) in
      let here : (ltb c S.cards && ltb p (2 ^ 36)) ≡ true = grind (arith, nat_tests) in
      ap verdict_of (walk_told S.cards T ts (leaf_of o) (pages_of o) ws f c p card bits a ∙ ap (λ (z : ℕ). told a z l) (leaf_is c p bits))
      ∙ judged (reach_of o c p) refl
      ∙ ap (λ (z : ℕ). allowed (reach_of o c p) z a) (sym (cond-true (ltb c S.cards && ltb p (2 ^ 36)) l 4 here))
    where
      one : (s : Reach) → reach_of o c p ≡ Some s → level_in (pages_of o) (page_of c p) ≡ 1
      one s e =
          let proper = reached_proper S o h c p s e in
          let w : leaf_of o (page_of c p) ≡ word_of s.rights s.frame.0 = leaf_is c p bits ∙ ap word_for e in
          level_open (pages_of o) (page_of c p) (listed o (short_of S o h.0 h.1) (page_of c p) ∙ ap (λ (z : ℕ). not (z == 0)) w ∙ ap not (there s proper))

      either : (b : Bool) (w l : ℕ) → l ≡ 1 → verdict_of (cond b (arrives w) (lacking 1)) ≡ cond b fine (fault Lacking l)
      either true w l e = refl
      either false w l e = ap (fault Lacking) (sym e)

      judged : (r : Option Reach) → reach_of o c p ≡ r → verdict_of (told a (word_for r) (level_in (pages_of o) (page_of c p))) ≡ allowed r (level_in (pages_of o) (page_of c p)) a
      judged None e = refl
      judged (Some s) e =
          let proper = reached_proper S o h c p s e in
          ap verdict_of (told_reached s proper a (level_in (pages_of o) (page_of c p))) ∙ either (allows a s.rights) (word_of s.rights s.frame.0) (level_in (pages_of o) (page_of c p)) (one s e)

  -- and arrives at the frame that they give
  pub walk_arrives : (a : Access) (c p w : ℕ) → c < S.cards → p < 2 ^ 36 → walked a ws c p ≡ arrives w → (s : Reach) × (reach_of o c p ≡ Some s) × (w ≡ word_of s.rights s.frame.0) × Proper s
  walk_arrives a c p w card bits e =
      arrived (reach_of o c p) refl (sym (walk_told S.cards T ts (leaf_of o) (pages_of o) ws f c p card bits a ∙ ap (λ (z : ℕ). told a z (level_in (pages_of o) (page_of c p))) (leaf_is c p bits)) ∙ e)
    where
      the_word : Walked → ℕ
      the_word (arrives w) = w
      the_word (absent l) = 0
      the_word (lacking l) = 0

      allowed_word : (b : Bool) (v : ℕ) → cond b (arrives v) (lacking 1) ≡ arrives w → w ≡ v
      allowed_word true v k = sym (ap the_word k)
      allowed_word false v k = absurd (cc)

      arrived : (r : Option Reach) → reach_of o c p ≡ r → told a (word_for r) (level_in (pages_of o) (page_of c p)) ≡ arrives w → (s : Reach) × (reach_of o c p ≡ Some s) × (w ≡ word_of s.rights s.frame.0) × Proper s
      arrived None k g = absurd (cc)
      arrived (Some s) k g =
          let proper = reached_proper S o h c p s k in
          (s, k, allowed_word (allows a s.rights) (word_of s.rights s.frame.0) (sym (told_reached s proper a (level_in (pages_of o) (page_of c p))) ∙ g), proper)

  -- what is reached is blocked at level 1
  pub level_reached : (c p : ℕ) (s : Reach) → reach_of o c p ≡ Some s → table_level S o c p ≡ 1
  level_reached c p s e = elim (cases_Bool (ltb c S.cards && ltb p (2 ^ 36))) [
    | inr g ↦ (let none = nowhere c p g in absurd (cc))
    | inl g ↦ (
        let bits : p < 2 ^ 36 = grind (arith, nat_tests) in
        let proper = reached_proper S o h c p s e in
        let w : leaf_of o (page_of c p) ≡ word_of s.rights s.frame.0 = leaf_is c p bits ∙ ap word_for e in
        cond-true (ltb c S.cards && ltb p (2 ^ 36)) (level_in (pages_of o) (page_of c p)) 4 g
        ∙ level_open (pages_of o) (page_of c p) (listed o (short_of S o h.0 h.1) (page_of c p) ∙ ap (λ (z : ℕ). not (z == 0)) w ∙ ap not (there s proper)))
  ]
