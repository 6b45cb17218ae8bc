-- A card's access, by the cache or by a walk.
use Rattle.std.proofs.Common.{◌≡◌, ℕ, ◌^◌, ◌<◌, ◌≤◌, ◌⊎◌, false, ◌&&◌, is_some, Some, None, Ok, Err, Option, Result, ltb, sym, refl, ap, ◌∙◌, subst, inl, inr, arith}
use Rattle.std.proofs.lemmas.Bool.Decides.{nat_tests}
use Rattle.std.proofs.lemmas.Bool.{cond-true, cond-false}
use Rattle.units.specs.declared.direction.Access.{Access}
use Rattle.units.specs.declared.direction.Rights.{Rights}
use Rattle.units.specs.declared.fault.Fault.{Fault}
use Rattle.units.specs.declared.fault.FaultKind.TheVariants.{Absent}
use Rattle.units.specs.declared.mapping.Reach.{Reach}
use Rattle.units.specs.declared.number.Frame.{Frame}
use Rattle.meaning.specs.Mappings.{reach_of}
use Rattle.meaning.specs.Checks.{Verdict, fine, errs, fault, allowed}
use Rattle.mapper.specs.Called.{Judged, Translated}
use Rattle.entry.specs.Words.{word_of, rights_in, number_in}
use Rattle.entry.proofs.Words.{word-number, word-rights}
use Rattle.entry.specs.declared.entry.Entry.{Entry}
use Rattle.walk.specs.Walks.{Walked, arrives, absent, lacking, walked}
use Rattle.walk.specs.Told.{Tells}
use Rattle.cache.specs.Entries.{added, cached}
use Rattle.cache.specs.Held.{held}
use Rattle.tree.specs.Places.{page_of}
use Rattle.tree.specs.Layout.{level_in}
use Rattle.table_meaning.specs.Opened.{pages_of}
use Rattle.table_meaning.specs.Choosing.{table_level}
use Rattle.table_meaning.specs.Judging.{verdict_of}
use Rattle.table_meaning.proofs.Exact.{Proper, nowhere, walk_judged, walk_arrives, level_reached}
use Rattle.table_meaning.proofs.Coherence.{coherent_found}
use Rattle.tables.specs.Left.{noted}
use Rattle.tables.specs.contracts.laws.TablesMeaning.TheImpl.{ghosts as means}
use Rattle.tables.specs.declared.tables.Tables.{Tables}
use Rattle.tables.proofs.Calls.{setup_in, open_in}

module _ (w : Tables) (c p : ℕ) (a : Access) where
  abbrev pub judged_here : Verdict
  judged_here = allowed (reach_of (open_in w) c p) (table_level (setup_in w) (open_in w) c p) a

  -- there is no such card or page
  pub nowhere_judged : (w.geometry.cards ≤ c) ⊎ (2 ^ 36 ≤ p) → judged_here ≡ errs (record { kind = Absent; layer = 0; place = 4 })
  nowhere_judged out =
      let none : (ltb c w.geometry.cards && ltb p (2 ^ 36)) ≡ false = outside out in
      ap (λ (z : Option Reach). allowed z (table_level (setup_in w) (open_in w) c p) a) (nowhere (setup_in w) w.count w.tables (open_in w) w.words.now w.possible.0 w.fits c p none)
      ∙ ap (fault Absent) (cond-false (ltb c w.geometry.cards && ltb p (2 ^ 36)) (level_in (pages_of (open_in w)) (page_of c p)) 4 none)
    where
      outside : (w.geometry.cards ≤ c) ⊎ (2 ^ 36 ≤ p) → (ltb c w.geometry.cards && ltb p (2 ^ 36)) ≡ false
      outside (inl h) = grind (arith, nat_tests)
      outside (inr h) = grind (arith, nat_tests)

  module _ (card : c < w.geometry.cards) (bits : p < 2 ^ 36) where
    judged_walk : verdict_of (walked a w.words.now c p) ≡ judged_here
    judged_walk = walk_judged (setup_in w) w.count w.tables (open_in w) w.words.now w.possible.0 w.fits a c p card bits

    -- a walk that is blocked
    pub walk_errs : (f : Fault) → Tells (walked a w.words.now c p) (Err f) → judged_here ≡ errs f
    walk_errs f t = sym judged_walk ∙ go (walked a w.words.now c p) t
      where
        the_fault : Result Entry Fault → Fault → Fault
        the_fault (Ok e) g = g
        the_fault (Err h) g = h

        go : (z : Walked) → Tells z (Err f) → verdict_of z ≡ errs f
        go (arrives n) k = absurd k
        go (absent l) k = ap errs (sym (ap (λ (z : Result Entry Fault). the_fault z f) k))
        go (lacking l) k = ap errs (sym (ap (λ (z : Result Entry Fault). the_fault z f) k))

    -- a walk that arrives, at what is reached
    pub record Found (e : Entry) : Type 0 where
      pub reach : Reach
      pub reached : reach_of (open_in w) c p ≡ Some reach
      pub number : number_in e.word ≡ reach.frame.0
      pub rights : rights_in e.word ≡ reach.rights
      pub small : reach.frame.0 < 2 ^ 32
      pub lets : judged_here ≡ fine

    pub walk_finds : (e : Entry) → Tells (walked a w.words.now c p) (Ok e) → Found e
    walk_finds e t = go (walked a w.words.now c p) refl t
      where
        go : (z : Walked) → walked a w.words.now c p ≡ z → Tells z (Ok e) → Found e
        go (absent l) h k = absurd (cc)
        go (lacking l) h k = absurd (cc)
        go (arrives n) h k =
            let s = walk_arrives (setup_in w) w.count w.tables (open_in w) w.words.now w.possible.0 w.fits a c p n card bits h in
            let proper : Proper s.0 = s.3 in
            let small = proper.small in
            let fits : s.0.frame.0 < 2 ^ 40 = omega arith in
            let word : e.word ≡ word_of s.0.rights s.0.frame.0 = k ∙ s.2 in
            record {
              reach = s.0;
              reached = s.1;
              number = ap number_in word ∙ word-number s.0.rights s.0.frame.0 fits;
              rights = ap rights_in word ∙ word-rights s.0.rights s.0.frame.0 fits;
              small = small;
              lets = sym judged_walk ∙ ap verdict_of h;
            }

    -- the same with frame and rights as the code has them
    pub found_reach : (e : Entry) (n : ℕ) (r : Rights) → Found e → n ≡ number_in e.word → r ≡ rights_in e.word
        → (let s : Reach = record { frame = record { 0 = n }; rights = r } in (reach_of (open_in w) c p ≡ Some s) × (allowed (Some s) (table_level (setup_in w) (open_in w) c p) a ≡ fine))
    found_reach e n r f i j =
        let s : Reach = record { frame = record { 0 = n }; rights = r } in
        let same : f.reach ≡ s = ap (λ (z : ℕ). record { frame = record { 0 = z }; rights = f.reach.rights }) (sym (i ∙ f.number)) ∙ ap (λ (z : Rights). record { frame = record { 0 = n }; rights = z }) (sym (j ∙ f.rights)) in
        let reached = f.reached ∙ ap (λ (z : Reach). Some z) same in
        (reached, ap (λ (z : Option Reach). allowed z (table_level (setup_in w) (open_in w) c p) a) (sym reached) ∙ f.lets)

  -- an entry of the cache that is used
  pub cache_hit : (s : Reach) (r : Result Frame Fault) → cached (held w.cache) c p ≡ Some s → Judged (Some s) 1 a r → Translated means w w c p a r
  cache_hit s r e j =
      let reached = coherent_found (held w.cache) (open_in w) w.coherent c p s e in
      let level = level_reached (setup_in w) w.count w.tables (open_in w) w.words.now w.possible.0 w.fits c p s reached in
      go r (subst (λ (z : ℕ). Judged (reach_of (open_in w) c p) z a r) (sym level) (subst (λ (z : Option Reach). Judged z 1 a r) (sym reached) j)) reached
    where
      kept : reach_of (open_in w) c p ≡ Some s → held w.cache ≡ noted (held w.cache) c p (reach_of (open_in w) c p)
      kept h = sym (ap (noted (held w.cache) c p) h ∙ cond-true (is_some (cached (held w.cache) c p)) (held w.cache) (added (held w.cache) (record { card = record { 0 = c }; page = record { 0 = p }; reach = s })) (ap is_some e))

      go : (r : Result Frame Fault) → Judged (reach_of (open_in w) c p) (table_level (setup_in w) (open_in w) c p) a r → reach_of (open_in w) c p ≡ Some s → Translated means w w c p a r
      go (Ok f) k h = record { fixed = refl; same = refl; judged = k; left = record { tables = refl; words = refl; records = refl; cache = kept h; queue = refl } }
      go (Err f) k h = record { fixed = refl; same = refl; judged = k; left = refl }

  -- an allowed walk gives the frame that is reached
  pub walk_gives : (s : Reach) → reach_of (open_in w) c p ≡ Some s → allowed (Some s) (table_level (setup_in w) (open_in w) c p) a ≡ fine
      → Judged (reach_of (open_in w) c p) (table_level (setup_in w) (open_in w) c p) a (Ok s.frame)
  walk_gives s e h = subst (λ (z : Option Reach). Judged z (table_level (setup_in w) (open_in w) c p) a (Ok s.frame)) (sym e) (h, λ v. refl)

  -- what the cache notes of an allowed walk
  pub cache_noted : (s : Reach) → cached (held w.cache) c p ≡ None → reach_of (open_in w) c p ≡ Some s
      → added (held w.cache) (record { card = record { 0 = c }; page = record { 0 = p }; reach = s }) ≡ noted (held w.cache) c p (reach_of (open_in w) c p)
  cache_noted s e h = sym (ap (noted (held w.cache) c p) h ∙ cond-false (is_some (cached (held w.cache) c p)) (held w.cache) (added (held w.cache) (record { card = record { 0 = c }; page = record { 0 = p }; reach = s })) (ap is_some e))
