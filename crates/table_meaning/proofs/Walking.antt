-- Walking the words that tables hold comes to the open pages and to nothing else.
use Rattle.std.proofs.Common.{◌≡◌, ℕ, zero, suc, ◌+◌, ◌-◌, ◌*◌, ◌^◌, ◌<◌, ◌≤◌, Bool, true, false, cond, not, List, is_some, Some, None, ◌==◌, sym, refl, ap, ◌∙◌, inl, inr, arith}
use Rattle.std.proofs.lemmas.Bool.Decides.{nat_tests}
use Rattle.std.proofs.lemmas.Bool.{cases_Bool, cond-true, cond-false}
use Rattle.units.specs.declared.direction.Access.{Access}
use Rattle.walk.proofs.Unfolding.{walk_link, walk_absent}
use Rattle.walk.specs.Indices.{prefix, index}
use Rattle.walk.specs.Walks.{Walked, arrives, absent, cell, passing, walk_from, walked}
use Rattle.tree.specs.declared.place.Table.{Table}
use Rattle.tree.specs.Places.{page_of, table_at, place, table_for}
use Rattle.tree.specs.Layout.{link, word_at, shared, level_in, Fits}
use Rattle.tree.proofs.Standing.{found_stands, search_ends, used_within}
use Rattle.tree.proofs.Sharing.{contains_shared}
use Rattle.walk.proofs.Prefixes.{prefix_parts, index_small, index_of_page, prefix_of_card}

-- what a walk to a page with the word w comes to, where l is the level that its block names
abbrev pub told : Access → ℕ → ℕ → Walked
told a w l = cond (w == 0) (absent l) (passing 1 a w (arrives w))

-- a word above level 1
word_above : (ts : List Table) (leaf : ℕ → ℕ) (l k i : ℕ) → word_at ts leaf (place (suc (suc l)) k) i ≡ link (table_for ts (suc l) (k * 512 + i))
word_above ts leaf l k i =
    let other : (suc (suc l) == 1) ≡ false = grind (arith, nat_tests) in
    let lower : suc (suc l) - 1 ≡ suc l = omega arith in
    cond-false (suc (suc l) == 1) (leaf (k * 512 + i)) (link (table_for ts (suc (suc l) - 1) (k * 512 + i))) other
    ∙ ap (λ (z : ℕ). link (table_for ts z (k * 512 + i))) lower

module _ (C T : ℕ) (ts : List Table) (leaf : ℕ → ℕ) (qs ws : List ℕ) (f : Fits C T ts leaf qs ws) (c p : ℕ) (card : c < C) (bits : p < 2 ^ 36) where
  abbrev q : ℕ
  q = page_of c p

  -- the word on the way to the page, in a table above level 1
  link_cell : (l t : ℕ) → l ≤ 3 → 1 ≤ l → table_at ts t ≡ place (suc l) (prefix (suc l) q) → cell ws t (index l p) ≡ link (table_for ts l (prefix l q))
  link_cell zero t h some e = absurd (omega arith)
  link_cell (suc l) t h some e =
      let within = used_within C T ts f.directory t (suc (suc l)) (prefix (suc (suc l)) q) e in
      ap (cell ws t) (sym (index_of_page c p bits (suc l) (omega arith)))
      ∙ f.laid.words t (index (suc l) q) within (index_small (suc l) q)
      ∙ ap (λ (z : Table). word_at ts leaf z (index (suc l) q)) e
      ∙ word_above ts leaf l (prefix (suc (suc l)) q) (index (suc l) q)
      ∙ ap (λ (z : ℕ). link (table_for ts (suc l) z)) (prefix_parts (suc l) q)

  leaf_cell : (t : ℕ) → table_at ts t ≡ place 1 (prefix 1 q) → cell ws t (index 0 p) ≡ leaf q
  leaf_cell t e =
      let within = used_within C T ts f.directory t 1 (prefix 1 q) e in
      ap (cell ws t) (sym (index_of_page c p bits 0 (omega arith)))
      ∙ f.laid.words t (index 0 q) within (index_small 0 q)
      ∙ ap (λ (z : Table). word_at ts leaf z (index 0 q)) e
      ∙ ap leaf (prefix_parts 0 q)

  onward : (a : Access) (l t u : ℕ) → suc l ≤ 3 → table_at ts t ≡ place (suc (suc l)) (prefix (suc (suc l)) q) → table_for ts (suc l) (prefix (suc l) q) ≡ Some u
      → walk_from (suc l) a ws t p ≡ walk_from l a ws u p
  onward a l t u h e found =
      let within = used_within C T ts f.directory u (suc l) (prefix (suc l) q) (found_stands ts (suc l) (prefix (suc l) q) u found).1 in
      let few = f.directory.few in
      walk_link l a ws t p u (omega arith) (link_cell (suc l) t h (omega arith) e ∙ ap link found)

  stopped : (a : Access) (l t : ℕ) → suc l ≤ 3 → table_at ts t ≡ place (suc (suc l)) (prefix (suc (suc l)) q) → table_for ts (suc l) (prefix (suc l) q) ≡ None
      → walk_from (suc l) a ws t p ≡ absent (suc (suc l))
  stopped a l t h e none = walk_absent (suc l) a ws t p (link_cell (suc l) t h (omega arith) e ∙ ap link none)

  -- where no table stands on the way, the page is not open
  not_open : (l : ℕ) → 1 ≤ l → l ≤ 3 → table_for ts l (prefix l q) ≡ None → (leaf q == 0) ≡ true
  not_open l low high none = go (leaf q == 0) refl
    where
      go : (b : Bool) → (leaf q == 0) ≡ b → (leaf q == 0) ≡ true
      go true e = e
      go false e =
          let open_page = f.listed q ∙ ap not e in
          let there = f.served l (prefix l q) low high ∙ contains_shared q qs l open_page in
          let gone = ap is_some none in
          absurd (cc)

  unserved : (l : ℕ) → 1 ≤ l → l ≤ 3 → table_for ts l (prefix l q) ≡ None → shared qs l (prefix l q) ≡ false
  unserved l low high none = sym (f.served l (prefix l q) low high) ∙ ap is_some none

  serves : (l u : ℕ) → 1 ≤ l → l ≤ 3 → table_for ts l (prefix l q) ≡ Some u → shared qs l (prefix l q) ≡ true
  serves l u low high some = sym (f.served l (prefix l q) low high) ∙ ap is_some some

  blocked : (a : Access) (w : Walked) (l : ℕ) → w ≡ absent l → level_in qs q ≡ l → (leaf q == 0) ≡ true → w ≡ told a (leaf q) (level_in qs q)
  blocked a w l e s z = e ∙ ap absent (sym s) ∙ sym (cond-true (leaf q == 0) (absent (level_in qs q)) (passing 1 a (leaf q) (arrives (leaf q))) z)

  arrived : (a : Access) (n l : ℕ) → l ≡ 1 → passing 1 a n (arrives n) ≡ told a n l
  arrived a n l e = elim (cases_Bool (n == 0)) [
    | inl t ↦ (let z : n ≡ 0 = grind (arith, nat_tests) in
        ap (λ (k : ℕ). passing 1 a k (arrives k)) z ∙ ap absent (sym e) ∙ sym (cond-true (n == 0) (absent l) (passing 1 a n (arrives n)) t))
    | inr g ↦ sym (cond-false (n == 0) (absent l) (passing 1 a n (arrives n)) g)
  ]

  pub walk_told : (a : Access) → walked a ws c p ≡ told a (leaf q) (level_in qs q)
  unfolding walk_from
  walk_told a = elim (search_ends ts 3 (prefix 3 q)) [
    | inr n ↦ (let s = unserved 3 (omega arith) (omega arith) n in
        blocked a _ 4 (stopped a 2 c (omega arith) root n) (cond-false (shared qs 3 (prefix 3 q)) _ 4 s) (not_open 3 (omega arith) (omega arith) n))
    | inl third ↦ (
        let at_third = (found_stands ts 3 (prefix 3 q) third.0 third.1).1 in
        let s3 = serves 3 third.0 (omega arith) (omega arith) third.1 in
        onward a 2 c third.0 (omega arith) root third.1 ∙ elim (search_ends ts 2 (prefix 2 q)) [
          | inr n ↦ (let s = unserved 2 (omega arith) (omega arith) n in
              blocked a _ 3 (stopped a 1 third.0 (omega arith) at_third n) (cond-true (shared qs 3 (prefix 3 q)) _ 4 s3 ∙ cond-false (shared qs 2 (prefix 2 q)) _ 3 s) (not_open 2 (omega arith) (omega arith) n))
          | inl second ↦ (
              let at_second = (found_stands ts 2 (prefix 2 q) second.0 second.1).1 in
              let s2 = serves 2 second.0 (omega arith) (omega arith) second.1 in
              onward a 1 third.0 second.0 (omega arith) at_third second.1 ∙ elim (search_ends ts 1 (prefix 1 q)) [
                | inr n ↦ (let s = unserved 1 (omega arith) (omega arith) n in
                    blocked a _ 2 (stopped a 0 second.0 (omega arith) at_second n)
                    (cond-true (shared qs 3 (prefix 3 q)) _ 4 s3 ∙ cond-true (shared qs 2 (prefix 2 q)) _ 3 s2 ∙ cond-false (shared qs 1 (prefix 1 q)) 1 2 s) (not_open 1 (omega arith) (omega arith) n))
                | inl first ↦ (
                    let at_first = (found_stands ts 1 (prefix 1 q) first.0 first.1).1 in
                    let s1 = serves 1 first.0 (omega arith) (omega arith) first.1 in
                    let one = cond-true (shared qs 3 (prefix 3 q)) _ 4 s3 ∙ cond-true (shared qs 2 (prefix 2 q)) _ 3 s2 ∙ cond-true (shared qs 1 (prefix 1 q)) 1 2 s1 in
                    onward a 0 second.0 first.0 (omega arith) at_second first.1
                    ∙ ap (λ (z : ℕ). passing 1 a z (arrives z)) (leaf_cell first.0 at_first)
                    ∙ arrived a (leaf q) (level_in qs q) one)
              ])
        ])
  ]
    where
      root : table_at ts c ≡ place 4 (prefix 4 q)
      root = f.directory.roots c card ∙ ap (place 4) (sym (prefix_of_card c p bits))
