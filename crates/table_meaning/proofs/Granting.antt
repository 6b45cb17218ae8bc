-- What a set-up grants is possible, and its words are cleared.
use Rattle.std.proofs.Common.{◌≡◌, ℕ, ◌+◌, ◌*◌, ◌<◌, ◌≤◌, Bool, true, false, cond, ltb, List, [], ◌∷◌, length, replicate, Some, None, get_or, refl, ap, arith}
use Rattle.std.proofs.lemmas.List.{get_or-replicate, length-replicate}
use Rattle.std.proofs.lemmas.Bool.Decides.{nat_tests}
use Rattle.std.proofs.lemmas.Bool.{cond-true, lt-ltb}
use Rattle.units.specs.declared.number.Geometry.{Geometry}
use Rattle.units.specs.declared.fault.FaultKind.TheVariants.{WrongSetup}
use Rattle.units.specs.Geometry.{in_range}
use Rattle.pages.specs.Lawful.{lawful}
use Rattle.pages.proofs.Ranges.{range_facts}
use Rattle.table_meaning.specs.Choosing.{accepts, setup_of, granted, granted_tables, setup_refusal, told_by, TablesPossible}
use Rattle.units.specs.declared.mapping.Mapping.{Mapping}
use Rattle.tree.specs.declared.place.Table.{Table}
use Rattle.tree.specs.Layout.{Fits}
use Rattle.table_meaning.specs.Opened.{leaf_of, pages_of}
use Rattle.table_meaning.specs.Starting.{Cleared, Started, words_left}
use Rattle.table_meaning.proofs.Starting.{started_fits}

pub record Accepted (g : Geometry) (T n : ℕ) : Type 0 where
  pub ranged : in_range g ≡ true
  pub enough : g.cards + 3 ≤ T
  pub few : T ≤ 64
  pub words : n ≡ T * 512

accepted : (g : Geometry) (T n : ℕ) → accepts g T n ≡ true → Accepted g T n
accepted g T n e = record { ranged = grind (arith, nat_tests); enough = grind (arith, nat_tests); few = grind (arith, nat_tests); words = grind (arith, nat_tests) }

none : Geometry → Geometry
none g = record { cards = 0; lasts = g.lasts; frames = 0 }

module _ (g : Geometry) (T n : ℕ) where
  pub granted_possible : TablesPossible (setup_of (granted g T n) (granted_tables g T n)) []
  unfolding lawful
  granted_possible = go (accepts g T n) refl
    where
      go : (b : Bool) → accepts g T n ≡ b → TablesPossible (setup_of (cond b g (record { cards = 0; lasts = g.lasts; frames = 0 })) (cond b T 0)) []
      go true e = let a = accepted g T n e in (((range_facts g (T ∷ []) a.ranged).0, refl), λ some. a.enough)
      go false e = (((omega arith, omega arith, λ c h. absurd (omega arith)), refl), λ some. absurd (omega arith))

  pub granted_told : told_by (granted g T n) ≡ setup_refusal g T n
  granted_told = go (accepts g T n) refl
    where
      go : (b : Bool) → accepts g T n ≡ b → told_by (cond b g (record { cards = 0; lasts = g.lasts; frames = 0 })) ≡ cond b None (Some WrongSetup)
      go true e = cond-true (ltb 0 g.cards) None (Some WrongSetup) (lt-ltb 0 g.cards (range_facts g [] (accepted g T n e).ranged).1)
      go false e = refl

  pub granted_enough : (granted g T n).cards ≤ granted_tables g T n
  granted_enough = go (accepts g T n) refl
    where
      go : (b : Bool) → accepts g T n ≡ b → (let h : Geometry = cond b g (record { cards = 0; lasts = g.lasts; frames = 0 }) in h.cards) ≤ cond b T 0
      go true e = let a = (accepted g T n e).enough in omega arith
      go false e = omega arith

  pub granted_few : granted_tables g T n ≤ 64
  granted_few = go (accepts g T n) refl
    where
      go : (b : Bool) → accepts g T n ≡ b → cond b T 0 ≤ 64
      go true e = (accepted g T n e).few
      go false e = omega arith

sized : {m n : ℕ} (T : ℕ) → n ≡ T * 512 → m ≡ n → T * 512 ≤ m
sized T e f = omega arith

module _ (g : Geometry) (T : ℕ) (ws : List ℕ) where
  pub granted_size : granted_tables g T (length ws) * 512 ≤ length (words_left g T ws)
  granted_size = go (accepts g T (length ws)) refl
    where
      go : (b : Bool) → accepts g T (length ws) ≡ b → cond b T 0 * 512 ≤ length (cond b (replicate (length ws) 0) ws)
      go true e = let a = (accepted g T (length ws) e).words in let l : length (replicate {A = ℕ} (length ws) 0) ≡ length ws = length-replicate (length ws) 0 in sized T a l
      go false e = omega arith

  pub granted_cleared : Cleared (granted_tables g T (length ws)) (words_left g T ws)
  granted_cleared = go (accepts g T (length ws)) refl
    where
      go : (b : Bool) → accepts g T (length ws) ≡ b → (i : ℕ) → i < cond b T 0 * 512 → get_or (cond b (replicate (length ws) 0) ws) i 0 ≡ 0
      go true e i l = let a = (accepted g T (length ws) e).words in get_or-replicate (length ws) i 0 0 (omega arith)
      go false e i l = absurd (omega arith)

-- what a set-up keeps, from what its parts are
module _ (g h : Geometry) (T k : ℕ) (o : List Mapping) (ws : List ℕ) (numbers : h ≡ granted g T (length ws)) (tables : k ≡ granted_tables g T (length ws)) (empty : o ≡ []) where
  pub setup_possible : TablesPossible (setup_of h k) o
  setup_possible = rw (numbers, tables, empty) (granted_possible g T (length ws))

  pub setup_fits : (ts : List Table) (vs : List ℕ) → Started h.cards k ts → vs ≡ words_left g T ws → Fits h.cards k ts (leaf_of o) (pages_of o) vs
  setup_fits ts vs s e =
      let cards : h.cards ≡ (granted g T (length ws)).cards = ap (λ (z : Geometry). z.cards) numbers in
      let enough : h.cards ≤ k = (let a = granted_enough g T (length ws) in omega arith) in
      let few : k ≤ 64 = (let a = granted_few g T (length ws) in omega arith) in
      let size : k * 512 ≤ length vs = rw (e, tables) (granted_size g T ws) in
      let cleared : Cleared k vs = rw (e, tables) (granted_cleared g T ws) in
      rw empty (started_fits h.cards k ts s enough few vs size cleared)
