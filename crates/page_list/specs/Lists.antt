-- Lists of the pages that are reached.
use Rattle.std.specs.Prelude.{◌≡◌, ℕ, ◌-◌, ◌<◌, ◌≤◌, List, [], ◌∷◌, Some, Option}
use Rattle.std.specs.List.{All, Contains}
use Rattle.units.specs.declared.mapping.Reach.{Reach}
use Rattle.walk.specs.Indices.{prefix}
use Rattle.page_list.specs.declared.list.PageReach.{PageReach}

-- page p, with what is found there
abbrev pub at : ℕ → Reach → PageReach
at p r = record { page = record { 0 = p }; reach = r }

-- each page is below all behind it
unfoldable pub Rising : List PageReach → Type 0
Rising [] = Unit {0}
Rising (x ∷ xs) = All (λ y. x.page.0 < y.page.0) xs × Rising xs

-- the pages below n where something is found, each once, the pages rising
pub record Listed (found : ℕ → Option Reach) (n : ℕ) (xs : List PageReach) : Type 0 where
  pub sound : All (λ x. found x.page.0 ≡ Some x.reach) xs
  pub below : All (λ x. x.page.0 < n) xs
  pub complete : (p : ℕ) (r : Reach) → p < n → found p ≡ Some r → Contains xs (at p r)
  pub rising : Rising xs

-- each page where something is found, once, the pages rising, and no other
pub record AllListed (found : ℕ → Option Reach) (xs : List PageReach) : Type 0 where
  pub sound : All (λ x. found x.page.0 ≡ Some x.reach) xs
  pub complete : (p : ℕ) (r : Reach) → found p ≡ Some r → Contains xs (at p r)
  pub rising : Rising xs

-- the pages from p up to q lie below the same word of level l
abbrev pub Alike : ℕ → ℕ → ℕ → Type 0
Alike l p q = (x : ℕ) → p ≤ x → x < q → prefix (l - 1) x ≡ prefix (l - 1) p
