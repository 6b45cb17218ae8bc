-- What holds while pages are closed, and once they are.
use Rattle.std.specs.Prelude.{◌≡◌, ℕ, suc, ◌+◌, ◌*◌, ◌<◌, ◌≤◌, Bool, true, not, List, is_some, ◌≢◌, ◌==◌}
use Rattle.std.specs.List.{list_all, slice_range}
use Rattle.walk.specs.Indices.{prefix}
use Rattle.tree.specs.declared.place.Table.{Table}
use Rattle.tree.specs.Places.{table_for, Directory}
use Rattle.tree.specs.Layout.{Laid, Fits, contains, shared, put, put_span, without, without_span}

-- the tables and words fit some open pages, the n from q on among them
pub record AreOpen (ts : List Table) (ws : List ℕ) (q n : ℕ) : Type 0 where
  pub cards : ℕ
  pub tables : ℕ
  pub leaf : ℕ → ℕ
  pub pages : List ℕ
  pub fits : Fits cards tables ts leaf pages ws
  pub each : (j : ℕ) → j < n → leaf (q + j) ≢ 0

-- whatever pages they fitted, these n among them, they fit those pages without these n
abbrev pub Closed : List Table → List ℕ → List Table → List ℕ → ℕ → ℕ → Type 0
Closed ts ws ts' ws' q n =
    (C T : ℕ) (leaf : ℕ → ℕ) (qs : List ℕ) → Fits C T ts leaf qs ws → ((j : ℕ) → j < n → leaf (q + j) ≢ 0)
    → Fits C T ts' (put_span leaf q n (λ j. 0)) (without_span q n qs) ws'

-- the same of page q alone
abbrev pub ClosedOne : List Table → List ℕ → List Table → List ℕ → ℕ → Type 0
ClosedOne ts ws ts' ws' q =
    (C T : ℕ) (leaf : ℕ → ℕ) (qs : List ℕ) → Fits C T ts leaf qs ws → leaf q ≢ 0 → Fits C T ts' (put leaf q 0) (without q qs) ws'

-- Page p is open no more. All fits, but its tables of level a and above may be there for no page.
pub record Closing (a p C T : ℕ) (ts : List Table) (leaf : ℕ → ℕ) (qs ws : List ℕ) : Type 0 where
  pub directory : Directory C T ts
  pub laid : Laid T ts leaf ws
  pub listed : (q : ℕ) → contains q qs ≡ not (leaf q == 0)
  pub served : (l k : ℕ) → 1 ≤ l → l ≤ 3 → (a ≤ l → k ≢ prefix l p) → is_some (table_for ts l k) ≡ shared qs l k
  pub stands : is_some (table_for ts a (prefix a p)) ≡ true

-- the same, of some cards, tables and pages
pub record IsClosing (a p : ℕ) (ts : List Table) (ws : List ℕ) : Type 0 where
  pub cards : ℕ
  pub tables : ℕ
  pub leaf : ℕ → ℕ
  pub pages : List ℕ
  pub closing : Closing a p cards tables ts leaf pages ws

-- the table of level a is given back
abbrev pub Given : ℕ → ℕ → List Table → List ℕ → List Table → List ℕ → Type 0
Given a p ts ws ts' ws' = (C T : ℕ) (leaf : ℕ → ℕ) (qs : List ℕ) → Closing a p C T ts leaf qs ws → Closing (suc a) p C T ts' leaf qs ws'

-- it is still in use
abbrev pub Kept : ℕ → ℕ → List Table → List ℕ → List Table → List ℕ → Type 0
Kept a p ts ws ts' ws' = (C T : ℕ) (leaf : ℕ → ℕ) (qs : List ℕ) → Closing a p C T ts leaf qs ws → Fits C T ts' leaf qs ws'

-- each word of table t is 0
abbrev pub is_blank : List ℕ → ℕ → Bool
is_blank ws t = list_all (λ w. w == 0) (slice_range ws (t * 512) (t * 512 + 512))
