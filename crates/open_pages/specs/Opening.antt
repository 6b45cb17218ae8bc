-- How tables and words stand while pages are opened.
use Rattle.std.specs.Prelude.{◌≡◌, ℕ, ◌*◌, ◌^◌, ◌≤◌, true, List, is_some, Some, ◌≢◌}
use Rattle.walk.specs.Indices.{prefix}
use Rattle.tree.specs.declared.place.Table.{Table}
use Rattle.tree.specs.Places.{table_for, Directory}
use Rattle.tree.specs.Layout.{Laid, Fits}

-- each open page has its table of level 1, and a table may have no open page below it yet
pub record Hung (C T : ℕ) (ts : List Table) (leaf : ℕ → ℕ) (ws : List ℕ) : Type 0 where
  pub directory : Directory C T ts
  pub laid : Laid T ts leaf ws
  pub served : (q : ℕ) → leaf q ≢ 0 → is_some (table_for ts 1 (prefix 1 q)) ≡ true

-- the same, of some cards, tables and words of pages
pub record Hangs (ts : List Table) (ws : List ℕ) : Type 0 where
  pub cards : ℕ
  pub tables : ℕ
  pub leaf : ℕ → ℕ
  pub hung : Hung cards tables ts leaf ws

-- the tables fit some open pages, and each page before `past` is one of a card
pub record Fitted (ts : List Table) (ws : List ℕ) (past : ℕ) : Type 0 where
  pub cards : ℕ
  pub tables : ℕ
  pub leaf : ℕ → ℕ
  pub pages : List ℕ
  pub fits : Fits cards tables ts leaf pages ws
  pub before : past ≤ cards * 2 ^ 36

-- table t stands at level l for prefix k, and at all other places the same tables as before
pub record Made (ts ts' : List Table) (l k t : ℕ) : Type 0 where
  pub found : table_for ts' l k ≡ Some t
  pub others : (m j : ℕ) → (m ≡ l → j ≡ k → ⊥) → table_for ts' m j ≡ table_for ts m j
