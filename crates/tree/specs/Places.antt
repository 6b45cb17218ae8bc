-- Which table stands where.
use Rattle.std.specs.Prelude.{◌≡◌, ℕ, suc, ◌+◌, ◌*◌, ◌/◌, ◌^◌, ◌<◌, ◌≤◌, Bool, true, false, cond, ◌&&◌, List, length, is_some, Some, None, Option, ◌≢◌, ◌==◌, nat_lt, slice_index_or}
use Rattle.std.specs.List.{position_or_len}
use Rattle.tree.specs.declared.place.Table.{Table}
use Rattle.tree.specs.declared.place.Table.TheVariants.{Missing, Free, Used}

-- the number of device page p of card c, over all cards
abbrev pub page_of : ℕ → ℕ → ℕ
page_of c p = c * 2 ^ 36 + p

abbrev pub table_at : List Table → ℕ → Table
table_at ts t = slice_index_or ts t Missing

-- a table in use at level l for prefix k
abbrev pub place : ℕ → ℕ → Table
place l k = Used (record { level = l; prefix = k })

abbrev pub stands : ℕ → ℕ → Table → Bool
stands l k Missing = false
stands l k Free = false
stands l k (Used p) = p.level == l && p.prefix == k

abbrev pub is_free : Table → Bool
is_free Missing = false
is_free Free = true
is_free (Used p) = false

-- the table that stands at level l for prefix k, if there is one
unfoldable pub table_for : List Table → ℕ → ℕ → Option ℕ
table_for ts l k = cond (nat_lt (position_or_len (stands l k) ts) (length ts)) (Some (position_or_len (stands l k) ts)) None

-- T tables for C cards: the roots stand, no place has two tables, and each table below a root has one above it
pub record Directory (C T : ℕ) (ts : List Table) : Type 0 where
  pub there : (t : ℕ) → t < T → table_at ts t ≢ Missing
  pub past : (t : ℕ) → T ≤ t → table_at ts t ≡ Missing
  pub few : T ≤ 64
  pub roots : (c : ℕ) → c < C → table_at ts c ≡ place 4 c
  pub levels : (t l k : ℕ) → table_at ts t ≡ place l k → (1 ≤ l) × (l ≤ 4)
  pub only_roots : (t k : ℕ) → table_at ts t ≡ place 4 k → (t < C) × (k ≡ t)
  pub once : (t u l k : ℕ) → table_at ts t ≡ place l k → table_at ts u ≡ place l k → t ≡ u
  pub hung : (t l k : ℕ) → table_at ts t ≡ place l k → l < 4 → is_some (table_for ts (suc l) (k / 512)) ≡ true

-- tables in use stay where they stand
abbrev pub Stay : List Table → List Table → Type 0
Stay ts ts' = (t l k : ℕ) → table_at ts t ≡ place l k → table_at ts' t ≡ place l k
