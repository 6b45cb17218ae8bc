-- How many tables there are, and how many open pages take.
use Rattle.std.specs.Prelude.{ℕ, zero, suc, ◌+◌, ◌-◌, cond, ◌&&◌, List, [], ◌∷◌, is_some, ◌==◌, nat_lt}
use Rattle.walk.specs.Indices.{prefix}
use Rattle.tree.specs.declared.place.Table.{Table}
use Rattle.tree.specs.Places.{is_free, table_for}
use Rattle.tree.specs.Layout.{shared}

-- the n pages from q on, the last first
abbrev pub pages_from : ℕ → ℕ → List ℕ
pages_from q zero = []
pages_from q (suc n) = (q + n) ∷ pages_from q n

-- how many prefixes the pages have at level l, each counted once
abbrev pub prefixes : ℕ → List ℕ → ℕ
prefixes l [] = 0
prefixes l (q ∷ qs) = cond (shared qs l (prefix l q)) (prefixes l qs) (suc (prefixes l qs))

-- how many tables below the roots the pages take: one for each prefix at levels 1 to 3
abbrev pub tables_of : List ℕ → ℕ
tables_of qs = prefixes 1 qs + prefixes 2 qs + prefixes 3 qs

-- how many tables are free
abbrev pub free_count : List Table → ℕ
free_count [] = 0
free_count (t ∷ ts) = cond (is_free t) (suc (free_count ts)) (free_count ts)

-- page q has no table of level l yet, 1, or has one, 0
abbrev pub lacks_at : List Table → ℕ → ℕ → ℕ
lacks_at ts l q = cond (is_some (table_for ts l (prefix l q))) 0 1

-- how many tables page q lacks
abbrev pub lacks : List Table → ℕ → ℕ
lacks ts q = lacks_at ts 1 q + lacks_at ts 2 q + lacks_at ts 3 q

-- the same for page q + n, where the n pages from q on have theirs
abbrev pub lacks_next : List Table → ℕ → ℕ → ℕ → ℕ
lacks_next ts l q n = cond (nat_lt 0 n && prefix l (q + (n - 1)) == prefix l (q + n)) 0 (lacks_at ts l (q + n))

-- how many tables the n pages from q on lack
abbrev pub lacking : List Table → ℕ → ℕ → ℕ
lacking ts q zero = 0
lacking ts q (suc n) = lacking ts q n + (lacks_next ts 1 q n + lacks_next ts 2 q n + lacks_next ts 3 q n)
