-- The words that tables hold, by where they stand and which pages are open: every word but for the choice of free tables.
use Rattle.std.specs.Prelude.{◌≡◌, ℕ, ◌+◌, ◌-◌, ◌*◌, ◌<◌, ◌≤◌, Bool, false, cond, not, ◌||◌, List, [], ◌∷◌, length, is_some, Some, None, Option, ◌==◌}
use Rattle.entry.specs.Words.{both, word_of}
use Rattle.meaning.specs.Memory.{within}
use Rattle.walk.specs.Indices.{prefix}
use Rattle.walk.specs.Walks.{cell}
use Rattle.tree.specs.declared.place.Table.{Table}
use Rattle.tree.specs.declared.place.Table.TheVariants.{Missing, Free, Used}
use Rattle.tree.specs.Places.{table_at, table_for, Directory}

-- the word that leads to a table: both rights and its number
abbrev pub link : Option ℕ → ℕ
link None = 0
link (Some u) = word_of both u

-- word i of a table: of level 1 the word of its page, above that the link to the table that stands below
abbrev pub word_at : List Table → (ℕ → ℕ) → Table → ℕ → ℕ
word_at ts leaf Missing i = 0
word_at ts leaf Free i = 0
word_at ts leaf (Used p) i = cond (p.level == 1) (leaf (p.prefix * 512 + i)) (link (table_for ts (p.level - 1) (p.prefix * 512 + i)))

-- T tables of 512 words, in words that are as many at least; leaf gives each page's word, 0 where it is not open
pub record Laid (T : ℕ) (ts : List Table) (leaf : ℕ → ℕ) (ws : List ℕ) : Type 0 where
  pub size : T * 512 ≤ length ws
  pub words : (t i : ℕ) → t < T → i < 512 → cell ws t i ≡ word_at ts leaf (table_at ts t) i

abbrev pub contains : ℕ → List ℕ → Bool
contains x [] = false
contains x (y ∷ ys) = y == x || contains x ys

-- an open page has prefix k at level l
abbrev pub shared : List ℕ → ℕ → ℕ → Bool
shared [] l k = false
shared (q ∷ qs) l k = prefix l q == k || shared qs l k

-- page q has the word w, all others as before
unfoldable pub put : (ℕ → ℕ) → ℕ → ℕ → ℕ → ℕ
put leaf q w x = cond (x == q) w (leaf x)

-- the n pages from q on have the words w 0, w 1 and so on, all others as before
unfoldable pub put_span : (ℕ → ℕ) → ℕ → ℕ → (ℕ → ℕ) → ℕ → ℕ
put_span leaf q n w x = cond (within q n x) (w (x - q)) (leaf x)

-- the pages but q
unfoldable pub without : ℕ → List ℕ → List ℕ
without q [] = []
without q (x ∷ xs) = cond (x == q) (without q xs) (x ∷ without q xs)

-- The pages qs are open, each with its word; below the roots there is a table for each prefix of theirs, and no other.
pub record Fits (C T : ℕ) (ts : List Table) (leaf : ℕ → ℕ) (qs : List ℕ) (ws : List ℕ) : Type 0 where
  pub directory : Directory C T ts
  pub laid : Laid T ts leaf ws
  pub listed : (q : ℕ) → contains q qs ≡ not (leaf q == 0)
  pub served : (l k : ℕ) → 1 ≤ l → l ≤ 3 → is_some (table_for ts l k) ≡ shared qs l k

-- the level of the first word that is absent on the way to page q, or 1
abbrev pub level_in : List ℕ → ℕ → ℕ
level_in qs q = cond (shared qs 3 (prefix 3 q)) (cond (shared qs 2 (prefix 2 q)) (cond (shared qs 1 (prefix 1 q)) 1 2) 3) 4

-- the pages but the n from q on
unfoldable pub without_span : ℕ → ℕ → List ℕ → List ℕ
without_span q n [] = []
without_span q n (x ∷ xs) = cond (within q n x) (without_span q n xs) (x ∷ without_span q n xs)
