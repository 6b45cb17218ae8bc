-- The entries of the translation cache, oldest first: what is found there, and what adding and removing leave.
use Rattle.std.specs.Prelude.{ℕ, ◌+◌, Bool, not, ◌&&◌, cond, List, [], ◌∷◌, ◌++◌, length, drop, Option, ◌==◌, nat_le, nat_lt}
use Rattle.std.specs.List.{filter, find}
use Rattle.std.specs.Option.{option_map}
use Rattle.units.specs.declared.mapping.Reach.{Reach}
use Rattle.cache.specs.declared.cache.Translation.{Translation}

-- the entry is of card c and page p
abbrev pub is_of : ℕ → ℕ → Translation → Bool
is_of c p x = x.card.0 == c && x.page.0 == p

-- what card c reaches at page p, by the first entry of that card and page
unfoldable pub cached : List Translation → ℕ → ℕ → Option Reach
cached xs c p = option_map (λ (x : Translation). x.reach) (find (is_of c p) xs)

-- one entry more, the newest; where 8 are held, the oldest goes
unfoldable pub added : List Translation → Translation → List Translation
added xs x = cond (nat_lt (length xs) 8) xs (drop 1 xs) ++ x ∷ []

-- the entries but those of card c and page p, in their order
unfoldable pub without : ℕ → ℕ → List Translation → List Translation
without c p = filter (λ x. not (is_of c p x))

-- card d and page q are of the span of n pages of card c from page p
abbrev pub in_span : ℕ → ℕ → ℕ → ℕ → ℕ → Bool
in_span c p n d q = c == d && (nat_le p q && nat_lt q (p + n))

-- the entries but those of n pages of card c from page p, in their order
unfoldable pub without_span : ℕ → ℕ → ℕ → List Translation → List Translation
without_span c p n = filter (λ x. not (in_span c p n x.card.0 x.page.0))
