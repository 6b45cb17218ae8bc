-- Lists of descriptors, and what a run to the wait leaves of them and of the entries.
use Rattle.std.specs.Prelude.{◌≡◌, ℕ, zero, suc, Bool, true, false, cond, List, [], ◌∷◌, ◌++◌, length, None, nat_lt}
use Rattle.units.specs.declared.number.Card.{Card}
use Rattle.cache.specs.declared.cache.Translation.{Translation}
use Rattle.cache.specs.declared.queue.Descriptor.{Descriptor}
use Rattle.cache.specs.declared.queue.Descriptor.TheVariants.{Page, Wait}
use Rattle.cache.specs.Entries.{cached, without, in_span}

-- there is room for one descriptor more
abbrev pub has_room : List Descriptor → Bool
has_room ds = nat_lt (length ds) 16

-- one descriptor more, behind the others, where there is room for it
unfoldable pub posted_behind : List Descriptor → Descriptor → List Descriptor
posted_behind ds d = cond (has_room ds) (ds ++ d ∷ []) ds

-- the descriptors of n pages of a card from page p, rising
unfoldable pub posts : Card → ℕ → ℕ → List Descriptor
posts card p zero = []
posts card p (suc n) = Page card (record { 0 = p }) ∷ posts card (suc p) n

-- the descriptors behind the first wait
unfoldable pub after_wait : List Descriptor → List Descriptor
after_wait [] = []
after_wait (Wait ∷ ds) = ds
after_wait (Page card page ∷ ds) = after_wait ds

-- the entries that a run to the first wait leaves: each descriptor before it removes those of its page
unfoldable pub after_run : List Descriptor → List Translation → List Translation
after_run [] xs = xs
after_run (Wait ∷ ds) xs = xs
after_run (Page card page ∷ ds) xs = after_run ds (without card.0 page.0 xs)

-- a run to the wait behind a span's descriptors leaves no entry of the span, and every other page as it was
pub record Invalidated (card : Card) (p n : ℕ) (xs ys : List Translation) : Type 0 where
  pub gone : (d q : ℕ) → in_span card.0 p n d q ≡ true → cached ys d q ≡ None
  pub others : (d q : ℕ) → in_span card.0 p n d q ≡ false → cached ys d q ≡ cached xs d q

abbrev pub Invalidates : Type 0
Invalidates = (card : Card) (p n : ℕ) (ds : List Descriptor) (xs : List Translation) → Invalidated card p n xs (after_run (posts card p n ++ Wait ∷ ds) xs)
