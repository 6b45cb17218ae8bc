-- The numbers of a set-up that are accepted.
use Rattle.std.specs.Prelude.{ℕ, ◌^◌, Bool, not, ◌&&◌, ◌||◌, nat_le, nat_lt, slice_index_or}
use Rattle.units.specs.declared.number.Geometry.{Geometry}

-- a page that may be a card's last: from 1 to 2^36 - 1
abbrev pub may_be_last : ℕ → Bool
may_be_last p = nat_le 1 p && nat_lt p (2 ^ 36)

-- a last page, where there is such a card
abbrev pub is_last : Bool → ℕ → Bool
is_last card p = not card || may_be_last p

-- the last device page of card c
abbrev pub last_page : Geometry → ℕ → ℕ
last_page g c = (slice_index_or g.lasts c (record { 0 = 0 })).0

-- 1 to 4 cards, 1 to 1,024 frames, and a last page for each card
abbrev pub in_range : Geometry → Bool
in_range g = nat_le 1 g.cards && (nat_le g.cards 4 && (nat_le 1 g.frames && (nat_le g.frames 1024
    && (is_last (nat_lt 0 g.cards) (last_page g 0) && (is_last (nat_lt 1 g.cards) (last_page g 1)
    && (is_last (nat_lt 2 g.cards) (last_page g 2) && is_last (nat_lt 3 g.cards) (last_page g 3)))))))
