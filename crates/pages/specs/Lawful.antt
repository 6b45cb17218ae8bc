-- Open mappings of a mapper that reserves no frame and lands each buffer at its own address, as one test.
use Rattle.std.specs.Prelude.{◌≡◌, ℕ, suc, ◌+◌, ◌*◌, ◌%◌, ◌^◌, ◌<◌, ◌≤◌, Bool, true, false, not, ◌&&◌, List, [], ◌∷◌, ◌==◌, nat_le, nat_lt}
use Rattle.units.specs.declared.mapping.Mapping.{Mapping}
use Rattle.meaning.specs.Mappings.{first_page, page_count}
use Rattle.meaning.specs.Worlds.{Setup, last_of}

-- set-up numbers in their ranges, or none at all
abbrev pub Ranged : Setup → Type 0
Ranged S = (S.cards ≤ 4) × (S.frames ≤ 1024) × ((c : ℕ) → c < S.cards → (1 ≤ last_of S c) × (last_of S c < 2 ^ 36))

-- a mapping within the set-up's bounds, at its own address
abbrev pub fits : Setup → Mapping → Bool
fits S m = nat_lt m.card.0 S.cards && (nat_lt 0 m.buffer.length && (nat_le (page_count m) 8
    && (nat_le (m.buffer.address + m.buffer.length) (S.frames * 4096) && (m.landing == m.buffer.address
    && (m.device.0 % 4096 == m.buffer.address % 4096
    && (nat_le 1 (first_page m) && nat_le (first_page m + page_count m) (suc (last_of S m.card.0))))))))

-- both are of one card and have a page in common
abbrev pub share : Mapping → Mapping → Bool
share m n = m.card.0 == n.card.0 && (nat_lt (first_page m) (first_page n + page_count n) && nat_lt (first_page n) (first_page m + page_count m))

unfoldable pub apart_from : Mapping → List Mapping → Bool
apart_from m [] = true
apart_from m (n ∷ o) = not (share m n) && apart_from m o

-- each fits, and no two share a page
unfoldable pub lawful : Setup → List Mapping → Bool
lawful S [] = true
lawful S (m ∷ o) = fits S m && (apart_from m o && lawful S o)

-- what set-up and calls can lead to
abbrev pub Possible : Setup → List Mapping → Type 0
Possible S o = Ranged S × (lawful S o ≡ true)

abbrev pub none_reserved : Setup → ℕ → Bool
none_reserved S f = false
