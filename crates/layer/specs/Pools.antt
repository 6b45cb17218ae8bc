-- A layer's pool: its numbers in the set-up, which frames it has, and which of them open mappings take.
use Rattle.std.specs.Prelude.{ℕ, ◌+◌, ◌-◌, Bool, true, false, cond, ◌&&◌, List, [], ◌∷◌, length, drop, Option, ◌==◌, nat_le, nat_lt, slice_index}
use Rattle.units.specs.declared.mapping.Mapping.{Mapping}
use Rattle.units.specs.declared.number.Frame.{Frame}
use Rattle.units.specs.Buffers.{whole}
use Rattle.chooser.specs.declared.gap.Range.{Range}
use Rattle.chooser.specs.Finding.{choice}
use Rattle.meaning.specs.Memory.{within}
use Rattle.meaning.specs.Mappings.{first_frame, page_count}
use Rattle.meaning.specs.Worlds.{Setup}
use Rattle.meaning.specs.Checks.{Verdict, fine, errs, none_reserved}

-- Set-up --------------------------------------------------------------------------------------------------

-- a pool of no frames stands for a layer that was refused: it has no cards and no frames
abbrev pub if_pool : ℕ → ℕ → ℕ
if_pool count n = cond (nat_lt 0 count) n 0

-- the set-up of a layer with `count` pool frames from `first` on, over a mapper with set-up S
abbrev pub above : Setup → ℕ → ℕ → Setup
above S first count = record { cards = if_pool count S.cards; lasts = S.lasts; frames = if_pool count S.frames; fixed = first ∷ count ∷ S.fixed }

-- the set-up below that of a layer which was not refused
abbrev pub below_setup : Setup → Setup
below_setup S = record { cards = S.cards; lasts = S.lasts; frames = S.frames; fixed = drop 2 S.fixed }

abbrev pub pool_first : Setup → ℕ
pool_first S = slice_index S.fixed 0

abbrev pub pool_count : Setup → ℕ
pool_count S = slice_index S.fixed 1

abbrev pub has_pool : Setup → Bool
has_pool S = nat_lt 0 (pool_count S)

abbrev pub is_fine : Verdict → Bool
is_fine fine = true
is_fine (errs f) = false

-- a pool may stand over a mapper with that set-up and those open mappings: 1 to 16 frames in memory, none of them reserved below, and nothing open
abbrev pub may_stand : Setup → (ℕ → Bool) → List Mapping → ℕ → ℕ → Bool
may_stand S reserved o first count =
    nat_le 1 count && (nat_le count 16 && (nat_le (first + count) S.frames && (is_fine (none_reserved reserved first count) && length o == 0)))

-- the pool frames that are kept: those given or, where they may not stand, none
abbrev pub granted_count : Setup → (ℕ → Bool) → List Mapping → ℕ → ℕ → ℕ
granted_count S reserved o first count = cond (may_stand S reserved o first count) count 0

-- Frames --------------------------------------------------------------------------------------------------

-- frame f is one of the pool's
abbrev pub in_pool : Setup → ℕ → Bool
in_pool S f = within (pool_first S) (pool_count S) f

abbrev pub frame_number : Frame → ℕ
frame_number f = f.0

-- the buffer is whole: it goes down as it is
abbrev pub is_whole : Mapping → Bool
is_whole m = whole m.buffer.address m.buffer.length

-- the frames where a mapping lands
abbrev pub frames_of : Mapping → Range Frame
frames_of m = record { first = record { 0 = first_frame m }; count = page_count m }

-- the pool frames that open mappings take: whole buffers take none
unfoldable pub used_frames : List Mapping → List (Range Frame)
used_frames [] = []
used_frames (m ∷ o) = cond (is_whole m) (used_frames o) (frames_of m ∷ used_frames o)

-- the first of n pool frames, by the chooser
abbrev pub frame_for : Setup → List Mapping → ℕ → Option ℕ
frame_for S o n = choice frame_number (pool_first S) (pool_first S + pool_count S - 1) (used_frames o) n
