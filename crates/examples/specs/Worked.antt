-- Worked examples of the rules.
use Rattle.std.specs.Prelude.{◌≡◌, ◌/◌, [], ◌∷◌, Some}
use Rattle.units.specs.declared.direction.Direction.TheVariants.{Both, FromCard}
use Rattle.units.specs.declared.fault.FaultKind.TheVariants.{WrongLength}
use Rattle.units.specs.Buffers.{span}
use Rattle.units.specs.Directions.{rights_of}
use Rattle.chooser.specs.Facts.{span as run}
use Rattle.chooser.specs.Finding.{choice}
use Rattle.meaning.specs.Checks.{fault, is_buffer}
use Rattle.entry.specs.Words.{word_of}
use Rattle.walk.specs.Indices.{indices_of}

-- Device address 0xfffff100 has indices 0, 3, 511 and 511; frame 7 both ways is word 0x7003, and frame 0 from the card is word 0x2;
-- 2 bytes from address 4,095 span 2 frames, and 32,768 bytes from 0 span 8, and from 1 they are refused with 3;
-- one number of gaps 1 to 2 and 5 to 6 is 6, and of gaps 1 to 3 and 7 to 8 it is 8.
abbrev pub Worked : Type 0
Worked =
    (indices_of (0xfffff100 / 4096) ≡ 0 ∷ 3 ∷ 511 ∷ 511 ∷ [])
    × (word_of (rights_of Both) 7 ≡ 0x7003)
    × (word_of (rights_of FromCard) 0 ≡ 0x2)
    × (span 4095 2 ≡ 2)
    × (span 0 32768 ≡ 8)
    × (is_buffer 1 32768 ≡ fault WrongLength 32768)
    × (choice (λ k. k) 1 6 (run 3 2 ∷ []) 1 ≡ Some 6)
    × (choice (λ k. k) 1 8 (run 4 3 ∷ []) 1 ≡ Some 8)
