-- What holds of every script.
use Rattle.std.specs.Prelude.{◌≡◌, ℕ, ◌*◌, ◌≤◌, List, length, take, None}
use Rattle.std.specs.List.{AllByRecursion}
use Rattle.script.specs.Items.{Item}
use Rattle.script.specs.Format.{item_at}
use Rattle.script.specs.Scripts.{go_on, read_from, read_all}
use Rattle.script.specs.Encoding.{encode}
use Rattle.script.specs.Widths.{Fitting}

-- items that fit their fields are read back as they were written, with no refusal
abbrev pub RoundTrip : Type 0
RoundTrip = (items : List Item) → AllByRecursion Fitting items → length (encode items) ≤ 16384 → read_all (encode items) ≡ record { items = items; refusal = None }

-- reading goes on from each place to the next until the end or a refusal
abbrev pub GoesOn : Type 0
GoesOn = (script : List ℕ) (at : ℕ) → read_from script at ≡ go_on (read_from script) (item_at script at)

-- each record takes three bytes at least
abbrev pub Ends : Type 0
Ends = (bytes : List ℕ) → 3 * length (read_all bytes).items ≤ length (take 16384 bytes)
