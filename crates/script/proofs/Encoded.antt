-- What is written is read back: numbers, values, records, scripts.
use Rattle.std.proofs.Common.{◌≡◌, ℕ, zero, suc, ◌+◌, ◌-◌, ◌/◌, ◌^◌, ◌<◌, ◌≤◌, List, [], ◌∷◌, ◌++◌, length, take, drop, None, Ok, refl, ◌∙◌, append_assoc, append-nil, pow-suc, arith, length-append}
use Rattle.std.proofs.lemmas.Bool.Decides.{nat_tests}
use Rattle.std.proofs.Math.Seq.{drop-append-add}
use Rattle.std.proofs.lemmas.Nat.{div_below}
use Rattle.std.proofs.lemmas.List.{take_at, take_all, get_or_at}
use Rattle.std.specs.List.{AllByRecursion}
use Rattle.script.specs.Encoding.{tag_of, fields_of, record_of, encode}
use Rattle.script.specs.Format.{found, end_at, item_at}
use Rattle.script.specs.Items.{Item, map, unmap, sync_for_cpu, sync_for_card, cpu_write, cpu_read, card_write, card_read}
use Rattle.script.specs.Laws.{RoundTrip}
use Rattle.script.specs.Numbers.{little, bytes_of}
use Rattle.script.specs.Scripts.{read_for}
use Rattle.script.specs.Values.{item_of, trailed}
use Rattle.script.specs.Widths.{Data, Fitting}
use Rattle.script.proofs.Places.{none_left, whole}

-- a number of k bytes
number_back : (k n : ℕ) (left : List ℕ) → n < 256 ^ k → little k (bytes_of k n ++ left) ≡ n
number_back zero n left h = omega arith
number_back (suc k) n left h =
    let high : n / 256 < 256 ^ k = div_below n 256 (256 ^ k) (omega arith) (rw pow-suc at h) in
    rw (number_back k (n / 256) left high) (omega arith)

-- data after n bytes of other fields
trailed_back : (n : ℕ) (front bytes : List ℕ) (item : Item) → length front ≡ n → Data bytes → trailed n (front ++ bytes) item ≡ Ok item
trailed_back n front bytes item is fits = grind (arith, nat_tests, length-append {A = ℕ})

-- the value of each kind of record, and its length
value_back : (item : Item) → Fitting item → item_of (tag_of item) (fields_of item) ≡ Ok item
value_back (map r) h = rw (number_back 4 r.buffer.address (bytes_of 4 r.buffer.length) h.2, number_back 4 r.buffer.length [] h.3)
value_back (unmap card direction device n) h = rw (number_back 8 device.0 (bytes_of 4 n) h.0.1, number_back 4 n [] h.2)
value_back (sync_for_cpu card device) h = rw (number_back 8 device.0 [] h.1)
value_back (sync_for_card card device) h = rw (number_back 8 device.0 [] h.1)
value_back (cpu_write address bytes) h = trailed_back 4 (bytes_of 4 address) bytes _ refl h.1 ∙ rw (number_back 4 address bytes h.0)
value_back (cpu_read address count) h = rw (number_back 4 address (count ∷ []) h.0)
value_back (card_write card device bytes) h = trailed_back 9 (card.0 ∷ bytes_of 8 device.0) bytes _ refl h.1 ∙ rw (number_back 8 device.0 bytes h.0.1)
value_back (card_read card device count) h = rw (number_back 8 device.0 (count ∷ []) h.0.1)

value_short : (item : Item) → Fitting item → length (fields_of item) < 256 ^ 2
value_short (map r) h = omega arith
value_short (unmap card direction device n) h = omega arith
value_short (sync_for_cpu card device) h = omega arith
value_short (sync_for_card card device) h = omega arith
value_short (cpu_write address bytes) h = omega (arith, h.1.1)
value_short (cpu_read address count) h = omega arith
value_short (card_write card device bytes) h = omega (arith, h.1.1)
value_short (card_read card device count) h = omega arith

-- a record of any tag and value
framed : (front : List ℕ) (tag : ℕ) (v left : List ℕ) (item : Item) → length v < 256 ^ 2 → item_of tag v ≡ Ok item → item_at (front ++ (tag ∷ (bytes_of 2 (length v) ++ v) ++ left)) (length front) ≡ found item (length front + 3 + length v)
framed front tag v left item short is =
    let body = tag ∷ (bytes_of 2 (length v) ++ v) ++ left in
    let s = front ++ body in
    let at = length front in
    let next : end_at s at ≡ at + 3 + length v = rw (drop-append-add front body 1, number_back 2 (length v) (v ++ left) short) in
    let value : take (at + 3 + length v - (at + 3)) (drop (at + 3) s) ≡ v = rw (drop-append-add front body 3) (take_at v left _ (omega arith)) in
    let within : end_at s at ≤ length s = omega (arith, next, length-append front body, length-append v left) in
    rw (whole s at within, next, get_or_at front tag (bytes_of 2 (length v) ++ v ++ left) 0 at refl, value, is)

-- a record in a script, and a whole script
item_back : (front : List ℕ) (item : Item) (left : List ℕ) → Fitting item → item_at (front ++ (record_of item ++ left)) (length front) ≡ found item (length (front ++ record_of item))
item_back front item left h =
    let next : length front + 3 + length (fields_of item) ≡ length (front ++ record_of item) = rw length-append (omega arith) in
    rw (← next) (framed front (tag_of item) (fields_of item) left item (value_short item h) (value_back item h))

script_back : (turns : ℕ) (front : List ℕ) (items : List Item) → AllByRecursion Fitting items → length (encode items) ≤ turns → read_for turns (front ++ encode items) (length front) ≡ record { items = items; refusal = None }
script_back zero front [] h few = refl
script_back (suc turns) front [] h few = rw (none_left (front ++ []) (length front) (rw append-nil (omega arith)))
script_back zero front (item ∷ items) h few = absurd (omega (arith, length-append (record_of item) (encode items)))
script_back (suc turns) front (item ∷ items) h few =
    let fewer : length (encode items) ≤ turns = omega (arith, length-append (record_of item) (encode items)) in
    let rest = script_back turns (front ++ record_of item) items h.1 fewer in
    rw (item_back front item (encode items) h.0, ← append_assoc front (record_of item) (encode items), rest)

pub round_trip : RoundTrip
round_trip items h short = rw (take_all 16384 (encode items) short) (script_back _ [] items h (omega arith))
