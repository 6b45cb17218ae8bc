-- Each turn of reading goes on by three bytes at least, so as many turns as bytes are enough.
use Rattle.std.proofs.Common.{◌≡◌, ℕ, zero, suc, ◌+◌, ◌-◌, ◌*◌, ◌≤◌, List, length, refl, ◌∙◌, arith}
use Rattle.script.specs.Format.{Parsed, end, refused, found, item_at}
use Rattle.script.specs.Laws.{GoesOn}
use Rattle.script.specs.Scripts.{Script, go_on, read_for, read_from}
use Rattle.script.proofs.Places.{none_left, Onward, item_onward}

-- reading that agrees from each later place on agrees
go_on_same : (f g : ℕ → Script) (at n : ℕ) (p : Parsed) → Onward at n p → ((next : ℕ) → at + 3 ≤ next → f next ≡ g next) → go_on f p ≡ go_on g p
go_on_same f g at n end h same = refl
go_on_same f g at n (refused fault) h same = refl
go_on_same f g at n (found item next) h same = rw (same next h.0)

-- turns beyond the bytes that are left change nothing
turns_same : (m n : ℕ) (s : List ℕ) (at : ℕ) → length s - at ≤ m → length s - at ≤ n → read_for m s at ≡ read_for n s at
turns_same zero zero s at hm hn = refl
turns_same zero (suc n) s at hm hn = rw (none_left s at (omega arith))
turns_same (suc m) zero s at hm hn = rw (none_left s at (omega arith))
turns_same (suc m) (suc n) s at hm hn =
    go_on_same (read_for m s) (read_for n s) at _ (item_at s at) (item_onward s at) (λ next past. turns_same m n s next (omega arith) (omega arith))

pub goes_on : GoesOn
goes_on s at =
    turns_same (length s - at) (suc (length s - at)) s at (omega arith) (omega arith)
    ∙ go_on_same (read_for (length s - at) s) (read_from s) at _ (item_at s at) (item_onward s at) (λ next past. turns_same _ _ s next (omega arith) (omega arith))

-- each item takes three bytes of those that are left
go_on_short : (f : ℕ → Script) (at n : ℕ) (p : Parsed) → Onward at n p → ((next : ℕ) → 3 * length (f next).items ≤ n - next) → 3 * length (go_on f p).items ≤ n - at
go_on_short f at n end h short = omega arith
go_on_short f at n (refused fault) h short = omega arith
go_on_short f at n (found item next) h short = omega (arith, h.0, h.1, short next)

pub items_short : (turns : ℕ) (s : List ℕ) (at : ℕ) → 3 * length (read_for turns s at).items ≤ length s - at
items_short zero s at = omega arith
items_short (suc turns) s at =
    go_on_short (read_for turns s) at (length s) (item_at s at) (item_onward s at) (items_short turns s)
