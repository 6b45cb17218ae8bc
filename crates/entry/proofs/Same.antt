-- Entries with one word are one entry.
use Rattle.std.proofs.Common.{◌≡◌, ℕ, true, ap, subst}
use Rattle.std.proofs.Math.Bool.{Bool-set}
use Rattle.entry.specs.Words.{can_exist}
use Rattle.entry.specs.declared.entry.Entry.{Entry}

can_exist_prop : (w : ℕ) → IsProp (can_exist w ≡ true)
can_exist_prop w = hlevel Bool-set

abbrev make : (w : ℕ) → can_exist w ≡ true → Entry
make w h = record { word = w; ok = h }

made_same : (w v : ℕ) → w ≡ v → (a : can_exist w ≡ true) (b : can_exist v ≡ true) → make w a ≡ make v b
made_same w v p a =
    let P : ℕ → Type 0 = λ v. (b : can_exist v ≡ true) → make w a ≡ make v b in
    subst P p (λ b. ap (make w) (can_exist_prop w a b))

pub same_entry : (d e : Entry) → d.word ≡ e.word → d ≡ e
same_entry d e h = made_same d.word e.word h d.ok e.ok
