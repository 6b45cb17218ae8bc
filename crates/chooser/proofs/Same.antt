-- The answer depends only on which numbers are free.
use Rattle.std.proofs.Common.{◌≡◌, ℕ, ◌<◌, List, Some, None, Option, refl}
use Rattle.chooser.specs.declared.gap.Range.{Range}
use Rattle.chooser.specs.declared.gap.Gap.{Gap}
use Rattle.chooser.specs.Gaps.{Untouched, Free, IsGap, Chosen}
use Rattle.chooser.specs.Finding.{choice}
use Rattle.chooser.specs.Facts.{AnyOrder}
use Rattle.chooser.proofs.Answer.{choice_some, choice_none, choice_from, choice_is}

module _ {N : Type 0} (v : N → ℕ) (lo hi : ℕ) where
  abbrev Within : List (Range N) → List (Range N) → Type 0
  Within us ws = (x : ℕ) → Untouched v us x → Untouched v ws x

  free_same : (us ws : List (Range N)) → Within us ws → (x : ℕ) → Free v lo hi us x → Free v lo hi ws x
  free_same us ws s x f = record { above = f.above; below = f.below; clear = s x f.clear }

  gap_same : (us ws : List (Range N)) → Within us ws → Within ws us → (g : Gap) → IsGap v lo hi us g → IsGap v lo hi ws g
  gap_same us ws s t g G =
      record {
        some = G.some;
        free = λ x h k. free_same us ws s x (G.free x h k);
        low = λ x e f. G.low x e (free_same ws us t x f);
        high = λ f. G.high (free_same ws us t _ f);
      }

  chosen_same : (us ws : List (Range N)) → Within us ws → Within ws us → (n x : ℕ) → Chosen v lo hi us n x → Chosen v lo hi ws n x
  chosen_same us ws s t n x c = (
    c.0,
    record {
      gap = gap_same us ws s t c.0 c.1.gap;
      fits = c.1.fits;
      best = λ h H f. c.1.best h (gap_same ws us t s h H) f;
    },
    c.2,
  )

  same : (n : ℕ) → 0 < n → (us ws : List (Range N)) → Within us ws → Within ws us → (o : Option ℕ) → choice v lo hi us n ≡ o → choice v lo hi ws n ≡ o
  same n pos us ws s t None e =
      choice_from v lo hi ws n pos (λ g G f. choice_none v lo hi us n pos e g (gap_same ws us t s g G) f)
  same n pos us ws s t (Some x) e =
      choice_is v lo hi ws n x pos (chosen_same us ws s t n x (choice_some v lo hi us n x pos e))

pub any_order : {N : Type 0} (v : N → ℕ) → AnyOrder v
any_order v lo hi n us ws pos s t = same v lo hi n pos ws us t s _ refl
