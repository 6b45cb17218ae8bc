-- The reports of two runs: those of all cards but A are equal.
use Rattle.std.proofs.Common.{◌≡◌, ℕ, ◌+◌, ◌-◌, ◌^◌, min, cond, ◌&&◌, Some, eqb, refl, sym, ap, ◌∙◌}
use Rattle.std.proofs.lemmas.Bool.{cond-false, and_left, ne_eqb}
use Rattle.units.specs.declared.report.Report.{Report}
use Rattle.units.specs.Faults.{is_block_kind}
use Rattle.meaning.specs.Calls.{Call, map, unmap, sync, cpu_read, cpu_write, card_read, card_write, report}
use Rattle.meaning.specs.Checks.{Verdict, fine, errs}
use Rattle.meaning.specs.Effects.{noted, noting}

unfoldable pub Told : ℕ → (ℕ → Report) → (ℕ → Report) → Type 0
Told A r s = (k : ℕ) → (k ≡ A → ⊥) → r k ≡ s k

noted_other : (c v : ℕ) (w : Verdict) (r : ℕ → Report) (k : ℕ) → (k ≡ c → ⊥) → noted c v w r k ≡ r k
noted_other c v fine r k n = refl
noted_other c v (errs f) r k n = cond-false (eqb k c && is_block_kind f.kind) _ (r k) (and_left (eqb k c) (is_block_kind f.kind) (ne_eqb k c n))

noted_same : (c v : ℕ) (w : Verdict) (r s : ℕ → Report) (k : ℕ) → r k ≡ s k → noted c v w r k ≡ noted c v w s k
noted_same c v fine r s k e = e
noted_same c v (errs f) r s k e = ap (λ (z : Report). cond (eqb k c && is_block_kind f.kind)
    (record { count = min (z.count + 1) (2 ^ 32 - 1); latest = Some (record { device = record { 0 = v }; kind = f.kind; level = f.place }) }) z) e

-- the same call in both
pub told_both : (A : ℕ) (w : Verdict) (r s : ℕ → Report) (c : Call) → Told A r s → Told A (noting w r c) (noting w s c)
unfolding Told
told_both A w r s (map q) t = t
told_both A w r s (unmap c d v n) t = t
told_both A w r s (sync k c v) t = t
told_both A w r s (cpu_read a n b) t = t
told_both A w r s (cpu_write a b) t = t
told_both A w r s (card_read c v n b) t = λ k o. noted_same c v w r s k (t k o)
told_both A w r s (card_write c v b) t = λ k o. noted_same c v w r s k (t k o)
told_both A w r s (report c) t = t

-- an access of A's in one of them
pub told_one : (A c v : ℕ) (w : Verdict) (r s : ℕ → Report) → c ≡ A → Told A r s → Told A (noted c v w r) s
unfolding Told
told_one A c v w r s e t k n = noted_other c v w r k (λ h. n (h ∙ e)) ∙ t k n

pub told_swapped : (A : ℕ) (r s : ℕ → Report) → Told A r s → Told A s r
unfolding Told
told_swapped A r s t k n = sym (t k n)

pub told_at : (A : ℕ) (r s : ℕ → Report) → Told A r s → (k : ℕ) → (k ≡ A → ⊥) → r k ≡ s k
unfolding Told
told_at A r s t = t

pub told_same : (A : ℕ) (r : ℕ → Report) → Told A r r
unfolding Told
told_same A r k n = refl
