-- The parts of a page's number.
use Rattle.std.proofs.Common.{◌≡◌, ℕ, zero, suc, ◌+◌, ◌*◌, ◌/◌, ◌^◌, ◌<◌, ◌≤◌, sym, ap, ◌∙◌, arith}
use Rattle.std.proofs.Math.Nat.{div-div-eq-div-mul}
use Rattle.std.proofs.lemmas.Nat.{pow-add}
use Rattle.walk.specs.Indices.{prefix}

pub prefix_shift : (l q : ℕ) → prefix l q ≡ q / 2 ^ (9 * l)
prefix_shift zero q = omega arith
prefix_shift (suc l) q =
    let later = prefix_shift l q in
    let e : 9 * suc l ≡ 9 * l + 9 = omega arith in
    let p : 2 ^ (9 * suc l) ≡ 2 ^ (9 * l) * 512 = ap (λ (z : ℕ). 2 ^ z) e ∙ pow-add 2 (9 * l) 9 in
    ap (λ (z : ℕ). z / 512) later ∙ div-div-eq-div-mul q (2 ^ (9 * l)) 512 ∙ ap (λ (z : ℕ). q / z) (sym p)

-- prefixes of rising pages rise
pub prefix_rise : (l p q : ℕ) → p ≤ q → prefix l p ≤ prefix l q
prefix_rise zero p q b = b
prefix_rise (suc l) p q b = let later = prefix_rise l p q b in omega arith

-- the card of a page below C * 2^36
pub card_below : (C q : ℕ) → q < C * 2 ^ 36 → prefix 4 q < C
card_below C q b = let e = prefix_shift 4 q in omega arith
