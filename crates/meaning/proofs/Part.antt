-- The bytes of a slice into which a run of bytes was written.
use Rattle.std.proofs.Common.{◌≡◌, ℕ, ◌+◌, ◌-◌, ◌<◌, ◌≤◌, cond, ◌⊎◌, List, ◌++◌, length, get_or, take, drop, refl, sym, ap, ◌∙◌, inl, inr, arith, length-take-le, length-append, zero, suc, take_all, zero-add, length-drop, nat_lt}
use mathlib.Core.Path.{fun_ext}
use Rattle.std.proofs.Math.Seq.{paste}
use Rattle.std.proofs.Math.ListN.{replicate}
use borrow.Rule.Slice.PartMut.{put_mid}
use Rattle.std.proofs.lemmas.Slice.{put_mid-paste}
use Rattle.std.proofs.lemmas.Bool.Decides.{nat_tests}
use Rattle.std.proofs.lemmas.List.{get_or-append_right, get_or_append_left, get_or-take, get_or-drop, length-replicate}
use Rattle.meaning.specs.Memory.{Bytes, bytes_of, within, clear, copy, paste as written, read_into}

-- n bytes of s stand at a, and the others are those of m
pub paste_byte : (m s : List ℕ) (a n q : ℕ) → a + n ≤ length m → n ≤ length s → get_or (paste m a s n) q 0 ≡ cond (within a n q) (get_or s (q - a) 0) (get_or m q 0)
paste_byte m s a n q h k = elim (place q) [
  | inl below ↦ (let e = get_or_append_left (take a m ++ take n s) (drop (a + n) m) 0 q (omega (arith, front)) in
      let f = get_or_append_left (take a m) (take n s) 0 q (omega (arith, low)) in
      let g = get_or-take a m q 0 below in grind (arith, nat_tests))
  | inr (inl inside) ↦ (let e = get_or_append_left (take a m ++ take n s) (drop (a + n) m) 0 q (omega (arith, front)) in
      let f = get_or-append_right (take a m) (take n s) a q 0 low inside.0 in
      let g = get_or-take n s (q - a) 0 (omega arith) in grind (arith, nat_tests))
  | inr (inr above) ↦ (let e = get_or-append_right (take a m ++ take n s) (drop (a + n) m) (a + n) q 0 front above in
      let f = get_or-drop (a + n) m (q - (a + n)) 0 in
      let g : get_or m (a + n + (q - (a + n))) 0 ≡ get_or m q 0 = ap (λ (i : ℕ). get_or m i 0) (omega arith) in grind (arith, nat_tests))
]
  where
    low : length (take a m) ≡ a
    low = length-take-le a m (omega arith)

    front : length (take a m ++ take n s) ≡ a + n
    front = omega (arith, length-append (take a m) (take n s), low, length-take-le n s k)

    place : (q : ℕ) → (q < a) ⊎ ((a ≤ q) × (q < a + n)) ⊎ (a + n ≤ q)
    place q = grind arith

pub paste_bytes : (m s : List ℕ) (a n : ℕ) → a + n ≤ length m → n ≤ length s → bytes_of (paste m a s n) ≡ (λ q. cond (within a n q) (get_or s (q - a) 0) (get_or m q 0))
unfolding bytes_of
paste_bytes m s a n h k = fun_ext (λ q. paste_byte m s a n q h k)

-- k bytes of m at a become those of s
pub put_bytes : (m s ys : List ℕ) (a k n : ℕ) → ys ≡ s → n ≡ k → n ≡ length s → a + n ≤ length m
    → bytes_of (put_mid a k m ys) ≡ (λ q. cond (within a n q) (get_or s (q - a) 0) (get_or m q 0))
put_bytes m s ys a k n e f g h = ap bytes_of (put_mid-paste a k m ys s n e f g) ∙ paste_bytes m s a n h (omega arith)

-- k bytes of m at a are those of s now
pub written_at : (m s ys : List ℕ) (a k : ℕ) → ys ≡ s → k ≡ length s → a + length s ≤ length m → bytes_of (put_mid a k m ys) ≡ written a s (bytes_of m)
unfolding bytes_of written
written_at m s ys a k e l h = put_bytes m s ys a k (length s) e (sym l) refl h

-- n bytes of m from a on
pub part_length : (m : List ℕ) (a n k : ℕ) → k ≡ n → a + n ≤ length m → length (take k (drop a m)) ≡ n
part_length m a n k e h = length-take-le k (drop a m) (omega (arith, length-drop a m)) ∙ e

-- the first n bytes of t become those of m from a on
pub front_bytes : (t m s : List ℕ) (a n k : ℕ) → s ≡ take k (drop a m) → k ≡ n → a + n ≤ length m → n ≤ length t → bytes_of (s ++ drop n t) ≡ read_into t n a (bytes_of m)
unfolding bytes_of read_into
front_bytes t m s a n k e f h g =
    let len : length s ≡ n = ap length e ∙ part_length m a n k f h in
    let z = zero-add n in
    let all = take_all n s (omega arith) in
    let same : s ++ drop n t ≡ paste t 0 s n = cc in
    ap bytes_of same ∙ fun_ext (λ q. paste_byte t s 0 n q (omega arith) (omega arith) ∙ inside q (place q))
  where
    place : (q : ℕ) → (q < n) ⊎ (n ≤ q)
    place q = grind arith

    inside : (q : ℕ) → (q < n) ⊎ (n ≤ q) → cond (within 0 n q) (get_or s (q - 0) 0) (get_or t q 0) ≡ cond (nat_lt q n) (get_or m (a + q) 0) (get_or t q 0)
    inside q (inl i) =
        let y : get_or s q 0 ≡ get_or m (a + q) 0 = ap (λ (l : List ℕ). get_or l q 0) e ∙ get_or-take k (drop a m) q 0 (omega arith) ∙ get_or-drop a m q 0 in grind (arith, nat_tests)
    inside q (inr i) = grind (arith, nat_tests)

-- n bytes of the part of m below `to`, from `from` on, are written at the front of the part from `to` on
pub copied_up : (m below above new : List ℕ) (to from n k : ℕ) → m ≡ below ++ above → length below ≡ to → from + n ≤ to → k ≡ n
    → bytes_of new ≡ written 0 (take k (drop from below)) (bytes_of above) → bytes_of (below ++ new) ≡ copy to from n (bytes_of m)
unfolding bytes_of copy written
copied_up m below above new to from n k e l h w b = fun_ext (λ q. go q (place q))
  where
    t : List ℕ
    t = take k (drop from below)

    long : length t ≡ n
    long = part_length below from n k w (omega arith)

    place : (q : ℕ) → (q < to) ⊎ ((to ≤ q) × (q < to + n)) ⊎ (to + n ≤ q)
    place q = grind arith

    go : (q : ℕ) → (q < to) ⊎ ((to ≤ q) × (q < to + n)) ⊎ (to + n ≤ q) → get_or (below ++ new) q 0 ≡ cond (within to n q) (get_or m (from + (q - to)) 0) (get_or m q 0)
    go q (inl i) =
        let x = get_or_append_left below new 0 q (omega arith) in
        let y : get_or m q 0 ≡ get_or below q 0 = ap (λ (z : List ℕ). get_or z q 0) e ∙ get_or_append_left below above 0 q (omega arith) in grind (arith, nat_tests, long)
    go q (inr (inl i)) =
        let x = get_or-append_right below new to q 0 l i.0 in
        let y = ap (λ (z : Bytes). z (q - to)) b in
        let u : get_or t (q - to) 0 ≡ get_or below (from + (q - to)) 0 = get_or-take k (drop from below) (q - to) 0 (omega arith) ∙ get_or-drop from below (q - to) 0 in
        let v : get_or m (from + (q - to)) 0 ≡ get_or below (from + (q - to)) 0 = ap (λ (z : List ℕ). get_or z (from + (q - to)) 0) e ∙ get_or_append_left below above 0 (from + (q - to)) (omega arith) in grind (arith, nat_tests, long)
    go q (inr (inr i)) =
        let x = get_or-append_right below new to q 0 l (omega arith) in
        let y = ap (λ (z : Bytes). z (q - to)) b in
        let v : get_or m q 0 ≡ get_or above (q - to) 0 = ap (λ (z : List ℕ). get_or z q 0) e ∙ get_or-append_right below above to q 0 l (omega arith) in grind (arith, nat_tests, long)

-- the first n bytes of the part of m from `from` on are written at `to` in the part below it
pub copied_down : (m below above new : List ℕ) (to from n : ℕ) → m ≡ below ++ above → length below ≡ from → length new ≡ from → to + n ≤ from → n ≤ length above
    → bytes_of new ≡ written to (take n above) (bytes_of below) → bytes_of (new ++ above) ≡ copy to from n (bytes_of m)
unfolding bytes_of copy written
copied_down m below above new to from n e l k h g b = fun_ext (λ q. go q (place q))
  where
    t : List ℕ
    t = take n above

    long : length t ≡ n
    long = length-take-le n above g

    place : (q : ℕ) → ((to ≤ q) × (q < to + n)) ⊎ ((q < from) × ((q < to) ⊎ (to + n ≤ q))) ⊎ (from ≤ q)
    place q = grind arith

    go : (q : ℕ) → ((to ≤ q) × (q < to + n)) ⊎ ((q < from) × ((q < to) ⊎ (to + n ≤ q))) ⊎ (from ≤ q) → get_or (new ++ above) q 0 ≡ cond (within to n q) (get_or m (from + (q - to)) 0) (get_or m q 0)
    go q (inl i) =
        let x = get_or_append_left new above 0 q (omega arith) in
        let y = ap (λ (z : Bytes). z q) b in
        let u : get_or t (q - to) 0 ≡ get_or above (q - to) 0 = get_or-take n above (q - to) 0 (omega arith) in
        let same : from + (q - to) - from ≡ q - to = omega arith in
        let v : get_or m (from + (q - to)) 0 ≡ get_or above (q - to) 0 = ap (λ (z : List ℕ). get_or z (from + (q - to)) 0) e ∙ get_or-append_right below above from (from + (q - to)) 0 l (omega arith) ∙ ap (λ (i : ℕ). get_or above i 0) same in grind (arith, nat_tests, long)
    go q (inr (inl i)) =
        let x = get_or_append_left new above 0 q (omega arith) in
        let y = ap (λ (z : Bytes). z q) b in
        let v : get_or m q 0 ≡ get_or below q 0 = ap (λ (z : List ℕ). get_or z q 0) e ∙ get_or_append_left below above 0 q (omega arith) in grind (arith, nat_tests, long)
    go q (inr (inr i)) =
        let x = get_or-append_right new above from q 0 k i in
        let v : get_or m q 0 ≡ get_or above (q - from) 0 = ap (λ (z : List ℕ). get_or z q 0) e ∙ get_or-append_right below above from q 0 l i in grind (arith, nat_tests, long)

-- n bytes of m become those from `from` on, as a list's own copy has it
pub copied_within : (m new : List ℕ) (to from n k : ℕ) → k ≡ n → to + n ≤ length m → from + n ≤ length m → new ≡ paste m to (drop from m) k → bytes_of new ≡ copy to from n (bytes_of m)
unfolding bytes_of copy
copied_within m new to from n k w h g e =
    let s = drop from m in
    let f : new ≡ paste m to s n = e ∙ ap (λ (i : ℕ). paste m to s i) w in
    ap bytes_of f ∙ paste_bytes m s to n h (omega (arith, length-drop from m)) ∙ fun_ext (λ q. ap (λ z. cond (within to n q) z (get_or m q 0)) (get_or-drop from m (q - to) 0))

pub zeros : (n i : ℕ) → ◌≡◌ {A = ℕ} (get_or (replicate n 0) i 0) 0
zeros zero i = refl
zeros (suc n) zero = refl
zeros (suc n) (suc i) = zeros n i

-- k bytes of m at a are 0 now
pub cleared_at : (m ys : List ℕ) (a n k : ℕ) → ys ≡ replicate (length (take k (drop a m))) 0 → k ≡ n → a + n ≤ length m → bytes_of (put_mid a k m ys) ≡ clear a n (bytes_of m)
unfolding bytes_of clear
cleared_at m ys a n k e l h =
    put_bytes m (replicate n 0) ys a k n (e ∙ ap (λ (i : ℕ). replicate i 0) (part_length m a n k l h)) (sym l) (sym (length-replicate n 0)) h
    ∙ fun_ext (λ q. ap (λ z. cond (within a n q) z (get_or m q 0)) (zeros n (q - a)))
