-- Lists that stand in the first places of an array.
use Rattle.std.proofs.Common.{lit≤, ◌≡◌, ℕ, ◌+◌, ◌-◌, ◌<◌, ◌≤◌, List, [], ◌∷◌, ◌++◌, length, take, drop, set, sym, ap, ◌∙◌, arith, length-take-le, length-take, length-drop, length-set, zero-add, nat_lt, min}
use Rattle.std.specs.List.{copy_within}
use Rattle.std.proofs.lemmas.Bool.{cond-true, cond-false, lt-ltb, le-ltb}
use Rattle.std.proofs.lemmas.List.{take_more_set, drop-take, take_all, take_min}
use Rattle.std.proofs.lemmas.Bool.Decides.{nat_tests}
use Rattle.std.proofs.lemmas.List.Edits.{length-paste, take-paste}
use Rattle.cache.specs.declared.cache.Translation.{Translation}
use Rattle.cache.specs.declared.queue.Descriptor.{Descriptor}
use Rattle.cache.specs.Entries.{added}
use Rattle.cache.specs.Descriptors.{has_room, posted_behind}

-- a place behind the entries is left
pub added_behind : (xs : List Translation) (n : ℕ) (x : Translation) → n < 8 → length xs ≡ 8 → take (n + 1) (set xs n x) ≡ added (take n xs) x
unfolding added
added_behind xs n x h l =
    let few = length-take-le n xs (omega arith) in
    take_more_set xs n x (omega arith) ∙ ap (λ (ys : List Translation). ys ++ x ∷ []) (sym (cond-true (nat_lt (length (take n xs)) 8) (take n xs) (drop 1 (take n xs)) (lt-ltb (length (take n xs)) 8 (omega arith))))

-- the first k of n places are taken away
pub moved_front : {A : Type 0} (xs : List A) (k n : ℕ) → k ≤ n → n ≤ length xs → take (n - k) (copy_within xs k n 0) ≡ drop k (take n xs)
moved_front xs k n h l =
    let z = zero-add (n - k) in
    let e : k + (n - k) ≡ n = omega arith in
    let t = take-paste xs 0 (drop k xs) (n - k) (omega arith) (omega (arith, length-drop k xs)) in
    let d = drop-take k (n - k) xs in
    cc

-- a count above the size of an array counts all of its places
pub first_min : {A : Type 0} (xs : List A) (n size : ℕ) → length xs ≡ size → take (min n size) xs ≡ take n xs
first_min xs n size l = ap (λ (j : ℕ). take (min n j) xs) (sym l) ∙ take_min n xs

all_places : {A : Type 0} (xs : List A) (n size : ℕ) → size ≤ n → length xs ≡ size → take n xs ≡ take size xs
all_places xs n size h l = take_all n xs (omega arith) ∙ sym (take_all size xs (omega arith))

-- no place is left: each entry moves one place to the front, and the last place is written
pub added_moving : (xs ys : List Translation) (n : ℕ) (x : Translation) → 8 ≤ n → length xs ≡ 8 → ys ≡ copy_within xs 1 (length xs) 0 → take n (set ys 7 x) ≡ added (take n xs) x
unfolding added
added_moving xs ys n x h l c =
    let moved : ys ≡ copy_within xs 1 8 0 = c ∙ ap (λ (j : ℕ). copy_within xs 1 j 0) l in
    let long : length ys ≡ length xs = ap length moved ∙ length-paste xs 0 (drop 1 xs) 7 (omega arith) (omega (arith, length-drop 1 xs)) in
    let eight = length-take-le 8 xs (omega arith) in
    all_places (set ys 7 x) n 8 h (omega (arith, length-set {A = Translation})) ∙ take_more_set ys 7 x (omega arith)
    ∙ ap (λ (zs : List Translation). zs ++ x ∷ [])
    (ap (take 7) moved ∙ moved_front xs 1 8 (lit≤ tt) (omega arith)
    ∙ sym (cond-false (nat_lt (length (take 8 xs)) 8) (take 8 xs) (drop 1 (take 8 xs)) (le-ltb (length (take 8 xs)) 8 (omega arith))))
    ∙ ap (λ (zs : List Translation). added zs x) (sym (all_places xs n 8 h l))

-- a descriptor in a place behind those that are posted
pub posted_at : (ds : List Descriptor) (n : ℕ) (d : Descriptor) → n < 16 → length ds ≡ 16 → take (n + 1) (set ds n d) ≡ posted_behind (take n ds) d
unfolding posted_behind
posted_at ds n d h l =
    let few = length-take-le n ds (omega arith) in
    take_more_set ds n d (omega arith) ∙ sym (cond-true (has_room (take n ds)) (take n ds ++ d ∷ []) (take n ds) (lt-ltb (length (take n ds)) 16 (omega arith)))

pub posted_full : (ds : List Descriptor) (n : ℕ) (d : Descriptor) → 16 ≤ n → length ds ≡ 16 → take n ds ≡ posted_behind (take n ds) d
unfolding posted_behind
posted_full ds n d h l =
    let all = ap length (take_all n ds (omega arith)) in
    sym (cond-false (has_room (take n ds)) (take n ds ++ d ∷ []) (take n ds) (le-ltb (length (take n ds)) 16 (omega arith)))

-- whether there is room, by the count
pub room_by_count : (ds : List Descriptor) (n : ℕ) → length ds ≡ 16 → has_room (take n ds) ≡ nat_lt n 16
room_by_count ds n l = let e = length-take n ds in grind (arith, nat_tests)
