-- A word made of rights and a number has these and no others, and can exist if a right is there.
use Rattle.std.proofs.Common.{◌≡◌, ℕ, ◌+◌, ◌*◌, ◌/◌, ◌%◌, ◌^◌, ◌<◌, ◌≤◌, ◌≢◌, Bool, true, false, ◌||◌, ◌==◌, refl, ap, ◌∙◌, inl, inr, arith}
use Rattle.std.proofs.lemmas.Bool.Decides.{nat_tests}
use Rattle.std.proofs.lemmas.Bool.{cases_lt}
use Rattle.units.specs.declared.direction.Direction.{Direction}
use Rattle.units.specs.declared.direction.Direction.TheVariants.{Both, ToCard, FromCard}
use Rattle.units.specs.declared.direction.Rights.{Rights}
use Rattle.units.specs.Directions.{rights_of}
use Rattle.entry.specs.Words.{bit, word_of, rights_in, number_in, is_clear, is_present, can_exist}

-- some right is there
abbrev pub some_right : Rights → Bool
some_right r = r.read || r.write

-- the rights of a direction are never none
pub direction_right : (d : Direction) → some_right (rights_of d) ≡ true
direction_right Both = refl
direction_right ToCard = refl
direction_right FromCard = refl

bit_small : (b : Bool) → bit b ≤ 1
bit_small true = omega arith
bit_small false = omega arith

bit_back : (b : Bool) (m : ℕ) → m ≡ bit b → (m == 1) ≡ b
bit_back true m e = grind (arith, nat_tests)
bit_back false m e = grind (arith, nat_tests)

some_bit : (r : Rights) → some_right r ≡ true → 1 ≤ bit r.read + 2 * bit r.write
some_bit r h = go r.read r.write h
  where
    go : (a b : Bool) → (a || b) ≡ true → 1 ≤ bit a + 2 * bit b
    go true b e = omega arith
    go false true e = omega arith
    go false false e = absurd (cc)

bit_of : (m : ℕ) → m < 2 → bit (m == 1) ≡ m
bit_of m h = elim (cases_lt m 1) [
  | inl l ↦ (let e : m ≡ 0 = omega arith in rw e)
  | inr l ↦ (let e : m ≡ 1 = omega arith in rw e)
]

parts_same : (a b : Bool) (r : Rights) → a ≡ r.read → b ≡ r.write → (let x : Rights = record { read = a; write = b } in x ≡ r)
parts_same a b r p q =
    let f : Bool → Rights = λ x. record { read = x; write = b } in
    let g : Bool → Rights = λ y. record { read = r.read; write = y } in ap f p ∙ ap g q

-- a word with these rights and a number of 40 bits
module _ (r : Rights) (n : ℕ) (fits : n < 2 ^ 40) where
  small : bit r.read + 2 * bit r.write ≤ 3
  small = let a = bit_small r.read in let b = bit_small r.write in omega arith

  pub word-number : number_in (word_of r n) ≡ n
  word-number = let s = small in omega arith

  pub word-read : (word_of r n % 2 == 1) ≡ r.read
  word-read = let a = bit_small r.read in bit_back r.read (word_of r n % 2) (omega arith)

  pub word-write : (word_of r n / 2 % 2 == 1) ≡ r.write
  word-write = let a = bit_small r.read in let b = bit_small r.write in bit_back r.write (word_of r n / 2 % 2) (omega arith)

  pub word-rights : rights_in (word_of r n) ≡ r
  word-rights = parts_same _ _ r word-read word-write

  pub word_clear : is_clear (word_of r n) ≡ true
  word_clear = let s = small in let low : word_of r n / 4 % 1024 ≡ 0 = omega arith in let high : word_of r n < 2 ^ 52 = omega arith in grind (arith, nat_tests)

  pub word-present : is_present (word_of r n) ≡ some_right r
  word-present = ap some_right word-rights

  pub word_exists : some_right r ≡ true → can_exist (word_of r n) ≡ true
  word_exists h = let a = word_clear in let b = word-present ∙ h in cc

  pub word_some : some_right r ≡ true → word_of r n ≢ 0
  word_some h e = let b = some_bit r h in absurd (omega arith)

-- the word 0 is absent, and can exist
pub zero_absent : is_present 0 ≡ false
zero_absent = refl

pub zero_exists : can_exist 0 ≡ true
zero_exists = refl

exists_clear : (w : ℕ) → can_exist w ≡ true → (w / 4 % 1024 ≡ 0) × (w < 2 ^ 52)
exists_clear w h = (grind (arith, nat_tests), grind (arith, nat_tests))

-- a word that can exist is its rights and its number, and nothing else
pub word_parts : (w : ℕ) → can_exist w ≡ true → word_of (rights_in w) (number_in w) ≡ w
word_parts w h =
    let c : (w / 4 % 1024 ≡ 0) × (w < 2 ^ 52) = exists_clear w h in
    let a = bit_of (w % 2) (omega arith) in
    let b = bit_of (w / 2 % 2) (omega arith) in omega arith

-- a word that is present, and clear, can exist
pub present_exists : (w : ℕ) → is_clear w ≡ true → is_present w ≡ true → can_exist w ≡ true
present_exists w a b = cc
