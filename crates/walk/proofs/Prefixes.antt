-- A page's number by its prefixes and indices.
use Rattle.std.proofs.Common.{◌≡◌, ℕ, zero, suc, ◌+◌, ◌*◌, ◌^◌, ◌<◌, List, get_or, arith, ap}
use Rattle.walk.specs.Indices.{prefix, index}

pub index_small : (l q : ℕ) → index l q < 512
index_small l q = omega arith

-- a prefix is that of the next level, and an index
pub prefix_parts : (l q : ℕ) → prefix (suc l) q * 512 + index l q ≡ prefix l q
prefix_parts l q = omega arith

-- of pages numbered over all cards: the card stands above the parts of a page of 36 bits
module _ (c p : ℕ) (fits : p < 2 ^ 36) where
  pub prefix_of_card : prefix 4 (c * 2 ^ 36 + p) ≡ c
  prefix_of_card = omega arith

  pub index_of_page : (l : ℕ) → l < 4 → index l (c * 2 ^ 36 + p) ≡ index l p
  index_of_page zero h = omega arith
  index_of_page (suc zero) h = omega arith
  index_of_page (suc (suc zero)) h = omega arith
  index_of_page (suc (suc (suc zero))) h = omega arith
  index_of_page (suc (suc (suc (suc l)))) h = absurd (omega arith)

-- a place of equal lists
pub at : {is js : List ℕ} → is ≡ js → (n : ℕ) → get_or is n 0 ≡ get_or js n 0
at e n = ap (λ (l : List ℕ). get_or l n 0) e
