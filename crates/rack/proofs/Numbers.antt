-- With 5,120 words the rack's tables are set up.
use Rattle.std.proofs.Common.{◌≡◌, ℕ, true, List, length, ap, replicate}
use Rattle.std.proofs.lemmas.Bool.{cond-true}
use Rattle.table_meaning.specs.Choosing.{accepts, granted, granted_tables}
use Rattle.table_meaning.specs.Starting.{words_left}
use Rattle.rack.specs.Numbers.{numbers}

module _ (ws : List ℕ) (h : length ws ≡ 5120) where
  enough : accepts numbers 10 (length ws) ≡ true
  enough = ap (accepts numbers 10) h

  pub all_numbers : granted numbers 10 (length ws) ≡ numbers
  all_numbers = cond-true (accepts numbers 10 (length ws)) numbers (record { cards = 0; lasts = numbers.lasts; frames = 0 }) enough

  pub all_tables : granted_tables numbers 10 (length ws) ≡ 10
  all_tables = cond-true (accepts numbers 10 (length ws)) 10 0 enough

  pub all_cleared : words_left numbers 10 ws ≡ replicate (length ws) 0
  all_cleared = cond-true (accepts numbers 10 (length ws)) (replicate (length ws) 0) ws enough
