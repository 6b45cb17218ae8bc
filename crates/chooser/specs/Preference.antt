-- Which of two gaps is taken.
use Rattle.std.specs.Prelude.{◌≡◌, ◌-◌, ◌<◌, ◌≤◌, Bool, true, ◌&&◌, ◌||◌, ◌⊎◌, ◌==◌, ◌≢◌, nat_lt}
use Rattle.chooser.specs.declared.gap.Gap.{Gap}

-- the smaller gap, and of equal gaps the higher
abbrev pub prefers : Gap → Gap → Bool
prefers a b = nat_lt (a.last - a.first) (b.last - b.first) || (a.last - a.first == b.last - b.first && nat_lt b.first a.first)

-- a preference that is a total order on gaps that share no number
pub record Order (over : Gap → Gap → Bool) : Type 0 where
  pub one_way : (a b : Gap) → over a b ≡ true → over b a ≢ true
  pub onwards : (a b c : Gap) → over a b ≡ true → over b c ≡ true → over a c ≡ true
  pub total : (a b : Gap) → a.first ≤ a.last → b.first ≤ b.last → (a.last < b.first) ⊎ (b.last < a.first) → (over a b ≡ true) ⊎ (over b a ≡ true)
