-- What a card reaches, it reaches through an open mapping.
use Rattle.std.proofs.Common.{◌≡◌, ℕ, ◌+◌, ◌-◌, ◌<◌, Bool, true, false, cond, List, [], ◌∷◌, Some, Option, refl, ap, unwrap_or, inl, inr, arith}
use Rattle.units.specs.declared.mapping.Mapping.{Mapping}
use Rattle.units.specs.declared.mapping.Reach.{Reach}
use Rattle.meaning.specs.Mappings.{In, reach_of, reach_through, on_page, first_page, first_frame}
use Rattle.meaning.specs.Worlds.{Setup}
use Rattle.meaning.specs.Laws.{Bounds}
use Rattle.meaning.proofs.Facts.{page_fact}

-- an open mapping by which the frame is reached
pub record Through (o : List Mapping) (c p : ℕ) (s : Reach) : Type 0 where
  pub mapping : Mapping
  pub is_open : In mapping o
  pub page : on_page c p mapping ≡ true
  pub leads : reach_through mapping p ≡ Some s

pub through : (o : List Mapping) (c p : ℕ) (s : Reach) → reach_of o c p ≡ Some s → Through o c p s
unfolding reach_of
through [] c p s e = absurd (cc)
through (m ∷ o) c p s e = go (on_page c p m) refl e (λ i. through o c p s i)
  where
    go : (b : Bool) → on_page c p m ≡ b → cond b (reach_through m p) (reach_of o c p) ≡ Some s
        → (reach_of o c p ≡ Some s → Through o c p s) → Through (m ∷ o) c p s
    go true h i later = record { mapping = m; is_open = inl refl; page = h; leads = i }
    go false h i later = let t = later i in record { mapping = t.mapping; is_open = inr t.is_open; page = t.page; leads = t.leads }

-- and it lies in memory
pub reached_inside : (S : Setup) (reserved : ℕ → Bool) (o : List Mapping) → Bounds S reserved o → (c p : ℕ) (s : Reach)
    → reach_of o c p ≡ Some s → s.frame.0 < S.frames
reached_inside S reserved o b c p s e =
    let t = through o c p s e in
    let m = t.mapping in
    let h = (page_fact c p m t.page).1 in
    let low = h.from in
    let high = h.to in
    let same : first_frame m + (p - first_page m) ≡ s.frame.0 = ap (λ (z : Option Reach). (unwrap_or z s).frame.0) t.leads in
    let room = (b.each m t.is_open).landing in
    omega arith
