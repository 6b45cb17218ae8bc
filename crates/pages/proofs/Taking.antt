-- Pages that the chooser gives are free, so that what is opened on them is lawful.
use Rattle.std.proofs.Common.{◌≡◌, ℕ, suc, ◌+◌, ◌-◌, ◌<◌, ◌≤◌, Bool, true, false, cond, eqb, ◌⊎◌, List, [], ◌∷◌, Some, sym, refl, ap, ◌∙◌, subst, inl, inr, arith}
use Rattle.std.proofs.lemmas.Bool.{eqb-true, eqb-false}
use Rattle.units.specs.declared.mapping.Mapping.{Mapping}
use Rattle.units.specs.declared.mapping.Request.{Request}
use Rattle.units.specs.Buffers.{span}
use Rattle.chooser.specs.Gaps.{Untouched, Free}
use Rattle.chooser.proofs.Answer.{choice_free, choice_whole}
use Rattle.meaning.specs.Mappings.{In, Pages, first_page, page_count, insert}
use Rattle.meaning.specs.Worlds.{Setup, last_of, Kind, world}
use Rattle.meaning.specs.Laws.{OneFrame}
use Rattle.meaning.specs.Effects.{new_mapping}
use Rattle.meaning.proofs.Verdicts.{Admitted}
use Rattle.pages.specs.Pages.{page_number, pages_of, used_pages, page_for, placed_at}
use Rattle.pages.specs.Lawful.{lawful, Ranged}
use Rattle.pages.proofs.Facts.{Fitting, lawful_facts, lawful_insert, share_test}

-- a page that no range of the card holds is on no mapping of the card, and the other way round
pub untouched_used : (o : List Mapping) (c x : ℕ) → Untouched page_number (used_pages o c) x → (m : Mapping) → In m o → m.card.0 ≡ c → Pages m x → ⊥
unfolding used_pages
untouched_used [] c x u m i e p = elim i [ ]
untouched_used (k ∷ o) c x u m i e p = go (eqb k.card.0 c) refl u i (λ w j. untouched_used o c x w m j e p)
  where
    go : (b : Bool) → eqb k.card.0 c ≡ b → Untouched page_number (cond b (pages_of k ∷ used_pages o c) (used_pages o c)) x → (m ≡ k) ⊎ In m o
        → (Untouched page_number (used_pages o c) x → In m o → ⊥) → ⊥
    go true h w (inl s) later = let q = subst (λ (z : Mapping). Pages z x) s p in w.0 (q.from, q.to)
    go true h w (inr j) later = later w.1 j
    go false h w (inl s) later = eqb-false k.card.0 c h (ap (λ (z : Mapping). z.card.0) (sym s) ∙ e)
    go false h w (inr j) later = later w j

pub used_untouched : (o : List Mapping) (c x : ℕ) → ((m : Mapping) → In m o → m.card.0 ≡ c → Pages m x → ⊥) → Untouched page_number (used_pages o c) x
unfolding used_pages
used_untouched [] c x h = tt
used_untouched (k ∷ o) c x h = go (eqb k.card.0 c) refl (used_untouched o c x (λ m i. h m (inr i)))
  where
    go : (b : Bool) → eqb k.card.0 c ≡ b → Untouched page_number (used_pages o c) x → Untouched page_number (cond b (pages_of k ∷ used_pages o c) (used_pages o c)) x
    go true e later = ((λ q. h k (inl refl) (eqb-true k.card.0 c e) (record { from = q.0; to = q.1 })), later)
    go false e later = later

module _ (K : Kind) (S : Setup) (n : ℕ) (o : List Mapping) (r : Request) (p : ℕ) (a : Admitted (world K S n) r) (e : page_for S o r ≡ Some p) where
  abbrev count : ℕ
  count = span r.buffer.address r.buffer.length

  abbrev new : Mapping
  new = new_mapping r (placed_at r p)

  some_pages : 0 < count
  some_pages = let h = a.some in omega arith

  free : (k : ℕ) → p ≤ k → k < p + count → Free page_number 1 (last_of S r.card.0) (used_pages o r.card.0) k
  free k l h = choice_free page_number 1 (last_of S r.card.0) (used_pages o r.card.0) count p some_pages e k l h

  first_is : first_page new ≡ p
  first_is = omega arith

  pub page_low : 1 ≤ p
  page_low = let h = some_pages in (free p (omega arith) (omega arith)).above

  pub page_high : p + count ≤ suc (last_of S r.card.0)
  page_high = let h = some_pages in let f = (free (p + count - 1) (omega arith) (omega arith)).below in omega arith

  new_fits : Fitting S new
  new_fits =
      let first = first_is in
      let low = page_low in
      let high = page_high in
      record {
        card = a.card;
        some = a.some;
        short = a.short;
        inside = a.inside;
        own = refl;
        offset = omega arith;
        low = omega arith;
        high = omega arith;
      }

  new_apart : (m : Mapping) → In m o → m.card.0 ≡ r.card.0 → (q : ℕ) → Pages new q → Pages m q → ⊥
  new_apart m i same q x y =
      let first = first_is in
      let from = x.from in
      let to = x.to in
      untouched_used o r.card.0 q (free q (omega arith) (omega arith)).clear m i same y

  pub grown : lawful S o ≡ true → lawful S (insert new o) ≡ true
  grown l = lawful_insert S new o new_fits (λ m i.
      let f = (lawful_facts S o l).each m i in
      let some = f.some in
      let here : 0 < page_count m = omega arith in (
        share_test new m some_pages here (λ same q x y. new_apart m i (sym same) q x y),
        share_test m new here some_pages (λ same q x y. new_apart m i same q y x),
      )) l

-- with nothing open, a frame goes to the card's last page
pub first_page_lem : (S : Setup) (reserved : ℕ → Bool) (r : Request) → Ranged S → OneFrame S reserved r → page_for S [] r ≡ Some (last_of S r.card.0)
unfolding used_pages
first_page_lem S reserved r h f =
    let starts = f.starts in
    let one = f.one in
    let s : span r.buffer.address r.buffer.length ≡ 1 = omega arith in
    ap (λ (k : ℕ). Rattle.chooser.specs.Finding.choice page_number 1 (last_of S r.card.0) [] k) s ∙ choice_whole page_number 1 (last_of S r.card.0) (h.2 r.card.0 f.card).0
