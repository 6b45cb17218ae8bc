-- Runs of descriptors: one descriptor more, and the descriptors of a span.
use Rattle.std.proofs.Common.{◌≡◌, ℕ, zero, suc, ◌+◌, ◌<◌, ◌≤◌, List, [], ◌∷◌, ◌++◌, length, get_or, drop, sym, refl, ap, ◌∙◌, arith, add-one}
use Rattle.std.proofs.lemmas.Bool.{cond-true, lt-ltb}
use Rattle.std.proofs.lemmas.List.{at_drop_more, at_drop_all}
use Rattle.units.specs.declared.number.Card.{Card}
use Rattle.units.specs.declared.number.DevicePage.{DevicePage}
use Rattle.cache.specs.declared.cache.Translation.{Translation}
use Rattle.cache.specs.declared.queue.Descriptor.{Descriptor}
use Rattle.cache.specs.declared.queue.Descriptor.TheVariants.{Page, Wait}
use Rattle.cache.specs.Entries.{without, without_span}
use Rattle.cache.proofs.Entries.{span_of_none, span_by_page}
use Rattle.cache.specs.Descriptors.{has_room, posted_behind, posts, after_wait, after_run}

-- One descriptor after another ----------------------------------------------------------------------------

module _ (ds : List Descriptor) (i : ℕ) (d : Descriptor) (l : i < length ds) where
  pub wait_behind : get_or ds i d ≡ Wait → after_wait (drop i ds) ≡ drop (i + 1) ds
  unfolding after_wait
  wait_behind e = at_drop_more after_wait ds i d l ∙ ap (λ (x : Descriptor). after_wait (x ∷ drop (i + 1) ds)) e

  pub wait_stops : (xs : List Translation) → get_or ds i d ≡ Wait → after_run (drop i ds) xs ≡ xs
  unfolding after_run
  wait_stops xs e = at_drop_more (λ (q : List Descriptor). after_run q xs) ds i d l ∙ ap (λ (x : Descriptor). after_run (x ∷ drop (i + 1) ds) xs) e

  module _ (card : Card) (page : DevicePage) (e : get_or ds i d ≡ Page card page) where
    pub page_behind : after_wait (drop i ds) ≡ after_wait (drop (i + 1) ds)
    unfolding after_wait
    page_behind = at_drop_more after_wait ds i d l ∙ ap (λ (x : Descriptor). after_wait (x ∷ drop (i + 1) ds)) e

    pub page_runs : (xs : List Translation) → after_run (drop i ds) xs ≡ after_run (drop (i + 1) ds) (without card.0 page.0 xs)
    unfolding after_run
    page_runs xs = at_drop_more (λ (q : List Descriptor). after_run q xs) ds i d l ∙ ap (λ (x : Descriptor). after_run (x ∷ drop (i + 1) ds) xs) e

pub end_behind : (ds : List Descriptor) (i : ℕ) → length ds ≤ i → after_wait (drop i ds) ≡ []
unfolding after_wait
end_behind ds i h = at_drop_all after_wait ds i h

pub end_stops : (ds : List Descriptor) (i : ℕ) (xs : List Translation) → length ds ≤ i → after_run (drop i ds) xs ≡ xs
unfolding after_run
end_stops ds i xs h = at_drop_all (λ (q : List Descriptor). after_run q xs) ds i h

-- The descriptors of a span -------------------------------------------------------------------------------

pub posts_none : (card : Card) (p : ℕ) → posts card p 0 ≡ []
unfolding posts
posts_none card p = refl

posts_last : (card : Card) (p n : ℕ) → posts card p (suc n) ≡ posts card p n ++ Page card (record { 0 = p + n }) ∷ []
unfolding posts
posts_last card p zero = ap (λ (q : ℕ). Page card (record { 0 = q }) ∷ []) (omega arith)
posts_last card p (suc n) =
    ap (λ (ds : List Descriptor). Page card (record { 0 = p }) ∷ ds)
    (posts_last card (suc p) n ∙ ap (λ (q : ℕ). posts card (suc p) n ++ Page card (record { 0 = q }) ∷ []) (omega arith))

posts_more : (card : Card) (p n : ℕ) → posts card p (n + 1) ≡ posts card p n ++ Page card (record { 0 = p + n }) ∷ []
posts_more card p n = ap (posts card p) (add-one n) ∙ posts_last card p n

length_posts : (card : Card) (p n : ℕ) → length (posts card p n) ≡ n
unfolding posts
length_posts card p zero = refl
length_posts card p (suc n) = ap suc (length_posts card (suc p) n)

posted_more : (ds : List Descriptor) (d : Descriptor) → length ds < 16 → posted_behind ds d ≡ ds ++ d ∷ []
unfolding posted_behind
posted_more ds d h = cond-true (has_room ds) (ds ++ d ∷ []) ds (lt-ltb (length ds) 16 h)

pub page_posted : (card : Card) (p n : ℕ) (ds : List Descriptor) → ds ≡ posts card p n → n < 16 → posted_behind ds (Page card (record { 0 = p + n })) ≡ posts card p (n + 1)
page_posted card p n ds e h = posted_more ds _ (omega (arith, ap length e, length_posts card p n)) ∙ ap (λ (qs : List Descriptor). qs ++ Page card (record { 0 = p + n }) ∷ []) e ∙ sym (posts_more card p n)

pub wait_posted : (card : Card) (p n : ℕ) (ds : List Descriptor) → ds ≡ posts card p n → n < 16 → posted_behind ds Wait ≡ posts card p n ++ Wait ∷ []
wait_posted card p n ds e h = posted_more ds Wait (omega (arith, ap length e, length_posts card p n)) ∙ ap (λ (qs : List Descriptor). qs ++ Wait ∷ []) e

pub posts_behind : (card : Card) (p n : ℕ) (ds : List Descriptor) → after_wait (posts card p n ++ Wait ∷ ds) ≡ ds
unfolding posts after_wait
posts_behind card p zero ds = refl
posts_behind card p (suc n) ds = posts_behind card (suc p) n ds

-- each page of the span in turn, or all in one
pub posts_run : (card : Card) (p n : ℕ) (ds : List Descriptor) (xs : List Translation) → after_run (posts card p n ++ Wait ∷ ds) xs ≡ without_span card.0 p n xs
unfolding posts after_run
posts_run card p zero ds xs = sym (span_of_none card.0 p xs)
posts_run card p (suc n) ds xs = posts_run card (suc p) n ds (without card.0 p xs) ∙ span_by_page card.0 p n xs
