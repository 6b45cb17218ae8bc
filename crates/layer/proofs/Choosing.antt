-- What a layer's choice comes from, and which frames of the pool it takes.
use Rattle.std.proofs.Common.{◌≡◌, ℕ, ◌+◌, ◌-◌, ◌%◌, ◌<◌, ◌≤◌, Bool, true, false, cond, ◌⊎◌, List, [], ◌∷◌, Some, None, Ok, Err, Option, Result, sym, refl, ap, ◌∙◌, subst, inl, inr, arith}
use Rattle.std.proofs.lemmas.Bool.{cases_Bool, cond-true, cond-false, lt-ltb}
use Rattle.std.proofs.lemmas.Bool.Decides.{nat_tests}
use Rattle.units.specs.declared.fault.Fault.{Fault}
use Rattle.units.specs.declared.mapping.Mapping.{Mapping}
use Rattle.units.specs.declared.mapping.Placement.{Placement}
use Rattle.units.specs.declared.mapping.Request.{Request}
use Rattle.units.specs.Buffers.{span, whole}
use Rattle.units.specs.Faults.{raised, raises}
use Rattle.units.specs.declared.number.Frame.{Frame}
use Rattle.chooser.specs.declared.gap.Range.{Range}
use Rattle.chooser.specs.Gaps.{Untouched, Free}
use Rattle.chooser.specs.Finding.{choice}
use Rattle.chooser.proofs.Answer.{choice_free, choice_some, choice_none as none_chosen}
use Rattle.chooser.proofs.Same.{any_order}
use Rattle.meaning.specs.Mappings.{In, first_frame, page_count}
use Rattle.meaning.specs.Worlds.{Setup, Choice}
use Rattle.layer.specs.Lowering.{lowered}
use Rattle.layer.specs.Pools.{below_setup, pool_first, pool_count, has_pool, frame_number, is_whole, frames_of, used_frames, frame_for}
use Rattle.layer.specs.Below.{in_frames_found, request_below}
use Rattle.layer.specs.Choosing.{no_frames_for, further, frames_request, on_frame_found, whole_choice, frames_choice, pool_choice, layer_choice, NoFramesLeft, BestFrames, LayerChooses}

-- Placements through a layer ------------------------------------------------------------------------------

abbrev pub moved_on : ℕ → Placement → Placement
moved_on a p = record { device = record { 0 = p.device.0 + a }; landing = p.landing + a }

pub raises_ok : {A : Type 0} (x : Result A Fault) (y : A) → raises x ≡ Ok y → x ≡ Ok y
raises_ok (Ok z) y e = e
raises_ok (Err f) y e = absurd (cc)

pub raises_err : {A : Type 0} (x : Result A Fault) (f : Fault) → raises x ≡ Err f → (g : Fault) × (x ≡ Err g) × (f ≡ raised g)
raises_err (Ok z) f e = absurd (cc)
raises_err (Err g) f e = (g, refl, cc)

pub further_ok : (a : ℕ) (x : Choice) (q : Placement) → further a x ≡ Ok q → (p : Placement) × (x ≡ Ok p) × (q ≡ moved_on a p)
further_ok a (Ok p) q e = (p, refl, cc)
further_ok a (Err f) q e = absurd (cc)

pub further_err : (a : ℕ) (x : Choice) (f : Fault) → further a x ≡ Err f → x ≡ Err f
further_err a (Ok p) f e = absurd (cc)
further_err a (Err g) f e = e

pub whole_true : (a n : ℕ) → whole a n ≡ true → (a % 4096 ≡ 0) × (n % 4096 ≡ 0)
whole_true a n e = (grind (arith, nat_tests), grind (arith, nat_tests))

pub whole_test : (a n : ℕ) → a % 4096 ≡ 0 → n % 4096 ≡ 0 → whole a n ≡ true
whole_test a n e f = grind (arith, nat_tests)

-- The choice by its parts ---------------------------------------------------------------------------------

module _ (below : Setup → List Mapping → Request → Choice) (S : Setup) (o : List Mapping) (r : Request) where
  abbrev n : ℕ
  n = span r.buffer.address r.buffer.length

  pub choice_none : has_pool S ≡ false → layer_choice below S o r ≡ no_frames_for n
  unfolding layer_choice
  choice_none e = cond-false (has_pool S) _ _ e

  pub choice_whole : has_pool S ≡ true → whole r.buffer.address r.buffer.length ≡ true → layer_choice below S o r ≡ whole_choice below S o r
  unfolding layer_choice
  choice_whole e w = cond-true (has_pool S) _ _ e ∙ cond-true (whole r.buffer.address r.buffer.length) _ _ w

  pub choice_pool : has_pool S ≡ true → whole r.buffer.address r.buffer.length ≡ false → layer_choice below S o r ≡ pool_choice below S o r
  unfolding layer_choice
  choice_pool e w = cond-true (has_pool S) _ _ e ∙ cond-false (whole r.buffer.address r.buffer.length) _ _ w

  -- no pool gap holds the span
  pub choice_full : has_pool S ≡ true → whole r.buffer.address r.buffer.length ≡ false → frame_for S o n ≡ None → layer_choice below S o r ≡ no_frames_for n
  choice_full e w f = choice_pool e w ∙ ap (λ (z : Option ℕ). on_frame_found z n (frames_choice below S o r)) f

  pub choice_frames : (k : ℕ) → has_pool S ≡ true → whole r.buffer.address r.buffer.length ≡ false → frame_for S o n ≡ Some k → layer_choice below S o r ≡ frames_choice below S o r k
  choice_frames k e w f = choice_pool e w ∙ ap (λ (z : Option ℕ). on_frame_found z n (frames_choice below S o r)) f

  -- an accepted request, by what the choice below accepted
  pub data Accepted (q : Placement) : Type 0 where
    as_it_is : has_pool S ≡ true → whole r.buffer.address r.buffer.length ≡ true → below (below_setup S) (lowered o) r ≡ Ok q → Accepted q
    in_frames : has_pool S ≡ true → whole r.buffer.address r.buffer.length ≡ false → (k : ℕ) (p : Placement) → frame_for S o n ≡ Some k
        → below (below_setup S) (lowered o) (frames_request r k) ≡ Ok p → q ≡ moved_on (r.buffer.address % 4096) p → Accepted q

  pub accepted_by : (q : Placement) → layer_choice below S o r ≡ Ok q → Accepted q
  accepted_by q e = elim (cases_Bool (has_pool S)) [
    | inl s ↦ elim (cases_Bool (whole r.buffer.address r.buffer.length)) [
      | inl w ↦ as_it_is s w (raises_ok (below (below_setup S) (lowered o) r) q (sym (choice_whole s w) ∙ e))
      | inr w ↦ at s w (frame_for S o n) refl
    ]
    | inr s ↦ (let k = choice_none s in absurd (cc))
  ]
    where
      at : has_pool S ≡ true → whole r.buffer.address r.buffer.length ≡ false → (f : Option ℕ) → frame_for S o n ≡ f → Accepted q
      at s w None f = let k = choice_full s w f in absurd (cc)
      at s w (Some k) f =
          let x = raises (below (below_setup S) (lowered o) (frames_request r k)) in
          let t = further_ok (r.buffer.address % 4096) x q (sym (choice_frames k s w f) ∙ e) in
          in_frames s w k t.0 f (raises_ok (below (below_setup S) (lowered o) (frames_request r k)) t.0 t.1) t.2

-- The frames that are taken -------------------------------------------------------------------------------

-- a frame that no range holds is in no landing of a buffer that is not whole, and the other way round
pub untouched_used : (o : List Mapping) (x : ℕ) → Untouched frame_number (used_frames o) x → (m : Mapping) → In m o → is_whole m ≡ false
    → first_frame m ≤ x → x < first_frame m + page_count m → ⊥
unfolding used_frames
untouched_used [] x u m i w l h = elim i [ ]
untouched_used (k ∷ o) x u m i w l h = go (is_whole k) refl u i (λ v j. untouched_used o x v m j w l h)
  where
    go : (b : Bool) → is_whole k ≡ b → Untouched frame_number (cond b (used_frames o) (frames_of k ∷ used_frames o)) x → (m ≡ k) ⊎ In m o
        → (Untouched frame_number (used_frames o) x → In m o → ⊥) → ⊥
    go true e v (inl s) later = let t : is_whole m ≡ true = ap is_whole s ∙ e in cc
    go true e v (inr j) later = later v j
    go false e v (inl s) later = v.0 (subst (λ (z : Mapping). (first_frame z ≤ x) × (x < first_frame z + page_count z)) s (l, h))
    go false e v (inr j) later = later v.1 j

pub used_untouched : (o : List Mapping) (x : ℕ) → ((m : Mapping) → In m o → is_whole m ≡ false → first_frame m ≤ x → x < first_frame m + page_count m → ⊥)
    → Untouched frame_number (used_frames o) x
unfolding used_frames
used_untouched [] x h = tt
used_untouched (k ∷ o) x h = go (is_whole k) refl (used_untouched o x (λ m i. h m (inr i)))
  where
    go : (b : Bool) → is_whole k ≡ b → Untouched frame_number (used_frames o) x → Untouched frame_number (cond b (used_frames o) (frames_of k ∷ used_frames o)) x
    go true e later = later
    go false e later = ((λ q. h k (inl refl) e q.0 q.1), later)

module _ (S : Setup) (o : List Mapping) (n k : ℕ) (some : 0 < n) (pool : 1 ≤ pool_count S) (e : frame_for S o n ≡ Some k) where
  free : (x : ℕ) → k ≤ x → x < k + n → Free frame_number (pool_first S) (pool_first S + pool_count S - 1) (used_frames o) x
  free x l h = choice_free frame_number (pool_first S) (pool_first S + pool_count S - 1) (used_frames o) n k some e x l h

  -- they are the pool's
  pub frames_low : pool_first S ≤ k
  frames_low = (free k (omega arith) (omega arith)).above

  pub frames_high : k + n ≤ pool_first S + pool_count S
  frames_high = let f = (free (k + n - 1) (omega arith) (omega arith)).below in omega arith

  -- and no mapping whose buffer is not whole lands there
  pub frames_free : (m : Mapping) → In m o → is_whole m ≡ false → (x : ℕ) → k ≤ x → x < k + n → first_frame m ≤ x → x < first_frame m + page_count m → ⊥
  frames_free m i w x l h = untouched_used o x (free x l h).clear m i w

-- The choice in words -------------------------------------------------------------------------------------

pub choice_words : (below : Setup → List Mapping → Request → Choice) (S : Setup) (o : List Mapping) (r : Request) → 0 < pool_count S → 0 < r.buffer.length
    → LayerChooses below S o r (layer_choice below S o r)
choice_words below S o r pool some = elim (cases_Bool (whole r.buffer.address r.buffer.length)) [
  | inl w ↦ inl (w, choice_whole below S o r has w)
  | inr w ↦ inr (w, at w (frame_for S o n) refl)
]
  where
    n : ℕ
    n = span r.buffer.address r.buffer.length

    pos : 0 < span r.buffer.address r.buffer.length
    pos = omega arith

    has : has_pool S ≡ true
    has = lt-ltb 0 (pool_count S) pool

    at : whole r.buffer.address r.buffer.length ≡ false → (f : Option ℕ) → frame_for S o (span r.buffer.address r.buffer.length) ≡ f
        → (NoFramesLeft S o r × (layer_choice below S o r ≡ no_frames_for (span r.buffer.address r.buffer.length))) ⊎ ((k : ℕ) × BestFrames S o r k × (layer_choice below S o r ≡ frames_choice below S o r k))
    at w None f = inl (
      none_chosen frame_number (pool_first S) (pool_first S + pool_count S - 1) (used_frames o) (span r.buffer.address r.buffer.length) pos f,
      choice_full below S o r has w f,
    )
    at w (Some k) f = inr (
      k,
      choice_some frame_number (pool_first S) (pool_first S + pool_count S - 1) (used_frames o) (span r.buffer.address r.buffer.length) k pos f,
      choice_frames below S o r k has w f,
    )

-- ranges that hold the frames where buffers that are not whole land, and no others, give the same answer
pub frame_is : (S : Setup) (o : List Mapping) (us : List (Range Frame)) (n : ℕ) → 0 < n
    → ((x : ℕ) → Untouched frame_number us x → (m : Mapping) → In m o → is_whole m ≡ false → first_frame m ≤ x → x < first_frame m + page_count m → ⊥)
    → ((x : ℕ) → ((m : Mapping) → In m o → is_whole m ≡ false → first_frame m ≤ x → x < first_frame m + page_count m → ⊥) → Untouched frame_number us x)
    → choice frame_number (pool_first S) (pool_first S + pool_count S - 1) us n ≡ frame_for S o n
frame_is S o us n pos f g =
    any_order frame_number (pool_first S) (pool_first S + pool_count S - 1) n us (used_frames o) pos
    (λ x u. used_untouched o x (f x u)) (λ x u. g x (untouched_used o x u))

-- What is asked below -------------------------------------------------------------------------------------

pub asked_whole : (S : Setup) (o : List Mapping) (r : Request) → whole r.buffer.address r.buffer.length ≡ true → request_below S o r ≡ r
asked_whole S o r w = cond-true (whole r.buffer.address r.buffer.length) r _ w

pub asked_frames : (S : Setup) (o : List Mapping) (r : Request) (k : ℕ) → whole r.buffer.address r.buffer.length ≡ false → frame_for S o (span r.buffer.address r.buffer.length) ≡ Some k
    → request_below S o r ≡ frames_request r k
asked_frames S o r k w e = cond-false (whole r.buffer.address r.buffer.length) r _ w ∙ ap (λ (z : Option ℕ). in_frames_found z r) e
