-- Would and map over a layer, from what the mapper below answers and leaves.
use Rattle.mapper.specs.declared.laws.Meaning.{Ghosts as Meaning}
use Rattle.std.proofs.Common.{◌≡◌, ℕ, ◌+◌, ◌*◌, ◌%◌, ◌<◌, ◌≤◌, Bool, true, false, cond, not, ◌&&◌, eqb, List, length, Some, None, Ok, Err, Result, sym, refl, ap, ◌∙◌, subst, arith}
use Rattle.std.proofs.lemmas.Bool.{cond-true, cond-false, lt-ltb}
use Rattle.std.proofs.lemmas.Bool.Decides.{nat_tests}
use Rattle.units.specs.declared.fault.Fault.{Fault}
use Rattle.units.specs.declared.fault.FaultKind.TheVariants.{NoFrames}
use Rattle.units.specs.declared.mapping.Mapping.{Mapping}
use Rattle.units.specs.declared.mapping.Placement.{Placement}
use Rattle.units.specs.declared.mapping.Request.{Request}
use Rattle.units.specs.declared.number.DeviceAddress.{DeviceAddress}
use Rattle.units.specs.declared.number.Frame.{Frame}
use Rattle.units.specs.Buffers.{span, whole}
use Rattle.units.specs.Faults.{raised, raises}
use Rattle.meaning.specs.Memory.{bytes_of, clear, copy}
use Rattle.meaning.specs.Mappings.{first_frame, insert}
use Rattle.meaning.specs.Worlds.{Setup, World, Choice}
use Rattle.meaning.specs.Calls.{map, Answer, fails, done, at}
use Rattle.meaning.specs.Checks.{Verdict, fine, errs, chosen, admitted, verdict}
use Rattle.meaning.specs.Effects.{answer, new_mapping, on_choice, copy_in}
use Rattle.meaning.specs.Told.{tells_at}
use Rattle.meaning.proofs.Verdicts.{Admitted, admitted_facts}
use Rattle.mapper.specs.Tasks.{opens}
use Rattle.mapper.specs.Called.{here, seen, Called}
use Rattle.layer.specs.Below.{task_below}
use Rattle.layer.specs.Choosing.{layer_reserved, frames_request, layer_choice, no_frames_for}
use Rattle.layer.specs.Lifting.{loan_of}
use Rattle.layer.specs.Lowering.{lowered}
use Rattle.layer.specs.Pools.{below_setup, pool_first, pool_count, has_pool}
use Rattle.layer.specs.Possible.{Over}
use Rattle.layer.specs.Lawful.{Lawful}
use Rattle.layer.proofs.Asking.{placed_answer, unplaced_answer}
use Rattle.layer.proofs.Calls.{Mapped, whole_placed, whole_unplaced, whole_mapped, whole_refused, frames_placed, frames_unplaced, frames_mapped}
use Rattle.layer.proofs.Checks.{admitted_from}
use Rattle.layer.proofs.Choosing.{moved_on, choice_full, frames_low, frames_high, asked_whole, asked_frames}
use Rattle.layer.proofs.Keeping.{grows_over, in_frames_below}
use Rattle.layer.proofs.Lawful.{lawful_of}
use Rattle.layer.proofs.Loans.{borrows, loan_insert}
use Rattle.pool.specs.declared.pool.Pool.{Pool}
use Rattle.pool.specs.Lending.{has_record, loan_in, lent, frames_of_pool, Lends}
use Rattle.pool.proofs.Lent.{lent_first, lent_count}
use Rattle.layer_steps.specs.After.{lent_found, pool_after}
use Rattle.layer_steps.specs.Tied.{setup_over, open_over, Tied}
use Rattle.layer_steps.proofs.Over.{lends_here, over_here, set_here, opened_here, pool_low, settled}
use Rattle.layer_steps.proofs.Step.{world_over, some_pool, Step}

-- the request that is admitted, to a layer which then has a pool
module _ {M : Type 0} (I : Meaning M) (m : M) (q : Pool) (t : Tied I m q) (x : List ℕ) (r : Request) (e : (v : Verdict) → admitted (world_over I m q x) r v ≡ v) where
  adm : Admitted (world_over I m q x) r
  adm = admitted_facts (world_over I m q x) r fine (e fine)

  some : 0 < q.count
  some = some_pool r.card.0 q.count (I.setup m).cards adm.card

  abbrev S : Setup
  S = setup_over I m q

  abbrev o : List Mapping
  o = open_over I m q

  abbrev W : World
  W = world_over I m q x

  abbrev h : Over I.kind I.possible S o
  h = over_here I m q t some

  abbrev set : I.setup m ≡ below_setup S
  set = set_here I m q t some

  abbrev opened : I.opened m ≡ lowered o
  opened = opened_here I m q t some

  abbrev law : Lawful I.kind I.possible
  law = lawful_of I

  abbrev count : ℕ
  count = span r.buffer.address r.buffer.length

  has : has_pool S ≡ true
  has = lt-ltb 0 q.count some

  pub short : count ≤ 8
  short = adm.short

  -- the buffer lies in the memory handed over
  pub inside : r.buffer.address + r.buffer.length ≤ length x
  inside = let a = adm.inside in let b = adm.memory in omega arith

  -- What map leaves, once the choice is known
  opened_step : (m' : M) (q' : Pool) (x' : List ℕ) (v : ℕ) → I.setup m' ≡ I.setup m → q'.first.0 ≡ q.first.0 → q'.count ≡ q.count
      → (p : Mapped I.kind S o r (I.opened m') x x' v) → (Over I.kind I.possible S (insert (new_mapping r p.place) o) → (f : ℕ) → loan_in q' f ≡ loan_of (insert (new_mapping r p.place) o) f)
      → I.leaves m (task_below S o (opens r)) m' → q' ≡ pool_after q o (opens r) → Step I m q x m' q' x' (map r) (opens r) (at v)
  unfolding verdict
  opened_step m' q' x' v fixed first size p lends l e =
      let n = new_mapping r p.place in
      let over = grows_over I.kind I.possible law S o h (length x) r adm p.place p.chosen in
      let done = settled I m q t some m' q' (insert n o) first size fixed p.opens over (lends over) in
      record {
        set = fixed;
        first = first;
        count = size;
        passes = admitted_from W r (chosen (layer_choice I.kind.choice S o r)) adm ∙ ap chosen p.chosen;
        says = ap at (sym p.device) ∙ sym (ap (λ (z : Choice). on_choice z done' (λ k. at k.device.0)) p.chosen);
        opens = done.opened ∙ sym (ap (λ (z : Choice). on_choice z o (λ k. insert (new_mapping r k) o)) p.chosen);
        moves = p.memory ∙ sym (ap (λ (z : Choice). on_choice z (bytes_of x) (λ k. copy_in (layer_reserved I.kind.reserved S) (new_mapping r k) (bytes_of x))) p.chosen);
        tied = done.tied;
        left = (l, e);
      }
    where
      done' : Answer
      done' = done

  -- a refusal of the choice
  pub refused_here : (f : Fault) → layer_choice I.kind.choice S o r ≡ Err f → verdict W o (map r) ≡ errs f
  unfolding verdict
  refused_here f e = admitted_from W r (chosen (layer_choice I.kind.choice S o r)) adm ∙ ap chosen e

  -- Whole -------------------------------------------------------------------------------------------------

  module _ (w : whole r.buffer.address r.buffer.length ≡ true) where
    pub would_whole : (a : Result DeviceAddress Fault) → tells_at a ≡ answer (here I m x) (seen (I.opened m) x) (map r) → tells_at (raises a) ≡ answer W (seen o x) (map r)
    would_whole (Ok v) e = let p = whole_placed I S o h m set opened r x adm w v e in placed_answer W (seen o x) r adm p.0 v.0 p.2 p.3
    would_whole (Err f) e = unplaced_answer W (seen o x) r adm (raised f) (whole_unplaced I S o h m set opened r x adm w f e)

    pub whole_step : (m' : M) (x' : List ℕ) (v : DeviceAddress) → Called I m m' x x' (map r) (tells_at (Ok v)) → Step I m q x m' q x' (map r) (opens r) (at v.0)
    whole_step m' x' v call =
        let p = whole_mapped I S o h m set opened r x adm w m' x' v call in
        let n = new_mapping r p.place in
        opened_step m' q x' v.0 call.fixed refl refl p
        (λ over f. t.lends some f ∙ sym (loan_insert S.frames (I.kind.reserved (below_setup S)) (pool_first S) (pool_count S) n o f over.standing
        ∙ cond-false (borrows n f) (Some n.buffer) (loan_of o f) (ap (λ (z : Bool). not z && eqb (first_frame n) f) w)))
        (subst (λ (z : Request). I.leaves m (opens z) m') (sym (asked_whole S o r w)) call.left)
        (sym (cond-true (whole r.buffer.address r.buffer.length) q (lent_found q r (frames_of_pool q o count)) w))

    pub whole_refusal : (m' : M) (x' : List ℕ) (f : Fault) → Called I m m' x x' (map r) (tells_at (Err f))
        → (m' ≡ m) × (verdict W o (map r) ≡ errs (raised f)) × (bytes_of x' ≡ bytes_of x)
    whole_refusal m' x' f call = let e = whole_refused I S o h m set opened r x adm w m' x' f call in (call.left, refused_here (raised f) e.0, e.1)

    -- what becomes of a map that goes down: it is accepted and opens, or it is refused and all is as it was
    pub data Outcome (m' : M) (x' : List ℕ) (a : Result DeviceAddress Fault) : Type 0 where
      accepts : (v : DeviceAddress) → a ≡ Ok v → Step I m q x m' q x' (map r) (opens r) (at v.0) → Outcome m' x' a
      refuses : (f : Fault) → a ≡ Err f → m' ≡ m → verdict W o (map r) ≡ errs (raised f) → bytes_of x' ≡ bytes_of x → Outcome m' x' a

    pub outcome : (m' : M) (x' : List ℕ) (a : Result DeviceAddress Fault) → Called I m m' x x' (map r) (tells_at a) → Outcome m' x' a
    outcome m' x' (Ok v) call = accepts v refl (whole_step m' x' v call)
    outcome m' x' (Err f) call = let z = whole_refusal m' x' f call in refuses f refl z.0 z.1 z.2

    pub outcome_tied : (m' : M) (x' : List ℕ) (a : Result DeviceAddress Fault) → Called I m m' x x' (map r) (tells_at a) → Tied I m' q
    outcome_tied m' x' (Ok v) call = (whole_step m' x' v call).tied
    outcome_tied m' x' (Err f) call = subst (λ (z : M). Tied I z q) (sym (whole_refusal m' x' f call).0) t

  -- Not whole ---------------------------------------------------------------------------------------------

  -- the pool's answer for a span, as the choice of its frames
  module _ (n : ℕ) (spans : n ≡ count) where
    lends : Lends q (I.setup m).frames (I.kind.reserved (I.setup m)) o
    lends = lends_here I m q t some

    pos : 0 < n
    pos = let s = adm.some in omega arith

    pub frames_found : (k : ℕ) → ((frames : ℕ) (reserved : ℕ → Bool) (l : List Mapping) → Lends q frames reserved l → 0 < n → frames_of_pool q l n ≡ Some k) → frames_of_pool q o count ≡ Some k
    frames_found k f = ap (frames_of_pool q o) (sym spans) ∙ f (I.setup m).frames (I.kind.reserved (I.setup m)) o lends pos

    -- or its refusal, as the choice's
    pub frames_missed : whole r.buffer.address r.buffer.length ≡ false → (f : Fault)
        → ((frames : ℕ) (reserved : ℕ → Bool) (l : List Mapping) → Lends q frames reserved l → 0 < n → (frames_of_pool q l n ≡ None) × (f ≡ record { kind = NoFrames; layer = 0; place = n }))
        → layer_choice I.kind.choice S o r ≡ Err f
    frames_missed w f h =
        let none = h (I.setup m).frames (I.kind.reserved (I.setup m)) o lends pos in
        choice_full I.kind.choice S o r has w (ap (frames_of_pool q o) (sym spans) ∙ none.0) ∙ ap no_frames_for (sym spans) ∙ ap (λ (z : Fault). Err z) (sym none.1)

  pub refused_would : (f : Fault) → layer_choice I.kind.choice S o r ≡ Err f → fails f ≡ answer W (seen o x) (map r)
  refused_would f c = unplaced_answer W (seen o x) r adm f c

  module _ (w : whole r.buffer.address r.buffer.length ≡ false) where
    module _ (k : ℕ) (free : frames_of_pool q o count ≡ Some k) where
      abbrev b : Request
      b = frames_request r k

      some_frames : 0 < count
      some_frames = let s = adm.some in omega arith

      low : q.first.0 ≤ k
      low = frames_low S o count k some_frames some free

      high : k + count ≤ q.first.0 + q.count
      high = frames_high S o count k some_frames some free

      -- the frames are in memory
      pub frame_low : k < 1048576
      frame_low = let a = high in let c = pool_low I m q t some in omega arith

      pub frames_inside : k * 4096 + count * 4096 ≤ length x
      frames_inside =
          let a = high in
          let c = h.standing.inside in
          let d = adm.memory in omega arith

      pub would_frames_refused : (f : Fault) → tells_at (Err f) ≡ answer (here I m x) (seen (I.opened m) x) (map b) → layer_choice I.kind.choice S o r ≡ Err (raised f)
      would_frames_refused f e = frames_unplaced I S o h m set opened r x adm k w free x refl f e

      pub would_frames : (v : DeviceAddress) → tells_at (Ok v) ≡ answer (here I m x) (seen (I.opened m) x) (map b) → at (v.0 + r.buffer.address % 4096) ≡ answer W (seen o x) (map r)
      would_frames v e =
          let p = frames_placed I S o h m set opened r x adm k w free x refl v e in
          placed_answer W (seen o x) r adm (moved_on (r.buffer.address % 4096) p.0) (v.0 + r.buffer.address % 4096) p.2 (ap (λ (z : ℕ). z + r.buffer.address % 4096) p.3)

      pub aligned : (y : List ℕ) → length y ≡ length x → (v : DeviceAddress) → tells_at (Ok v) ≡ answer (here I m y) (seen (I.opened m) y) (map b) → v.0 % 4096 ≡ 0
      aligned y same v e =
          let p = frames_placed I S o h m set opened r x adm k w free y same v e in
          let d = (in_frames_below I.kind I.possible law S o h (length x) r adm k p.0 free p.1).device in
          ap (λ (z : ℕ). z % 4096) (sym p.3) ∙ d

      place : has_record q k ≡ true
      place =
          let a = low in
          let c = high in
          let d = h.standing.few in
          let e = some_frames in grind (arith, nat_tests)

      pub frames_step : (y : List ℕ) → length y ≡ length x → (has_record q k ≡ true → (f : ℕ) → loan_in (lent q k (Some r.buffer)) f ≡ cond (eqb k f) (Some r.buffer) (loan_in q f)) → (m' : M) (x' : List ℕ) (v : DeviceAddress)
          → bytes_of y ≡ copy (k * 4096 + r.buffer.address % 4096) r.buffer.address r.buffer.length (clear (k * 4096) (count * 4096) (bytes_of x))
          → Called I m m' y x' (map b) (tells_at (Ok v)) → Step I m q x m' (lent q k (Some r.buffer)) x' (map r) (opens r) (at (v.0 + r.buffer.address % 4096))
      frames_step y same lends m' x' v moved call =
          let p = frames_mapped I S o h m set opened r x adm k w free y same m' x' v moved call in
          let n = new_mapping r p.place in
          let below = frames_placed I S o h m set opened r x adm k w free y same v call.answers in
          let own = (in_frames_below I.kind I.possible law S o h (length x) r adm k below.0 free below.1).own in
          let chose = sym p.chosen ∙ below.2 in
          let here : p.place ≡ moved_on (r.buffer.address % 4096) below.0 = cc in
          let land : p.place.landing ≡ below.0.landing + r.buffer.address % 4096 = ap (λ (z : Placement). z.landing) here in
          let first : first_frame n ≡ k = omega arith in
          opened_step m' (lent q k (Some r.buffer)) x' (v.0 + r.buffer.address % 4096) call.fixed (ap (λ (z : Frame). z.0) (lent_first q k (Some r.buffer))) (lent_count q k (Some r.buffer)) p
          (λ over f. lends place f ∙ ap (cond (eqb k f) (Some r.buffer)) (t.lends some f)
          ∙ ap (λ (z : Bool). cond z (Some r.buffer) (loan_of o f)) (ap (λ (z : ℕ). eqb z f) (sym first) ∙ sym (ap (λ (z : Bool). not z && eqb (first_frame n) f) w))
          ∙ sym (loan_insert S.frames (I.kind.reserved (below_setup S)) (pool_first S) (pool_count S) n o f over.standing))
          (subst (λ (z : Request). I.leaves m (opens z) m') (sym (asked_frames S o r k w free)) call.left)
          (sym (cond-false (whole r.buffer.address r.buffer.length) q (lent_found q r (frames_of_pool q o count)) w ∙ ap (lent_found q r) free))

      -- the same of an answer that is passed on, for a request that is known to be the one for the frames
      module _ (b' : Request) (is : b' ≡ b) where
        pub would_errs : (a : Result DeviceAddress Fault) (f : Fault) → Err f ≡ raises a → tells_at a ≡ answer (here I m x) (seen (I.opened m) x) (map b') → layer_choice I.kind.choice S o r ≡ Err f
        would_errs (Ok v) f e h = absurd (cc)
        would_errs (Err g) f e h =
            let same : raised g ≡ f = cc in
            would_frames_refused g (h ∙ ap (λ (z : Request). answer (here I m x) (seen (I.opened m) x) (map z)) is) ∙ ap (λ (z : Fault). Err z) same

        pub would_places : (a : Result DeviceAddress Fault) (v : DeviceAddress) → Ok v ≡ raises a → tells_at a ≡ answer (here I m x) (seen (I.opened m) x) (map b')
            → at (v.0 + r.buffer.address % 4096) ≡ answer W (seen o x) (map r)
        would_places (Err g) v e h = absurd (cc)
        would_places (Ok w') v e h =
            let same : w' ≡ v = cc in
            would_frames v (ap (λ (z : DeviceAddress). tells_at (Ok z)) (sym same) ∙ h ∙ ap (λ (z : Request). answer (here I m x) (seen (I.opened m) x) (map z)) is)

        pub passed_aligned : (y : List ℕ) → length y ≡ length x → (a : Result DeviceAddress Fault) (v : DeviceAddress) → Ok v ≡ raises a
            → tells_at a ≡ answer (here I m y) (seen (I.opened m) y) (map b') → v.0 % 4096 ≡ 0
        passed_aligned y same (Err g) v e h = absurd (cc)
        passed_aligned y same (Ok w') v e h =
            let here_is : w' ≡ v = cc in
            aligned y same v (ap (λ (z : DeviceAddress). tells_at (Ok z)) (sym here_is) ∙ h ∙ ap (λ (z : Request). answer (here I m y) (seen (I.opened m) y) (map z)) is)

        pub passed_step : (y : List ℕ) → length y ≡ length x → (m' : M) (q' : Pool) (x' : List ℕ) (a : Result DeviceAddress Fault) (v : DeviceAddress) → Ok v ≡ raises a → q' ≡ lent q k (Some r.buffer)
            → (has_record q k ≡ true → (f : ℕ) → loan_in q' f ≡ cond (eqb k f) (Some r.buffer) (loan_in q f))
            → bytes_of y ≡ copy (k * 4096 + r.buffer.address % 4096) r.buffer.address r.buffer.length (clear (k * 4096) (count * 4096) (bytes_of x))
            → Called I m m' y x' (map b') (tells_at a) → Step I m q x m' q' x' (map r) (opens r) (at (v.0 + r.buffer.address % 4096))
        passed_step y same m' q' x' (Err g) v e l lends moved call = absurd (cc)
        passed_step y same m' q' x' (Ok w') v e l lends moved call =
            let here_is : w' ≡ v = cc in
            subst (λ (z : Pool). Step I m q x m' z x' (map r) (opens r) (at (v.0 + r.buffer.address % 4096))) (sym l)
            (frames_step y same (λ p f. ap (λ (z : Pool). loan_in z f) (sym l) ∙ lends p f) m' x' v moved
            (subst (λ (z : DeviceAddress). Called I m m' y x' (map b) (tells_at (Ok z))) here_is (subst (λ (z : Request). Called I m m' y x' (map z) (tells_at (Ok w'))) is call)))
