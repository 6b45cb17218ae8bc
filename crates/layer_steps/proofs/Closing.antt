-- Unmap and sync over a layer, from what the mapper below answers and leaves.
use Rattle.mapper.specs.declared.laws.Meaning.{Ghosts as Meaning}
use Rattle.std.proofs.Common.{◌≡◌, ℕ, ◌+◌, ◌*◌, ◌/◌, ◌<◌, ◌≤◌, Bool, true, cond, not, ◌&&◌, eqb, List, length, Some, None, Ok, Err, Option, Result, sym, refl, ap, ◌∙◌, subst, inl, inr, arith}
use Rattle.std.proofs.lemmas.Bool.{cases_Bool, cases_eq, cond-true, cond-false, eq-eqb, and_from}
use Rattle.std.proofs.lemmas.Bool.Decides.{nat_tests}
use Rattle.units.specs.declared.buffer.Buffer.{Buffer}
use Rattle.units.specs.declared.fault.Fault.{Fault}
use Rattle.units.specs.declared.mapping.Mapping.{Mapping}
use Rattle.units.specs.declared.mapping.Sync.{Sync}
use Rattle.units.specs.declared.number.Frame.{Frame}
use Rattle.units.specs.Buffers.{span}
use Rattle.units.specs.Directions.{code_of}
use Rattle.units.specs.Faults.{raises}
use Rattle.units.specs.Holders.{holder_after}
use Rattle.meaning.specs.Memory.{bytes_of, within}
use Rattle.meaning.specs.Mappings.{In, starts, first_frame, page_count, remove, turn, find}
use Rattle.meaning.specs.Worlds.{Setup, World}
use Rattle.meaning.specs.Calls.{Answer, unmap, sync, done}
use Rattle.meaning.specs.Checks.{fine, unmap_checks, sync_checks, verdict}
use Rattle.meaning.specs.Effects.{on_found, copy_at_unmap, copy_at_sync}
use Rattle.meaning.specs.Told.{tells_done}
use Rattle.meaning.proofs.Facts.{within_true}
use Rattle.meaning.proofs.Lists.{find_is_in, find_starts, in_remove}
use Rattle.meaning.proofs.Unique.{one_start}
use Rattle.mapper.specs.Tasks.{closes, turns}
use Rattle.mapper.specs.Called.{Called}
use Rattle.layer.specs.Lifting.{loan_of}
use Rattle.layer.specs.Lowering.{base_of, lowered}
use Rattle.layer.specs.Pools.{below_setup, pool_first, pool_count, is_whole}
use Rattle.layer.specs.Possible.{Over}
use Rattle.layer.specs.Lawful.{Lawful}
use Rattle.layer.proofs.Calls.{unmap_succeeds, unmap_opens, unmap_moves, sync_succeeds, sync_opens, sync_moves}
use Rattle.layer.proofs.Keeping.{shrinks_over, turns_over}
use Rattle.layer.proofs.Lawful.{lawful_of}
use Rattle.layer.proofs.LawsAbove.{both, disjoint_over, bounds_over}
use Rattle.layer.proofs.Loans.{borrows, frames_in, frames_out, one_borrower, own_loan, loan_remove, loan_turn}
use Rattle.layer.proofs.Lowered.{down_frame, down_count, from_lowered}
use Rattle.pool.specs.declared.pool.Pool.{Pool}
use Rattle.pool.specs.Lending.{loan_in, lent}
use Rattle.pool.proofs.Lent.{lent_first, lent_count}
use Rattle.layer_steps.specs.Freed.{Unlanded}
use Rattle.layer_steps.specs.Tied.{setup_over, open_over, Tied}
use Rattle.layer_steps.proofs.Over.{over_here, set_here, opened_here, settled}
use Rattle.layer_steps.proofs.Step.{world_over, some_pool, Step, Named, named, Turns, turns_named}

module _ {M : Type 0} (I : Meaning M) (m : M) (q : Pool) (t : Tied I m q) (some : 0 < q.count) (x : List ℕ) (c v : ℕ) (n : Mapping) (found : find (open_over I m q) c v ≡ Some n) where
  abbrev S : Setup
  S = setup_over I m q

  abbrev o : List Mapping
  o = open_over I m q

  abbrev W : World
  W = world_over I m q x

  abbrev h : Over I.kind I.possible S o
  h = over_here I m q t some

  abbrev set : I.setup m ≡ below_setup S
  set = set_here I m q t some

  abbrev opened : I.opened m ≡ lowered o
  opened = opened_here I m q t some

  abbrev law : Lawful I.kind I.possible
  law = lawful_of I

  is_in : In n o
  is_in = find_is_in c v o n found

  short : page_count n ≤ 8
  short = ((bounds_over I.kind I.possible law S o h).each n is_in).short

  -- buffer and landing lie in the memory handed over
  buffer_inside : length x ≡ S.frames * 4096 → n.buffer.address + n.buffer.length ≤ length x
  buffer_inside e = let a = ((bounds_over I.kind I.possible law S o h).each n is_in).inside in omega arith

  landing_inside : length x ≡ S.frames * 4096 → n.landing + n.buffer.length ≤ length x
  landing_inside e =
      let a = ((bounds_over I.kind I.possible law S o h).each n is_in).landing in
      let d = (disjoint_over I.kind I.possible law S o h).offset_landing n is_in in omega arith

  one : (k : Mapping) → In k o → starts c v k ≡ true → k ≡ n
  one k i s =
      let b = (bounds_over I.kind I.possible law S o h).each in
      one_start S o (disjoint_over I.kind I.possible law S o h) c v n k is_in i (b n is_in).some (b k i).some (find_starts c v o n found) s

  abbrev given : Pool
  given = lent q (first_frame n) None

  -- the loans once its frames are given back; of a whole buffer none are lent
  given_loans : ((f : ℕ) → loan_in given f ≡ cond (eqb (first_frame n) f) None (loan_in q f)) → (f : ℕ) → loan_in given f ≡ loan_of (remove c v o) f
  given_loans back f =
      back f ∙ ap (cond (eqb (first_frame n) f) None) (t.lends some f) ∙ elim (cases_Bool (is_whole n)) [
        | inl w ↦ elim (cases_eq (first_frame n) f) [
          | inl e ↦ cond-true (eqb (first_frame n) f) None (loan_of o f) (eq-eqb (first_frame n) f e)
              ∙ sym (ap (loan_of o) (sym e) ∙ own_loan S.frames (I.kind.reserved (below_setup S)) (pool_first S) (pool_count S) o h.standing n is_in ∙ cond-true (is_whole n) None (Some n.buffer) w)
              ∙ sym (cond-false (borrows n f) None (loan_of o f) (ap (λ (z : Bool). not z && eqb (first_frame n) f) w))
          | inr d ↦ cond-false (eqb (first_frame n) f) None (loan_of o f) (grind (arith, nat_tests))
              ∙ sym (cond-false (borrows n f) None (loan_of o f) (ap (λ (z : Bool). not z && eqb (first_frame n) f) w))
        ]
        | inr w ↦ ap (λ (z : Bool). cond z None (loan_of o f)) (sym (ap (λ (z : Bool). not z && eqb (first_frame n) f) w))
      ] ∙ sym (loan_remove S.frames (I.kind.reserved (below_setup S)) (pool_first S) (pool_count S) c v n o f h.standing is_in (find_starts c v o n found) one)

  -- of what is open below once it is closed, nothing lands in the frames that were lent to it
  freed_below : (p : List Mapping) → p ≡ lowered (remove c v o) → Unlanded q p (first_frame n)
  freed_below p e b lent k i a lands inside =
      let reserved = I.kind.reserved (below_setup S) in
      let each = h.standing.each in
      let after = shrinks_over I.kind I.possible law S o h c v in
      let r = from_lowered k (remove c v o) (subst (In k) e i) in
      let j = in_remove c v r.mapping o r.is_open in
      let loan : cond (is_whole n) None (Some n.buffer) ≡ Some b =
      sym (own_loan S.frames reserved (pool_first S) (pool_count S) o h.standing n is_in) ∙ sym (t.lends some (first_frame n)) ∙ lent in
      elim (cases_Bool (is_whole n)) [
        | inl w ↦ absurd (let s = sym (cond-true (is_whole n) None (Some n.buffer) w) ∙ loan in cc)
        | inr w ↦ (let s : Some n.buffer ≡ Some b = sym (cond-false (is_whole n) None (Some n.buffer) w) ∙ loan in
            let u = within_true (first_frame n) (span b.address b.length) (a / 4096) inside in
            let low = u.0 in
            let high : a / 4096 < first_frame n + page_count n = subst (λ (z : Buffer). a / 4096 < first_frame n + span z.address z.length) (cc) u.1 in
            let from : first_frame r.mapping ≤ a / 4096 = subst (λ (z : ℕ). z ≤ a / 4096) (ap first_frame r.same ∙ down_frame r.mapping) lands.from in
            let to : a / 4096 < first_frame r.mapping + page_count r.mapping =
            subst (λ (z : ℕ). a / 4096 < first_frame r.mapping + z) (ap page_count r.same ∙ down_count r.mapping)
            (subst (λ (z : ℕ). a / 4096 < z + page_count k) (ap first_frame r.same ∙ down_frame r.mapping) lands.to) in
            elim (cases_Bool (is_whole r.mapping)) [
              | inl y ↦ absurd (both (within (pool_first S) (pool_count S) (a / 4096)) (frames_in S.frames reserved (pool_first S) (pool_count S) n (a / 4096) (each n is_in) w low high)
                  (frames_out S.frames reserved (pool_first S) (pool_count S) r.mapping (a / 4096) (each r.mapping j) y from to))
              | inr y ↦ (let z = one_borrower S.frames reserved (pool_first S) (pool_count S) o h.standing n r.mapping (a / 4096) is_in j w y low high from to in
                  let kept = own_loan S.frames reserved (pool_first S) (pool_count S) (remove c v o) after.standing r.mapping r.is_open ∙ cond-false (is_whole r.mapping) None (Some r.mapping.buffer) y in
                  let gone = loan_remove S.frames reserved (pool_first S) (pool_count S) c v n o (first_frame n) h.standing is_in (find_starts c v o n found) one
                  ∙ cond-true (borrows n (first_frame n)) None (loan_of o (first_frame n)) (and_from (not (is_whole n)) (eqb (first_frame n) (first_frame n)) (ap not w) (eq-eqb (first_frame n) (first_frame n) refl)) in
                  let same : loan_of (remove c v o) (first_frame r.mapping) ≡ loan_of (remove c v o) (first_frame n) = ap (λ (g : Mapping). loan_of (remove c v o) (first_frame g)) z in
                  absurd (cc))
            ])
      ]

  module _ (y : List ℕ) (same : length y ≡ length x) where
    module _ (d len : ℕ) (checks : unmap_checks W o c d v len ≡ fine) where
      abbrev N : Named W o c v d len n
      N = named W o c v d len n checks found

      size : length y ≡ S.frames * 4096
      size = same ∙ N.memory

      as_named : (m' : M) (x' : List ℕ) (a : Answer) → Called I m m' y x' (unmap c d (base_of v) (page_count n * 4096)) a → Called I m m' y x' (unmap c (code_of n.direction) (base_of v) (page_count n * 4096)) a
      as_named m' x' a call = subst (λ (z : ℕ). Called I m m' y x' (unmap c z (base_of v) (page_count n * 4096)) a) (sym N.direction) call

      closes_below : (m' : M) (x' : List ℕ) (f : Fault) → Called I m m' y x' (unmap c d (base_of v) (page_count n * 4096)) (tells_done (Err f)) → ⊥
      closes_below m' x' f call = unmap_succeeds I S o h m set opened c v n found y size m' x' f (as_named m' x' (tells_done (Err f)) call)

      closed_step : ((f : ℕ) → loan_in given f ≡ cond (eqb (first_frame n) f) None (loan_in q f)) → (m' : M) (x' : List ℕ) → bytes_of y ≡ copy_at_unmap n (bytes_of x) → Called I m m' y x' (unmap c d (base_of v) (page_count n * 4096)) done
          → Step I m q x m' given x' (unmap c d v len) (closes c v) done
      unfolding verdict
      closed_step back m' x' copied call =
          let opens = unmap_opens I S o h m set opened c v n found y size m' x' done (as_named m' x' done call) in
          let moves = unmap_moves I S o h m set opened c v n found y size m' x' done (as_named m' x' done call) in
          let after = settled I m q t some m' given (remove c v o) (ap (λ (z : Frame). z.0) (lent_first q (first_frame n) None)) (lent_count q (first_frame n) None) call.fixed opens
          (shrinks_over I.kind I.possible law S o h c v) (given_loans back) in
          record {
            set = call.fixed;
            first = ap (λ (z : Frame). z.0) (lent_first q (first_frame n) None);
            count = lent_count q (first_frame n) None;
            passes = checks;
            says = refl;
            opens = after.opened;
            moves = moves ∙ copied ∙ sym (ap (λ (z : Option Mapping). on_found z (bytes_of x) (λ k. copy_at_unmap k (bytes_of x))) found);
            tied = after.tied;
            left = (call.left, sym (ap (λ (z : Option Mapping). on_found z q (λ k. lent q (first_frame k) None)) found));
          }

      freed_then : (m' : M) (x' : List ℕ) (a : Result (Unit {0}) Fault) → Called I m m' y x' (unmap c d (base_of v) (page_count n * 4096)) (tells_done a) → Unlanded q (I.opened m') (first_frame n)
      freed_then m' x' a call = freed_below (I.opened m') (unmap_opens I S o h m set opened c v n found y size m' x' (tells_done a) (as_named m' x' (tells_done a) call))

      -- an answer below that is passed on is no refusal
      closes_only : (m' : M) (x' : List ℕ) (a : Result (Unit {0}) Fault) (f : Fault) → Err f ≡ raises a → Called I m m' y x' (unmap c d (base_of v) (page_count n * 4096)) (tells_done a) → ⊥
      closes_only m' x' (Ok u) f e call = cc
      closes_only m' x' (Err g) f e call = closes_below m' x' g call

      passed_close : (m' : M) (q' : Pool) (x' : List ℕ) (a : Result (Unit {0}) Fault) (f : ℕ) → f ≡ first_frame n → Ok tt ≡ raises a → q' ≡ lent q f None → ((k : ℕ) → loan_in q' k ≡ cond (eqb f k) None (loan_in q k)) → bytes_of y ≡ copy_at_unmap n (bytes_of x)
          → Called I m m' y x' (unmap c d (base_of v) (page_count n * 4096)) (tells_done a) → Step I m q x m' q' x' (unmap c d v len) (closes c v) done
      passed_close m' q' x' (Err g) f s e l back copied call = absurd (cc)
      passed_close m' q' x' (Ok u) f s e l back copied call =
          let here = l ∙ ap (λ (z : ℕ). lent q z None) s in
          subst (λ (z : Pool). Step I m q x m' z x' (unmap c d v len) (closes c v) done) (sym here)
          (closed_step (λ k. ap (λ (z : Pool). loan_in z k) (sym here) ∙ back k ∙ ap (λ (z : ℕ). cond (eqb z k) None (loan_in q k)) s) m' x' copied call)

    module _ (s : Sync) (checks : sync_checks W o s c v ≡ fine) where
      abbrev T : Turns W c s n
      T = turns_named W o c v s n checks found

      sized : length y ≡ S.frames * 4096
      sized = same ∙ T.memory

      turns_below : (m' : M) (x' : List ℕ) (f : Fault) → Called I m m' y x' (sync s c (base_of v)) (tells_done (Err f)) → ⊥
      turns_below m' x' f call = sync_succeeds I S o h m set opened c v n found y sized s T.turns m' x' f call

      turned_step : (m' : M) (x' : List ℕ) → bytes_of y ≡ copy_at_sync s n (bytes_of x) → Called I m m' y x' (sync s c (base_of v)) done
          → Step I m q x m' q x' (sync s c v) (turns s c v) done
      unfolding verdict
      turned_step m' x' copied call =
          let opens = sync_opens I S o h m set opened c v n found y sized s T.turns m' x' done call in
          let moves = sync_moves I S o h m set opened c v n found y sized s T.turns m' x' done call in
          let after = settled I m q t some m' q (turn (holder_after s) c v o) refl refl call.fixed opens
          (turns_over I.kind I.possible law S o h (holder_after s) c v) (λ f. t.lends some f ∙ sym (loan_turn (holder_after s) c v o f)) in
          record {
            set = call.fixed;
            first = refl;
            count = refl;
            passes = checks;
            says = refl;
            opens = after.opened;
            moves = moves ∙ copied ∙ sym (ap (λ (z : Option Mapping). on_found z (bytes_of x) (λ k. copy_at_sync s k (bytes_of x))) found);
            tied = after.tied;
            left = (call.left, refl);
          }

      passed_turn : (m' : M) (x' : List ℕ) (a : Result (Unit {0}) Fault) → bytes_of y ≡ copy_at_sync s n (bytes_of x) → Called I m m' y x' (sync s c (base_of v)) (tells_done a)
          → (a ≡ Ok tt) × Step I m q x m' q x' (sync s c v) (turns s c v) done
      passed_turn m' x' (Ok u) copied call = (refl, turned_step m' x' copied call)
      passed_turn m' x' (Err f) copied call = absurd (turns_below m' x' f call)

-- An unmap that passes its checks, as the layer tells it below: at the start of its page, of whole frames ---
module _ {M : Type 0} (I : Meaning M) (m : M) (q : Pool) (t : Tied I m q) (x : List ℕ) (c d v len : ℕ) (n : Mapping)
    (k : (unmap_checks (world_over I m q x) (open_over I m q) c d v len ≡ fine) × (find (open_over I m q) c v ≡ Some n)) where
  abbrev its : Named (world_over I m q x) (open_over I m q) c v d len n
  its = named (world_over I m q x) (open_over I m q) c v d len n k.0 k.1

  pool : 0 < q.count
  pool = some_pool c q.count (I.setup m).cards its.card

  pub unmap_short : page_count n ≤ 8
  unmap_short = short I m q t pool x c v n k.1

  pub unmap_buffer : n.buffer.address + n.buffer.length ≤ length x
  unmap_buffer = buffer_inside I m q t pool x c v n k.1 its.memory

  pub unmap_landing : n.landing + n.buffer.length ≤ length x
  unmap_landing = landing_inside I m q t pool x c v n k.1 its.memory

  module _ (y : List ℕ) (same : length y ≡ length x) (m' : M) (x' : List ℕ) (a : Result (Unit {0}) Fault) (w s : ℕ) (page : w ≡ base_of v) (spans : s ≡ page_count n)
      (call : Called I m m' y x' (unmap c d w (s * 4096)) (tells_done a)) where
    below : Called I m m' y x' (unmap c d (base_of v) (page_count n * 4096)) (tells_done a)
    below = subst (λ (z : ℕ). Called I m m' y x' (unmap c d (base_of v) (z * 4096)) (tells_done a)) spans (subst (λ (z : ℕ). Called I m m' y x' (unmap c d z (s * 4096)) (tells_done a)) page call)

    pub unmap_only : (f : Fault) → Err f ≡ raises a → ⊥
    unmap_only f e = closes_only I m q t pool x c v n k.1 y same d len k.0 m' x' a f e below

    pub unmap_frees : (f : ℕ) → f ≡ first_frame n → Unlanded q (I.opened m') f
    unmap_frees f frame = subst (Unlanded q (I.opened m')) (sym frame) (freed_then I m q t pool x c v n k.1 y same d len k.0 m' x' a below)

    pub unmap_step : bytes_of y ≡ copy_at_unmap n (bytes_of x) → Ok tt ≡ raises a → (q' : Pool) (f : ℕ) → f ≡ first_frame n → q' ≡ lent q f None → ((g : ℕ) → loan_in q' g ≡ cond (eqb f g) None (loan_in q g))
        → Step I m q x m' q' x' (unmap c d v len) (closes c v) done
    unmap_step copied e q' f frame l back = passed_close I m q t pool x c v n k.1 y same d len k.0 m' q' x' a f frame e l back copied below

-- A sync that passes its checks -----------------------------------------------------------------------------
module _ {M : Type 0} (I : Meaning M) (m : M) (q : Pool) (t : Tied I m q) (x : List ℕ) (s : Sync) (c v : ℕ) (n : Mapping)
    (k : (sync_checks (world_over I m q x) (open_over I m q) s c v ≡ fine) × (find (open_over I m q) c v ≡ Some n)) where
  abbrev turned : Turns (world_over I m q x) c s n
  turned = turns_named (world_over I m q x) (open_over I m q) c v s n k.0 k.1

  pool_there : 0 < q.count
  pool_there = some_pool c q.count (I.setup m).cards turned.card

  pub sync_buffer : n.buffer.address + n.buffer.length ≤ length x
  sync_buffer = buffer_inside I m q t pool_there x c v n k.1 turned.memory

  pub sync_landing : n.landing + n.buffer.length ≤ length x
  sync_landing = landing_inside I m q t pool_there x c v n k.1 turned.memory

  pub sync_step : (y : List ℕ) → length y ≡ length x → (m' : M) (x' : List ℕ) (a : Result (Unit {0}) Fault) (w : ℕ) → w ≡ base_of v → bytes_of y ≡ copy_at_sync s n (bytes_of x)
      → Called I m m' y x' (sync s c w) (tells_done a) → (a ≡ Ok tt) × Step I m q x m' q x' (sync s c v) (turns s c v) done
  sync_step y same m' x' a w page copied call =
      passed_turn I m q t pool_there x c v n k.1 y same s k.0 m' x' a copied (subst (λ (z : ℕ). Called I m m' y x' (sync s c z) (tells_done a)) page call)
