-- The calls of a layer, put together from its checks and what the mapper below did.
use Rattle.mapper.specs.declared.laws.Meaning.{Ghosts as Meaning}
use Rattle.std.proofs.Common.{◌≡◌, ℕ, ◌<◌, Bool, true, false, cond, ltb, not, List, [], None, Ok, Err, Result, MatchResult, sym, refl, ap, ◌∙◌, subst}
use Rattle.std.specs.Result.{IsErrAnd}
use Rattle.std.proofs.lemmas.Bool.{cond-false, ltb-true, not-true}
use Rattle.units.specs.declared.direction.Access.{Access}
use Rattle.units.specs.declared.fault.FaultKind.TheVariants.{Absent}
use Rattle.units.specs.declared.fault.Fault.{Fault}
use Rattle.units.specs.declared.mapping.Mapping.{Mapping}
use Rattle.units.specs.declared.mapping.Request.{Request}
use Rattle.units.specs.declared.mapping.Sync.{Sync}
use Rattle.units.specs.declared.number.DeviceAddress.{DeviceAddress}
use Rattle.meaning.specs.Memory.{bytes_of}
use Rattle.meaning.specs.Mappings.{find, reach_of}
use Rattle.meaning.specs.Calls.{Call, map, unmap, sync, fails}
use Rattle.meaning.specs.Checks.{Verdict, errs, allowed, admitted, unmap_checks, sync_checks, verdict}
use Rattle.meaning.specs.Effects.{answer, answered, said}
use Rattle.meaning.specs.Told.{tells_at, tells_done}
use Rattle.mapper.specs.Tasks.{task_of, Left}
use Rattle.mapper.specs.Called.{here, seen, Called}
use Rattle.mapper.proofs.Calling.{refused}
use Rattle.layer.specs.Lifting.{Loans, lifts, opened_above}
use Rattle.pool.specs.declared.pool.Pool.{Pool}
use Rattle.layer_steps.specs.Tied.{Tied}
use Rattle.layer_steps.proofs.Props.{tied_prop}
use Rattle.bounce.specs.declared.bounce.Bounce.{Bounce}

-- a layer that was not refused has a pool
pub some_frames : (b : Bool) (count : ℕ) → b ≡ not (ltb 0 count) → b ≡ false → 0 < count
some_frames b count e f = ltb-true 0 count (not_false (ltb 0 count) (sym e ∙ f))
  where
    not_false : (t : Bool) → not t ≡ false → t ≡ true
    not_false true h = refl
    not_false false h = absurd (cc)

pub no_frames : (b : Bool) (count : ℕ) → b ≡ not (ltb 0 count) → b ≡ true → ltb 0 count ≡ false
no_frames b count e f = not-true (ltb 0 count) (sym e ∙ f)

module _ {N : Type 0} (B : Meaning N) (b : N) (x : List ℕ) where
  -- checks that refuse
  pub map_refused : (r : Request) (a : Result DeviceAddress Fault) (f : Fault) → a ≡ Err f → ((v : Verdict) → admitted (here B b x) r v ≡ errs f) → Called B b b x x (map r) (tells_at a)
  unfolding verdict
  map_refused r a f e h = subst (λ (z : Result DeviceAddress Fault). Called B b b x x (map r) (tells_at z)) (sym e) (refused B b x (map r) f (h _))

  pub would_refused : (r : Request) (a : Result DeviceAddress Fault) (f : Fault) → a ≡ Err f → ((v : Verdict) → admitted (here B b x) r v ≡ errs f)
      → tells_at a ≡ answer (here B b x) (seen (B.opened b) x) (map r)
  unfolding verdict
  would_refused r a f e h = ap tells_at e ∙ sym (ap (λ (z : Verdict). answered z (said (here B b x) (seen (B.opened b) x) (map r))) (h _))

  pub unmap_refused : (c d v n : ℕ) (a : Result (Unit {0}) Fault) (f : Fault) → a ≡ Err f → unmap_checks (here B b x) (B.opened b) c d v n ≡ errs f → Called B b b x x (unmap c d v n) (tells_done a)
  unfolding verdict
  unmap_refused c d v n a f e h = subst (λ (z : Result (Unit {0}) Fault). Called B b b x x (unmap c d v n) (tells_done z)) (sym e) (refused B b x (unmap c d v n) f h)

  pub sync_refused : (s : Sync) (c v : ℕ) (a : Result (Unit {0}) Fault) (f : Fault) → a ≡ Err f → sync_checks (here B b x) (B.opened b) s c v ≡ errs f → Called B b b x x (sync s c v) (tells_done a)
  unfolding verdict
  sync_refused s c v a f e h = subst (λ (z : Result (Unit {0}) Fault). Called B b b x x (sync s c v) (tells_done z)) (sym e) (refused B b x (sync s c v) f h)

  pub choice_refused : (r : Request) (a : Result DeviceAddress Fault) (f : Fault) → a ≡ Err f → verdict (here B b x) (B.opened b) (map r) ≡ errs f → Called B b b x x (map r) (tells_at a)
  choice_refused r a f e h = subst (λ (z : Result DeviceAddress Fault). Called B b b x x (map r) (tells_at z)) (sym e) (refused B b x (map r) f h)

  -- a refusal below, which leaves all as it was
  pub refused_below : (b' : N) (x' : List ℕ) (k : Call) (f : Fault) → b' ≡ b → bytes_of x' ≡ bytes_of x → verdict (here B b x) (B.opened b) k ≡ errs f → Called B b b' x x' k (fails f)
  refused_below b' x' k f e s h =
      let z = refused B b x k f h in
      record {
        fixed = ap B.setup e;
        answers = z.answers;
        opens = ap B.opened e ∙ z.opens;
        memory = s ∙ z.memory;
        left = subst (λ (y : N). Left B.leaves b y (task_of k) (fails f)) (sym e) z.left;
      }

-- what the exit of a `?` returns
pub exit : {X : Type 0} (r : Result X Fault) (f : Fault) → IsErrAnd r (λ e. e ≡ f) → r ≡ Err f
exit (Ok x) f h = absurd h
exit (Err e) f h = ap (λ (z : Fault). Err z) h

-- the same answer, told otherwise
module _ {N : Type 0} (B : Meaning N) (b b' : N) (y x' : List ℕ) where
  pub answers_at : (k : Call) (r a : Result DeviceAddress Fault) → r ≡ a → Called B b b' y x' k (tells_at a) → Called B b b' y x' k (tells_at r)
  answers_at k r a e call = subst (λ (z : Result DeviceAddress Fault). Called B b b' y x' k (tells_at z)) (sym e) call

  pub answers_done : (k : Call) (r a : Result (Unit {0}) Fault) → r ≡ a → Called B b b' y x' k (tells_done a) → Called B b b' y x' k (tells_done r)
  answers_done k r a e call = subst (λ (z : Result (Unit {0}) Fault). Called B b b' y x' k (tells_done z)) (sym e) call

-- one of two facts, by a result
pub either_way : {X Y P Q P' Q' : Type 0} (r : Result X Y) → MatchResult r (λ x. P) (λ y. Q) → (P → P') → (Q → Q') → MatchResult r (λ x. P') (λ y. Q')
either_way (Ok x) h f g = f h
either_way (Err y) h f g = g h

-- layers over one mapper with one pool are one
module _ {M : Type 0} (I : Meaning M) where
  one_lower : (b : Bounce M I) (m : M) (q : Pool) (t : Tied I m q) → m ≡ b.lower → q ≡ b.pool → record { lower = m; pool = q; tied = t } ≡ b
  one_lower b m q t e f =
      let P : M → Type 0 = λ m'. (t' : Tied I m' b.pool) → ◌≡◌ {A = Bounce M I} (record { lower = m'; pool = b.pool; tied = t' }) b in
      let at : P b.lower = λ t' i. record { lower = b.lower; pool = b.pool; tied = tied_prop I b.lower b.pool t' b.tied i } in
      let Q : Pool → Type 0 = λ q'. (t' : Tied I m q') → ◌≡◌ {A = Bounce M I} (record { lower = m; pool = q'; tied = t' }) b in
      let here : Q b.pool = subst P (sym e) at in
      subst Q (sym f) here t

  pub same_layer : (b b' : Bounce M I) → b'.lower ≡ b.lower → b'.pool ≡ b.pool → b' ≡ b
  same_layer b b' e f = one_lower b b'.lower b'.pool b'.tied e f

-- without a pool nothing is found, and nothing is reached
pub none_found : (count : ℕ) (loan : Loans) (p : List Mapping) (c v : ℕ) → ltb 0 count ≡ false → find (opened_above count loan p) c v ≡ None
unfolding find
none_found count loan p c v e = ap (λ (z : List Mapping). find z c v) (cond-false (ltb 0 count) (lifts loan p) [] e)

pub none_allowed : (count : ℕ) (loan : Loans) (p : List Mapping) (c v : ℕ) (level : ℕ) (a : Access) (f : Fault) → ltb 0 count ≡ false → f ≡ record { kind = Absent; layer = 0; place = 0 }
    → allowed (reach_of (opened_above count loan p) c v) (cond (ltb 0 count) level 0) a ≡ errs f
unfolding reach_of
none_allowed count loan p c v level a f e h =
    ap (λ (z : List Mapping). allowed (reach_of z c v) (cond (ltb 0 count) level 0) a) (cond-false (ltb 0 count) (lifts loan p) [] e)
    ∙ ap (λ (z : ℕ). allowed None z a) (cond-false (ltb 0 count) level 0 e) ∙ ap errs (sym h)
