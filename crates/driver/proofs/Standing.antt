-- A driver's mapping stands through its calls.
use Rattle.mapper.specs.declared.laws.Meaning.{Ghosts as Meaning}
use Rattle.std.proofs.Common.{zero, suc, cond, leb, ◌/◌, ◌≡◌, ℕ, Bool, true, false, ◌&&◌, eqb, List, Ok, Err, Option, Some, None, is_some, sym, refl, ap, ◌∙◌, subst, arith}
use Rattle.std.proofs.lemmas.Bool.Decides.{nat_tests}
use Rattle.units.specs.declared.buffer.Buffer.{Buffer}
use Rattle.units.specs.declared.direction.Direction.{Direction}
use Rattle.units.specs.declared.direction.Direction.TheVariants.{Both, ToCard, FromCard}
use Rattle.units.specs.declared.fault.Fault.{Fault}
use Rattle.units.specs.declared.mapping.Holder.{Holder}
use Rattle.units.specs.declared.mapping.Holder.TheVariants.{ByCard}
use Rattle.units.specs.declared.mapping.Mapping.{Mapping}
use Rattle.units.specs.declared.mapping.Placement.{Placement}
use Rattle.units.specs.declared.mapping.Request.{Request}
use Rattle.units.specs.declared.mapping.Sync.{Sync}
use Rattle.units.specs.declared.mapping.UnmapRequest.{UnmapRequest}
use Rattle.units.specs.declared.number.DeviceAddress.{DeviceAddress}
use Rattle.units.specs.Buffers.{span}
use Rattle.units.specs.Directions.{code_of, coded}
use Rattle.units.specs.Faults.{number_of, is_choice_kind}
use Rattle.units.specs.Holders.{holder_after, turned_by}
use Rattle.meaning.specs.Mappings.{In, starts, turned, insert, remove, turn, find}
use Rattle.meaning.specs.Worlds.{Choice, World}
use Rattle.meaning.specs.Calls.{Answer, Call, fails, done, at, map, unmap, sync}
use Rattle.units.specs.declared.fault.FaultKind.{FaultKind}
use Rattle.units.specs.declared.fault.FaultKind.TheVariants.{NoCard, NoDirection, WrongLength, OutsideMemory, ReservedFrame, OtherMapping, WrongHolder}
use Rattle.meaning.specs.Checks.{Verdict, fine, errs, unless, ◌then◌, is_card, is_direction, is_memory, is_buffer, in_memory, none_of, none_reserved, fault, chosen, as_opened, turnable, verdict}
use Rattle.meaning.specs.Effects.{State, answer, answered, direction_of, new_mapping, opens_after, on_choice, on_fine}
use Rattle.meaning.proofs.Lists.{insert_in, insert_keeps, find_in, find_is_in, find_starts}
use Rattle.meaning.proofs.Unique.{one_start}
use Rattle.mapper.specs.Tasks.{Task, task_of, Left}
use Rattle.mapper.specs.Called.{here}
use Rattle.engine.specs.declared.Engine.{Engine}
use Rattle.engine.specs.Made.{state, Made}
use Rattle.driver.specs.declared.buffer.Transfer.{Transfer}
use Rattle.driver.specs.Stands.{request_of, closing_of, Stands, is_mismatch_kind, StillStands, KeepsAll, KeepsOthers}
use Rattle.driver.proofs.Finding.{find_removed, find_turned, find_removed_other, find_turned_other}

-- Verdicts ------------------------------------------------------------------------------------------------

done_fine : (w : Verdict) → done ≡ answered w done → w ≡ fine
done_fine fine e = refl
done_fine (errs g) e = absurd (cc)

fails_errs : (w : Verdict) (f : Fault) → fails f ≡ answered w done → w ≡ errs f
fails_errs fine f e = absurd (cc)
fails_errs (errs g) f e = let same : f ≡ g = cc in ap (λ (k : Fault). errs k) (sym same)

-- no error of the verdict says that something else is open
abbrev Other : Verdict → Type 0
Other fine = Unit {0}
Other (errs f) = is_mismatch_kind f.kind ≡ false

other_then : (v w : Verdict) → Other v → Other w → Other (v then w)
other_then fine w a b = b
other_then (errs f) w a b = a

other_unless : (b : Bool) (k : FaultKind) (p : ℕ) → is_mismatch_kind k ≡ false → Other (unless b k p)
other_unless true k p e = tt
other_unless false k p e = e

other_fine : (w : Verdict) → w ≡ fine → Other w
other_fine fine e = tt
other_fine (errs f) e = absurd (cc)

other_fault : (w : Verdict) (f : Fault) → w ≡ errs f → Other w → is_mismatch_kind f.kind ≡ false
other_fault fine f e a = absurd (cc)
other_fault (errs g) f e a = let same : g ≡ f = cc in subst (λ (k : Fault). is_mismatch_kind k.kind ≡ false) same a

other_none : (such : ℕ → Bool) (f n : ℕ) → Other (none_reserved such f n)
unfolding none_of
other_none such f zero = tt
other_none such f (suc n) = go (such f) (other_none such (suc f) n)
  where
    go : (b : Bool) → Other (none_of ReservedFrame such (suc f) n) → Other (cond b (fault ReservedFrame f) (none_of ReservedFrame such (suc f) n))
    go true later = refl
    go false later = later

choice_number : (k : ℕ) → (leb 9 k && leb k 12) ≡ true → (leb 6 k && leb k 8) ≡ false
choice_number k e = grind (arith, nat_tests)

other_chosen : (k : Choice) → ((f : Fault) → k ≡ Err f → is_choice_kind f.kind ≡ true) → Other (chosen k)
other_chosen (Ok p) h = tt
other_chosen (Err f) h = choice_number (number_of f.kind) (h f refl)

fails_map : (w : Verdict) (k : Choice) (f : Fault) → fails f ≡ answered w (on_choice k done (λ p. at p.device.0)) → w ≡ errs f
fails_map fine (Ok p) f e = absurd (cc)
fails_map fine (Err g) f e = absurd (cc)
fails_map (errs g) k f e = let same : f ≡ g = cc in ap (λ (z : Fault). errs z) (sym same)

-- A call that a standing mapping lets pass ----------------------------------------------------------------

turns : {o : List Mapping} {t : Transfer} {v : ℕ} {h : Holder} (s : Sync) → Stands o t v h → is_some (turned_by h s) ≡ true → turnable (find o t.card.0 v) v s ≡ fine
turns {t = t} {v = v} s a e = ap (λ (z : Option Mapping). turnable z v s) a.is_open
    ∙ (ap (λ (k : Holder). unless (is_some (turned_by k s)) WrongHolder v) a.holder ∙ ap (λ (b : Bool). unless b WrongHolder v) e)

closes : {o : List Mapping} {t : Transfer} {v : ℕ} {h : Holder} → Stands o t v h → as_opened (find o t.card.0 v) v (code_of t.direction) t.buffer.length ≡ fine
closes {t = t} {v = v} a = ap (λ (z : Option Mapping). as_opened z v (code_of t.direction) t.buffer.length) a.is_open
    ∙ (let n : a.mapping.buffer.length ≡ t.buffer.length = ap (λ (b : Buffer). b.length) a.buffer in
    let d : code_of a.mapping.direction ≡ code_of t.direction = ap code_of a.direction in
    let b : (eqb a.mapping.buffer.length t.buffer.length && eqb (code_of a.mapping.direction) (code_of t.direction)) ≡ true = grind (arith, nat_tests) in
    ap (λ (z : Bool). unless z OtherMapping a.mapping.buffer.length) b)

-- Open after a map ----------------------------------------------------------------------------------------

record Opened (o o' : List Mapping) (r : Request) (v : ℕ) : Type 0 where
  placement : Placement
  opens : o' ≡ insert (new_mapping r placement) o
  place : v ≡ placement.device.0

opened_by : (W : World) (s : State) (r : Request) (v : ℕ) → at v ≡ answer W s (map r) → Opened s.opens (opens_after W s.opens (map r)) r v
opened_by W s r v e = at_verdict (verdict W s.opens (map r)) e
  where
    at_choice : (k : Choice) → at v ≡ on_choice k done (λ p. at p.device.0) → Opened s.opens (on_choice k s.opens (λ p. insert (new_mapping r p) s.opens)) r v
    at_choice (Ok p) i = record { placement = p; opens = refl; place = cc }
    at_choice (Err f) i = absurd (cc)

    at_verdict : (w : Verdict) → at v ≡ answered w (on_choice (W.choice s.opens r) done (λ p. at p.device.0))
        → Opened s.opens (on_fine w (on_choice (W.choice s.opens r) s.opens (λ p. insert (new_mapping r p) s.opens)) s.opens) r v
    at_verdict fine i = at_choice (W.choice s.opens r) i
    at_verdict (errs f) i = absurd (cc)

coded_code : (d : Direction) → direction_of (coded (code_of d)) ≡ d
coded_code Both = refl
coded_code ToCard = refl
coded_code FromCard = refl

started : (t : Transfer) (v : ℕ) (p : Placement) → v ≡ p.device.0 → starts t.card.0 v (new_mapping (request_of t) p) ≡ true
started t v p e = grind (arith, nat_tests)

stands_by : {o p : List Mapping} {t : Transfer} {v : ℕ} {h : Holder} → find p t.card.0 v ≡ find o t.card.0 v → Stands o t v h → Stands p t v h
stands_by e a = record { mapping = a.mapping; is_open = e ∙ a.is_open; direction = a.direction; buffer = a.buffer; holder = a.holder }

on_either : (k : Verdict) (p o : List Mapping) (c v : ℕ) → find p c v ≡ find o c v → find (on_fine k p o) c v ≡ find o c v
on_either fine p o c v e = e
on_either (errs f) p o c v e = refl

-- On an engine --------------------------------------------------------------------------------------------

module _ {M : Type 0} (I : Meaning M) where
  -- one mapping of a card starts at a device address
  unique : (m : M) (c v : ℕ) (n : Mapping) → In n (I.opened m) → starts c v n ≡ true → find (I.opened m) c v ≡ Some n
  unique m c v n i s =
      let p = I.standing m in
      let b = I.bounds (I.setup m) (I.opened m) p in
      find_in c v (I.opened m) n i s (λ k j t. one_start (I.setup m) (I.opened m) (I.disjoint_pages (I.setup m) (I.opened m) p) c v n k i j (b.each n i).some (b.each k j).some s t)

  told : {e e' : Engine M} {x x' : List ℕ} {c d : Call} {a b : Answer} → Made I e e' x x' c a → c ≡ d → a ≡ b → Made I e e' x x' d b
  told {e = e} {e' = e'} {x = x} {x' = x'} {d = d} {a = a} m p q = subst (λ (z : Answer). Made I e e' x x' d z) q (subst (λ (z : Call). Made I e e' x x' z a) p m)

  opens_by : {e e' : Engine M} {x x' : List ℕ} {c : Call} {a : Answer} → Made I e e' x x' c a → I.opened e'.mapper ≡ opens_after (here I e.mapper x) (I.opened e.mapper) c
  opens_by made = ap (λ (s : State). s.opens) made.becomes

  -- a refusal leaves the mapper as it was
  pub refused_same : {e e' : Engine M} {x x' : List ℕ} {c : Call} {f : Fault} → Made I e e' x x' c (fails f) → I.opened e'.mapper ≡ I.opened e.mapper
  refused_same {e = e} {e' = e'} {c = c} {f = f} made = ap I.opened (go (task_of c) made.left)
    where
      go : (k : Option Task) → Left I.leaves e.mapper e'.mapper k (fails f) → e'.mapper ≡ e.mapper
      go None l = l
      go (Some k) l = l

  pub map_stands : {e e' : Engine M} {x x' : List ℕ} {r : Request} {a : Answer} (t : Transfer) (v : ℕ) → Made I e e' x x' (map r) a → r ≡ request_of t → a ≡ at v → Stands (I.opened e'.mapper) t v ByCard
  map_stands {e = e} {e' = e'} {x = x} t v by p q =
      let made : Made I e e' x _ (map (request_of t)) (at v) = told by (ap map p) q in
      let o = opened_by (here I e.mapper x) (state (I.opened e.mapper) x e.reports) (request_of t) v made.answers in
      let m : Mapping = new_mapping (request_of t) o.placement in
      let same : I.opened e'.mapper ≡ insert m (I.opened e.mapper) = opens_by made ∙ o.opens in
      let among : In m (I.opened e'.mapper) = subst (λ (z : List Mapping). In m z) (sym same) (insert_in m (I.opened e.mapper)) in
      record { mapping = m; is_open = unique e'.mapper t.card.0 v m among (started t v o.placement o.place); direction = coded_code t.direction; buffer = refl; holder = refl }

  -- a map is never refused because of what is open elsewhere
  pub map_refused : {e e' : Engine M} {x x' : List ℕ} {r : Request} {a : Answer} (f : Fault) → Made I e e' x x' (map r) a → a ≡ fails f → is_mismatch_kind f.kind ≡ false
  unfolding verdict
  map_refused {e = e} {x = x} {r = r} f by q =
      let made = told by refl q in
      let W = here I e.mapper x in
      let o = I.opened e.mapper in
      let b = r.buffer in
      let k = W.choice o r in
      let last : Other (chosen k) = other_chosen k (λ g i. I.refusals (I.setup e.mapper) o (I.standing e.mapper) r g i) in
      let clean = other_then (none_reserved W.reserved (b.address / 4096) (span b.address b.length)) _ (other_none W.reserved (b.address / 4096) (span b.address b.length)) last in
      let inside = other_then (in_memory W b.address b.length) _ (other_unless _ OutsideMemory _ refl) clean in
      let short = other_then (is_buffer b.address b.length) _ (other_unless _ WrongLength _ refl) inside in
      let directed = other_then (is_direction r.direction) _ (other_unless _ NoDirection _ refl) short in
      other_fault _ f (fails_map _ k f made.answers) (other_then (is_card W r.card.0) _ (other_unless _ NoCard _ refl) directed)

  -- what is open stays open through a map
  pub map_all : {e e' : Engine M} {x x' : List ℕ} {r : Request} {a : Answer} → Made I e e' x x' (map r) a → KeepsAll (I.opened e.mapper) (I.opened e'.mapper)
  map_all {e = e} {e' = e'} {x = x} {r = r} made t v h a =
      let W = here I e.mapper x in
      let o = I.opened e.mapper in
      let i : In a.mapping o = find_is_in t.card.0 v o a.mapping a.is_open in
      let j : In a.mapping (opens_after W o (map r)) = at_verdict (verdict W o (map r)) i in
      let among : In a.mapping (I.opened e'.mapper) = subst (λ (z : List Mapping). In a.mapping z) (sym (opens_by made)) j in
      record { mapping = a.mapping; is_open = unique e'.mapper t.card.0 v a.mapping among (find_starts t.card.0 v o a.mapping a.is_open); direction = a.direction; buffer = a.buffer; holder = a.holder }
    where
      at_choice : (k : Choice) → In a.mapping (I.opened e.mapper) → In a.mapping (on_choice k (I.opened e.mapper) (λ p. insert (new_mapping r p) (I.opened e.mapper)))
      at_choice (Ok p) i = insert_keeps (new_mapping r p) a.mapping (I.opened e.mapper) i
      at_choice (Err f) i = i

      at_verdict : (w : Verdict) → In a.mapping (I.opened e.mapper)
          → In a.mapping (on_fine w (on_choice ((here I e.mapper x).choice (I.opened e.mapper) r) (I.opened e.mapper) (λ p. insert (new_mapping r p) (I.opened e.mapper))) (I.opened e.mapper))
      at_verdict fine i = at_choice ((here I e.mapper x).choice (I.opened e.mapper) r) i
      at_verdict (errs f) i = i

  pub sync_others : {e e' : Engine M} {x x' : List ℕ} {a : Answer} (s : Sync) (c w : ℕ) → Made I e e' x x' (sync s c w) a → KeepsOthers (I.opened e.mapper) (I.opened e'.mapper) c w
  sync_others {e = e} {e' = e'} {x = x} s c w made t v h n a =
      let o = I.opened e.mapper in
      let same = ap (λ (z : List Mapping). find z t.card.0 v) (opens_by made)
      ∙ on_either (verdict (here I e.mapper x) o (sync s c w)) (turn (holder_after s) c w o) o t.card.0 v (find_turned_other (holder_after s) c w t.card.0 v o n) in
      stands_by same a

  pub unmap_others : {e e' : Engine M} {x x' : List ℕ} {r : UnmapRequest} {b : Answer} (u : Transfer) (w : DeviceAddress) → Made I e e' x x' (unmap r.card.0 r.direction r.device.0 r.length) b → r ≡ closing_of u w → KeepsOthers (I.opened e.mapper) (I.opened e'.mapper) u.card.0 w.0
  unmap_others {e = e} {e' = e'} {x = x} u w by p t v h n a =
      let made = told by (ap (λ (k : UnmapRequest). unmap k.card.0 k.direction k.device.0 k.length) p) refl in
      let o = I.opened e.mapper in
      let same = ap (λ (z : List Mapping). find z t.card.0 v) (opens_by made)
      ∙ on_either (verdict (here I e.mapper x) o (unmap u.card.0 (code_of u.direction) w.0 u.buffer.length)) (remove u.card.0 w.0 o) o t.card.0 v (find_removed_other u.card.0 w.0 t.card.0 v o n) in
      stands_by same a

  still : {e e' : Engine M} {x x' : List ℕ} {c : Call} (t : Transfer) (v : ℕ) (h : Holder) (f : Fault) → Made I e e' x x' c (fails f) → Stands (I.opened e.mapper) t v h → Stands (I.opened e'.mapper) t v h
  still t v h f made a = subst (λ (z : List Mapping). Stands z t v h) (sym (refused_same made)) a

  pub sync_stands : {e e' : Engine M} {x x' : List ℕ} {b : Answer} (s : Sync) (h : Holder) (t : Transfer) (v : ℕ) → Made I e e' x x' (sync s t.card.0 v) b → b ≡ done → Stands (I.opened e.mapper) t v h → Stands (I.opened e'.mapper) t v (holder_after s)
  sync_stands {e = e} {e' = e'} {x = x} s h t v by q a =
      let made = told by refl q in
      let w : verdict (here I e.mapper x) (I.opened e.mapper) (sync s t.card.0 v) ≡ fine = done_fine _ made.answers in
      let same : I.opened e'.mapper ≡ turn (holder_after s) t.card.0 v (I.opened e.mapper) = opens_by made ∙ ap (λ (k : Verdict). on_fine k (turn (holder_after s) t.card.0 v (I.opened e.mapper)) (I.opened e.mapper)) w in
      record {
        mapping = turned (holder_after s) a.mapping;
        is_open = ap (λ (z : List Mapping). find z t.card.0 v) same ∙ find_turned (holder_after s) t.card.0 v (I.opened e.mapper) a.mapping a.is_open;
        direction = a.direction;
        buffer = a.buffer;
        holder = refl;
      }

  pub sync_refused : {e e' : Engine M} {x x' : List ℕ} {b : Answer} (s : Sync) (h : Holder) (t : Transfer) (v : ℕ) (f : Fault) → is_some (turned_by h s) ≡ true → Made I e e' x x' (sync s t.card.0 v) b → b ≡ fails f → Stands (I.opened e.mapper) t v h → StillStands (I.opened e'.mapper) t v h f
  unfolding verdict
  sync_refused {e = e} {x = x} s h t v f turning by q a =
      let made = told by refl q in
      let W = here I e.mapper x in
      let w : (is_card W t.card.0 then (is_memory W then turnable (find (I.opened e.mapper) t.card.0 v) v s)) ≡ errs f = fails_errs _ f made.answers in
      let last = other_fine _ (turns s a turning) in
      record {
        stands = still t v h f made a;
        other = other_fault _ f w (other_then (is_card W t.card.0) _ (other_unless _ NoCard _ refl) (other_then (is_memory W) _ (other_unless _ OutsideMemory _ refl) last));
      }

  pub unmap_none : {e e' : Engine M} {x x' : List ℕ} {r : UnmapRequest} {b : Answer} (t : Transfer) (v : DeviceAddress) → Made I e e' x x' (unmap r.card.0 r.direction r.device.0 r.length) b → r ≡ closing_of t v → b ≡ done → find (I.opened e'.mapper) t.card.0 v.0 ≡ None
  unmap_none {e = e} {e' = e'} {x = x} t v by p q =
      let c = t.card.0 in
      let made = told by (ap (λ (k : UnmapRequest). unmap k.card.0 k.direction k.device.0 k.length) p) q in
      let w : verdict (here I e.mapper x) (I.opened e.mapper) (unmap c (code_of t.direction) v.0 t.buffer.length) ≡ fine = done_fine _ made.answers in
      let same : I.opened e'.mapper ≡ remove c v.0 (I.opened e.mapper) = opens_by made ∙ ap (λ (k : Verdict). on_fine k (remove c v.0 (I.opened e.mapper)) (I.opened e.mapper)) w in
      ap (λ (z : List Mapping). find z c v.0) same ∙ find_removed c v.0 (I.opened e.mapper)

  pub unmap_refused : {e e' : Engine M} {x x' : List ℕ} {r : UnmapRequest} {b : Answer} (h : Holder) (t : Transfer) (v : DeviceAddress) (f : Fault) → Made I e e' x x' (unmap r.card.0 r.direction r.device.0 r.length) b → r ≡ closing_of t v → b ≡ fails f → Stands (I.opened e.mapper) t v.0 h → StillStands (I.opened e'.mapper) t v.0 h f
  unfolding verdict
  unmap_refused {e = e} {x = x} h t v f by p q a =
      let made = told by (ap (λ (k : UnmapRequest). unmap k.card.0 k.direction k.device.0 k.length) p) q in
      let W = here I e.mapper x in
      let w : (is_card W t.card.0 then (is_direction (code_of t.direction) then (is_memory W then as_opened (find (I.opened e.mapper) t.card.0 v.0) v.0 (code_of t.direction) t.buffer.length))) ≡ errs f = fails_errs _ f made.answers in
      let last = other_fine _ (closes a) in
      record {
        stands = still t v.0 h f made a;
        other = other_fault _ f w (other_then (is_card W t.card.0) _ (other_unless _ NoCard _ refl) (other_then (is_direction (code_of t.direction)) _ (other_unless _ NoDirection _ refl) (other_then (is_memory W) _ (other_unless _ OutsideMemory _ refl) last)));
      }
