-- Over a lawful mapper a layer is a lawful mapper.
use Rattle.std.proofs.Common.{◌≡◌, ℕ, ◌/◌, ◌%◌, ◌<◌, Bool, true, false, ◌&&◌, ◌||◌, List, [], Some, None, Ok, Err, Option, sym, refl, ap, ◌∙◌, subst, inl, inr, arith}
use Rattle.std.proofs.lemmas.Bool.{cases_Bool, lt-ltb, le-ltb}
use Rattle.mapper.specs.declared.laws.Meaning.{Ghosts as Meaning}
use Rattle.units.specs.declared.fault.Fault.{Fault}
use Rattle.units.specs.declared.fault.FaultKind.{FaultKind}
use Rattle.units.specs.declared.fault.FaultKind.TheVariants.{NoFrames}
use Rattle.units.specs.declared.mapping.Mapping.{Mapping}
use Rattle.units.specs.declared.mapping.Request.{Request}
use Rattle.units.specs.Buffers.{span, whole}
use Rattle.units.specs.Faults.{is_choice_kind, raised, raises}
use Rattle.meaning.specs.Mappings.{In, Pairwise, Lands, Pages}
use Rattle.meaning.specs.Worlds.{Setup, Kind, Choice}
use Rattle.meaning.specs.Laws.{DisjointPages, Landings, Bounced, OneFrame, Accepts, EmptyRoom, ChoiceRefusals, Bounds}
use Rattle.layer.specs.Lowering.{lowered}
use Rattle.layer.specs.Pools.{below_setup, pool_count, has_pool, in_pool, frame_for}
use Rattle.layer.specs.Choosing.{layer_reserved, no_frames_for, frames_request, layer_kind}
use Rattle.layer.specs.Possible.{Refused, Over, layer_possible}
use Rattle.layer.specs.Lawful.{Lawful}
use Rattle.layer.proofs.Lowered.{lowered_none}
use Rattle.layer.proofs.LawsAbove.{or_false, reserved_as, disjoint_over, landing_over, bounds_over, bounced_over}
use Rattle.layer.proofs.Choosing.{raises_err, further_err, whole_test, choice_none, choice_whole, choice_full, choice_frames}
use Rattle.layer.proofs.Keeping.{kept_over}

-- Empty room ----------------------------------------------------------------------------------------------

accepts_raised : (x : Choice) → Accepts x → Accepts (raises x)
accepts_raised (Ok p) a = a
accepts_raised (Err f) a = a

module _ (K : Kind) (P : Setup → List Mapping → Type 0) (law : Lawful K P) (S : Setup) (o : List Mapping) (h : Over K P S o) where
  pub room_over : EmptyRoom (layer_kind K) S
  room_over r f =
      let B = below_setup S in
      let plain = or_false (in_pool S (r.buffer.address / 4096)) (K.reserved B (r.buffer.address / 4096)) (sym (reserved_as K.reserved S h.standing.some (r.buffer.address / 4096)) ∙ f.unreserved) in
      let below : OneFrame B (K.reserved B) r = record { card = f.card; direction = f.direction; starts = f.starts; one = f.one; frame = f.frame; unreserved = plain.1 } in
      let room = law.empty_room B (lowered o) h.below r below in
      let one = f.one in
      let w = whole_test r.buffer.address r.buffer.length f.starts (omega arith) in
      let e = choice_whole K.choice S [] r (lt-ltb 0 (pool_count S) h.standing.some) w in
      subst Accepts (sym (e ∙ ap (λ (z : List Mapping). raises (K.choice B z r)) lowered_none)) (accepts_raised (K.choice B [] r) room)

-- Refusals ------------------------------------------------------------------------------------------------

raised_kind : (k : FaultKind) (f g : Fault) → is_choice_kind g.kind ≡ true → f ≡ raised g → is_choice_kind f.kind ≡ true
raised_kind k f g h e = ap (λ (z : Fault). is_choice_kind z.kind) e ∙ h

no_frames_kind : (n : ℕ) (f : Fault) → no_frames_for n ≡ Err f → is_choice_kind f.kind ≡ true
no_frames_kind n f e = let k : f.kind ≡ NoFrames = cc in ap is_choice_kind k

module _ (K : Kind) (P : Setup → List Mapping → Type 0) (law : Lawful K P) (S : Setup) (o : List Mapping) (h : Over K P S o) where
  passed_kind : (r : Request) (f : Fault) → raises (K.choice (below_setup S) (lowered o) r) ≡ Err f → is_choice_kind f.kind ≡ true
  passed_kind r f e =
      let t = raises_err (K.choice (below_setup S) (lowered o) r) f e in
      raised_kind f.kind f t.0 (law.refusals (below_setup S) (lowered o) h.below r t.0 t.1) t.2

  pub refusals_over : ChoiceRefusals (layer_kind K) S o
  refusals_over r f e = elim (cases_Bool (whole r.buffer.address r.buffer.length)) [
    | inl w ↦ passed_kind r f (sym (choice_whole K.choice S o r has w) ∙ e)
    | inr w ↦ at w (frame_for S o (span r.buffer.address r.buffer.length)) refl
  ]
    where
      has : has_pool S ≡ true
      has = lt-ltb 0 (pool_count S) h.standing.some

      at : whole r.buffer.address r.buffer.length ≡ false → (k : Option ℕ) → frame_for S o (span r.buffer.address r.buffer.length) ≡ k → is_choice_kind f.kind ≡ true
      at w None k = no_frames_kind (span r.buffer.address r.buffer.length) f (sym (choice_full K.choice S o r has w k) ∙ e)
      at w (Some x) k = passed_kind (frames_request r x) f
          (further_err (r.buffer.address % 4096) (raises (K.choice (below_setup S) (lowered o) (frames_request r x))) f (sym (choice_frames K.choice S o r x has w k) ∙ e))

-- A refused layer -----------------------------------------------------------------------------------------

module _ (K : Kind) (S : Setup) (o : List Mapping) (h : Refused S o) where
  none : (m : Mapping) → In m o → ⊥
  none m i = let j = subst (In m) h.empty i in elim j [ ]

  no_pool : has_pool S ≡ false
  no_pool = le-ltb 0 (pool_count S) (let e = h.pool in omega arith)

  pairs : (R : Mapping → Mapping → Type 0) → Pairwise R o
  pairs R = subst (Pairwise R) (sym h.empty) tt

  no_card : (c : ℕ) → c < S.cards → ⊥
  no_card c l = let e = h.cards in omega arith

  disjoint_refused : DisjointPages S o
  disjoint_refused = record {
    offset_device = λ m i. absurd (none m i);
    offset_landing = λ m i. absurd (none m i);
    pages_given = λ m i. absurd (none m i);
    pages_apart = pairs (λ m n. m.card.0 ≡ n.card.0 → (p : ℕ) → Pages m p → Pages n p → ⊥);
  }

  landing_refused : Landings (layer_reserved K.reserved S) o
  landing_refused = record {
    lands = λ m i. absurd (none m i);
    landings_apart = pairs (λ m n. (q : ℕ) → Lands m q → Lands n q → layer_reserved K.reserved S (q / 4096) ≡ true → ⊥);
  }

  room_refused : EmptyRoom (layer_kind K) S
  room_refused r f = absurd (no_card r.card.0 f.card)

  refusals_refused : ChoiceRefusals (layer_kind K) S o
  refusals_refused r f e = no_frames_kind (span r.buffer.address r.buffer.length) f (sym (choice_none K.choice S o r no_pool) ∙ e)

  unreserved : (f : ℕ) → layer_reserved K.reserved S f ≡ false
  unreserved f = ap (λ (z : Bool). z && (in_pool S f || K.reserved (below_setup S) f)) no_pool

  bounds_refused : Bounds S (layer_reserved K.reserved S) o
  bounds_refused =
      let cards = h.cards in
      let frames = h.frames in
      record {
        cards = omega arith;
        lasts = λ c l. absurd (no_card c l);
        frames = omega arith;
        reserves = λ f e. let u = unreserved f in absurd (cc);
        each = λ m i. absurd (none m i);
      }

-- A layer -------------------------------------------------------------------------------------------------

pub layer_lawful : (K : Kind) (P : Setup → List Mapping → Type 0) → Lawful K P → Lawful (layer_kind K) (layer_possible K P)
layer_lawful K P law = record {
  kept = λ S o n c h. kept_over K P law S o n c h;
  disjoint_pages = λ S o h. elim h [ inl f ↦ disjoint_refused K S o f | inr y ↦ disjoint_over K P law S o y ];
  landing = λ S o h. elim h [ inl f ↦ landing_refused K S o f | inr y ↦ landing_over K P law S o y ];
  empty_room = λ S o h. elim h [ inl f ↦ room_refused K S o f | inr y ↦ room_over K P law S o y ];
  refusals = λ S o h. elim h [ inl f ↦ refusals_refused K S o f | inr y ↦ refusals_over K P law S o y ];
  bounds = λ S o h. elim h [ inl f ↦ bounds_refused K S o f | inr y ↦ bounds_over K P law S o y ];
}

pub layer_bounced : (K : Kind) (P : Setup → List Mapping → Type 0) → Lawful K P → (S : Setup) (o : List Mapping) → layer_possible K P S o → Bounced ((layer_kind K).reserved S) o
layer_bounced K P law S o h = elim h [ inl f ↦ (λ m i. absurd (none K S o f m i)) | inr y ↦ bounced_over K P law S o y ]

-- what the trait asks of a mapper, as one record
pub lawful_of : {M : Type 0} (I : Meaning M) → Lawful I.kind I.possible
lawful_of I = record {
  kept = I.kept;
  disjoint_pages = I.disjoint_pages;
  landing = I.landing;
  empty_room = I.empty_room;
  refusals = I.refusals;
  bounds = I.bounds;
}

pub over_any : {M : Type 0} (I : Meaning M) → Lawful (layer_kind I.kind) (layer_possible I.kind I.possible)
over_any I = layer_lawful I.kind I.possible (lawful_of I)

pub bounced_over_any : {M : Type 0} (I : Meaning M) (S : Setup) (o : List Mapping) → layer_possible I.kind I.possible S o → Bounced ((layer_kind I.kind).reserved S) o
bounced_over_any I = layer_bounced I.kind I.possible (lawful_of I)
