-- What a call on the mapper below means for the layer above it.
use Rattle.mapper.specs.declared.laws.Meaning.{Ghosts as Meaning}
use Rattle.std.proofs.Common.{◌≡◌, ℕ, ◌+◌, ◌*◌, ◌/◌, ◌%◌, ◌<◌, true, false, List, length, is_some, Some, Ok, Err, Option, Result, sym, refl, ap, ◌∙◌, subst, arith}
use Rattle.std.proofs.lemmas.Bool.{cond-true, lt-ltb}
use Rattle.units.specs.declared.direction.Access.{Access}
use Rattle.units.specs.declared.fault.Fault.{Fault}
use Rattle.units.specs.declared.mapping.Mapping.{Mapping}
use Rattle.units.specs.declared.mapping.Placement.{Placement}
use Rattle.units.specs.declared.mapping.Reach.{Reach}
use Rattle.units.specs.declared.mapping.Request.{Request}
use Rattle.units.specs.declared.mapping.Sync.{Sync}
use Rattle.units.specs.declared.number.DeviceAddress.{DeviceAddress}
use Rattle.units.specs.declared.number.Frame.{Frame}
use Rattle.units.specs.Buffers.{span, whole}
use Rattle.units.specs.Directions.{code_of}
use Rattle.units.specs.Faults.{raised, raises}
use Rattle.units.specs.Holders.{turned_by, holder_after}
use Rattle.meaning.specs.Memory.{bytes_of, clear, copy}
use Rattle.meaning.specs.Mappings.{In, Whole, page_count, insert, remove, turn, find, reach_of}
use Rattle.meaning.specs.Worlds.{Setup, Kind, World, Choice, world}
use Rattle.meaning.specs.Calls.{Call, map, unmap, sync, Answer}
use Rattle.meaning.specs.Effects.{answer, after, new_mapping, copy_in}
use Rattle.meaning.specs.Told.{tells_at, tells_done}
use Rattle.meaning.proofs.Lists.{insert_in, find_is_in, find_starts}
use Rattle.meaning.proofs.Own.{own_unmap, own_sync}
use Rattle.meaning.proofs.Verdicts.{Admitted}
use Rattle.mapper.specs.Called.{here, seen, Called, Judged}
use Rattle.layer.specs.Lowering.{base_of, down, lowered}
use Rattle.layer.specs.Pools.{below_setup, pool_count, has_pool, frame_for}
use Rattle.layer.specs.Choosing.{layer_reserved, further, frames_request, layer_choice, layer_kind}
use Rattle.layer.specs.Possible.{Over}
use Rattle.layer.specs.Lawful.{Lawful}
use Rattle.layer.proofs.Finding.{starts_facts}
use Rattle.layer.proofs.Lowered.{down_own, lowered_insert, lowered_remove, lowered_turn, find_lowered, reach_lowered}
use Rattle.layer.proofs.LawsAbove.{both, reserved_as, disjoint_over, bounds_over, bounced_over}
use Rattle.layer.proofs.Choosing.{moved_on, whole_true, whole_test, choice_whole, choice_frames}
use Rattle.layer.proofs.Keeping.{admitted_below, admitted_frames, in_frames_below, grows_over, some_over}
use Rattle.layer.proofs.Lawful.{lawful_of}
use Rattle.layer.proofs.Moves.{copy_in_whole, copy_in_frames}
use Rattle.layer.proofs.Asking.{placed, unplaced, map_opens, map_moves, unplaced_moves, close_succeeds, close_opens, close_moves, turn_succeeds, turn_opens, turn_moves}

-- what map of a request leaves, told of the layer above: from memory x to x', and `left` open below
pub record Mapped (K : Kind) (S : Setup) (o : List Mapping) (r : Request) (left : List Mapping) (x x' : List ℕ) (v : ℕ) : Type 0 where
  pub place : Placement
  pub chosen : layer_choice K.choice S o r ≡ Ok place
  pub device : place.device.0 ≡ v
  pub opens : left ≡ lowered (insert (new_mapping r place) o)
  pub memory : bytes_of x' ≡ copy_in (layer_reserved K.reserved S) (new_mapping r place) (bytes_of x)

module _ {M : Type 0} (I : Meaning M) (S : Setup) (o : List Mapping) (h : Over I.kind I.possible S o) (m : M) (set : I.setup m ≡ below_setup S) (opened : I.opened m ≡ lowered o) where
  abbrev K : Kind
  K = I.kind

  abbrev law : Lawful K I.possible
  law = lawful_of I

  abbrev low : ℕ → World
  low n = world K (below_setup S) n

  has : has_pool S ≡ true
  has = lt-ltb 0 (pool_count S) h.standing.some

  -- the mapper below, at the set-up and list below
  pub asked_below : (x : List ℕ) (c : Call) → answer (here I m x) (seen (I.opened m) x) c ≡ answer (low (length x)) (seen (lowered o) x) c
  asked_below x c = ap (λ (z : Setup). answer (world K z (length x)) (seen (I.opened m) x) c) set ∙ ap (λ (z : List Mapping). answer (low (length x)) (seen z x) c) opened

  opens_below : (x : List ℕ) (c : Call) → (after (here I m x) (seen (I.opened m) x) c).opens ≡ (after (low (length x)) (seen (lowered o) x) c).opens
  opens_below x c = ap (λ (z : Setup). (after (world K z (length x)) (seen (I.opened m) x) c).opens) set ∙ ap (λ (z : List Mapping). (after (low (length x)) (seen z x) c).opens) opened

  moves_below : (x : List ℕ) (c : Call) → (after (here I m x) (seen (I.opened m) x) c).memory ≡ (after (low (length x)) (seen (lowered o) x) c).memory
  moves_below x c = ap (λ (z : Setup). (after (world K z (length x)) (seen (I.opened m) x) c).memory) set ∙ ap (λ (z : List Mapping). (after (low (length x)) (seen z x) c).memory) opened

  -- Map ---------------------------------------------------------------------------------------------------

  module _ (r : Request) (x : List ℕ) (a : Admitted (world (layer_kind K) S (length x)) r) where
    abbrev count : ℕ
    count = span r.buffer.address r.buffer.length

    fitting : (q : Placement) → layer_choice K.choice S o r ≡ Ok q → Over K I.possible S (insert (new_mapping r q) o)
    fitting q e = grows_over K I.possible law S o h (length x) r a q e

    module _ (w : whole r.buffer.address r.buffer.length ≡ true) where
      abbrev W : World
      W = low (length x)

      ab : Admitted W r
      ab = admitted_below K I.possible law S o h (length x) r a

      -- a whole buffer that the mapper below would place, the layer places there
      pub whole_placed : (v : DeviceAddress) → tells_at (Ok v) ≡ answer (here I m x) (seen (I.opened m) x) (map r) → (q : Placement) × (K.choice (below_setup S) (lowered o) r ≡ Ok q) × (layer_choice K.choice S o r ≡ Ok q) × (q.device.0 ≡ v.0)
      whole_placed v e =
          let t = placed W (seen (lowered o) x) r ab v (e ∙ asked_below x (map r)) in
          (t.0, t.1, choice_whole K.choice S o r has w ∙ ap raises t.1, ap (λ (z : DeviceAddress). z.0) t.2)

      pub whole_unplaced : (f : Fault) → tells_at (Err f) ≡ answer (here I m x) (seen (I.opened m) x) (map r) → layer_choice K.choice S o r ≡ Err (raised f)
      whole_unplaced f e = choice_whole K.choice S o r has w ∙ ap raises (unplaced W (seen (lowered o) x) r ab f (e ∙ asked_below x (map r)))

      pub whole_mapped : (m' : M) (x' : List ℕ) (v : DeviceAddress) → Called I m m' x x' (map r) (tells_at (Ok v)) → Mapped K S o r (I.opened m') x x' v.0
      whole_mapped m' x' v call =
          let t = whole_placed v call.answers in
          let q = t.0 in
          let n = new_mapping r q in
          let f = (fitting q t.2).standing.each n (insert_in n o) in
          let p = whole_true r.buffer.address r.buffer.length w in
          let ww : Whole n = record { starts = p.0; ends = p.1 } in
          record {
            place = q;
            chosen = t.2;
            device = t.3;
            opens = call.opens ∙ opens_below x (map r) ∙ map_opens W (seen (lowered o) x) r ab q t.1
                ∙ ap (λ (z : Mapping). insert z (lowered o)) (sym (down_own n ww (f.own ww) f.offset_device)) ∙ sym (lowered_insert n o);
            memory = call.memory ∙ moves_below x (map r) ∙ map_moves W (seen (lowered o) x) r ab q t.1
                ∙ copy_in_whole (K.reserved (below_setup S)) n (bytes_of x) ww (f.own ww) ∙ sym (copy_in_whole (layer_reserved K.reserved S) n (bytes_of x) ww (f.own ww));
          }

      pub whole_refused : (m' : M) (x' : List ℕ) (f : Fault) → Called I m m' x x' (map r) (tells_at (Err f)) → (layer_choice K.choice S o r ≡ Err (raised f)) × (bytes_of x' ≡ bytes_of x)
      whole_refused m' x' f call = (
        whole_unplaced f call.answers,
        call.memory ∙ moves_below x (map r) ∙ unplaced_moves W (seen (lowered o) x) r ab f (unplaced W (seen (lowered o) x) r ab f (call.answers ∙ asked_below x (map r))),
      )

    module _ (k : ℕ) (w : whole r.buffer.address r.buffer.length ≡ false) (free : frame_for S o (span r.buffer.address r.buffer.length) ≡ Some k) (y : List ℕ) (same : length y ≡ length x) where
      abbrev V : World
      V = low (length y)

      abbrev b : Request
      b = frames_request r k

      af : Admitted V b
      af = subst (λ (z : ℕ). Admitted (low z) b) (sym same) (admitted_frames K I.possible law S o h (length x) r a k free)

      -- pool frames that the mapper below would place, the layer places the buffer in
      pub frames_placed : (v : DeviceAddress) → tells_at (Ok v) ≡ answer (here I m y) (seen (I.opened m) y) (map b)
          → (p : Placement) × (K.choice (below_setup S) (lowered o) b ≡ Ok p) × (layer_choice K.choice S o r ≡ Ok (moved_on (r.buffer.address % 4096) p)) × (p.device.0 ≡ v.0)
      frames_placed v e =
          let t = placed V (seen (lowered o) y) b af v (e ∙ asked_below y (map b)) in
          (t.0, t.1, choice_frames K.choice S o r k has w free ∙ ap (λ (z : Choice). further (r.buffer.address % 4096) (raises z)) t.1, ap (λ (z : DeviceAddress). z.0) t.2)

      pub frames_unplaced : (f : Fault) → tells_at (Err f) ≡ answer (here I m y) (seen (I.opened m) y) (map b) → layer_choice K.choice S o r ≡ Err (raised f)
      frames_unplaced f e = choice_frames K.choice S o r k has w free ∙ ap (λ (z : Choice). further (r.buffer.address % 4096) (raises z)) (unplaced V (seen (lowered o) y) b af f (e ∙ asked_below y (map b)))

      -- the frames are cleared and the buffer is copied to its landing before it is mapped below
      pub frames_mapped : (m' : M) (x' : List ℕ) (v : DeviceAddress)
          → bytes_of y ≡ copy (k * 4096 + r.buffer.address % 4096) r.buffer.address r.buffer.length (clear (k * 4096) (count * 4096) (bytes_of x))
          → Called I m m' y x' (map b) (tells_at (Ok v)) → Mapped K S o r (I.opened m') x x' (v.0 + r.buffer.address % 4096)
      frames_mapped m' x' v moved call =
          let t = frames_placed v call.answers in
          let p = t.0 in
          let q = moved_on (r.buffer.address % 4096) p in
          let n = new_mapping r q in
          let l = new_mapping b p in
          let over = fitting q t.2 in
          let f = over.standing.each n (insert_in n o) in
          let down_is = frames_down p t.1 in
          let part : Whole n → ⊥ = λ z. both (whole r.buffer.address r.buffer.length) (whole_test r.buffer.address r.buffer.length z.starts z.ends) w in
          let base : base_of n.landing ≡ k * 4096 = ap (λ (z : Mapping). z.buffer.address) down_is.1 in
          let land : n.landing ≡ k * 4096 + r.buffer.address % 4096 = ap (λ (z : ℕ). z + r.buffer.address % 4096) down_is.0 in
          let lw : Whole l = record { starts = omega arith; ends = omega arith } in
          record {
            place = q;
            chosen = t.2;
            device = ap (λ (z : ℕ). z + r.buffer.address % 4096) t.3;
            opens = call.opens ∙ opens_below y (map b) ∙ map_opens V (seen (lowered o) y) b af p t.1
                ∙ ap (λ (z : Mapping). insert z (lowered o)) (sym down_is.1) ∙ sym (lowered_insert n o);
            memory = call.memory ∙ moves_below y (map b) ∙ map_moves V (seen (lowered o) y) b af p t.1
                ∙ copy_in_whole (K.reserved (below_setup S)) l (bytes_of y) lw down_is.0 ∙ moved
                ∙ ap (λ (z : ℕ). copy z r.buffer.address r.buffer.length (clear (k * 4096) (count * 4096) (bytes_of x))) (sym land)
                ∙ ap (λ (z : ℕ). copy n.landing r.buffer.address r.buffer.length (clear z (count * 4096) (bytes_of x))) (sym base)
                ∙ copy_in_frames (layer_reserved K.reserved S) n (bytes_of x) (bounced_over K I.possible law S (insert n o) over n (insert_in n o) part)
                (λ g z. reserved_as K.reserved S h.standing.some (g / 4096) ∙ f.clean g z);
          }
        where
          -- what is mapped below is what goes down
          frames_down : (p : Placement) → K.choice (below_setup S) (lowered o) b ≡ Ok p → (p.landing ≡ k * 4096) × (down (new_mapping r (moved_on (r.buffer.address % 4096) p)) ≡ new_mapping b p)
          frames_down p e = let t = in_frames_below K I.possible law S o h (length x) r a k p free e in (t.own, t.same)

  -- Unmap and sync ----------------------------------------------------------------------------------------

  module _ (c v : ℕ) (n : Mapping) (found : find o c v ≡ Some n) (y : List ℕ) (size : length y ≡ S.frames * 4096) where
    abbrev U : World
    U = low (length y)

    found_in : In n o
    found_in = find_is_in c v o n found

    found_card : c < S.cards
    found_card =
        let b = ((bounds_over K I.possible law S o h).each n found_in).card in
        let s = (starts_facts c v n (find_starts c v o n found)).0 in omega arith

    found_below : find (lowered o) c (base_of v) ≡ Some (down n)
    found_below = find_lowered S o (disjoint_over K I.possible law S o h) (some_over K I.possible law S o h) c v n found_in (find_starts c v o n found) found

    -- the frames that the mapping was mapped below as, on their device pages
    abbrev closing : Call
    closing = unmap c (code_of n.direction) (base_of v) (page_count n * 4096)

    pub unmap_succeeds : (m' : M) (x' : List ℕ) (f : Fault) → Called I m m' y x' closing (tells_done (Err f)) → ⊥
    unmap_succeeds m' x' f call = close_succeeds U (seen (lowered o) y) c (base_of v) (down n) found_card size found_below f (call.answers ∙ asked_below y closing)

    pub unmap_opens : (m' : M) (x' : List ℕ) (t : Answer) → Called I m m' y x' closing t → I.opened m' ≡ lowered (remove c v o)
    unmap_opens m' x' t call =
        call.opens ∙ opens_below y closing ∙ close_opens U (seen (lowered o) y) c (base_of v) (down n) found_card size found_below
        ∙ sym (lowered_remove S o (disjoint_over K I.possible law S o h) (some_over K I.possible law S o h) c v n found_in (find_starts c v o n found))

    -- below nothing is copied, since whole frames land where they are
    pub unmap_moves : (m' : M) (x' : List ℕ) (t : Answer) → Called I m m' y x' closing t → bytes_of x' ≡ bytes_of y
    unmap_moves m' x' t call =
        call.memory ∙ moves_below y closing ∙ close_moves U (seen (lowered o) y) c (base_of v) (down n) found_card size found_below ∙ own_unmap (down n) refl (bytes_of y)

    module _ (k : Sync) (turns : is_some (turned_by n.holder k) ≡ true) where
      abbrev turning : Call
      turning = sync k c (base_of v)

      pub sync_succeeds : (m' : M) (x' : List ℕ) (f : Fault) → Called I m m' y x' turning (tells_done (Err f)) → ⊥
      sync_succeeds m' x' f call = turn_succeeds U (seen (lowered o) y) c (base_of v) (down n) found_card size found_below k turns f (call.answers ∙ asked_below y turning)

      pub sync_opens : (m' : M) (x' : List ℕ) (t : Answer) → Called I m m' y x' turning t → I.opened m' ≡ lowered (turn (holder_after k) c v o)
      sync_opens m' x' t call =
          call.opens ∙ opens_below y turning ∙ turn_opens U (seen (lowered o) y) c (base_of v) (down n) found_card size found_below k turns
          ∙ sym (lowered_turn S o (disjoint_over K I.possible law S o h) (some_over K I.possible law S o h) c v (holder_after k) n found_in (find_starts c v o n found))

      pub sync_moves : (m' : M) (x' : List ℕ) (t : Answer) → Called I m m' y x' turning t → bytes_of x' ≡ bytes_of y
      sync_moves m' x' t call =
          call.memory ∙ moves_below y turning ∙ turn_moves U (seen (lowered o) y) c (base_of v) (down n) found_card size found_below k turns ∙ own_sync (down n) refl (bytes_of y) k

  -- A card's access ---------------------------------------------------------------------------------------

  pub judged_above : (c p : ℕ) (t : Access) (r : Result Frame Fault) → Judged (reach_of (I.opened m) c p) (K.level (I.setup m) (I.opened m) c p) t r
      → Judged (reach_of o c p) ((layer_kind K).level S o c p) t r
  judged_above c p t r j =
      let reach : reach_of (I.opened m) c p ≡ reach_of o c p = ap (λ (z : List Mapping). reach_of z c p) opened ∙ reach_lowered o c p in
      let level : K.level (I.setup m) (I.opened m) c p ≡ (layer_kind K).level S o c p = ap (λ (z : Setup). K.level z (I.opened m) c p) set ∙ ap (λ (z : List Mapping). K.level (below_setup S) z c p) opened ∙ sym (cond-true (has_pool S) (K.level (below_setup S) (lowered o) c p) 0 has) in
      subst (λ (z : ℕ). Judged (reach_of o c p) z t r) level (subst (λ (z : Option Reach). Judged z (K.level (I.setup m) (I.opened m) c p) t r) reach j)
