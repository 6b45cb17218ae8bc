-- What a layer makes of the kind of the mapper below: reserved frames, choice and block level.
use Rattle.std.specs.Prelude.{◌≡◌, ℕ, ◌+◌, ◌-◌, ◌*◌, ◌%◌, Bool, true, false, cond, ◌&&◌, ◌||◌, ◌⊎◌, List, Some, None, Ok, Err, Option}
use Rattle.units.specs.declared.fault.FaultKind.TheVariants.{NoFrames}
use Rattle.units.specs.declared.mapping.Mapping.{Mapping}
use Rattle.units.specs.declared.mapping.Request.{Request}
use Rattle.units.specs.Buffers.{span, whole}
use Rattle.units.specs.Faults.{raises}
use Rattle.chooser.specs.Gaps.{Chosen, NoRoom}
use Rattle.meaning.specs.Worlds.{Setup, Kind, Choice}
use Rattle.layer.specs.Lowering.{lowered}
use Rattle.layer.specs.Pools.{below_setup, pool_first, pool_count, has_pool, in_pool, frame_number, used_frames, frame_for}

-- the pool's frames, and those reserved below; a refused layer reserves none
abbrev pub layer_reserved : (Setup → ℕ → Bool) → Setup → ℕ → Bool
layer_reserved below S f = has_pool S && (in_pool S f || below (below_setup S) f)

-- no gap of pool frames holds n
abbrev pub no_frames_for : ℕ → Choice
no_frames_for n = Err (record { kind = NoFrames; layer = 0; place = n })

-- so many bytes further into page and frame
abbrev pub further : ℕ → Choice → Choice
further a (Ok p) = Ok (record { device = record { 0 = p.device.0 + a }; landing = p.landing + a })
further a (Err f) = Err f

-- the request for the whole frames from k on that a buffer's span takes
abbrev pub frames_request : Request → ℕ → Request
frames_request r k = record {
  card = r.card;
  direction = r.direction;
  buffer = record { address = k * 4096; length = span r.buffer.address r.buffer.length * 4096 };
}

abbrev pub on_frame_found : Option ℕ → ℕ → (ℕ → Choice) → Choice
on_frame_found None n f = no_frames_for n
on_frame_found (Some k) n f = f k

-- a whole buffer goes down as it is
abbrev pub whole_choice : (Setup → List Mapping → Request → Choice) → Setup → List Mapping → Request → Choice
whole_choice below S o r = raises (below (below_setup S) (lowered o) r)

-- any other is mapped below as the whole frames from k on
abbrev pub frames_choice : (Setup → List Mapping → Request → Choice) → Setup → List Mapping → Request → ℕ → Choice
frames_choice below S o r k = further (r.buffer.address % 4096) (raises (below (below_setup S) (lowered o) (frames_request r k)))

-- any other takes its span of pool frames
abbrev pub pool_choice : (Setup → List Mapping → Request → Choice) → Setup → List Mapping → Request → Choice
pool_choice below S o r = let n = span r.buffer.address r.buffer.length in on_frame_found (frame_for S o n) n (frames_choice below S o r)

-- a refused layer has no frames to give
unfoldable pub layer_choice : (Setup → List Mapping → Request → Choice) → Setup → List Mapping → Request → Choice
layer_choice below S o r = cond (has_pool S)
    (cond (whole r.buffer.address r.buffer.length) (whole_choice below S o r) (pool_choice below S o r))
    (no_frames_for (span r.buffer.address r.buffer.length))

-- no gap of pool frames holds the span
abbrev pub NoFramesLeft : Setup → List Mapping → Request → Type 0
NoFramesLeft S o r = NoRoom frame_number (pool_first S) (pool_first S + pool_count S - 1) (used_frames o) (span r.buffer.address r.buffer.length)

-- the highest frames of the best gap that holds the span begin at k
abbrev pub BestFrames : Setup → List Mapping → Request → ℕ → Type 0
BestFrames S o r k = Chosen frame_number (pool_first S) (pool_first S + pool_count S - 1) (used_frames o) (span r.buffer.address r.buffer.length) k

-- the choice in words: what is not whole is refused with 9 exactly when no gap holds its span, else mapped below as the best gap's frames
abbrev pub LayerChooses : (Setup → List Mapping → Request → Choice) → Setup → List Mapping → Request → Choice → Type 0
LayerChooses below S o r c = ((whole r.buffer.address r.buffer.length ≡ true) × (c ≡ whole_choice below S o r))
    ⊎ ((whole r.buffer.address r.buffer.length ≡ false)
    × ((NoFramesLeft S o r × (c ≡ no_frames_for (span r.buffer.address r.buffer.length))) ⊎ ((k : ℕ) × BestFrames S o r k × (c ≡ frames_choice below S o r k))))

-- a block names the level that it names below; above a refused layer there is none
abbrev pub layer_level : (Setup → List Mapping → ℕ → ℕ → ℕ) → Setup → List Mapping → ℕ → ℕ → ℕ
layer_level below S o c p = cond (has_pool S) (below (below_setup S) (lowered o) c p) 0

abbrev pub layer_kind : Kind → Kind
layer_kind K = record {
  reserved = layer_reserved K.reserved;
  choice = layer_choice K.choice;
  level = layer_level K.level;
}
