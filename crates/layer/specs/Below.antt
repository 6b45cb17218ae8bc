-- What a layer has the mapper below do, for what the meaning does not show.
use Rattle.std.specs.Prelude.{ℕ, cond, List, Some, None, Option}
use Rattle.units.specs.declared.mapping.Mapping.{Mapping}
use Rattle.units.specs.declared.mapping.Request.{Request}
use Rattle.units.specs.Buffers.{span, whole}
use Rattle.meaning.specs.Worlds.{Setup}
use Rattle.mapper.specs.Tasks.{Task, opens, closes, turns, translates}
use Rattle.layer.specs.Lowering.{base_of}
use Rattle.layer.specs.Pools.{frame_for}
use Rattle.layer.specs.Choosing.{frames_request}

-- without free frames nothing is asked below
abbrev pub in_frames_found : Option ℕ → Request → Request
in_frames_found None r = r
in_frames_found (Some k) r = frames_request r k

-- a whole buffer as it is, any other as the frames that it takes
abbrev pub request_below : Setup → List Mapping → Request → Request
request_below S o r = cond (whole r.buffer.address r.buffer.length) r (in_frames_found (frame_for S o (span r.buffer.address r.buffer.length)) r)

abbrev pub task_below : Setup → List Mapping → Task → Task
task_below S o (opens r) = opens (request_below S o r)
task_below S o (closes c v) = closes c (base_of v)
task_below S o (turns s c v) = turns s c (base_of v)
task_below S o (translates c p a) = translates c p a
