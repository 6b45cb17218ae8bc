-- What is posted in an invalidation queue.
use Rattle.std.specs.Prelude.{List, take}
use Rattle.cache.specs.declared.queue.Descriptor.{Descriptor}
use Rattle.cache.specs.declared.queue.Queue.{Queue}

-- the first descriptors, as many as are counted, in the order in which they were posted
unfoldable pub posted : Queue → List Descriptor
posted queue = take queue.count queue.descriptors
