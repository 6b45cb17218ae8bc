-- What a translation cache holds.
use Rattle.std.specs.Prelude.{List, take}
use Rattle.cache.specs.declared.cache.Cache.{Cache}
use Rattle.cache.specs.declared.cache.Translation.{Translation}

-- the first entries, as many as are counted, oldest first
unfoldable pub held : Cache → List Translation
held cache = take cache.count cache.entries
