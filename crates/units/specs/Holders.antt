-- Who holds a mapped buffer, and how a sync turns that.
use Rattle.std.specs.Prelude.{Some, None, Option}
use Rattle.units.specs.declared.mapping.Holder.{Holder}
use Rattle.units.specs.declared.mapping.Holder.TheVariants.{ByCard, ByCpu}
use Rattle.units.specs.declared.mapping.Sync.{Sync}
use Rattle.units.specs.declared.mapping.Sync.TheVariants.{ForCpu, ForCard}

-- sync for CPU turns the holder from card to CPU, sync for card from CPU to card; the other pairs are refused
abbrev pub turned_by : Holder → Sync → Option Holder
turned_by ByCard ForCpu = Some ByCpu
turned_by ByCard ForCard = None
turned_by ByCpu ForCpu = None
turned_by ByCpu ForCard = Some ByCard

-- who holds after a sync
abbrev pub holder_after : Sync → Holder
holder_after ForCpu = ByCpu
holder_after ForCard = ByCard
