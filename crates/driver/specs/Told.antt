-- What the results of a driver's calls tell, as answers.
use Rattle.std.specs.Prelude.{Ok, Err, Result}
use Rattle.units.specs.declared.fault.Fault.{Fault}
use Rattle.meaning.specs.Calls.{Answer, fails, done, at}
use Rattle.driver.specs.declared.buffer.Refused.{Refused}
use Rattle.driver.specs.declared.cpu.CpuBuffer.{CpuBuffer}
use Rattle.driver.specs.declared.mapped.MappedBuffer.{MappedBuffer}
use Rattle.driver.specs.declared.stopped.Stopped.{Stopped}
use Rattle.driver.specs.declared.stopped.Stopped.TheVariants.{OnCpu, Mapped, Synced}

-- map: the device address, which the next state has
abbrev pub tells_mapped : Result MappedBuffer (Refused CpuBuffer) → Answer
tells_mapped (Ok m) = at m.device.0
tells_mapped (Err r) = fails r.fault

-- unmap and the syncs
abbrev pub tells_moved : {S T : Type 0} → Result S (Refused T) → Answer
tells_moved (Ok s) = done
tells_moved (Err r) = fails r.fault

-- why a job stopped
abbrev pub fault_of : Stopped → Fault
fault_of (OnCpu r) = r.fault
fault_of (Mapped r) = r.fault
fault_of (Synced r) = r.fault
