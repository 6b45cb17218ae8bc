use Rattle.isolation.proofs.Shielding.{isolation}
use Rattle.isolation.proofs.Standing.{standing}
use Rattle.isolation.proofs.isolation_holds.Goals as goal

pub returns-clause-promise : goal.returns-clause-promise
returns-clause-promise c = isolation

pub returns-clause-standing : goal.returns-clause-standing
returns-clause-standing c = standing
