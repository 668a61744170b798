use Rattle.nans.proofs.Hosts.{same_on_hosts}
use Rattle.nans.proofs.laws.same_on_hosts.Goals as goal

pub returns : goal.returns
returns c = same_on_hosts
