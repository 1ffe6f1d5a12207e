use Rattle.rules.proofs.Histories.{no_trace_lem}
use Rattle.rules.proofs.laws.no_trace.Goals as goal

pub returns : goal.returns
returns c = no_trace_lem
