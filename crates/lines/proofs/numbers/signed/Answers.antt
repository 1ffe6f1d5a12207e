use Rattle.std.proofs.Common.{arith}
use Rattle.std.proofs.lemmas.Grind.{common_steps}
use Rattle.std.proofs.lemmas.List.{take_rest}
use Rattle.lines.proofs.Decimals.{reads_signed_is}
use Rattle.lines.proofs.numbers.signed.Goals as goal

pub returns-in-45-clause-law : goal.returns-in-45-clause-law
returns-in-45-clause-law c = reads_signed_is c.args.w.now _ (grind (arith, common_steps, take_rest c.args.w.now 1))
