use Rattle.std.proofs.Common.{codes, ap, sym, rules}
use Rattle.std.proofs.lemmas.Slice.Eq.{text_from_reads}
use Rattle.lines.specs.Reading.{verb_of}
use Rattle.lines.proofs.line.read_verb.Goals as goal

pub returns-in-close : goal.returns-in-close
returns-in-close c = sym (ap verb_of (text_from_reads c.args.w.now (codes "close") (search rules) (search rules)))
