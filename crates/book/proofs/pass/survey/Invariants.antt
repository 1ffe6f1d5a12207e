use Rattle.std.proofs.Common.{take}
use Rattle.book.proofs.Passing.{Seen}
use Rattle.book.proofs.pass.survey.Given as goal

abbrev pub invariant-loop-point : goal.invariant-loop-point
invariant-loop-point g l = Seen (g.S.Source.net l.source) l.station (take l.point-index l.points) l.farthest
