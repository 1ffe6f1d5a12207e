use Rattle.std.proofs.Common.{◌<◌, ap, arith}
use Rattle.std.proofs.Math.Seq.{take-set-lt}
use Rattle.std.proofs.lemmas.List.{length-take}
use Rattle.book.specs.Records.{record_lots}
use Rattle.book.proofs.row.Row.put.Goals as goal

pub invariant_of-self : goal.invariant_of-self
invariant_of-self c =
    let row = c.args.self.now in
    let within = simp length-take at c.requires.within in
    let l : c.args.at < row.count = omega arith in
    let e = ap record_lots (take-set-lt row.count row.places c.args.at c.args.written l) in
    record { fits = row.fits; light = omega (arith, e, c.requires.light) }

pub returns-clause-held : goal.returns-clause-held
returns-clause-held c =
    let row = c.args.self.now in
    let within = simp length-take at c.requires.within in
    let l : c.args.at < row.count = omega arith in
    take-set-lt row.count row.places c.args.at c.args.written l
