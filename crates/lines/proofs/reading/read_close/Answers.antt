use Rattle.std.proofs.Common.{Err, vec_items, sym, ◌∙◌, inl, rules}
use Rattle.std.proofs.lemmas.Result.{err_from_is_err_and}
use Rattle.lines.specs.declared.faults.SheetFault.TheVariants.{TooLong}
use Rattle.lines.specs.Meant.{meaning}
use Rattle.lines.specs.Reading.{DueOrNoMemory, read_close}
use Rattle.lines.specs.Seen.{raw_of}
use Rattle.lines.proofs.Commands.{misread, well_read}
use Rattle.lines.proofs.Inverse.{closing_law}
use Rattle.lines.proofs.reading.read_close.Goals as goal

pub returns-then-not-ended : goal.returns-then-not-ended
returns-then-not-ended c =
    let due : DueOrNoMemory (read_close c.args.n (raw_of c.args.line)) (Err (TooLong c.args.n)) = search rules in
    record { due = due; law = closing_law _ _ _ due }

pub returns-in_err-asked : goal.returns-in_err-asked
returns-in_err-asked c =
    let e = err_from_is_err_and c.from_residual-in_err-asked.result c.from_residual-in_err-asked.ensures.1 in
    let is =
    misread c.args.n c.args.line c.bytes.result.now (vec_items c.in_ok-words.words) c.as_slice.result.now
    (sym c.ended.ensures ∙ c.if-not-ended.false) c.bytes.ensures c.if-bytes-gt-LONGEST_LINE.false c.as_slice.ensures.value c.in_ok-words.ensures.seen
    c.in_err-asked.field-0.0 c.in_err-asked.ensures.asks in
    rw (e.1, e.2) (record { due = inl is; law = closing_law c.args.n _ _ (inl is) })

pub returns : goal.returns
returns c =
    let is =
    well_read c.args.n c.args.line c.bytes.result.now (vec_items c.in_ok-words.words) c.as_slice.result.now
    (sym c.ended.ensures ∙ c.if-not-ended.false) c.bytes.ensures c.if-bytes-gt-LONGEST_LINE.false c.as_slice.ensures.value c.in_ok-words.ensures.seen
    (meaning c.in_ok-asked.asked) c.figures.result c.in_ok-asked.ensures.asks c.figures.ensures in
    record { due = inl is; law = closing_law c.args.n _ _ (inl is) }
