-- What a line of the code asks, and the words that it keeps.
use Rattle.std.specs.Prelude.{List, map, Ok, Err, Result}
use Rattle.lines.specs.declared.faults.SheetFault.{SheetFault}
use Rattle.lines.specs.declared.line.Line.{Line}
use Rattle.lines.specs.declared.line.Line.TheVariants.{Close}
use Rattle.lines.specs.declared.words.Word.{Word}
use Rattle.lines.specs.Reading.{Command, close}
use Rattle.lines.specs.Seen.{text_of}

-- the words that it keeps, after the first
abbrev pub line_words : Line → List Word
line_words (Close ws) = ws.now

-- what it asks
abbrev pub meaning : Line → Command
meaning (Close ws) = close (map text_of ws.now)

abbrev pub meant : Result Line SheetFault → Result Command SheetFault
meant (Ok l) = Ok (meaning l)
meant (Err f) = Err f
