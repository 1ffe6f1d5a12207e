-- The six lines that an approved decision prints.
use Rattle.std.specs.Prelude.{ℕ, List, [], ◌∷◌, ◌++◌, Some, None, codes, decimal, Option}
use Rattle.terms.specs.declared.measures.PriceSteps.{PriceSteps}
use Rattle.terms.specs.declared.points.Side.{Side}
use Rattle.terms.specs.declared.points.Side.TheVariants.{Entry, Exit}
use Rattle.terms.specs.declared.points.Kind.{Kind}
use Rattle.terms.specs.declared.points.Kind.TheVariants.{Transmission, Production, Storage, Local, Interconnector}
use Rattle.terms.specs.Points.{side_letter, kind_letter}
use Rattle.pricing.specs.declared.figures.ElementFigures.{ElementFigures}
use Rattle.pricing.specs.declared.figures.TariffFigures.{TariffFigures}

-- a letter is one byte
abbrev pub letter : ℕ → List ℕ
letter c = c ∷ []

-- a tariff, or - where there is none
abbrev pub tariff_text : Option PriceSteps → List ℕ
tariff_text None = codes "-"
tariff_text (Some t) = decimal t.0

-- side, kind, share and tariff, with a space between two, and a line feed
abbrev pub line_text : Side → Kind → ElementFigures → List ℕ
line_text side kind f =
    letter (side_letter side) ++ (codes " " ++ (letter (kind_letter kind) ++ (codes " " ++ (decimal f.share.0 ++ (codes " " ++ (tariff_text f.tariff ++ codes "\n"))))))

-- the lines of the six elements in their order: E T, E P, E S, X L, X I, X S
abbrev pub decision_text : TariffFigures → List ℕ
decision_text f =
    line_text Entry Transmission f.entries.main ++
    (line_text Entry Production f.entries.other ++
    (line_text Entry Storage f.entries.storage ++
    (line_text Exit Local f.exits.main ++
    (line_text Exit Interconnector f.exits.other ++
    line_text Exit Storage f.exits.storage))))
