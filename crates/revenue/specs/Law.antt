-- What holds of all closings of a book together.
use Rattle.std.specs.Prelude.{◌≡◌, ◌+◌, ◌*◌, ◌<◌, ◌≤◌, List, [], ◌∷◌, ◌++◌, ℤ, pos, ◌+ℤ◌, Ok, Err, Result, ◌≢◌, All, unsigned_abs}
use Rattle.terms.specs.Refusals.{NoneBroken}
use Rattle.terms.specs.declared.faults.BookFault.{BookFault}
use Rattle.revenue.specs.declared.figures.Figures.{Figures}
use Rattle.revenue.specs.declared.figures.Closing.{Closing}
use Rattle.revenue.specs.Closings.{closing_of}
use Rattle.revenue.specs.Checks.{close_rules}

-- Closings that were accepted one after another, the first with nothing carried on to it, and the amount carried on after the last.
pub data Accepted : List Closing → ℤ → Type 0 where
  none : Accepted [] (pos 0)
  next : {before : List Closing} {carried : ℤ} {f : Figures} → Accepted before carried → NoneBroken (close_rules carried f)
      → Accepted (before ++ (closing_of carried f ∷ [])) (closing_of carried f).rest.0

-- the sum of an amount over closings
abbrev pub total : (Closing → ℤ) → List Closing → ℤ
total amount [] = pos 0
total amount (c ∷ cs) = amount c +ℤ total amount cs

-- the sum of the corrections
abbrev pub corrections : List Closing → ℤ
corrections = total (λ c. c.correction.0)

-- the sum of what was taken in
abbrev pub amounts : List Closing → ℤ
amounts = total (λ c. c.taken.0)

pub record Limited (c : Closing) : Type 0 where
  -- at most three tenths of the base are taken in, up or down
  pub within : 10 * unsigned_abs c.taken.0 ≤ 3 * c.base.0
  -- something is carried on only where one thousand more would have passed the three tenths
  pub full : (c.rest.0 ≢ pos 0) → 3 * c.base.0 < 10 * (unsigned_abs c.taken.0 + 1)

pub record Balanced (closings : List Closing) (carried : ℤ) : Type 0 where
  -- the corrections add up to what was taken in and what is still carried
  pub adds : corrections closings ≡ amounts closings +ℤ carried
  pub limits : All Limited closings

-- A closing on this carried amount goes on from any closings that were accepted before it, and they and it balance.
abbrev pub Continues : ℤ → Result Closing BookFault → Type 0
Continues carried (Ok c) =
    (before : List Closing) → Accepted before carried
    → Accepted (before ++ (c ∷ [])) c.rest.0 × Balanced (before ++ (c ∷ [])) c.rest.0
Continues carried (Err e) = Unit {0}
