-- Closings one after another balance.
use Rattle.std.proofs.Common.{◌≡◌, List, [], ◌∷◌, ◌++◌, ℤ, ◌+ℤ◌, Ok, Err, Result, sym, refl, subst, arith}
use Rattle.std.proofs.lemmas.Int.{ints, clamps}
use Rattle.std.proofs.lemmas.List.Elements.{All-nil, All-push}
use Rattle.terms.specs.Faults.{book_refusal}
use Rattle.terms.specs.Refusals.{Ruled}
use Rattle.terms.specs.declared.faults.BookFault.{BookFault}
use Rattle.revenue.specs.declared.figures.Figures.{Figures}
use Rattle.revenue.specs.declared.figures.Closing.{Closing}
use Rattle.revenue.specs.Closings.{closing_of}
use Rattle.revenue.specs.Checks.{close_rules}
use Rattle.revenue.specs.Law.{Accepted, none, next, total, Limited, Balanced, Continues}

total-push : (amount : Closing → ℤ) (cs : List Closing) (c : Closing) → total amount (cs ++ (c ∷ [])) ≡ total amount cs +ℤ amount c
total-push amount [] c = omega (arith, ints)
total-push amount (d ∷ cs) c = omega (arith, ints, total-push amount cs c)

limited : (carried : ℤ) (f : Figures) → Limited (closing_of carried f)
limited carried f = record { within = omega (arith, ints, clamps); full = λ ne. omega (arith, ints, clamps, ne) }

pub balance : (closings : List Closing) (carried : ℤ) → Accepted closings carried → Balanced closings carried
balance closings carried none = record { adds = refl; limits = All-nil Limited }
balance closings carried (next {before} {carried = was} {f} a n) =
    let b = balance before was a in
    let c = closing_of was f in
    record {
      adds = omega (arith, ints, b.adds, total-push (λ x. x.correction.0) before c, total-push (λ x. x.taken.0) before c);
      limits = All-push Limited before c b.limits (limited was f);
    }

-- a closing that the rules let pass goes on from those before it
pub continues : (carried : ℤ) (f : Figures) (r : Result Closing BookFault) → Ruled book_refusal (close_rules carried f) (closing_of carried f) r → Continues carried r
continues carried f (Ok c) r =
    subst (λ x. Continues carried (Ok x)) (sym r.1)
    (λ before a. let on = next a r.0 in (on, balance (before ++ (closing_of carried f ∷ [])) (closing_of carried f).rest.0 on))
continues carried f (Err e) r = tt
