-- A call has one outcome, and leaves one book.
use Rattle.std.proofs.Common.{Err, refl, ap}
use Rattle.terms.proofs.Rulings.{not_both, first_one}
use Rattle.rules.specs.Plain.{checks, refused, accepted}
use Rattle.rules.specs.Laws.{Settled}
use Rattle.rules.proofs.Faults.{same_fault}

pub settled : Settled
settled net p c a b p' p'' (refused {f = x} f) (refused {f = y} g) = (ap Err (same_fault x y (first_one (checks net p c) _ _ f g)), refl)
settled net p c a b p' p'' (refused f) (accepted g) = absurd (not_both (checks net p c) _ f g)
settled net p c a b p' p'' (accepted f) (refused g) = absurd (not_both (checks net p c) _ g f)
settled net p c a b p' p'' (accepted f) (accepted g) = (refl, refl)
