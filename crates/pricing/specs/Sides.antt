-- A side that has exact shares, as what they are worked from.
use Rattle.pricing.specs.declared.sharing.Sharing.{Sharing}
use Rattle.pricing.specs.Shares.{Basis, basis}

abbrev pub base_of : Sharing → Basis
base_of s = basis s.amount.dinars.0 s.weights s.relief.parts
