-- Distances that may be none, and the numbers at which there are any.
use Rattle.std.specs.Prelude.{◌≡◌, ℕ, ◌+◌, ◌<◌, ◌≤◌, min, ◌⊎◌, Some, None, Option, refl}
use Rattle.std.proofs.Common.{ap, inl, inr, arith}
use Rattle.std.proofs.lemmas.Bool.Decides.{nat_tests}
use Rattle.network.specs.Limits.{longest}
use Rattle.network.specs.Net.{inside, plus, least, capped}

pub inside_in : (n a b : ℕ) (o : Option ℕ) → a < n → b < n → inside n a b o ≡ o
inside_in n a b o h k = grind (arith, nat_tests)

pub inside_out : (n a b : ℕ) (o : Option ℕ) → (n ≤ a) ⊎ (n ≤ b) → inside n a b o ≡ None
inside_out n a b o h = grind (arith, nat_tests)

pub inside_some : (n a b k : ℕ) (o : Option ℕ) → inside n a b o ≡ Some k → (a < n) × ((b < n) × (o ≡ Some k))
inside_some n a b k o h = (grind (arith, nat_tests), (grind (arith, nat_tests), grind (arith, nat_tests)))

-- none is not some
pub never : {A : Type 0} (o : Option ℕ) (k : ℕ) → o ≡ None → o ≡ Some k → A
never o k e f = cc

pub some_is : (j k : ℕ) → Some j ≡ Some k → j ≡ k
some_is j k e = cc

-- o is there, and at most k
abbrev pub Within : Option ℕ → ℕ → Type 0
Within o k = (j : ℕ) × ((o ≡ Some j) × (j ≤ k))

pub exact : (o : Option ℕ) (k : ℕ) → o ≡ Some k → Within o k
exact o k e = (k, (e, omega arith))

pub looser : (o : Option ℕ) (j k : ℕ) → Within o j → j ≤ k → Within o k
looser o j k h l = (h.0, (h.1.0, omega (arith, h.1.1)))

pub at_zero : (o : Option ℕ) → Within o 0 → o ≡ Some 0
at_zero o h = let z : h.0 ≡ 0 = omega (arith, h.1.1) in cc (h.1.0)

pub least_left : (o r : Option ℕ) (k : ℕ) → Within o k → Within (least o r) k
least_left None r k h = never None h.0 refl h.1.0
least_left (Some i) None k h = h
least_left (Some i) (Some j) k h = let e : i ≡ h.0 = cc h.1.0 in (min i j, (refl, omega (arith, h.1.1)))

pub least_right : (o r : Option ℕ) (k : ℕ) → Within r k → Within (least o r) k
least_right None r k h = h
least_right (Some i) None k h = never None h.0 refl h.1.0
least_right (Some i) (Some j) k h = let e : j ≡ h.0 = cc h.1.0 in (min i j, (refl, omega (arith, h.1.1)))

pub least_some : (o r : Option ℕ) (k : ℕ) → least o r ≡ Some k → (o ≡ Some k) ⊎ (r ≡ Some k)
least_some None r k e = inr e
least_some (Some i) None k e = inl e
least_some (Some i) (Some j) k e = let f : min i j ≡ k = cc in grind arith

pub least_comm : (o r : Option ℕ) → least o r ≡ least r o
least_comm None None = refl
least_comm None (Some j) = refl
least_comm (Some i) None = refl
least_comm (Some i) (Some j) = ap Some (omega arith)

pub plus_in : (o r : Option ℕ) (i j k : ℕ) → Within o i → Within r j → i + j ≤ k → Within (plus o r) k
plus_in o r i j k g h l = (g.0 + h.0, (simp (g.1.0, h.1.0), omega (arith, g.1.1, h.1.1)))

pub plus_some : (o r : Option ℕ) (k : ℕ) → plus o r ≡ Some k → (i : ℕ) × ((j : ℕ) × ((o ≡ Some i) × ((r ≡ Some j) × (i + j ≡ k))))
plus_some None r k e = never None k refl e
plus_some (Some i) None k e = never None k refl e
plus_some (Some i) (Some j) k e = (i, (j, (refl, (refl, cc))))

pub plus_none : (o r : Option ℕ) → r ≡ None → plus o r ≡ None
plus_none None r e = refl
plus_none (Some i) r e = simp e

pub capped_in : (o : Option ℕ) (k l : ℕ) → Within o k → min longest k ≤ l → Within (capped o) l
capped_in o k l h m = (min longest h.0, (ap capped h.1.0, omega (arith, h.1.1)))

pub capped_some : (o : Option ℕ) (k : ℕ) → capped o ≡ Some k → (j : ℕ) × ((o ≡ Some j) × (min longest j ≡ k))
capped_some None k e = never None k refl e
capped_some (Some j) k e = (j, (refl, cc))
