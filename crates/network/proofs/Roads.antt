-- Routes, and what follows where the distances are the least lengths over them.
use Rattle.std.proofs.Common.{◌≡◌, ℕ, ◌+◌, ◌<◌, ◌≤◌, min, Some, None, Option, sym, refl, ap, ◌∙◌, subst, ⊎_elim, arith}
use Rattle.network.specs.Limits.{most_stations, longest}
use Rattle.network.specs.Net.{Net, Lawful}
use Rattle.network.specs.Routes.{Route, LeastOf, Shortest, OneShortest}
use Rattle.network.specs.Routes.Route.{stay, go}
use Rattle.network.specs.Nets.{Within, at_zero, never}

-- a length of R bounds the least
pub bounded : (R : ℕ → Type 0) (o : Option ℕ) (k : ℕ) → LeastOf R o → R k → Within o (min longest k)
bounded R None k h r = absurd (h k r)
bounded R (Some m) k h r = (m, (refl, omega (arith, h.none_shorter k r, h.attained.1.1)))

-- the least is a length of R
pub witness : (R : ℕ → Type 0) (o : Option ℕ) (m : ℕ) → LeastOf R o → o ≡ Some m → (k : ℕ) × (R k × (min longest k ≡ m))
witness R None m h e = never None m refl e
witness R (Some i) m h e = let f : i ≡ m = cc in (h.attained.0, (h.attained.1.0, h.attained.1.1 ∙ f))

pub none_of : (R : ℕ → Type 0) (o : Option ℕ) → LeastOf R o → ((k : ℕ) → R k → ⊥) → o ≡ None
none_of R None h no_one = refl
none_of R (Some m) h no_one = absurd (no_one h.attained.0 h.attained.1.0)

-- two families with the same lengths have the same least
pub same_least : (R S : ℕ → Type 0) (o r : Option ℕ) → ((k : ℕ) → R k → S k) → ((k : ℕ) → S k → R k) → LeastOf R o → LeastOf S r → o ≡ r
same_least R S None None f g h i = refl
same_least R S None (Some m) f g h i = absurd (h i.attained.0 (g i.attained.0 i.attained.1.0))
same_least R S (Some m) None f g h i = absurd (i h.attained.0 (f h.attained.0 h.attained.1.0))
same_least R S (Some m) (Some l) f g h i =
    ap Some (omega (arith, h.attained.1.1, i.attained.1.1, h.none_shorter i.attained.0 (g i.attained.0 i.attained.1.0), i.none_shorter h.attained.0 (f h.attained.0 h.attained.1.0)))

-- so the least lengths make one net
pub one_shortest : (J : ℕ → ℕ → ℕ → Type 0) (n : ℕ) → OneShortest J n
one_shortest J n s t hs ht =
    let count : s.stations ≡ t.stations = hs.count ∙ sym ht.count in
    let far : (a b : ℕ) → s.distance a b ≡ t.distance a b =
    λ a b. same_least (Route J n a b) (Route J n a b) (s.distance a b) (t.distance a b) (λ k r. r) (λ k r. r) (hs.least a b) (ht.least a b) in
    λ i. record { stations = count i; distance = λ a b. far a b i }

module _ (J : ℕ → ℕ → ℕ → Type 0) (n : ℕ)
    (turn : (a b l : ℕ) → J a b l → J b a l)
    (ends : (a b l : ℕ) → J a b l → (a < n) × (b < n)) where
  relength : (a b j k : ℕ) → j ≡ k → Route J n a b j → Route J n a b k
  relength a b j k e r = subst (Route J n a b) e r

  pub first_in : (a b k : ℕ) → Route J n a b k → a < n
  first_in _ _ _ (stay a h) = h
  first_in _ _ _ (go a b c l k p r) = (ends a b l p).0

  pub last_in : (a b k : ℕ) → Route J n a b k → b < n
  last_in _ _ _ (stay a h) = h
  last_in _ _ _ (go a b c l k p r) = last_in b c k r

  -- one route after another
  pub then : (a b c j k : ℕ) → Route J n a b j → Route J n b c k → Route J n a c (j + k)
  then _ _ c _ k (stay a h) s = relength a c k (0 + k) (omega arith) s
  then _ _ d _ k (go a b c l m p r) s = relength a d (l + (m + k)) ((l + m) + k) (omega arith) (go a b d l (m + k) p (then b c d m k r s))

  -- a route in the other sense
  turned : (a b k : ℕ) → Route J n a b k → Route J n b a k
  turned _ _ _ (stay a h) = stay a h
  turned _ _ _ (go a b c l m p r) =
      relength c a (m + (l + 0)) (l + m) (omega arith) (then c b a m (l + 0) (turned b c m r) (go b a a l 0 (turn a b l p) (stay a (ends a b l p).0)))

  pub shortest_lawful : (net : Net) → 1 ≤ n → n ≤ most_stations → Shortest J n net → Lawful net
  shortest_lawful net some few sh = record {
    some = omega (arith, sh.count);
    few = omega (arith, sh.count);
    short = λ a b m e. let w = witness (Route J n a b) (net.distance a b) m (sh.least a b) e in omega (arith, w.1.1);
    outside = λ a b h. none_of (Route J n a b) (net.distance a b) (sh.least a b)
        (λ k r. ⊎_elim (λ i. omega (arith, first_in a b k r, sh.count)) (λ i. omega (arith, last_in a b k r, sh.count)) h);
    itself = λ a h.
        let w = bounded (Route J n a a) (net.distance a a) 0 (sh.least a a) (stay a (omega (arith, sh.count))) in
        at_zero (net.distance a a) (w.0, (w.1.0, omega (arith, w.1.1)));
    mirror = λ a b. same_least (Route J n a b) (Route J n b a) (net.distance a b) (net.distance b a) (turned a b) (turned b a) (sh.least a b) (sh.least b a);
    detour = λ a b c j k e f.
        let v = witness (Route J n a b) (net.distance a b) j (sh.least a b) e in
        let w = witness (Route J n b c) (net.distance b c) k (sh.least b c) f in
        let t = bounded (Route J n a c) (net.distance a c) (v.0 + w.0) (sh.least a c) (then a b c v.0 w.0 v.1.0 w.1.0) in
        (t.0, (t.1.0, omega (arith, t.1.1, v.1.1, w.1.1)));
  }
