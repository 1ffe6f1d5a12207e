-- What a distance source means, and the laws of its meaning.
use Rattle.std.specs.Prelude.{◌≡◌, ℕ, ◌+◌, ◌<◌, ◌≤◌, min, cond, ◌⊎◌, Some, None, Option, nat_lt}
use Rattle.network.specs.Limits.{most_stations, longest}

-- A count of stations, numbered from 0, and for each two numbers a distance in km or none.
pub record Net : Type 0 where
  pub stations : ℕ
  pub distance : ℕ → ℕ → Option ℕ

-- There are 1 to 1,000 stations. No distance is over 9,999, and there is none where either number is no station.
-- A station's distance to itself is 0. A distance is the same in both senses.
-- If a–b and b–c have distances, a–c has one, at most their sum.
pub record Lawful (n : Net) : Type 0 where
  pub some : 1 ≤ n.stations
  pub few : n.stations ≤ most_stations
  pub short : (a b k : ℕ) → n.distance a b ≡ Some k → k ≤ longest
  pub outside : (a b : ℕ) → (n.stations ≤ a) ⊎ (n.stations ≤ b) → n.distance a b ≡ None
  pub itself : (a : ℕ) → a < n.stations → n.distance a a ≡ Some 0
  pub mirror : (a b : ℕ) → n.distance a b ≡ n.distance b a
  pub detour : (a b c j k : ℕ) → n.distance a b ≡ Some j → n.distance b c ≡ Some k → (l : ℕ) × ((n.distance a c ≡ Some l) × (l ≤ j + k))

-- o where a and b are both below n, else none
abbrev pub inside : ℕ → ℕ → ℕ → Option ℕ → Option ℕ
inside n a b o = cond (nat_lt a n) (cond (nat_lt b n) o None) None

-- a sum, none where a part is none
abbrev pub plus : Option ℕ → Option ℕ → Option ℕ
plus None o = None
plus (Some j) None = None
plus (Some j) (Some k) = Some (j + k)

-- the smaller of those that are there
abbrev pub least : Option ℕ → Option ℕ → Option ℕ
least None o = o
least (Some j) None = Some j
least (Some j) (Some k) = Some (min j k)

-- 9,999 for that length or more
abbrev pub capped : Option ℕ → Option ℕ
capped None = None
capped (Some k) = Some (min longest k)
