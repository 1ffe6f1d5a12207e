-- Routes, and the least length over them.
use Rattle.std.specs.Prelude.{◌≡◌, ℕ, ◌+◌, ◌<◌, ◌≤◌, min, Some, None, Option}
use Rattle.network.specs.Limits.{longest}
use Rattle.network.specs.Net.{Net}

-- A route among n stations from one to another, and its length, where J a b l says that a pipe of length l joins a and b.
-- To stay at a station is a route of length 0, and a pipe with a route from its other end is one.
pub data Route (J : ℕ → ℕ → ℕ → Type 0) (n : ℕ) : ℕ → ℕ → ℕ → Type 0 where
  stay : (a : ℕ) → a < n → Route J n a a 0
  go : (a b c l k : ℕ) → J a b l → Route J n b c k → Route J n a c (l + k)

-- m is the least of the lengths of which R holds, 9,999 standing for that length or more: one of them has it, and none is below.
pub record LeastLength (R : ℕ → Type 0) (m : ℕ) : Type 0 where
  pub attained : (k : ℕ) × (R k × (min longest k ≡ m))
  pub none_shorter : (k : ℕ) → R k → m ≤ k

-- the least length, or none where R holds of no length
abbrev pub LeastOf : (ℕ → Type 0) → Option ℕ → Type 0
LeastOf R None = (k : ℕ) → R k → ⊥
LeastOf R (Some m) = LeastLength R m

-- The distance of any two of n stations is the least length over all routes between them.
pub record Shortest (J : ℕ → ℕ → ℕ → Type 0) (n : ℕ) (net : Net) : Type 0 where
  pub count : net.stations ≡ n
  pub least : (a b : ℕ) → LeastOf (Route J n a b) (net.distance a b)

-- Only one net has those distances.
abbrev pub OneShortest : (ℕ → ℕ → ℕ → Type 0) → ℕ → Type 0
OneShortest J n = (s t : Net) → Shortest J n s → Shortest J n t → s ≡ t
