use Rattle.std.proofs.Common.{ℕ, ◌<◌, Bool, true, false, MatchBool, length, subst, refl, rules, arith}
use Rattle.std.specs.List.{range_with_len, HoldsAt, AllWithin}
use Rattle.std.proofs.lemmas.List.FromFn.{length-range_with_len, get_or-range_with_len}
use Rattle.std.proofs.lemmas.Iterator.{YieldsList-from_range, cases_from_any}
use borrow.Author.Tests.{tests}
use Rattle.network.specs.Table.{Beaten}
use Rattle.network.proofs.grid.GridRef.has_detour.Goals as goal

-- some number below n, or none
some_below : (P : ℕ → Type 0) (n : ℕ) (r : Bool)
    → MatchBool r ((k : ℕ) × (k < length (range_with_len 0 n)) × HoldsAt P (range_with_len 0 n) k) (AllWithin (λ x. P x → ⊥) (range_with_len 0 n) 0 (length (range_with_len 0 n)))
    → MatchBool r ((k : ℕ) × P k) ((k : ℕ) → k < n → P k → ⊥)
some_below P n true h = (_, h.2 0)
some_below P n false h = λ k l p. h k 0 (omega arith) (simp length-range_with_len (omega arith)) (rw get_or-range_with_len (subst P (omega arith) p))

pub returns : goal.returns
returns c =
    let n = c.args.self.now.count in
    let beaten = Beaten n c.args.self.now.figures.now c.args.a c.args.b in
    some_below beaten n c.any.result
    (cases_from_any _ _ _ beaten (λ (x : ℕ). beaten x → ⊥) c.any.ensures.ran (YieldsList-from_range 0 n n refl (omega arith)) (λ x q k. search (rules, tests)) (λ x q k. search (rules, tests)))
