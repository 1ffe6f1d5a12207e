-- Sums by element, one record at a time, and their bounds.
use Rattle.std.proofs.Common.{◌≡◌, ℕ, ◌+◌, ◌*◌, ◌<◌, ◌≤◌, Bool, true, false, cond, List, [], ◌∷◌, ◌++◌, length, get_or, take, sum_by, Some, None, Option, sym, refl, ap, ◌∙◌, subst, mul_comm, mul-le-mul_left, arith}
use Rattle.std.proofs.lemmas.List.{take_more}
use Rattle.std.proofs.lemmas.List.Sums.{sum_by-cons, sum_by_push, sum_by_more, sum_by-take-le, get_or-le-sum_by}
use Rattle.terms.specs.declared.points.Side.{Side}
use Rattle.terms.specs.declared.points.Side.TheVariants.{Exit}
use Rattle.terms.specs.declared.points.Kind.{Kind}
use Rattle.terms.specs.declared.points.Kind.TheVariants.{Storage}
use Rattle.network.specs.Limits.{longest}
use Rattle.network.specs.Net.{Net, Lawful}
use Rattle.pricing.specs.declared.elements.Elements.{Elements}
use Rattle.rules.specs.Limits.{most_lots}
use Rattle.rules.specs.Weights.{main_kind, other_kind, same_kind, sum_of_kind, km}
use Rattle.book.specs.declared.record.PointRecord.{PointRecord}
use Rattle.book.specs.Records.{record_lots, blank}
use Rattle.book.specs.Tallies.{no_weights, plus, both, tally, record_load, record_reach, record_weights, brought, Within, most_reach}
use Rattle.book.proofs.Sums.{sum_of_kind_push, sum_of_kind_le}

abbrev pub elements : {T : Type 0} → T → T → T → Elements T
elements a b c = record { main = a; other = b; storage = c }

pub same_elements : {T : Type 0} (a b c a' b' c' : T) → a ≡ a' → b ≡ b' → c ≡ c' → elements a b c ≡ elements a' b' c'
same_elements a b c a' b' c' p q r = ap (λ x. elements x b c) p ∙ ap (λ x. elements a' x c) q ∙ ap (λ x. elements a' b' x) r

-- ---- one record more

tally_push : (s : Side) (f : PointRecord → ℕ) (xs : List PointRecord) (x : PointRecord) → plus s x.kind (tally s f xs) (f x) ≡ tally s f (xs ++ (x ∷ []))
tally_push s f xs x =
    same_elements _ _ _ _ _ _ (sym (sum_of_kind_push (λ r. r.kind) f (main_kind s) xs x)) (sym (sum_of_kind_push (λ r. r.kind) f (other_kind s) xs x)) (sym (sum_of_kind_push (λ r. r.kind) f Storage xs x))

pub tally_more : (s : Side) (f : PointRecord → ℕ) (xs : List PointRecord) (i : ℕ) (d : PointRecord) → i < length xs → plus s (get_or xs i d).kind (tally s f (take i xs)) (f (get_or xs i d)) ≡ tally s f (take (i + 1) xs)
tally_more s f xs i d l = tally_push s f (take i xs) (get_or xs i d) ∙ ap (tally s f) (sym (take_more xs i d l))

pub plus_both : (s : Side) (k : Kind) (a w : Elements ℕ) (n : ℕ) → plus s k (both a w) n ≡ both a (plus s k w n)
plus_both s k a w n = same_elements _ _ _ _ _ _ (omega arith) (omega arith) (omega arith)

-- ---- bounds

pub within_none : Within no_weights 0
within_none = record { main = omega arith; other = omega arith; storage = omega arith }

pub within_le : (w : Elements ℕ) (a b : ℕ) → a ≤ b → Within w a → Within w b
within_le w a b l h = record { main = (let x = h.main in omega arith); other = (let x = h.other in omega arith); storage = (let x = h.storage in omega arith) }

pub plus_within : (s : Side) (k : Kind) (w : Elements ℕ) (n b : ℕ) → Within w b → Within (plus s k w n) (b + n)
plus_within s k w n b h = record { main = by (same_kind (main_kind s) k) w.main h.main; other = by (same_kind (other_kind s) k) w.other h.other; storage = by (same_kind Storage k) w.storage h.storage }
  where
    by : (t : Bool) (m : ℕ) → m ≤ b → m + cond t n 0 ≤ b + n
    by true m l = omega arith
    by false m l = omega arith

pub tally_within : (s : Side) (f : PointRecord → ℕ) (xs : List PointRecord) → Within (tally s f xs) (sum_by f xs)
tally_within s f xs = record { main = sum_of_kind_le (λ r. r.kind) f (main_kind s) xs; other = sum_of_kind_le (λ r. r.kind) f (other_kind s) xs; storage = sum_of_kind_le (λ r. r.kind) f Storage xs }

pub times_le : (l r m : ℕ) → r ≤ m → l * r ≤ m * l
times_le l r m h = rw (mul_comm m l) (mul-le-mul_left l h)

km_le : (net : Net) → Lawful net → (a b : ℕ) → km (net.distance a b) ≤ longest
km_le net lawful a b = by (net.distance a b) refl
  where
    by : (o : Option ℕ) → net.distance a b ≡ o → km o ≤ longest
    by None e = omega arith
    by (Some d) e = lawful.short a b d e

module _ (net : Net) (lawful : Lawful net) (at : ℕ) where
  load_le : (r : PointRecord) → record_load net at r ≤ longest * r.lots.0
  load_le r = times_le r.lots.0 _ longest (km_le net lawful at r.station)

  reach_le : (rs : List PointRecord) → record_reach net at rs ≤ longest * record_lots rs
  reach_le [] = omega arith
  reach_le (r ∷ rs) =
      let a = load_le r in
      let b = reach_le rs in
      omega (arith, sum_by-cons (record_load net at) r rs, sum_by-cons (λ (x : PointRecord). x.lots.0) r rs, a, b)

  -- the first records of a side that has no more lots than it may
  pub reach_few : (rs : List PointRecord) (i : ℕ) → record_lots rs ≤ most_lots → record_reach net at (take i rs) ≤ most_reach
  reach_few rs i h = let a = reach_le (take i rs) in let b = sum_by-take-le (λ r. r.lots.0) rs i in omega arith

  pub load_few : (rs : List PointRecord) (i : ℕ) → i < length rs → record_lots rs ≤ most_lots → record_load net at (get_or rs i blank) ≤ most_reach
  load_few rs i l h = let a = load_le (get_or rs i blank) in let b = get_or-le-sum_by (λ r. r.lots.0) rs i blank l in omega arith

-- ---- what a point has with one exit more, of which its distance was asked

module _ (net : Net) (e : PointRecord) (xs : List PointRecord) (i d : ℕ) (o : Option ℕ) (l : i < length xs) (is : d ≡ km o) (asked : o ≡ net.distance e.station (get_or xs i blank).station) where
  abbrev next : PointRecord
  next = get_or xs i blank

  far : d ≡ km (net.distance e.station next.station)
  far = is ∙ ap km asked

  pub reach_more : (reach : ℕ) → reach ≡ record_reach net e.station (take i xs) → reach + next.lots.0 * d ≡ record_reach net e.station (take (i + 1) xs)
  reach_more reach r =
      ap (λ n. n + next.lots.0 * d) r
      ∙ ap (λ n. record_reach net e.station (take i xs) + next.lots.0 * n) far
      ∙ sym (sum_by_more (record_load net e.station) xs i blank l)

  pub brought_more : (before weights : Elements ℕ) → weights ≡ both before (tally Exit (brought net e) (take i xs)) → plus Exit next.kind weights (e.lots.0 * (next.lots.0 * d)) ≡ both before (tally Exit (brought net e) (take (i + 1) xs))
  brought_more before weights w =
      ap (λ s. plus Exit next.kind s (e.lots.0 * (next.lots.0 * d))) w
      ∙ plus_both Exit next.kind before _ _
      ∙ ap (λ n. both before (plus Exit next.kind (tally Exit (brought net e) (take i xs)) (e.lots.0 * (next.lots.0 * n)))) far
      ∙ ap (both before) (tally_more Exit (brought net e) xs i blank l)

  pub part_few : Lawful net → record_lots xs ≤ most_lots → next.lots.0 * d ≤ most_reach
  part_few lawful light = subst (λ n. next.lots.0 * n ≤ most_reach) (sym far) (load_few net lawful e.station xs i l light)

-- ---- the other side's weights, with one record more

module _ (net : Net) (lawful : Lawful net) (e : PointRecord) where
  abbrev from : List PointRecord → PointRecord → ℕ
  from es x = x.lots.0 * record_reach net x.station es

  other_push : (k : Kind) (es xs : List PointRecord) → sum_of_kind (λ r. r.kind) (from (es ++ (e ∷ []))) k xs ≡ sum_of_kind (λ r. r.kind) (from es) k xs + sum_of_kind (λ r. r.kind) (brought net e) k xs
  other_push k es [] = refl
  other_push k es (x ∷ xs) = by (same_kind k x.kind) (other_push k es xs)
    where
      one : from (es ++ (e ∷ [])) x ≡ from es x + brought net e x
      one =
          let p = sum_by_push (record_load net x.station) es e in
          let q = ap km (lawful.mirror x.station e.station) in
          ap (λ n. x.lots.0 * n) p ∙ ap (λ d. x.lots.0 * (record_reach net x.station es + e.lots.0 * d)) q ∙ omega arith

      by : (t : Bool) → sum_of_kind (λ r. r.kind) (from (es ++ (e ∷ []))) k xs ≡ sum_of_kind (λ r. r.kind) (from es) k xs + sum_of_kind (λ r. r.kind) (brought net e) k xs → cond t (from (es ++ (e ∷ [])) x) 0 + sum_of_kind (λ r. r.kind) (from (es ++ (e ∷ []))) k xs ≡ (cond t (from es x) 0 + sum_of_kind (λ r. r.kind) (from es) k xs) + (cond t (brought net e x) 0 + sum_of_kind (λ r. r.kind) (brought net e) k xs)
      by true h = let o = one in omega (arith, o, h)
      by false h = omega (arith, h)

  weights_other : (s : Side) (xs es : List PointRecord) → record_weights net s xs (es ++ (e ∷ [])) ≡ both (record_weights net s xs es) (tally s (brought net e) xs)
  weights_other s xs es = same_elements _ _ _ _ _ _ (other_push (main_kind s) es xs) (other_push (other_kind s) es xs) (other_push Storage es xs)

pub other_more : (net : Net) (lawful : Lawful net) (s : Side) (xs es : List PointRecord) (i : ℕ) (d : PointRecord) → i < length es → both (record_weights net s xs (take i es)) (tally s (brought net (get_or es i d)) xs) ≡ record_weights net s xs (take (i + 1) es)
other_more net lawful s xs es i d l = sym (weights_other net lawful (get_or es i d) s xs (take i es)) ∙ ap (record_weights net s xs) (sym (take_more es i d l))

none_by : (net : Net) (k : Kind) (xs : List PointRecord) → 0 ≡ sum_of_kind (λ r. r.kind) (λ r. r.lots.0 * record_reach net r.station []) k xs
none_by net k [] = refl
none_by net k (x ∷ xs) = by (same_kind k x.kind) (none_by net k xs)
  where
    by : (t : Bool) → 0 ≡ sum_of_kind (λ r. r.kind) (λ r. r.lots.0 * record_reach net r.station []) k xs → 0 ≡ cond t (x.lots.0 * 0) 0 + sum_of_kind (λ r. r.kind) (λ r. r.lots.0 * record_reach net r.station []) k xs
    by true e = omega arith
    by false e = omega arith

-- against no points no weight
pub none_other : (net : Net) (s : Side) (xs : List PointRecord) → no_weights ≡ record_weights net s xs []
none_other net s xs = same_elements _ _ _ _ _ _ (none_by net (main_kind s) xs) (none_by net (other_kind s) xs) (none_by net Storage xs)
