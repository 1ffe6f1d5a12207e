-- The laws of a pairing of two lawful nets.
use Rattle.std.specs.Prelude.{◌≡◌, ℕ, ◌+◌, ◌-◌, ◌<◌, ◌≤◌, min, ◌⊎◌, Some, None, Option}
use Rattle.std.proofs.Math.Path.{sym}
use Rattle.std.proofs.Common.{ap, ◌∙◌, inl, inr, ⊎_elim, arith}
use Rattle.std.proofs.lemmas.Bool.Decides.{nat_tests}
use Rattle.std.proofs.lemmas.Bool.{cases_lt}
use Rattle.network.specs.Limits.{most_stations, longest}
use Rattle.network.specs.Net.{Net, Lawful, plus, capped}
use Rattle.network.specs.Pairing.{across, paired, pairing_net, cut_pairing}
use Rattle.network.specs.Nets.{inside_in, inside_out, inside_some, Within, exact, plus_in, plus_some, plus_none, capped_in, capped_some}

-- a fact about each of two numbers, each below a bound or not
four : {P : Type 0} (n a b : ℕ) → (a < n → b < n → P) → (a < n → n ≤ b → P) → (n ≤ a → b < n → P) → (n ≤ a → n ≤ b → P) → P
four n a b p q r s =
    ⊎_elim
    (λ h. ⊎_elim (p h) (q h) (cases_lt b n))
    (λ h. ⊎_elim (r h) (s h) (cases_lt b n))
    (cases_lt a n)

onto : (o r : Option ℕ) (k : ℕ) → o ≡ r → Within r k → Within o k
onto o r k e h = (h.0, (e ∙ h.1.0, h.1.1))

-- a distance that is there is at most 9,999
shorter : (o : Option ℕ) (j k : ℕ) → ((i : ℕ) → o ≡ Some i → i ≤ longest) → Within o j → min longest j ≤ k → Within o k
shorter o j k s h l = (h.0, (h.1.0, omega (arith, h.1.1, s h.0 h.1.0)))

module _ (s t : Net) (sl : Lawful s) (tl : Lawful t) (x y : ℕ) where
  abbrev m : ℕ
  m = s.stations

  far : ℕ → ℕ → Option ℕ
  far a b = paired s t x y a b

  -- the four places of a pair
  at_ss : (a b : ℕ) → a < m → b < m → far a b ≡ s.distance a b
  unfolding far
  at_ss a b h k = grind (arith, nat_tests)

  at_st : (a b : ℕ) → a < m → m ≤ b → far a b ≡ across s t x y a (b - m)
  unfolding far
  at_st a b h k = grind (arith, nat_tests)

  at_ts : (a b : ℕ) → m ≤ a → b < m → far a b ≡ across s t x y b (a - m)
  unfolding far
  at_ts a b h k = grind (arith, nat_tests)

  at_tt : (a b : ℕ) → m ≤ a → m ≤ b → far a b ≡ t.distance (a - m) (b - m)
  unfolding far
  at_tt a b h k = grind (arith, nat_tests)

  mirror : (a b : ℕ) → far a b ≡ far b a
  mirror a b =
      four m a b
      (λ h k. at_ss a b h k ∙ sl.mirror a b ∙ sym (at_ss b a k h))
      (λ h k. at_st a b h k ∙ sym (at_ts b a k h))
      (λ h k. at_ts a b h k ∙ sym (at_st b a k h))
      (λ h k. at_tt a b h k ∙ tl.mirror (a - m) (b - m) ∙ sym (at_tt b a k h))

  -- a distance across, by its two parts
  parts : (a b k : ℕ) → across s t x y a b ≡ Some k → (i : ℕ) × ((j : ℕ) × ((s.distance a x ≡ Some i) × ((t.distance y b ≡ Some j) × (min longest (i + j) ≡ k))))
  parts a b k e =
      let h = capped_some (plus (s.distance a x) (t.distance y b)) k e in
      let p = plus_some (s.distance a x) (t.distance y b) h.0 h.1.0 in
      (p.0, (p.1.0, (p.1.1.0, (p.1.1.1.0, omega (arith, p.1.1.1.1, h.1.1)))))

  cross : (a b i j k : ℕ) → Within (s.distance a x) i → Within (t.distance y b) j → min longest (i + j) ≤ k → Within (across s t x y a b) k
  cross a b i j k g h l = capped_in (plus (s.distance a x) (t.distance y b)) (i + j) k (plus_in (s.distance a x) (t.distance y b) i j (i + j) g h (omega arith)) l

  detour : (a b c j k : ℕ) → far a b ≡ Some j → far b c ≡ Some k → Within (far a c) (j + k)
  detour a b c j k e f =
      four m a c
      (λ ha hc. ⊎_elim
      (λ hb. onto _ _ (j + k) (at_ss a c ha hc) (sl.detour a b c j k (sym (at_ss a b ha hb) ∙ e) (sym (at_ss b c hb hc) ∙ f)))
      (λ hb.
      let v = parts a (b - m) j (sym (at_st a b ha hb) ∙ e) in
      let w = parts c (b - m) k (sym (at_ts b c hb hc) ∙ f) in
      let d = sl.detour a x c v.0 w.0 v.1.1.0 (sl.mirror x c ∙ w.1.1.0) in
      onto _ _ (j + k) (at_ss a c ha hc) (shorter (s.distance a c) (v.0 + w.0) (j + k) (sl.short a c) d (omega (arith, v.1.1.1.1, w.1.1.1.1))))
      (cases_lt b m))
      (λ ha hc. ⊎_elim
      (λ hb.
      let w = parts b (c - m) k (sym (at_st b c hb hc) ∙ f) in
      let d = sl.detour a b x j w.0 (sym (at_ss a b ha hb) ∙ e) w.1.1.0 in
      onto _ _ (j + k) (at_st a c ha hc) (cross a (c - m) (j + w.0) w.1.0 (j + k) d (exact _ w.1.0 w.1.1.1.0) (omega (arith, w.1.1.1.1))))
      (λ hb.
      let v = parts a (b - m) j (sym (at_st a b ha hb) ∙ e) in
      let d = tl.detour y (b - m) (c - m) v.1.0 k v.1.1.1.0 (sym (at_tt b c hb hc) ∙ f) in
      onto _ _ (j + k) (at_st a c ha hc) (cross a (c - m) v.0 (v.1.0 + k) (j + k) (exact _ v.0 v.1.1.0) d (omega (arith, v.1.1.1.1))))
      (cases_lt b m))
      (λ ha hc. ⊎_elim
      (λ hb.
      let v = parts b (a - m) j (sym (at_ts a b ha hb) ∙ e) in
      let d = sl.detour c b x k v.0 (sl.mirror c b ∙ sym (at_ss b c hb hc) ∙ f) v.1.1.0 in
      onto _ _ (j + k) (at_ts a c ha hc) (cross c (a - m) (k + v.0) v.1.0 (j + k) d (exact _ v.1.0 v.1.1.1.0) (omega (arith, v.1.1.1.1))))
      (λ hb.
      let w = parts c (b - m) k (sym (at_ts b c hb hc) ∙ f) in
      let d = tl.detour y (b - m) (a - m) w.1.0 j w.1.1.1.0 (tl.mirror (b - m) (a - m) ∙ sym (at_tt a b ha hb) ∙ e) in
      onto _ _ (j + k) (at_ts a c ha hc) (cross c (a - m) w.0 (w.1.0 + j) (j + k) (exact _ w.0 w.1.1.0) d (omega (arith, w.1.1.1.1))))
      (cases_lt b m))
      (λ ha hc. ⊎_elim
      (λ hb.
      let v = parts b (a - m) j (sym (at_ts a b ha hb) ∙ e) in
      let w = parts b (c - m) k (sym (at_st b c hb hc) ∙ f) in
      let d = tl.detour (a - m) y (c - m) v.1.0 w.1.0 (tl.mirror (a - m) y ∙ v.1.1.1.0) w.1.1.1.0 in
      onto _ _ (j + k) (at_tt a c ha hc) (shorter (t.distance (a - m) (c - m)) (v.1.0 + w.1.0) (j + k) (tl.short (a - m) (c - m)) d (omega (arith, v.1.1.1.1, w.1.1.1.1))))
      (λ hb. onto _ _ (j + k) (at_tt a c ha hc) (tl.detour (a - m) (b - m) (c - m) j k (sym (at_tt a b ha hb) ∙ e) (sym (at_tt b c hb hc) ∙ f)))
      (cases_lt b m))

  outside_right : (a b : ℕ) → m + t.stations ≤ b → far a b ≡ None
  outside_right a b h =
      let hb : m ≤ b = omega arith in
      let over : t.stations ≤ b - m = omega arith in
      ⊎_elim
      (λ ha. at_st a b ha hb ∙ ap capped (plus_none (s.distance a x) (t.distance y (b - m)) (tl.outside y (b - m) (inr over))))
      (λ ha. at_tt a b ha hb ∙ tl.outside (a - m) (b - m) (inr over))
      (cases_lt a m)

  outside : (a b : ℕ) → (m + t.stations ≤ a) ⊎ (m + t.stations ≤ b) → far a b ≡ None
  outside a b (inl h) = mirror a b ∙ outside_right b a h
  outside a b (inr h) = outside_right a b h

  short : (a b k : ℕ) → far a b ≡ Some k → k ≤ longest
  short a b k e =
      four m a b
      (λ h i. sl.short a b k (sym (at_ss a b h i) ∙ e))
      (λ h i. let w = parts a (b - m) k (sym (at_st a b h i) ∙ e) in omega (arith, w.1.1.1.1))
      (λ h i. let w = parts b (a - m) k (sym (at_ts a b h i) ∙ e) in omega (arith, w.1.1.1.1))
      (λ h i. tl.short (a - m) (b - m) k (sym (at_tt a b h i) ∙ e))

  itself : (a : ℕ) → a < m + t.stations → far a a ≡ Some 0
  itself a l =
      ⊎_elim
      (λ h. at_ss a a h h ∙ sl.itself a h)
      (λ h. at_tt a a h h ∙ tl.itself (a - m) (omega arith))
      (cases_lt a m)

  -- the cut at 1,000
  in_cut : (a b k : ℕ) → (cut_pairing s t x y).distance a b ≡ Some k → (a < most_stations) × ((b < most_stations) × (far a b ≡ Some k))
  unfolding far
  in_cut a b k e = inside_some most_stations a b k (paired s t x y a b) e

  cut_is : (a b : ℕ) → a < most_stations → b < most_stations → (cut_pairing s t x y).distance a b ≡ far a b
  unfolding far
  cut_is a b h i = inside_in most_stations a b (paired s t x y a b) h i

  cut_off : (a b : ℕ) → (most_stations ≤ a) ⊎ (most_stations ≤ b) → (cut_pairing s t x y).distance a b ≡ None
  cut_off a b h = inside_out most_stations a b (paired s t x y a b) h

  cut_outside : (a b : ℕ) → (min most_stations (m + t.stations) ≤ a) ⊎ (min most_stations (m + t.stations) ≤ b) → (cut_pairing s t x y).distance a b ≡ None
  cut_outside a b h =
      four most_stations a b
      (λ i j.
      let over : (m + t.stations ≤ a) ⊎ (m + t.stations ≤ b) = ⊎_elim (λ p. inl (omega arith)) (λ p. inr (omega arith)) h in
      cut_is a b i j ∙ outside a b over)
      (λ i j. cut_off a b (inr j))
      (λ i j. cut_off a b (inl i))
      (λ i j. cut_off a b (inl i))

  cut_mirror : (a b : ℕ) → (cut_pairing s t x y).distance a b ≡ (cut_pairing s t x y).distance b a
  cut_mirror a b =
      four most_stations a b
      (λ i j. cut_is a b i j ∙ mirror a b ∙ sym (cut_is b a j i))
      (λ i j. cut_off a b (inr j) ∙ sym (cut_off b a (inl j)))
      (λ i j. cut_off a b (inl i) ∙ sym (cut_off b a (inr i)))
      (λ i j. cut_off a b (inl i) ∙ sym (cut_off b a (inr i)))

  pub cut_lawful : Lawful (cut_pairing s t x y)
  cut_lawful = record {
    some = omega (arith, sl.some);
    few = omega arith;
    short = λ a b k e. short a b k (in_cut a b k e).1.1;
    outside = cut_outside;
    itself = λ a h. cut_is a a (omega arith) (omega arith) ∙ itself a (omega arith);
    mirror = cut_mirror;
    detour = λ a b c j k e f.
        let g = in_cut a b j e in
        let h = in_cut b c k f in
        onto _ _ (j + k) (cut_is a c g.0 h.1.0) (detour a b c j k g.1.1 h.1.1);
  }

  whole_distance : m + t.stations ≤ most_stations → (a b : ℕ) → (cut_pairing s t x y).distance a b ≡ (pairing_net s t x y).distance a b
  unfolding far
  whole_distance l a b =
      four most_stations a b
      (λ i j. cut_is a b i j)
      (λ i j. cut_off a b (inr j) ∙ sym (outside a b (inr (omega arith))))
      (λ i j. cut_off a b (inl i) ∙ sym (outside a b (inl (omega arith))))
      (λ i j. cut_off a b (inl i) ∙ sym (outside a b (inl (omega arith))))

  -- where the counts add up to at most 1,000, nothing is cut off
  pub whole : m + t.stations ≤ most_stations → cut_pairing s t x y ≡ pairing_net s t x y
  whole l =
      let count : min most_stations (m + t.stations) ≡ m + t.stations = omega arith in
      λ i. record { stations = count i; distance = λ a b. whole_distance l a b i }
