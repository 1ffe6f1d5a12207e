-- The laws of a link over any lawful net.
use Rattle.std.specs.Prelude.{◌≡◌, ℕ, ◌+◌, ◌≤◌, ◌⊎◌, Some, None, Option, refl}
use Rattle.std.proofs.Common.{sym, ap, ◌∙◌, inl, inr, ⊎_elim, arith}
use Rattle.network.specs.Limits.{longest}
use Rattle.network.specs.Net.{Net, Lawful, plus, least, capped}
use Rattle.network.specs.Link.{via, link_net, LinkLaw}
use Rattle.network.specs.Nets.{Within, exact, at_zero, least_left, least_right, least_some, least_comm, plus_in, plus_some, plus_none, capped_in, capped_some}

turned : (o r : Option ℕ) (l : ℕ) → plus (plus o (Some l)) r ≡ plus (plus r (Some l)) o
turned None None l = refl
turned None (Some j) l = refl
turned (Some i) None l = refl
turned (Some i) (Some j) l = ap Some (omega arith)

module _ (n : Net) (law : Lawful n) (p q len : ℕ) where
  -- before the cap
  abbrev pub raw : ℕ → ℕ → Option ℕ
  raw a b = least (n.distance a b) (least (via n p q len a b) (via n q p len a b))

  -- where a length comes from
  pub data Over (a b k : ℕ) : Type 0 where
    straight : n.distance a b ≡ Some k → Over a b k
    forth : (u v : ℕ) → n.distance a p ≡ Some u → n.distance q b ≡ Some v → (u + len) + v ≡ k → Over a b k
    back : (u v : ℕ) → n.distance a q ≡ Some u → n.distance p b ≡ Some v → (u + len) + v ≡ k → Over a b k

  via_some : (s t a b k : ℕ) → via n s t len a b ≡ Some k → (u : ℕ) × ((v : ℕ) × ((n.distance a s ≡ Some u) × ((n.distance t b ≡ Some v) × ((u + len) + v ≡ k))))
  via_some s t a b k e =
      let h = plus_some (plus (n.distance a s) (Some len)) (n.distance t b) k e in
      let i = plus_some (n.distance a s) (Some len) h.0 h.1.1.0 in
      let m : i.1.0 ≡ len = cc i.1.1.1.0 in
      (i.0, (h.1.0, (i.1.1.0, (h.1.1.1.0, omega (arith, i.1.1.1.1, h.1.1.1.1)))))

  pub raw_some : (a b k : ℕ) → raw a b ≡ Some k → Over a b k
  raw_some a b k e =
      ⊎_elim straight
      (λ f. ⊎_elim
      (λ g. let h = via_some p q a b k g in forth h.0 h.1.0 h.1.1.0 h.1.1.1.0 h.1.1.1.1)
      (λ g. let h = via_some q p a b k g in back h.0 h.1.0 h.1.1.0 h.1.1.1.0 h.1.1.1.1)
      (least_some _ _ k f))
      (least_some _ _ k e)

  via_in : (s t a b i j k : ℕ) → Within (n.distance a s) i → Within (n.distance t b) j → (i + len) + j ≤ k → Within (via n s t len a b) k
  via_in s t a b i j k g h l =
      plus_in (plus (n.distance a s) (Some len)) (n.distance t b) (i + len) j k (plus_in (n.distance a s) (Some len) i len (i + len) g (exact (Some len) len refl) (omega arith)) h l

  pub in_straight : (a b j k : ℕ) → Within (n.distance a b) j → j ≤ k → Within (raw a b) k
  in_straight a b j k h l = least_left (n.distance a b) (least (via n p q len a b) (via n q p len a b)) k (h.0, (h.1.0, omega (arith, h.1.1)))

  pub in_forth : (a b i j k : ℕ) → Within (n.distance a p) i → Within (n.distance q b) j → (i + len) + j ≤ k → Within (raw a b) k
  in_forth a b i j k g h l =
      least_right (n.distance a b) (least (via n p q len a b) (via n q p len a b)) k
      (least_left (via n p q len a b) (via n q p len a b) k (via_in p q a b i j k g h l))

  pub in_back : (a b i j k : ℕ) → Within (n.distance a q) i → Within (n.distance p b) j → (i + len) + j ≤ k → Within (raw a b) k
  in_back a b i j k g h l =
      least_right (n.distance a b) (least (via n p q len a b) (via n q p len a b)) k
      (least_right (via n p q len a b) (via n q p len a b) k (via_in q p a b i j k g h l))

  -- a detour over b: the link is passed at most once
  pub joined : (a b c j k : ℕ) → Over a b j → Over b c k → Within (raw a c) (j + k)
  joined a b c j k (straight e) (straight f) = in_straight a c (j + k) (j + k) (law.detour a b c j k e f) (omega arith)
  joined a b c j k (straight e) (forth u v f g s) = in_forth a c (j + u) v (j + k) (law.detour a b p j u e f) (exact _ v g) (omega arith)
  joined a b c j k (straight e) (back u v f g s) = in_back a c (j + u) v (j + k) (law.detour a b q j u e f) (exact _ v g) (omega arith)
  joined a b c j k (forth u v f g s) (straight e) = in_forth a c u (v + k) (j + k) (exact _ u f) (law.detour q b c v k g e) (omega arith)
  joined a b c j k (back u v f g s) (straight e) = in_back a c u (v + k) (j + k) (exact _ u f) (law.detour p b c v k g e) (omega arith)
  joined a b c j k (forth u v f g s) (forth w x y z t) = in_forth a c u x (j + k) (exact _ u f) (exact _ x z) (omega arith)
  joined a b c j k (forth u v f g s) (back w x y z t) = in_straight a c (u + x) (j + k) (law.detour a p c u x f z) (omega arith)
  joined a b c j k (back u v f g s) (forth w x y z t) = in_straight a c (u + x) (j + k) (law.detour a q c u x f z) (omega arith)
  joined a b c j k (back u v f g s) (back w x y z t) = in_back a c u x (j + k) (exact _ u f) (exact _ x z) (omega arith)

  raw_mirror : (a b : ℕ) → raw a b ≡ raw b a
  raw_mirror a b =
      let e1 = law.mirror a b in
      let e2 = law.mirror a p in
      let e3 = law.mirror q b in
      let e4 = law.mirror a q in
      let e5 = law.mirror p b in
      let e6 = turned (n.distance p a) (n.distance b q) len in
      let e7 = turned (n.distance q a) (n.distance b p) len in
      let e8 = least_comm (via n p q len a b) (via n q p len a b) in
      cc

  detour : (a b c j k : ℕ) → (link_net n p q len).distance a b ≡ Some j → (link_net n p q len).distance b c ≡ Some k → Within ((link_net n p q len).distance a c) (j + k)
  detour a b c j k e f =
      let h = capped_some (raw a b) j e in
      let i = capped_some (raw b c) k f in
      capped_in (raw a c) (h.0 + i.0) (j + k) (joined a b c h.0 i.0 (raw_some a b h.0 h.1.0) (raw_some b c i.0 i.1.0)) (omega (arith, h.1.1, i.1.1))

  outside : (a b : ℕ) → (n.stations ≤ a) ⊎ (n.stations ≤ b) → (link_net n p q len).distance a b ≡ None
  outside a b (inl h) =
      simp (law.outside a b (inl h), law.outside a p (inl h), law.outside a q (inl h))
  outside a b (inr h) =
      let e1 = law.outside a b (inr h) in
      let e2 = plus_none (plus (n.distance a p) (Some len)) (n.distance q b) (law.outside q b (inr h)) in
      let e3 = plus_none (plus (n.distance a q) (Some len)) (n.distance p b) (law.outside p b (inr h)) in
      simp (e1, e2, e3)

  no_longer : (a b k : ℕ) → n.distance a b ≡ Some k → Within ((link_net n p q len).distance a b) k
  no_longer a b k e = capped_in (raw a b) k k (in_straight a b k k (exact _ k e) (omega arith)) (omega arith)

  pub link_lawful : Lawful (link_net n p q len)
  link_lawful = record {
    some = law.some;
    few = law.few;
    short = λ a b k e. let h = capped_some (raw a b) k e in omega (arith, h.1.1);
    outside = outside;
    itself = λ a h. at_zero _ (no_longer a a 0 (law.itself a h));
    mirror = λ a b. ap capped (raw_mirror a b);
    detour = detour;
  }

pub link_law : (n : Net) → Lawful n → LinkLaw n
link_law n law = record { lawful = link_lawful n law; no_longer = no_longer n law }

-- a sum may be capped on the way
cap_early : (o r : Option ℕ) → capped (plus (capped o) r) ≡ capped (plus o r)
cap_early None r = refl
cap_early (Some i) None = refl
cap_early (Some i) (Some j) = ap Some (omega arith)

cap_each : (o r : Option ℕ) → capped (least o r) ≡ least (capped o) (capped r)
cap_each None r = refl
cap_each (Some i) None = refl
cap_each (Some i) (Some j) = ap Some (omega arith)

short_capped : (o : Option ℕ) → ((k : ℕ) → o ≡ Some k → k ≤ longest) → capped o ≡ o
short_capped None h = refl
short_capped (Some i) h = ap Some (omega (arith, h i refl))

-- each part of the least may be capped on its own
pub capped_each : (d v w : Option ℕ) → ((k : ℕ) → d ≡ Some k → k ≤ longest) → least d (least (capped v) (capped w)) ≡ capped (least d (least v w))
capped_each d v w h =
    sym (cap_each d (least v w)
    ∙ ap (λ (o : Option ℕ). least o (capped (least v w))) (short_capped d h)
    ∙ ap (least d) (cap_each v w))

-- and so may the sums in those parts
pub capped_parts : (d x y z w l : Option ℕ) → ((k : ℕ) → d ≡ Some k → k ≤ longest)
    → least d (least (capped (plus (capped (plus x l)) y)) (capped (plus (capped (plus z l)) w))) ≡ capped (least d (least (plus (plus x l) y) (plus (plus z l) w)))
capped_parts d x y z w l h =
    ap (λ (o : Option ℕ). least d (least o (capped (plus (capped (plus z l)) w)))) (cap_early (plus x l) y)
    ∙ ap (λ (o : Option ℕ). least d (least (capped (plus (plus x l) y)) o)) (cap_early (plus z l) w)
    ∙ capped_each d (plus (plus x l) y) (plus (plus z l) w) h
