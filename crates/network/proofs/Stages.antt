-- The stages of the search for shortest routes.
use Rattle.std.proofs.Common.{◌≡◌, ℕ, ◌+◌, ◌<◌, ◌≤◌, min, ◌⊎◌, Some, None, Option, subst, ⊎_elim, arith}
use Rattle.network.specs.Limits.{longest}
use Rattle.network.specs.Net.{plus, least, capped}
use Rattle.network.specs.Routes.{Route, LeastOf}
use Rattle.network.specs.Routes.Route.{stay, go}
use Rattle.network.specs.Nets.{Within, exact, at_zero, never, least_left, least_right, least_some, plus_in, plus_some, capped_in, capped_some}
use Rattle.network.proofs.Roads.{then, last_in}

-- Once the stations below k may be passed through: each distance w is the length of a route, no pipe is shorter,
-- and neither is a detour over a station below k.
pub record Stage (J : ℕ → ℕ → ℕ → Type 0) (n : ℕ) (w : ℕ → ℕ → Option ℕ) (k : ℕ) : Type 0 where
  pub sound : (a b m : ℕ) → a < n → b < n → w a b ≡ Some m → (j : ℕ) × (Route J n a b j × (min longest j ≡ m))
  pub edge : (a b l : ℕ) → J a b l → Within (w a b) l
  pub itself : (a : ℕ) → a < n → w a a ≡ Some 0
  pub over : (a b c i j : ℕ) → a < n → b < k → b < n → c < n → w a b ≡ Some i → w b c ≡ Some j → Within (w a c) (i + j)

-- the distances once k may be passed through too
abbrev pub relaxed : (ℕ → ℕ → Option ℕ) → ℕ → ℕ → ℕ → Option ℕ
relaxed w k a b = least (w a b) (capped (plus (w a k) (w k b)))

module _ (J : ℕ → ℕ → ℕ → Type 0) (n : ℕ)
    (turn : (a b l : ℕ) → J a b l → J b a l)
    (ends : (a b l : ℕ) → J a b l → (a < n) × (b < n)) where
  -- after the last stage no route is shorter
  complete : (w : ℕ → ℕ → Option ℕ) → Stage J n w n → (a b k : ℕ) → Route J n a b k → Within (w a b) k
  complete w st _ _ _ (stay a h) = exact (w a a) 0 (st.itself a h)
  complete w st _ _ _ (go a b c l k p r) =
      let e = st.edge a b l p in
      let h = complete w st b c k r in
      let t = st.over a b c e.0 h.0 (ends a b l p).0 (ends a b l p).1 (ends a b l p).1 (last_in J n turn ends b c k r) e.1.0 h.1.0 in
      (t.0, (t.1.0, omega (arith, t.1.1, e.1.1, h.1.1)))

  pub at_last : (w : ℕ → ℕ → Option ℕ) → Stage J n w n → (a b : ℕ) → a < n → b < n → (o : Option ℕ) → w a b ≡ o → LeastOf (Route J n a b) o
  at_last w st a b ha hb None e = λ k r. let t = complete w st a b k r in never (w a b) t.0 e t.1.0
  at_last w st a b ha hb (Some m) e = record {
    attained = st.sound a b m ha hb e;
    none_shorter = λ k r. let t = complete w st a b k r in let z : t.0 ≡ m = cc (e, t.1.0) in omega (arith, t.1.1);
  }

  module _ (w : ℕ → ℕ → Option ℕ) (k : ℕ) (in-k : k < n) (st : Stage J n w k) where
    small : (a b m : ℕ) → a < n → b < n → w a b ≡ Some m → m ≤ longest
    small a b m ha hb e = let s = st.sound a b m ha hb e in omega (arith, s.1.1)

    -- where a distance comes from
    data From (a b i : ℕ) : Type 0 where
      old : w a b ≡ Some i → From a b i
      by : (u v : ℕ) → w a k ≡ Some u → w k b ≡ Some v → min longest (u + v) ≡ i → From a b i

    from : (a b i : ℕ) → relaxed w k a b ≡ Some i → From a b i
    from a b i e =
        ⊎_elim old
        (λ f.
        let h = capped_some (plus (w a k) (w k b)) i f in
        let p = plus_some (w a k) (w k b) h.0 h.1.0 in
        by p.0 p.1.0 p.1.1.0 p.1.1.1.0 (omega (arith, p.1.1.1.1, h.1.1)))
        (least_some (w a b) (capped (plus (w a k) (w k b))) i e)

    kept : (a b i j : ℕ) → Within (w a b) i → i ≤ j → Within (relaxed w k a b) j
    kept a b i j h l = least_left (w a b) (capped (plus (w a k) (w k b))) j (h.0, (h.1.0, omega (arith, h.1.1)))

    passing : (a b u v j : ℕ) → Within (w a k) u → Within (w k b) v → min longest (u + v) ≤ j → Within (relaxed w k a b) j
    passing a b u v j g h l =
        least_right (w a b) (capped (plus (w a k) (w k b))) j
        (capped_in (plus (w a k) (w k b)) (u + v) j (plus_in (w a k) (w k b) u v (u + v) g h (omega arith)) l)

    column : (a i : ℕ) → a < n → From a k i → Within (w a k) i
    column a i h (old e) = exact (w a k) i e
    column a i h (by u v e f g) = (u, (e, omega (arith, g, small a k u h in-k e)))

    row : (b i : ℕ) → b < n → From k b i → Within (w k b) i
    row b i h (old e) = exact (w k b) i e
    row b i h (by u v e f g) = (v, (f, omega (arith, g, small k b v in-k h f)))

    -- a detour over a station below k
    passed : (a b c i j : ℕ) → a < n → b < k → b < n → c < n → From a b i → From b c j → Within (relaxed w k a c) (i + j)
    passed a b c i j ha hk hb hc (old e) (old f) = kept a c (i + j) (i + j) (st.over a b c i j ha hk hb hc e f) (omega arith)
    passed a b c i j ha hk hb hc (old e) (by u v f g h) =
        passing a c (i + u) v (i + j) (st.over a b k i u ha hk hb in-k e f) (exact (w k c) v g) (omega arith)
    passed a b c i j ha hk hb hc (by u v f g h) (old e) =
        passing a c u (v + j) (i + j) (exact (w a k) u f) (st.over k b c v j in-k hk hb hc g e) (omega arith)
    passed a b c i j ha hk hb hc (by u v f g h) (by x y p q r) =
        passing a c u y (i + j) (exact (w a k) u f) (exact (w k c) y q) (omega arith)

    -- a detour over k
    here : (a b c i j : ℕ) → a < n → b ≡ k → c < n → From a b i → From b c j → Within (relaxed w k a c) (i + j)
    here a b c i j ha e hc f g =
        passing a c i j (i + j) (column a i ha (subst (λ (x : ℕ). From a x i) e f)) (row c j hc (subst (λ (x : ℕ). From x c j) e g)) (omega arith)

    pub next : Stage J n (relaxed w k) (k + 1)
    next = record {
      sound = λ a b m ha hb e. sound_of a b m ha hb (from a b m e);
      edge = λ a b l p. kept a b l l (st.edge a b l p) (omega arith);
      itself = λ a h. at_zero _ (kept a a 0 0 (exact (w a a) 0 (st.itself a h)) (omega arith));
      over = λ a b c i j ha hk hb hc e f.
          ⊎_elim (λ l. passed a b c i j ha l hb hc (from a b i e) (from b c j f)) (λ l. here a b c i j ha l hc (from a b i e) (from b c j f)) (split b hk);
    } where
      split : (b : ℕ) → b < k + 1 → (b < k) ⊎ (b ≡ k)
      split b h = grind arith

      sound_of : (a b m : ℕ) → a < n → b < n → From a b m → (j : ℕ) × (Route J n a b j × (min longest j ≡ m))
      sound_of a b m ha hb (old e) = st.sound a b m ha hb e
      sound_of a b m ha hb (by u v e f g) =
          let r = st.sound a k u ha in-k e in
          let s = st.sound k b v in-k hb f in
          (r.0 + s.0, (then J n turn ends a k b r.0 s.0 r.1.0 s.1.0, omega (arith, r.1.1, s.1.1, g)))
