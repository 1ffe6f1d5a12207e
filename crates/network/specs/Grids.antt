-- The laws of a square of figures are those of the net that it means.
use Rattle.std.specs.Prelude.{◌≡◌, ℕ, ◌+◌, ◌*◌, ◌/◌, ◌%◌, ◌<◌, ◌≤◌, List, Some, None, Option, slice_index, refl}
use Rattle.std.proofs.Common.{sym, ap, ◌∙◌, inl, inr, ⊎_elim, arith}
use Rattle.std.proofs.Math.Logic.{∥∥₁_elim}
use Rattle.std.proofs.Math.Bridge.{le_prop}
use base.Stored.{Coded-set, coded_ℕ}
use Rattle.std.proofs.lemmas.Bool.Decides.{nat_tests}
use Rattle.std.proofs.lemmas.Nat.{div-mul-add, mod-mul-add, mul-add-lt}
use Rattle.std.proofs.lemmas.Bool.{cases_lt}
use Rattle.network.specs.Limits.{bottom_stations, longest}
use Rattle.network.specs.Net.{Net, Lawful}
use Rattle.network.specs.Grid.{at, distance_of, figure_of, grid_net, GridLaws}
use Rattle.network.specs.Nets.{inside_in, inside_out, inside_some}

-- the laws out of a ghost field
pub unlock : (n : ℕ) (ws : List ℕ) → ∥ GridLaws n ws ∥₁ → GridLaws n ws
unlock n ws h = record {
  itself = λ a ha. ∥∥₁_elim h (Coded-set coded_ℕ _ _) (λ g. g.itself a ha);
  mirror = λ a b ha hb e. ∥∥₁_elim h (Coded-set coded_ℕ _ _) (λ g. g.mirror a b ha hb e);
  reach = λ a b c ha hb hc e f. ∥∥₁_elim h le_prop (λ g. g.reach a b c ha hb hc e f);
  detour = λ a b c ha hb hc e f. ∥∥₁_elim h le_prop (λ g. g.detour a b c ha hb hc e f);
}

pub is_distance : (x : ℕ) → x ≤ longest → distance_of x ≡ Some x
is_distance x h = grind (arith, nat_tests)

no_distance : (x : ℕ) → longest < x → distance_of x ≡ None
no_distance x h = grind (arith, nat_tests)

pub distance_some : (x k : ℕ) → distance_of x ≡ Some k → (x ≡ k) × (x ≤ longest)
distance_some x k e = (grind (arith, nat_tests), grind (arith, nat_tests))

module _ (n : ℕ) (ws : List ℕ) where
  -- a figure up to 9,999 of two stations is their distance, and a distance is such a figure
  pub seen : (a b : ℕ) → a < n → b < n → at n ws a b ≤ longest → (grid_net n ws).distance a b ≡ Some (at n ws a b)
  seen a b ha hb h = inside_in n a b _ ha hb ∙ is_distance (at n ws a b) h

  pub back : (a b k : ℕ) → (grid_net n ws).distance a b ≡ Some k → (a < n) × ((b < n) × ((at n ws a b ≡ k) × (at n ws a b ≤ longest)))
  back a b k e = let h = inside_some n a b k (distance_of (at n ws a b)) e in (h.0, (h.1.0, distance_some (at n ws a b) k h.1.1))

module _ (n : ℕ) (ws : List ℕ) (some : 1 ≤ n) (few : n ≤ bottom_stations) (laws : GridLaws n ws) where
  figure_mirror : (a b : ℕ) → a < n → b < n → distance_of (at n ws a b) ≡ distance_of (at n ws b a)
  figure_mirror a b ha hb =
      ⊎_elim
      (λ h. ⊎_elim
      (λ k. no_distance (at n ws a b) h ∙ sym (no_distance (at n ws b a) k))
      (λ k. ap distance_of (laws.mirror b a hb ha k))
      (cases_lt longest (at n ws b a)))
      (λ h. ap distance_of (sym (laws.mirror a b ha hb h)))
      (cases_lt longest (at n ws a b))

  mirror : (a b : ℕ) → (grid_net n ws).distance a b ≡ (grid_net n ws).distance b a
  mirror a b =
      ⊎_elim
      (λ h. ⊎_elim
      (λ k. inside_in n a b _ h k ∙ figure_mirror a b h k ∙ sym (inside_in n b a _ k h))
      (λ k. inside_out n a b _ (inr k) ∙ sym (inside_out n b a _ (inl k)))
      (cases_lt b n))
      (λ h. inside_out n a b _ (inl h) ∙ sym (inside_out n b a _ (inr h)))
      (cases_lt a n)

  pub grid_lawful : Lawful (grid_net n ws)
  grid_lawful = record {
    some = some;
    few = omega arith;
    short = λ a b k e. let h = back n ws a b k e in omega (arith, h.1.1.0, h.1.1.1);
    outside = λ a b h. inside_out n a b _ h;
    itself = λ a h. inside_in n a a _ h h ∙ ap distance_of (laws.itself a h);
    mirror = mirror;
    detour = λ a b c j k e f.
        let h = back n ws a b j e in
        let i = back n ws b c k f in (
          at n ws a c,
          (
            seen n ws a c h.0 i.1.0 (laws.reach a b c h.0 h.1.0 i.1.0 h.1.1.1 i.1.1.1),
            omega (arith, laws.detour a b c h.0 h.1.0 i.1.0 h.1.1.1 i.1.1.1, h.1.1.0, i.1.1.0),
          ),
        );
  }

-- the laws of the net are those of the figures
pub lawful_grid : (n : ℕ) (ws : List ℕ) → Lawful (grid_net n ws) → GridLaws n ws
lawful_grid n ws law = record {
  itself = λ a ha. (back n ws a a 0 (law.itself a ha)).1.1.0;
  mirror = λ a b ha hb h. (back n ws b a (at n ws a b) (law.mirror b a ∙ seen n ws a b ha hb h)).1.1.0;
  reach = λ a b c ha hb hc e f.
      let t = law.detour a b c _ _ (seen n ws a b ha hb e) (seen n ws b c hb hc f) in (back n ws a c t.0 t.1.0).1.1.1;
  detour = λ a b c ha hb hc e f.
      let t = law.detour a b c (at n ws a b) (at n ws b c) (seen n ws a b ha hb e) (seen n ws b c hb hc f) in
      omega (arith, t.1.1, (back n ws a c t.0 t.1.0).1.1.0);
}

read_back : (o : Option ℕ) → ((k : ℕ) → o ≡ Some k → k ≤ longest) → distance_of (figure_of o) ≡ o
read_back None h = refl
read_back (Some k) h = is_distance k (h k refl)

-- the figures of a lawful net mean it
module _ (net : Net) (law : Lawful net) (ws : List ℕ)
    (figures : (k : ℕ) → k < net.stations * net.stations → slice_index ws k ≡ figure_of (net.distance (k / net.stations) (k % net.stations))) where
  abbrev m : ℕ
  m = net.stations

  placed : (a b : ℕ) → a < m → b < m → at m ws a b ≡ figure_of (net.distance a b)
  placed a b ha hb =
      figures (a * m + b) (mul-add-lt a m b m ha hb)
      ∙ ap (λ (x : ℕ). figure_of (net.distance x ((a * m + b) % m))) (div-mul-add a m b hb)
      ∙ ap (λ (x : ℕ). figure_of (net.distance a x)) (mod-mul-add a m b hb)

  far : (a b : ℕ) → (grid_net m ws).distance a b ≡ net.distance a b
  far a b =
      ⊎_elim
      (λ h. ⊎_elim
      (λ k. inside_in m a b _ h k ∙ ap distance_of (placed a b h k) ∙ read_back (net.distance a b) (law.short a b))
      (λ k. inside_out m a b _ (inr k) ∙ sym (law.outside a b (inr k)))
      (cases_lt b m))
      (λ h. inside_out m a b _ (inl h) ∙ sym (law.outside a b (inl h)))
      (cases_lt a m)

  pub tabulated : grid_net m ws ≡ net
  tabulated = λ i. record { stations = m; distance = λ a b. far a b i }
