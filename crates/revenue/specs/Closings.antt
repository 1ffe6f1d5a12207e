-- What a closing gives, from its twelve figures and the amount that was carried on to it.
use Rattle.std.specs.Prelude.{ℕ, ◌+◌, ◌-◌, ◌*◌, ◌/◌, ℤ, pos, ◌+ℤ◌, ◌-ℤ◌, ◌*ℤ◌, neg_ℤ, unsigned_abs}
use Rattle.std.specs.Int.{int_max, int_min}
use Rattle.terms.specs.Rounding.{nearest, nearest_away}
use Rattle.revenue.specs.declared.figures.Figures.{Figures}
use Rattle.revenue.specs.declared.figures.Closing.{Closing}

-- the return: the assets times the rate
abbrev pub return_on : Figures → ℕ
return_on f = nearest (f.assets.0 * f.rate.0) 10000

-- The gas that was lost, in MWh. The loss rate is a share of what was taken in, of which the delivered gas is the rest.
abbrev pub loss_gas : Figures → ℕ
loss_gas f = nearest (f.delivered.0 * f.loss.0) (100000 - f.loss.0)

-- its cost: 0.01 RSD per kWh is 0.01 thousand dinars per MWh
abbrev pub loss_cost : Figures → ℕ
loss_cost f = nearest (loss_gas f * f.price.0) 100

abbrev pub costs : Figures → ℕ
costs f = f.operating.0 + f.depreciation.0 + return_on f + loss_cost f

-- what is earned otherwise than by tariffs
abbrev pub revenues : Figures → ℕ
revenues f = f.nonstandard.0 + f.other.0

-- the costs less the revenues
abbrev pub base_of : Figures → ℕ
base_of f = costs f - revenues f

-- what was justified less what was realised, with the index on it; a half goes away from 0
abbrev pub correction_of : Figures → ℤ
correction_of f = nearest_away ((pos f.justified.0 -ℤ pos f.realised.0) *ℤ (pos 10000 +ℤ f.index.0)) 10000

-- what is due to be taken in
abbrev pub due_of : ℤ → Figures → ℤ
due_of carried f = carried +ℤ correction_of f

-- the most that may be taken in, up or down: three tenths of the base, in whole thousands
abbrev pub limit_of : ℕ → ℕ
limit_of base = 3 * base / 10

-- z, held between -most and most
abbrev pub held : ℕ → ℤ → ℤ
held most z = int_max (neg_ℤ (pos most)) (int_min z (pos most))

-- what is taken in, where so much is due
abbrev pub taken_of : ℕ → ℤ → ℤ
taken_of base due = held (limit_of base) due

-- what is carried on
abbrev pub rest_of : ℕ → ℤ → ℤ
rest_of base due = due -ℤ taken_of base due

-- The base and what is taken in. As no more than three tenths of the base are taken off, it is no less than 0.
abbrev pub allowed_of : ℕ → ℤ → ℕ
allowed_of base due = unsigned_abs (pos base +ℤ taken_of base due)

-- on this base, with this correction, where so much is due
abbrev pub settled : ℕ → ℤ → ℤ → Closing
settled base correction due = record {
  base = record { 0 = base };
  correction = record { 0 = correction };
  taken = record { 0 = taken_of base due };
  rest = record { 0 = rest_of base due };
  allowed = record { 0 = allowed_of base due };
}

abbrev pub closing_of : ℤ → Figures → Closing
closing_of carried f = settled (base_of f) (correction_of f) (due_of carried f)
