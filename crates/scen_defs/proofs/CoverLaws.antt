-- A small program, by computing.
use Rattle.std.proofs.Common.{◌≡◌, ℕ, zero, suc, pos, ◌*ℤ◌, ◌≤ℤ◌, true, List, get_or, refl, ap, arith}
use Rattle.std.proofs.lemmas.Int.{ints}
use Rattle.rationals.specs.Sums.{sum_ℚ}
use Rattle.scen_defs.specs.Valid.{Lives, FitsNode, is_reached, IsProgram}
use Rattle.scen_defs.specs.Cover.{cover, policy, dual, CoverLaws}
use Rattle.scen_defs.proofs.Subtrees.{no}
use Rattle.rationals.specs.Rational.{one_ℚ, ◌<ℚ◌, lt_of_not_le_ℚ, frac_le_to, ◌÷◌, ◌+ℚ◌, ◌*ℚ◌, neg_ℚ, zero_ℚ, reduce, smaller, divides, nat_divides, same_ℚ}
use Rattle.scen_defs.specs.Ends.{worth}
use Rattle.scen_defs.specs.Program.{Scenario, view_of, node_at}
use Rattle.scen_defs.specs.Flat.{cost, reduced, value}
use Rattle.scen_defs.specs.Values.{at}

pub policy_costs_5 : cost (view_of cover) (at policy) ≡ pos 5 ÷ 1
unfolding cost zero_ℚ ◌+ℚ◌ ◌*ℚ◌ ◌÷◌ reduce smaller divides nat_divides
policy_costs_5 = same_ℚ (cost (view_of cover) (at policy)) (pos 5 ÷ 1) refl

pub dual_is_worth_5 : value (view_of cover) (at dual) ≡ pos 5 ÷ 1
unfolding value reduced worth zero_ℚ neg_ℚ ◌+ℚ◌ ◌*ℚ◌ ◌÷◌ reduce smaller divides nat_divides
dual_is_worth_5 = same_ℚ (value (view_of cover) (at dual)) (pos 5 ÷ 1) refl

-- ---- what its type keeps holds
half_positive : zero_ℚ <ℚ pos 1 ÷ 2
unfolding zero_ℚ
half_positive = lt_of_not_le_ℚ (λ h. let k : (pos 1 *ℤ pos 1) ≤ℤ (pos 0 *ℤ pos 2) = frac_le_to (pos 1) (pos 0) 2 1 (omega arith) (omega arith) h in omega (arith, ints))

cover_nodes : (n : ℕ) → Lives cover n → FitsNode cover n (node_at cover.nodes n)
cover_nodes zero l = record { stage = omega arith; parent = (refl, refl); cost = (refl, tt); numbers = refl; rows = tt }
cover_nodes (suc zero) l = record { stage = omega arith; parent = record { live = refl; earlier = refl; smaller = omega arith }; cost = (refl, tt); numbers = refl; rows = (record { entries = (refl, (refl, tt)); in_order = tt; ends = record { low = refl; high = refl } }, tt) }
cover_nodes (suc (suc zero)) l = record { stage = omega arith; parent = record { live = refl; earlier = refl; smaller = omega arith }; cost = (refl, tt); numbers = refl; rows = (record { entries = (refl, (refl, tt)); in_order = tt; ends = record { low = refl; high = refl } }, tt) }
cover_nodes (suc (suc (suc n))) l = absurd (no refl l)

cover_reached : (n : ℕ) → Lives cover n → is_reached n cover.scenarios ≡ true
cover_reached zero l = refl
cover_reached (suc zero) l = refl
cover_reached (suc (suc zero)) l = refl
cover_reached (suc (suc (suc n))) l = absurd (no refl l)

pub cover_is_program : IsProgram cover
unfolding zero_ℚ one_ℚ ◌+ℚ◌ ◌*ℚ◌ ◌÷◌ reduce smaller divides nat_divides
cover_is_program = record {
  small = record { columns = omega arith; rows = omega arith; nodes = omega arith; scenarios = omega arith };
  names = record {
    periods = record { fields = (record { some = omega arith; unbroken = (refl, (refl, tt)) }, (record { some = omega arith; unbroken = (refl, (refl, tt)) }, tt)); differ = (((λ e. let q : 50 ≡ 49 = ap (λ (l : List ℕ). get_or l 1 0) e in omega (arith, q)), tt), (tt, tt)) };
    columns = record { fields = (record { some = omega arith; unbroken = (refl, tt) }, (record { some = omega arith; unbroken = (refl, tt) }, tt)); differ = (((λ e. let q : 89 ≡ 88 = ap (λ (l : List ℕ). get_or l 0 0) e in omega (arith, q)), tt), (tt, tt)) };
    rows = record { fields = (record { some = omega arith; unbroken = (refl, (refl, (refl, (refl, (refl, (refl, tt)))))) }, tt); differ = (tt, tt) };
    scenarios = record { fields = (record { some = omega arith; unbroken = (refl, (refl, tt)) }, (record { some = omega arith; unbroken = (refl, (refl, tt)) }, tt)); differ = (((λ e. let q : 50 ≡ 49 = ap (λ (l : List ℕ). get_or l 1 0) e in omega (arith, q)), tt), (tt, tt)) };
  };
  few_periods = omega arith;
  row_stages = (omega arith, tt);
  periods = omega arith;
  columns = (record { stage = omega arith; in_order = tt }, (record { stage = omega arith; in_order = tt }, tt));
  nodes = cover_nodes;
  scenarios = (record { positive = half_positive; path = (refl, refl, refl, (refl, refl, refl, refl)) }, (record { positive = half_positive; path = (refl, refl, refl, (refl, refl, refl, refl)) }, tt));
  reached = cover_reached;
  certain = same_ℚ (sum_ℚ (λ (s : Scenario). s.probability) cover.scenarios) one_ℚ refl;
}

pub cover_laws : CoverLaws
cover_laws = record { program = cover_is_program; cost = policy_costs_5; value = dual_is_worth_5 }
