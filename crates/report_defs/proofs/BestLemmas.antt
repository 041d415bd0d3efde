-- Equal ends that are shown have a best policy.
use Rattle.std.proofs.Common.{◌≡◌, Option, Some, None, sym, ap, subst, refl, ◌∙◌}
use Rattle.rationals.specs.Rational.{ℚ, le_trans_ℚ, le_antisym_ℚ}
use Rattle.scen_defs.specs.Values.{at}
use Rattle.report_defs.specs.Shows.{Together, ShowsLower, ShowsUpper}
use Rattle.report_defs.specs.Laws.{EqualEndsAreBest}

-- a part that stands together with one that is there is there
partner : {A B : Type 0} (holds : A → B → Type 0) (first : Option A) (second : Option B) (a : A) → first ≡ Some a → Together holds first second → (b : B) × (second ≡ Some b) × holds a b
partner holds None second a e h = cc
partner holds (Some x) None a e h = absurd h
partner {A} {B} holds (Some x) (Some b) a e h = (b, refl, subst (λ (y : A). holds y b) (let f : x ≡ a = cc in f) h)

pub equal_ends_are_best : EqualEndsAreBest
equal_ends_are_best v report lower upper optimal =
    let low = partner (ShowsLower v) report.lower report.dual optimal.cost optimal.lower lower in
    let high = partner (ShowsUpper v) report.upper report.policy optimal.cost optimal.upper upper in
    record {
      policy = high.0;
      there = high.1;
      feasible = high.2.feasible;
      costs = optimal.upper ∙ ap Some (sym (le_antisym_ℚ high.2.costs (low.2.bound (at high.0) high.2.feasible)));
      least = λ x feasible. le_trans_ℚ high.2.costs (low.2.bound x feasible);
    }
