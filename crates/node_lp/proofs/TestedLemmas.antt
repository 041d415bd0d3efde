-- What is told of a guess that stood its test.
use Rattle.std.proofs.Common.{◌≡◌, Bool, true, false, List, [], Some, None, Ok, refl, sym, ap, subst, ◌∙◌}
use Rattle.rationals.specs.Rational.{ℚ, zero_ℚ, ◌<ℚ◌}
use Rattle.rationals.specs.Passes.{IsNarrow}
use Rattle.rationals.specs.Sparse.{Entry, coefficient}
use Rattle.rationals.specs.Forms.{IsForm}
use Rattle.rationals.specs.Choices.{pick}
use Rattle.scen_defs.specs.Lists.{Each}
use Rattle.scen_defs.proofs.SumLaws.{each-map}
use Rattle.cut_defs.specs.Data.{is_own}
use Rattle.cut_defs.specs.Stored.{Stored, constant_of, form_of}
use Rattle.cut_defs.specs.declared.datum.ColumnBounds.{ColumnBounds}
use Rattle.cut_sums.specs.Walks.{value_walk}
use Rattle.rationals.proofs.WalkLaws.{product_from-ends}
use Rattle.cut_defs.specs.declared.kinds.CutKind.TheVariants as cut_kind
use Rattle.node_lp.specs.declared.task.Task.{Task}
use Rattle.node_lp.specs.declared.found.Found.TheVariants as found
use Rattle.node_lp.specs.declared.solved.Solved.TheVariants as solved
use Rattle.node_lp.specs.Weighed.{Weighed}
use Rattle.node_lp.specs.Problem.{IsProblem, is_priced, problem_of}
use Rattle.node_lp.specs.Records.{cost_at, Meets}
use Rattle.node_lp.specs.Answers.{value_at_trial, PointAnswer, RayAnswer}
use Rattle.node_lp.specs.Places.{OfColumns}
use Rattle.node_lp.specs.Shows.{IsSound}
use Rattle.node_lp.specs.Tests.{IsKeptValue, ShowsCut}
use Rattle.node_lp.specs.Tested.{IsToldOf}
use Rattle.node_lp.specs.Tested.HasOrigin.{by_test}
use Rattle.node_lp.specs.Told.{with_cut, cut_made, stored_cuts, told_of}
use Rattle.node_lp.proofs.AnswerShows.{point_with_cut, point_alone, no_point}

abbrev nothing_weighed : Weighed
nothing_weighed = record { rows = []; weights = [] }

-- what is seen of the point and of the cut
pub kept_values : (t : Task) (x : List Entry) (bounds : List ColumnBounds) (terms : List Entry) → bounds ≡ t.datum.bounds → terms ≡ x
    → Each (IsKeptValue bounds) terms → Each (IsKeptValue t.datum.bounds) x
kept_values t x bounds terms e f h = subst (Each (IsKeptValue t.datum.bounds)) f (subst (λ (bs : List ColumnBounds). Each (IsKeptValue bs) terms) e h)

pub trial_value_is : (t : Task) (cut seen : Stored) (bound : ℚ) → seen ≡ cut → Ok bound ≡ value_walk seen t.trial → value_at_trial cut t.trial ≡ bound
trial_value_is t cut seen bound e h =
    sym (product_from-ends (coefficient t.trial) (constant_of cut) (form_of cut) bound (subst (λ (s : Stored). value_walk s t.trial ≡ Ok bound) e (sym h)))

pub trial_value : (t : Task) (cut seen : Stored) (bound value : ℚ) → seen ≡ cut → Ok bound ≡ value_walk seen t.trial → bound ≡ value → value_at_trial cut t.trial ≡ value
trial_value t cut seen bound value e h same = trial_value_is t cut seen bound e h ∙ same

module _ (t : Task) (x : List Entry) (costs : List ℚ) (value : ℚ) (form : IsForm x) (kept : Each (IsKeptValue t.datum.bounds) x)
    (meets : Meets (problem_of t) x costs) (value_is : value ≡ cost_at (problem_of t) x costs) where
  columns : OfColumns t.datum.bounds x
  columns = record { form = form; own = each-map (λ (e : Entry) (k : IsKeptValue t.datum.bounds e). k.own) x kept }

  narrow : Each (λ (e : Entry). IsNarrow e.value) x
  narrow = each-map (λ (e : Entry) (k : IsKeptValue t.datum.bounds e). k.fits) x kept

  module _ (m : Weighed) (cut : Stored) (priced : is_priced t.kind ≡ true) (shown : ShowsCut t cut_kind.Bound m cut) (equal : value_at_trial cut t.trial ≡ value) where
    point_sound : IsSound (problem_of t) (found.Point x value m)
    point_sound = record {
      shows = record { costs = costs; meets = meets; value_is = value_is; good = λ _. shown.good; equal = λ _. sym shown.value ∙ equal };
      held = λ _. tt;
      costless = λ _ _. tt;
      places = (columns, shown.places);
    }

    pub point_told : IsToldOf t (solved.Point x value (Some cut))
    point_told = record {
      origin = found.Point x value m;
      comes = by_test (narrow, shown.rises);
      sound = point_sound;
      told = sym (ap (λ (b : Bool). pick b (with_cut (λ c. solved.Point x value (Some c)) (cut_made t.datum cut_kind.Bound (stored_cuts (is_priced t.kind) t.children.items) m)) (solved.Point x value None)) priced
          ∙ ap (with_cut (λ c. solved.Point x value (Some c))) shown.made);
    }

    pub point_answers : IsProblem (problem_of t) → PointAnswer t x value (Some cut)
    point_answers h = point_with_cut t x value m cut h point_sound priced shown.made (λ _. shown.from)

  module _ (lone : is_priced t.kind ≡ false) where
    lone_sound : IsSound (problem_of t) (found.Point x value nothing_weighed)
    lone_sound = record {
      shows = record { costs = costs; meets = meets; value_is = value_is; good = λ e. absurd (clash e); equal = λ e. absurd (clash e) };
      held = λ _. tt;
      costless = λ _ _. tt;
      places = (columns, tt);
    }
      where
        clash : is_priced t.kind ≡ true → ⊥
        clash e = let no : true ≡ false = sym e ∙ lone in cc

    pub lone_told : IsToldOf t (solved.Point x value None)
    lone_told = record {
      origin = found.Point x value nothing_weighed;
      comes = by_test (narrow, record { rises = tt; nonzero = tt });
      sound = lone_sound;
      told = sym (ap (λ (b : Bool). pick b (with_cut (λ c. solved.Point x value (Some c)) (cut_made t.datum cut_kind.Bound (stored_cuts (is_priced t.kind) t.children.items) nothing_weighed)) (solved.Point x value None)) lone);
    }

    pub lone_answers : PointAnswer t x value None
    lone_answers = point_alone t x value nothing_weighed lone_sound lone

module _ (t : Task) (m : Weighed) (cut : Stored) (shown : ShowsCut t cut_kind.Ray m cut) (above : zero_ℚ <ℚ value_at_trial cut t.trial) where
  none_sound : IsSound (problem_of t) (found.NoPoint m)
  none_sound = record {
    shows = record { good = shown.good; above = subst (λ q. zero_ℚ <ℚ q) shown.value above };
    held = λ _. tt;
    costless = λ _ _. tt;
    places = shown.places;
  }

  pub none_told : IsToldOf t (solved.NoPoint cut)
  none_told = record {
    origin = found.NoPoint m;
    comes = by_test shown.rises;
    sound = none_sound;
    told = sym (ap (with_cut solved.NoPoint) shown.made);
  }

  pub none_answers : IsProblem (problem_of t) → RayAnswer t cut
  none_answers h = no_point t m cut h none_sound shown.made (λ _. shown.from)
