-- The numbers of a risk measure that words ask for are in their ranges.
use Rattle.std.proofs.Common.{◌≡◌, ℕ, Bool, true, false, not, ◌&&◌, cond, List, Option, Some, None, is_some, refl, subst}
use Rattle.std.specs.Prelude.{IfSome}
use Rattle.rationals.specs.Rational.{ℚ, zero_ℚ, one_ℚ, ◌≤ℚ◌, ◌<ℚ◌, at_most, at_most_true, at_most_false}
use Rattle.clap.proofs.WalkLemmas.{both}
use Rattle.command_words.specs.declared.flag.Flag.TheVariants.{Tail, Weight, Basis}
use Rattle.command_words.specs.declared.command.Budget.{Budget}
use Rattle.command_words.specs.declared.command.RiskMeasure.{RiskMeasure}
use Rattle.command_words.specs.declared.command.Task.{Task}
use Rattle.command_words.specs.declared.command.Task.TheVariants as task
use Rattle.command_words.specs.declared.command.Verb.{Verb}
use Rattle.command_words.specs.declared.command.Verb.TheVariants.{Solve, Check, Table, Show, Flat, Value, Make}
use Rattle.command_words.specs.Words.{Given, Values, then_some, settings_of, value_with, budget_of}
use Rattle.command_words.specs.Commands.{Asked, are_options, asked_with, command_by, command_with, sources_of, task_of, sheet_of, extent_of, plan_of}
use Rattle.command_words.specs.Commands.{number_read, kept_level, level_of, kept_weight, weight_of, measure_named, measure_by, measure_of, solve_by, check_by}
use Rattle.command_words.specs.Commands.Asked.{OnFiles, MakeThis}
use Rattle.command_words.specs.Ranges.{IsRiskMeasure, HasRange, AsksInRange}

-- what comes of an option comes of a value that is there
gives : {A B : Type 0} (o : Option A) (f : A → Option B) (b : B) → then_some o f ≡ Some b → (a : A) × (o ≡ Some a) × (f a ≡ Some b)
gives None f b e = absurd (cc)
gives (Some a) f b e = (a, refl, e)

is_some_of : {A : Type 0} (a b : A) → Some a ≡ Some b → a ≡ b
is_some_of a b e = cc

-- ---- the numbers
kept : (b : Bool) (a x : ℚ) → cond b (Some a) None ≡ Some x → (b ≡ true) × (a ≡ x)
kept true a x e = (refl, is_some_of a x e)
kept false a x e = absurd (cc)

is_not : (b : Bool) → not b ≡ true → b ≡ false
is_not true e = cc
is_not false e = refl

level_kept : (number a : ℚ) → kept_level number ≡ Some a → (zero_ℚ ≤ℚ a) × (a <ℚ one_ℚ)
level_kept number a e =
    let k = kept (at_most zero_ℚ number && not (at_most one_ℚ number)) number a e in
    let parts = both (at_most zero_ℚ number) (not (at_most one_ℚ number)) k.0 in
    let low : zero_ℚ ≤ℚ number = at_most_true zero_ℚ number parts.0 in
    let high : number <ℚ one_ℚ = at_most_false one_ℚ number (is_not (at_most one_ℚ number) parts.1) in
    subst (λ (x : ℚ). (zero_ℚ ≤ℚ x) × (x <ℚ one_ℚ)) k.1 (low, high)

weight_kept : (number w : ℚ) → kept_weight number ≡ Some w → (zero_ℚ ≤ℚ w) × (w ≤ℚ one_ℚ)
weight_kept number w e =
    let k = kept (at_most zero_ℚ number && at_most number one_ℚ) number w e in
    let parts = both (at_most zero_ℚ number) (at_most number one_ℚ) k.0 in
    let low : zero_ℚ ≤ℚ number = at_most_true zero_ℚ number parts.0 in
    let high : number ≤ℚ one_ℚ = at_most_true number one_ℚ parts.1 in
    subst (λ (x : ℚ). (zero_ℚ ≤ℚ x) × (x ≤ℚ one_ℚ)) k.1 (low, high)

abbrev measure : ℚ → ℚ → RiskMeasure
measure a w = record { level = a; weight = w }

measure_has : (level weight : List ℕ) (m : RiskMeasure) → measure_named level weight ≡ Some m → IsRiskMeasure m
measure_has level weight m e =
    let a = gives (level_of level) (λ a. then_some (weight_of weight) (λ w. Some (measure a w))) m e in
    let w = gives (weight_of weight) (λ w. Some (measure a.0 w)) m a.2 in
    let below = gives (number_read level) kept_level a.0 a.1 in
    let most = gives (number_read weight) kept_weight w.0 w.1 in
    let of_level = level_kept below.0 a.0 below.2 in
    let of_weight = weight_kept most.0 w.0 most.2 in
    subst IsRiskMeasure (is_some_of (measure a.0 w.0) m w.2)
    (record { level = of_level.0; below = of_level.1; weight = of_weight.0; most = of_weight.1 })

measure_in : (level weight : Option (List ℕ)) (m : Option RiskMeasure) → measure_by level weight ≡ Some m → IfSome m IsRiskMeasure
measure_in None None m e = subst (λ (x : Option RiskMeasure). IfSome x IsRiskMeasure) (is_some_of None m e) tt
measure_in (Some level) (Some weight) m e =
    let found = gives (measure_named level weight) (λ x. Some (Some x)) m e in
    subst (λ (x : Option RiskMeasure). IfSome x IsRiskMeasure) (is_some_of (Some found.0) m found.2) (measure_has level weight found.0 found.1)
measure_in (Some level) None m e = absurd (cc)
measure_in None (Some weight) m e = absurd (cc)

-- ---- tasks
solve_has : (m : Option RiskMeasure) (with_basis : Bool) (budget : Budget) → IfSome m IsRiskMeasure → HasRange (solve_by m with_basis budget)
solve_has None false budget h = tt
solve_has None true budget h = tt
solve_has (Some m) false budget h = h
solve_has (Some m) true budget h = h

check_has : (m : Option RiskMeasure) → IfSome m IsRiskMeasure → HasRange (check_by m)
check_has None h = tt
check_has (Some m) h = h

task_has : (verb : Verb) (value : Values) (t : Task) → task_of verb value ≡ Some t → HasRange t
task_has Solve value t e =
    let with_basis = is_some (value Basis) in
    let m = gives (measure_of value) (λ m. then_some (budget_of value) (λ budget. Some (solve_by m with_basis budget))) t e in
    let b = gives (budget_of value) (λ budget. Some (solve_by m.0 with_basis budget)) t m.2 in
    subst HasRange (is_some_of (solve_by m.0 with_basis b.0) t b.2)
    (solve_has m.0 with_basis b.0 (measure_in (value Tail) (value Weight) m.0 m.1))
task_has Check value t e =
    let m = gives (measure_of value) (λ m. Some (check_by m)) t e in
    subst HasRange (is_some_of (check_by m.0) t m.2) (check_has m.0 (measure_in (value Tail) (value Weight) m.0 m.1))
task_has Table value t e =
    let s = gives (sheet_of value) (λ sheet. Some (task.Table sheet)) t e in
    subst HasRange (is_some_of (task.Table s.0) t s.2) tt
task_has Show value t e = subst HasRange (is_some_of task.Show t e) tt
task_has Flat value t e =
    let s = gives (extent_of value) (λ size. Some (task.Flat size)) t e in
    subst HasRange (is_some_of (task.Flat s.0) t s.2) tt
task_has Value value t e =
    let b = gives (budget_of value) (λ budget. Some (task.Value budget)) t e in
    subst HasRange (is_some_of (task.Value b.0) t b.2) tt
task_has Make value t e = absurd (cc)

-- ---- commands
files_have : (verb : Verb) (value : Values) (x : Asked)
    → then_some (sources_of value) (λ names. then_some (task_of verb value) (λ found. Some (OnFiles names found))) ≡ Some x → AsksInRange x
files_have verb value x e =
    let names = gives (sources_of value) (λ names. then_some (task_of verb value) (λ found. Some (OnFiles names found))) x e in
    let t = gives (task_of verb value) (λ found. Some (OnFiles names.0 found)) x names.2 in
    subst AsksInRange (is_some_of (OnFiles names.0 t.0) x t.2) (task_has verb value t.0 t.1)

verb_has : (verb : Verb) (value : Values) (x : Asked) → asked_with verb value ≡ Some x → AsksInRange x
verb_has Solve value x e = files_have Solve value x e
verb_has Check value x e = files_have Check value x e
verb_has Table value x e = files_have Table value x e
verb_has Show value x e = files_have Show value x e
verb_has Flat value x e = files_have Flat value x e
verb_has Value value x e = files_have Value value x e
verb_has Make value x e =
    let plan = gives (plan_of value) (λ plan. Some (MakeThis plan)) x e in
    subst AsksInRange (is_some_of (MakeThis plan.0) x plan.2) tt

pub command_has : (verb : Verb) (words : List (List ℕ)) (x : Asked) → command_by verb words ≡ Some x → AsksInRange x
command_has verb words x e =
    let settings = gives (settings_of words) (command_with verb) x e in
    go settings.0 (are_options verb settings.0) settings.2
  where
    go : (settings : List Given) (b : Bool) → cond b (asked_with verb (λ flag. value_with flag settings)) None ≡ Some x → AsksInRange x
    go settings true f = verb_has verb (λ flag. value_with flag settings) x f
    go settings false f = absurd (cc)
