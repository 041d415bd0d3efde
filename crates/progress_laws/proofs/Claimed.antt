-- What is claimed of a program where a run shows its finding is so.
use mathlib.Core.Path.{fun_ext}
use Rattle.std.proofs.Common.{◌≡◌, ℕ, ◌⊎◌, inl, inr, Bool, true, false, ◌&&◌, is_some, List, [], Option, Some, None, Result, Ok, Err, IfSome, refl, sym, ap, subst, ◌∙◌}
use Rattle.std.specs.declared.cmp.Ordering.{Ordering}
use Rattle.std.specs.declared.cmp.Ordering.TheVariants.{Less, Equal, Greater}
use Rattle.std.specs.Ordering.{is_eq, is_lt, MatchOrdering}
use Rattle.rationals.specs.Rational.{ℚ, zero_ℚ, one_ℚ, ◌≤ℚ◌, ◌<ℚ◌, lt_by, le_trans_ℚ, le_of_same_ℚ}
use Rattle.rationals.specs.Order.{compare, same}
use Rattle.rationals.proofs.OrderMeaning.{compare_means}
use Rattle.rationals.specs.Passes.{Operation, then_value}
use Rattle.rationals.specs.Sparse.{Entry}
use Rattle.scen_defs.specs.Program.{content, view_of}
use Rattle.scen_defs.specs.Program as lists
use Rattle.scen_defs.specs.Flat.{Feasible, cost, IsGood, value, ShowsInfeasible}
use Rattle.scen_defs.specs.Values.{at}
use Rattle.scen_defs.specs.declared.program.Program.{Program}
use Rattle.scen_defs.specs.declared.report.Finding.{Finding}
use Rattle.scen_defs.specs.declared.report.Finding.TheVariants as findings
use Rattle.scen_defs.specs.declared.report.Kind.{Kind}
use Rattle.scen_defs.specs.declared.report.Kind.TheVariants as run_kind
use Rattle.scen_defs.specs.Valid.{IsProgram}
use Rattle.scen_model.specs.Derived.{all_fit}
use Rattle.cut_defs.specs.Cuts.{priced}
use Rattle.cut_defs.specs.Stored.{Stored, source_of, constant_of}
use Rattle.cut_defs.specs.declared.kinds.CutKind.{CutKind}
use Rattle.cut_defs.specs.declared.kinds.CutKind.TheVariants.{Bound, Ray}
use Rattle.dual_assemble.specs.Laws.{flat_of}
use Rattle.dual_assemble.specs.Values.{numbers_by_node}
use Rattle.dual_assemble.specs.Walks.{flat_from}
use Rattle.edit_defs.specs.Data.{book}
use Rattle.proved_report.specs.declared.open.Open.{Open}
use Rattle.claim_laws.proofs.Directions.{recession_points_are_directions}
use Rattle.joined_laws.specs.Rows.{HasForms}
use Rattle.joined_laws.proofs.Forms.{forms_assemble}
use Rattle.joined_laws.proofs.Rows.{made_are_on_rows}
use Rattle.joined_laws.proofs.Multipliers.{multipliers_fit}
use Rattle.found_ends.specs.declared.ends.Priced.{Priced}
use Rattle.found_ends.specs.declared.ends.Bounded.{Bounded}
use Rattle.found_ends.specs.declared.ends.Ends.{Ends}
use Rattle.found_ends.specs.declared.settled.Settled.{Settled}
use Rattle.found_ends.specs.declared.settled.Settled.TheVariants.{Infeasible, Unbounded, Optimal, Stopped, Spent}
use Rattle.found_ends.specs.declared.claims.Closed.{Closed}
use Rattle.found_ends.specs.Ends.{below, meet, falls}
use Rattle.found_ends.specs.Settled.{where_so, shown, ended, or_case, why_open}
use Rattle.found_ends.specs.Claims.{found_or, multipliers_of, policy_of, cut_of, by_ray, by_direction, by_ends, closed_by}
use Rattle.pass_core.specs.declared.state.State.{State}
use Rattle.pass_core.specs.Assembled.{AssemblesWell}
use Rattle.pass_core.specs.Made.{script_books, run_book, IsMadeAbout, CutsAreMade}
use Rattle.pass_core.proofs.Assembling.{roots_assemble_well}
use Rattle.nested_method.specs.Stands.{settled_in}
use Rattle.progress_laws.specs.Courses.{IsRunTo}
use Rattle.progress_laws.specs.Settled.{finding_shown, ClaimsRightly, TellsAssembly, SettledClaimsHold}
use Rattle.progress_laws.proofs.Standing.{ShowsNone}
use Rattle.progress_laws.proofs.Kept.{run_held}
use Rattle.progress_laws.proofs.NoDead.{no_point, no_point_feasible, none_contradicts}
use Rattle.progress_laws.proofs.Shown.{FitsPolicy, Recedes, ShowsByForms, IsShowing, HasEnds, run_shows, run_ends}

-- ---- comparisons
equal_is : (a b : ℚ) → same a b ≡ true → a ≡ b
equal_is a b e = go (compare a b) (compare_means a b) e
  where
    go : (o : Ordering) → MatchOrdering o (a <ℚ b) (a ≡ b) (b <ℚ a) → is_eq o ≡ true → a ≡ b
    go Less h e = absurd (cc)
    go Equal h e = h
    go Greater h e = absurd (cc)

less_is : (a b : ℚ) → below a b ≡ true → a <ℚ b
less_is a b e = go (compare a b) (compare_means a b) e
  where
    go : (o : Ordering) → MatchOrdering o (a <ℚ b) (a ≡ b) (b <ℚ a) → is_lt o ≡ true → a <ℚ b
    go Less h e = h
    go Equal h e = absurd (cc)
    go Greater h e = absurd (cc)

-- ---- what a run shows
where_is : (b : Bool) (case found : Settled) → where_so b case ≡ Some found → (b ≡ true) × (case ≡ found)
where_is true case found e = (refl, (let q : case ≡ found = cc in q))
where_is false case found e = absurd (cc)

both_true : (a b : Bool) → (a && b) ≡ true → b ≡ true
both_true true b e = e
both_true false b e = absurd (cc)

shows_nowhere : (kind : Kind) (closed : Bool) (e : Ends) → shown kind closed e ≡ Some Infeasible → is_some e.nowhere ≡ true
shows_nowhere run_kind.Feasible closed e h = (where_is (is_some e.nowhere) Infeasible Infeasible h).0
shows_nowhere run_kind.Recession closed e h = let q = (where_is (closed && falls e.direction) Unbounded Infeasible h).1 in absurd (cc)
shows_nowhere run_kind.Cost closed e h = let q = (where_is (meet e.lower e.upper) Optimal Infeasible h).1 in absurd (cc)

shows_falling : (kind : Kind) (closed : Bool) (e : Ends) → shown kind closed e ≡ Some Unbounded
    → (kind ≡ run_kind.Feasible → ⊥) × (falls e.direction ≡ true)
shows_falling run_kind.Feasible closed e h = let q = (where_is (is_some e.nowhere) Infeasible Unbounded h).1 in absurd (cc)
shows_falling run_kind.Recession closed e h = (
  (λ q. absurd (cc)),
  both_true closed (falls e.direction) (where_is (closed && falls e.direction) Unbounded Unbounded h).0,
)
shows_falling run_kind.Cost closed e h = let q = (where_is (meet e.lower e.upper) Optimal Unbounded h).1 in absurd (cc)

shows_meeting : (kind : Kind) (closed : Bool) (e : Ends) → shown kind closed e ≡ Some Optimal → meet e.lower e.upper ≡ true
shows_meeting run_kind.Feasible closed e h = let q = (where_is (is_some e.nowhere) Infeasible Optimal h).1 in absurd (cc)
shows_meeting run_kind.Recession closed e h = let q = (where_is (closed && falls e.direction) Unbounded Optimal h).1 in absurd (cc)
shows_meeting run_kind.Cost closed e h = (where_is (meet e.lower e.upper) Optimal Optimal h).0

-- what nothing stops, and shows a finding, does so by its run
shown_is : (s : State) (case : Settled) (finding : Finding) → s.stop ≡ None → settled_in s ≡ Some case → finding_shown case ≡ Some finding
    → shown s.kind s.table.closed s.ends ≡ Some case
shown_is s case finding stop e f = go (shown s.kind s.table.closed s.ends)
    (subst (λ o. or_case (shown s.kind s.table.closed s.ends) (ended o s.counts.since_report s.budget.solves) ≡ Some case) stop e)
  where
    spent : (b : Bool) → where_so b Spent ≡ Some case → ⊥
    spent b h =
        let q : Spent ≡ case = (where_is b Spent case h).1 in
        let none_is : None ≡ Some finding = ap finding_shown q ∙ f in
        absurd (cc)

    go : (o : Option Settled) → or_case o (ended None s.counts.since_report s.budget.solves) ≡ Some case → o ≡ Some case
    go (Some c) h = h
    go None h = absurd (spent _ h)

-- ---- the multipliers of a cut of the root
module _ (p : lists.Program) (i : IsProgram p) (cut : Stored) (made : IsMadeAbout (book run_kind.Cost p []) 0 cut) (forms : HasForms cut)
    (fs : List (List Entry)) (e : flat_from [] one_ℚ cut ≡ Ok fs) where
  well : AssemblesWell run_kind.Cost p cut
  well = roots_assemble_well run_kind.Cost p cut i made

  fit : (all_fit p true (numbers_by_node 0 fs) ≡ true) × ((n i : ℕ) → at (numbers_by_node 0 fs) n i ≡ flat_of fs n i)
  fit = multipliers_fit run_kind.Cost p cut fs i (made_are_on_rows run_kind.Cost p cut made.made) e (forms_assemble cut fs forms e)

  as_list : flat_of fs ≡ at (numbers_by_node 0 fs)
  as_list = fun_ext (λ n. fun_ext (λ j. sym (fit.1 n j)))

  -- they fit the program, are good, and are worth at least the constant
  pub record AreGood (kind : CutKind) : Type 0 where
    pub fits : all_fit p true (numbers_by_node 0 fs) ≡ true
    pub good : IsGood (priced (view_of p) kind) (at (numbers_by_node 0 fs))
    pub worth : constant_of cut ≤ℚ value (priced (view_of p) kind) (at (numbers_by_node 0 fs))

  are_good : (kind : CutKind) → (source_of cut).kind ≡ kind → AreGood kind
  are_good kind k = subst AreGood k (record {
    fits = fit.0;
    good = subst (IsGood (priced (view_of p) (source_of cut).kind)) as_list (well.good fs e);
    worth = subst (λ y. constant_of cut ≤ℚ value (priced (view_of p) (source_of cut).kind) y) as_list (well.worth fs e);
  })

  ray_holds : ShowsNone cut → (all_fit p true (numbers_by_node 0 fs) ≡ true) × ShowsInfeasible (view_of p) (at (numbers_by_node 0 fs))
  ray_holds shows =
      let g = are_good Ray shows.0 in
      (g.fits, record { good = g.good; above = lt_by shows.1 (λ k. le_trans_ℚ g.worth k) })

-- ---- a run
module _ (program : Program) (s : State) (r : IsRunTo (content program) s) (stop : s.stop ≡ None) (why : Open) where
  show : IsShowing (content program) s
  show = run_shows (content program) s r stop

  has : HasEnds (content program) r.tree r.program r.few r.walk r.most s
  has = run_ends (content program) s r stop

  of_made : CutsAreMade (script_books (content program) []) s
  of_made = (run_held (content program) s r).made

  -- the claim holds, or an operation ends the assembly
  abbrev IsSo : Finding → Closed → Type 0
  IsSo finding closed = ClaimsRightly program finding closed ⊎ TellsAssembly s.ends closed

  -- ---- no point
  -- a cut that shows that there is none isn't made of the recession, of which there is one
  plain_made : (cut : Stored) → ShowsNone cut → (k : Kind) → IsMadeAbout (run_book k (script_books (content program) [])) 0 cut
      → IsMadeAbout (book run_kind.Cost (content program) []) 0 cut
  plain_made cut shows run_kind.Feasible h = h
  plain_made cut shows run_kind.Recession h =
      absurd (none_contradicts run_kind.Recession (content program) r.program cut h shows no_point (no_point_feasible (view_of (content program))))
  plain_made cut shows run_kind.Cost h = h

  nowhere_by : (cut : Stored) → s.ends.nowhere ≡ Some cut → (w : Result (List (List Entry)) Operation) → flat_from [] one_ℚ cut ≡ w
      → IsSo findings.Infeasible (by_ray (found_or (then_value (numbers_by_node 0) w)) why)
  nowhere_by cut there (Ok fs) e =
      let g : ShowsByForms cut = subst (λ o. IfSome o ShowsByForms) there show.ends.nowhere in
      let q = subst (λ o. IfSome o (λ (cut : Stored). (k : Kind) × IsMadeAbout (run_book k (script_books (content program) [])) 0 cut)) there
      of_made.1.nowhere in
      let h = ray_holds (content program) r.program cut (plain_made cut g.shows q.0 q.1) g.forms fs e g.shows in
      inl (record { holds = record { ray_fits = h.0; shows = h.1 }; asks = refl })
  nowhere_by cut there (Err o) e =
      inr (record { operation = o; told = refl; ends = record { cut = cut; rests = inl there; passes = ap (then_value (numbers_by_node 0)) e } })

  infeasible : is_some s.ends.nowhere ≡ true → IsSo findings.Infeasible (by_ray (multipliers_of s.ends.nowhere) why)
  infeasible h = go s.ends.nowhere refl h
    where
      go : (o : Option Stored) → s.ends.nowhere ≡ o → is_some o ≡ true → IsSo findings.Infeasible (by_ray (multipliers_of o) why)
      go None e h = absurd (cc)
      go (Some cut) e h = nowhere_by cut e (flat_from [] one_ℚ cut) refl

  -- ---- a policy and a direction
  policy_facts : (u : Priced) → s.ends.upper ≡ Some u
      → FitsPolicy (content program) u
      × (Feasible (view_of (content program)) (at u.policy) × (cost (view_of (content program)) (at u.policy) ≡ u.cost))
  policy_facts u e = (
    subst (λ o. IfSome o (FitsPolicy (content program))) e show.ends.upper,
    subst (λ o. IfSome o (λ (u : Priced). Feasible (view_of (content program)) (at u.policy) × (cost (view_of (content program)) (at u.policy) ≡ u.cost))) e
        has.hold.upper,
  )

  unbounded : (s.kind ≡ run_kind.Feasible → ⊥) → falls s.ends.direction ≡ true
      → IsSo findings.Unbounded (by_direction (policy_of s.ends.upper) (policy_of s.ends.direction) why)
  unbounded later h = go s.ends.direction refl h
    where
      u : (u : Priced) × (s.ends.upper ≡ Some u)
      u = has.policy later

      with_both : (u d : Priced) → s.ends.upper ≡ Some u → s.ends.direction ≡ Some d → d.cost <ℚ zero_ℚ
          → IsSo findings.Unbounded (by_direction (Some u.policy) (Some d.policy) why)
      with_both u d at_upper at_direction less =
          let f = policy_facts u at_upper in
          let k : Recedes (content program) d = subst (λ o. IfSome o (Recedes (content program))) at_direction show.ends.direction in
          inl (record {
            holds = record {
              policy_fits = f.0;
              direction_fits = k.fits;
              feasible = f.1.0;
              falls = recession_points_are_directions (view_of (content program)) (at d.policy) k.feasible
                  (subst (λ q. q <ℚ zero_ℚ) (sym k.costs) less);
            };
            asks = refl;
          })

      go : (o : Option Priced) → s.ends.direction ≡ o → falls o ≡ true
          → IsSo findings.Unbounded (by_direction (policy_of s.ends.upper) (policy_of o) why)
      go None e h = absurd (cc)
      go (Some d) e h = subst (λ o. IsSo findings.Unbounded (by_direction (policy_of o) (Some d.policy) why)) (sym u.1)
          (with_both u.0 d u.1 e (less_is d.cost zero_ℚ h))

  -- ---- both ends
  optimal_by : (l : Bounded) (u : Priced) → s.ends.lower ≡ Some l → s.ends.upper ≡ Some u → l.value ≡ u.cost
      → (w : Result (List (List Entry)) Operation) → flat_from [] one_ℚ l.cut ≡ w
      → IsSo findings.Optimal (by_ends (Some u.policy) (found_or (then_value (numbers_by_node 0) w)) why)
  optimal_by l u at_lower at_upper equal (Ok fs) e =
      let f = policy_facts u at_upper in
      let facts : (l.value ≡ constant_of l.cut) × ((source_of l.cut).kind ≡ Bound)
      = subst (λ o. IfSome o (λ (l : Bounded). (l.value ≡ constant_of l.cut) × ((source_of l.cut).kind ≡ Bound))) at_lower has.hold.lower in
      let forms : HasForms l.cut = subst (λ o. IfSome o (λ (l : Bounded). HasForms l.cut)) at_lower show.ends.lower in
      let made : IsMadeAbout (book run_kind.Cost (content program) []) 0 l.cut
      = subst (λ o. IfSome o (λ (l : Bounded). IsMadeAbout (book run_kind.Cost (content program) []) 0 l.cut)) at_lower of_made.1.lower in
      let g = are_good (content program) r.program l.cut made forms fs e Bound facts.1 in
      inl (record {
        holds = record {
          policy_fits = f.0;
          dual_fits = g.fits;
          feasible = f.1.0;
          good = g.good;
          meet = le_trans_ℚ (le_of_same_ℚ (f.1.1 ∙ sym equal ∙ facts.0)) g.worth;
        };
        asks = refl;
      })
  optimal_by l u at_lower at_upper equal (Err o) e = inr (record {
    operation = o;
    told = refl;
    ends = record { cut = l.cut; rests = inr (ap cut_of at_lower); passes = ap (then_value (numbers_by_node 0)) e };
  })

  optimal : meet s.ends.lower s.ends.upper ≡ true
      → IsSo findings.Optimal (by_ends (policy_of s.ends.upper) (multipliers_of (cut_of s.ends.lower)) why)
  optimal h = go s.ends.lower s.ends.upper refl refl h
    where
      go : (l : Option Bounded) (u : Option Priced) → s.ends.lower ≡ l → s.ends.upper ≡ u → meet l u ≡ true
          → IsSo findings.Optimal (by_ends (policy_of u) (multipliers_of (cut_of l)) why)
      go None u d e h = absurd (cc)
      go (Some l) None d e h = absurd (cc)
      go (Some l) (Some u) d e h = optimal_by l u d e (equal_is l.value u.cost h) (flat_from [] one_ℚ l.cut) refl

  -- ---- each case
  some_finding : (a b : Finding) → Some a ≡ Some b → a ≡ b
  some_finding a b e = cc

  by_case : (case : Settled) (finding : Finding) → finding_shown case ≡ Some finding → shown s.kind s.table.closed s.ends ≡ Some case
      → IsSo finding (closed_by (Some case) s.ends why)
  by_case Infeasible finding f h = subst (λ x. IsSo x (closed_by (Some Infeasible) s.ends why)) (some_finding findings.Infeasible finding f)
      (infeasible (shows_nowhere s.kind s.table.closed s.ends h))
  by_case Unbounded finding f h =
      let q = shows_falling s.kind s.table.closed s.ends h in
      subst (λ x. IsSo x (closed_by (Some Unbounded) s.ends why)) (some_finding findings.Unbounded finding f) (unbounded q.0 q.1)
  by_case Optimal finding f h = subst (λ x. IsSo x (closed_by (Some Optimal) s.ends why)) (some_finding findings.Optimal finding f)
      (optimal (shows_meeting s.kind s.table.closed s.ends h))
  by_case Stopped finding f h = absurd (cc)
  by_case Spent finding f h = absurd (cc)

pub settled_claims_hold : SettledClaimsHold
settled_claims_hold program s case finding r stop e f =
    subst (λ o. ClaimsRightly program finding (closed_by o s.ends (why_open s.stop s.budget.solves))
    ⊎ TellsAssembly s.ends (closed_by o s.ends (why_open s.stop s.budget.solves))) (sym e)
    (by_case program s r stop (why_open s.stop s.budget.solves) case finding f (shown_is s case finding stop e f))
