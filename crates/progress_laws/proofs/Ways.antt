-- The method keeps its way through a script.
use Rattle.std.proofs.Common.{◌≡◌, ℕ, ◌+◌, ◌*◌, ◌^◌, ◌<◌, ◌≤◌, ◌⊎◌, inl, inr, Bool, true, false, List, [], ◌∷◌, length, refl, sym, ap, subst, ◌∙◌, arith}
use Rattle.std.proofs.Math.Nat.{mul-le-mul_left}
use Rattle.scen_defs.specs.Program.{Program}
use Rattle.scen_defs.specs.Valid.{IsProgram}
use Rattle.scen_defs.specs.declared.report.Kind.{Kind}
use Rattle.scen_defs.specs.declared.report.Kind.TheVariants.{Feasible, Recession, Cost}
use Rattle.edit_defs.specs.declared.edit.Edit.{Edit}
use Rattle.edit_defs.specs.After.{after, after_edits}
use Rattle.edit_defs.specs.Applies.{Applies}
use Rattle.edit_defs.specs.Data.{one_if}
use Rattle.edit_defs.specs.Shifts.{HasWidths}
use Rattle.edit_defs.specs.Touches.{touches_rows, touches_costs}
use Rattle.edit_defs.proofs.Causes.{edits_without_cause_apply}
use Rattle.edit_defs.proofs.Programs.{edits_keep_programs}
use Rattle.edit_defs.proofs.Shifts.{widths_stay}
use Rattle.edit_script.specs.Allowed.{IsAllowed}
use Rattle.pass_table.specs.Machine.{Machine}
use Rattle.node_data.specs.declared.versions.Version.{Version}
use Rattle.node_data.specs.Counts.{version_of}
use Rattle.cut_banks.specs.declared.banks.Banks.{Banks}
use Rattle.pass_core.specs.declared.budget.Budget.{Budget}
use Rattle.pass_core.specs.declared.state.Counts.{Counts}
use Rattle.pass_core.specs.declared.state.State.{State}
use Rattle.pass_core.specs.Beginning.{IsBeginning}
use Rattle.pass_core.specs.Counting.{no_commits, with_commit}
use Rattle.pass_core.specs.Turns.{OpensAnyhow, stays_closed, is_open}
use Rattle.pass_core.proofs.Moving.{StepsAtDesk, step_moves, work_moves, no_solve, new_run, one_turn}
use Rattle.pass_core.proofs.MadeAfterEdits.{never_touched}
use Rattle.nested_method.specs.declared.method.Method.TheVariants.{Working as AtWork, Idle}
use Rattle.nested_method.specs.declared.method.Working.{Working}
use Rattle.nested_method.specs.Edited.{dues_of, IsEdited}
use Rattle.nested_method.specs.Stands.{HasFewNodes, WorksOn, SolvesNodes, none, more, beside, forgets, anew}
use Rattle.nested_method.proofs.StandLemmas.{frame_stays}
use Rattle.kept_cut_laws.specs.Laws.{CutsAreNow}
use Rattle.kept_cut_laws.proofs.Pools.{still_kept}
use Rattle.kept_cut_laws.proofs.Touched.{rows_behind, costs_behind}
use Rattle.kept_cut_laws.proofs.Edits.{edits_keep_cuts}
use Rattle.kept_cut_laws.proofs.Dues.{dues_are_few}
use Rattle.progress_laws.specs.Courses.{IsOpening, here, by_solves, by_report}
use Rattle.progress_laws.specs.Ways.{AreFew, IsOnWay, WaysBegin, SolvesKeepWay, WaysHaveNumbers, ReportsKeepWay, EditsKeepWay}
use Rattle.progress_laws.proofs.Standing.{runs_before}
use Rattle.progress_laws.proofs.Course.{beginning_opens}
use Rattle.progress_laws.proofs.Held.{IsHeld}
use Rattle.progress_laws.proofs.Kept.{run_held}
use Rattle.progress_laws.proofs.NeverStuck.{never_stuck}
use Rattle.progress_laws.proofs.Openings.{openings_are_made}
use Rattle.progress_laws.proofs.SolvesUsed.{solves_are_used}

-- ---- the beginning
-- what an item and a solve leave of the versions and of the counts
record IsCountedBy (budget : Budget) (came : ℕ) (s : State) : Type 0 where
  rows : (n : ℕ) → (version_of s.versions n).rows ≤ came
  costs : (n : ℕ) → (version_of s.versions n).costs ≤ came
  counted : s.counts.all ≤ came * budget.solves + s.counts.since_report

begun_counted : (budget : Budget) (came : ℕ) (p : Program) (s : State) → IsBeginning p budget s → s.counts ≡ no_commits → IsCountedBy budget came s
begun_counted budget came p s b uncounted = record {
  rows = λ n. let e : (version_of s.versions n).rows ≡ 0 = ap (λ (v : Version). v.rows) (zeros n) in omega (arith, e);
  costs = λ n. let e : (version_of s.versions n).costs ≡ 0 = ap (λ (v : Version). v.costs) (zeros n) in omega (arith, e);
  counted = let e : s.counts.all ≡ 0 = ap (λ (c : Counts). c.all) uncounted in omega (arith, e);
}
  where
    zeros : (n : ℕ) → version_of s.versions n ≡ record { rows = 0; costs = 0 }
    zeros n = ap (λ (vs : List Version). version_of vs n) b.versions ∙ never_touched (length p.nodes) n

pub ways_begin : WaysBegin
ways_begin budget came p (Idle why own) i few widths b = widths
ways_begin budget came p (AtWork w) i few widths b =
    let c : IsCountedBy budget came w.state = begun_counted budget came p w.state b.1 b.2 in
    record {
      run = record {
        program = i;
        few = few;
        tree = w.tree;
        walk = b.0;
        most = 0;
        first = w.state;
        opens = beginning_opens p 0 budget w.state b.1;
        goes = here;
      };
      widths = widths;
      rows = c.rows;
      costs = c.costs;
      most = omega arith;
      counted = c.counted;
    }

-- ---- solves
module _ (budget : Budget) (came : ℕ) where
  counted_on : (old new : State) → new.versions ≡ old.versions → (new.counts ≡ old.counts) ⊎ (new.counts ≡ with_commit old.counts)
      → IsCountedBy budget came old → IsCountedBy budget came new
  counted_on old new versions counts h = record {
    rows = subst (λ (vs : List Version). (n : ℕ) → (version_of vs n).rows ≤ came) (sym versions) h.rows;
    costs = subst (λ (vs : List Version). (n : ℕ) → (version_of vs n).costs ≤ came) (sym versions) h.costs;
    counted = go counts;
  }
    where
      go : (new.counts ≡ old.counts) ⊎ (new.counts ≡ with_commit old.counts) → new.counts.all ≤ came * budget.solves + new.counts.since_report
      go (inl e) = omega (arith, ap (λ (c : Counts). c.all) e, ap (λ (c : Counts). c.since_report) e, h.counted)
      go (inr e) = omega (arith, ap (λ (c : Counts). c.all) e, ap (λ (c : Counts). c.since_report) e, h.counted)

  step_counted : (p : Program) (old new : State) (m : Machine) → StepsAtDesk p old m new → IsCountedBy budget came old
      → IsCountedBy budget came new
  step_counted p old new m (no_solve reasons ready) h = counted_on old new ready.run.versions (inl reasons.counts) h
  step_counted p old new m (new_run tabled made closed earlier opens reasons run puts left) h = by left
    where
      by : OpensAnyhow p old new → IsCountedBy budget came new
      by (stays_closed e) = counted_on old new (ap (λ (s : State). s.versions) e) (inl reasons.counts) h
      by (is_open o gets halts) = counted_on old new o.versions (inl reasons.counts) h
  step_counted p old new m (one_turn lasts n ready solve) h = counted_on old new solve.stays.versions (inr solve.reasons.counts) h

  solves_counted : (p : Program) (old new : State) → SolvesNodes p old new → IsCountedBy budget came old → IsCountedBy budget came new
  solves_counted p old new none h = h
  solves_counted p old new (more mid k m told before open_yet table step keeps) h =
      step_counted p mid k m (step_moves p mid m k told table step) (solves_counted p old mid before h)
  solves_counted p old new (beside mid k m before open_yet desk work keeps) h =
      step_counted p mid k m (work_moves p mid m k work) (solves_counted p old mid before h)
  solves_counted p old new (forgets mid k m w n before b drop) h =
      counted_on mid k (ap (λ (s : State). s.versions) drop.others) (inl (ap (λ (s : State). s.counts) drop.others)) (solves_counted p old mid before h)
  solves_counted p old new (anew mid k before ends over) h =
      let c : IsCountedBy budget came mid = solves_counted p old mid before h in
      record {
        rows = λ n. let none : (version_of k.versions n).rows ≡ 0 = ap (λ (v : Version). v.rows) (zeros n) in omega (arith, none);
        costs = λ n. let none : (version_of k.versions n).costs ≡ 0 = ap (λ (v : Version). v.costs) (zeros n) in omega (arith, none);
        counted = subst (λ (x : Counts). x.all ≤ came * budget.solves + x.since_report) (sym over.counts) c.counted;
      }
    where
      zeros : (n : ℕ) → version_of k.versions n ≡ record { rows = 0; costs = 0 }
      zeros n = ap (λ (vs : List Version). version_of vs n) over.beginning.versions ∙ never_touched (length p.nodes) n

-- from the beginning of a program no more solves are counted in all than since the report before
pub begun_counts : (budget : Budget) (p : Program) (old new : State) → IsBeginning p budget old → old.counts ≡ no_commits → SolvesNodes p old new
    → new.counts.all ≤ new.counts.since_report
begun_counts budget p old new b uncounted x =
    let c : new.counts.all ≤ 0 * budget.solves + new.counts.since_report
    = (solves_counted budget 0 p old new x (begun_counted budget 0 p old b uncounted)).counted in
    omega (arith, c)

pub solves_keep_way : SolvesKeepWay
solves_keep_way budget came p old new x way =
    let c : IsCountedBy budget came new
    = solves_counted budget came p old new x (record { rows = way.rows; costs = way.costs; counted = way.counted }) in
    record {
      run = record {
        program = way.run.program;
        few = way.run.few;
        tree = way.run.tree;
        walk = way.run.walk;
        most = way.run.most;
        first = way.run.first;
        opens = way.run.opens;
        goes = by_solves old new way.run.goes x;
      };
      widths = way.widths;
      rows = c.rows;
      costs = c.costs;
      most = way.most;
      counted = c.counted;
    }

-- ---- numbers
pub ways_have_numbers : WaysHaveNumbers
ways_have_numbers budget came p s few way within =
    let a : came * budget.solves ≤ came * 2 ^ 40 = mul-le-mul_left came (let l : budget.solves < 2 ^ 40 = few.solves in omega (arith, l)) in
    omega (arith, a, few.items, few.solves, way.most, way.counted, within)

-- ---- reports
pub reports_keep_way : ReportsKeepWay
reports_keep_way budget came p s few way within = record {
  run = record {
    program = way.run.program;
    few = way.run.few;
    tree = way.run.tree;
    walk = way.run.walk;
    most = way.run.most;
    first = way.run.first;
    opens = way.run.opens;
    goes = by_report s way.run.goes
        (λ n e. never_stuck solves_are_used openings_are_made p s n way.run (ways_have_numbers budget came p s few way within) e);
  };
  widths = way.widths;
  rows = λ n. omega (arith, way.rows n);
  costs = λ n. omega (arith, way.costs n);
  most = omega (arith, way.most);
  counted = omega (arith, way.counted, within);
}

-- ---- edits
at_most_two : (k : Kind) → runs_before k ≤ 2
at_most_two Feasible = omega arith
at_most_two Recession = omega arith
at_most_two Cost = omega arith

one_most : (b : Bool) → one_if b ≤ 1
one_most true = omega arith
one_most false = omega arith

weaker : (p : Program) (versions : List Version) (a b : ℕ) (banks : Banks) → a ≤ b → CutsAreNow p versions a banks → CutsAreNow p versions b banks
weaker p versions a b banks less h = record {
  made = h.made;
  kept = record {
    plain = λ n pool e. still_kept p versions a b n pool less (h.kept.plain n pool e);
    cone = λ n pool e. still_kept p versions a b n pool less (h.kept.cone n pool e);
  };
}

module _ (budget : Budget) (came : ℕ) (p : Program) (e : Edit) (old new : Working) (few : AreFew budget came) (allowed : IsAllowed p e)
    (nodes : HasFewNodes (after p e)) (before : WorksOn p budget old) (behind : WorksOn (after p e) budget new) (edited : IsEdited p e old new)
    (way : IsOnWay budget came p old.state) where
  i : IsProgram p
  i = way.run.program

  applies : Applies p e
  applies = edits_without_cause_apply p e allowed.places allowed.asks allowed.no_cause

  within : old.state.counts.since_report ≤ budget.solves
  within = let b = (before.counted i way.run.few).report in omega (arith, b, ap (λ (x : Budget). x.solves) before.budget_is)

  numbers : way.run.most + old.state.counts.all < 2 ^ 63
  numbers = ways_have_numbers budget came p old.state few way within

  held : IsHeld p way.run.most old.state
  held = run_held p old.state way.run

  dues_few : length (dues_of p e old.state.versions) ≤ 512
  dues_few = dues_are_few p e old.state.versions i applies

  changes : held.count ≤ way.run.most + old.state.counts.all + 2
  changes = omega (arith, held.few (omega (arith, numbers)), at_most_two old.state.kind)

  all_same : new.state.counts.all ≡ old.state.counts.all
  all_same = ap (λ (c : Counts). c.all) edited.counts

  most : ℕ
  most = way.run.most + (2 + length (dues_of p e old.state.versions))

  kept : CutsAreNow (after p e) new.state.versions (held.count + length (dues_of p e old.state.versions)) new.state.banks
  kept = subst (λ (vs : List Version). CutsAreNow (after p e) vs (held.count + length (dues_of p e old.state.versions)) new.state.banks) (sym edited.versions)
      (subst (CutsAreNow (after p e) _ (held.count + length (dues_of p e old.state.versions))) (sym edited.pools)
      (edits_keep_cuts p e old.state.versions held.count old.state.banks i way.widths applies before.versions
      (λ n. omega (arith, way.rows n, few.items)) (λ n. omega (arith, way.costs n, few.items)) (omega (arith, changes, numbers, dues_few))
      (record { made = held.made.0; kept = held.kept })))

  opens : IsOpening (after p e) most new.state
  unfolding most
  opens = record {
    frame = behind.frame;
    kind = edited.kind;
    points = edited.points;
    ends = edited.reasons.ends;
    stop = edited.stop p (before.tabled i way.run.few) (λ g. frame_stays p e g ∙ sym before.frame) nodes;
    lasting = edited.reasons.lasting;
    is_begun = edited.is_begun;
    cuts = weaker (after p e) new.state.versions (held.count + length (dues_of p e old.state.versions)) (most + new.state.counts.all) new.state.banks
        (omega (arith, changes, all_same)) kept;
  }

  pub goes_on : IsOnWay budget (came + 1) (after p e) new.state
  unfolding most
  goes_on = record {
    run = record {
      program = edits_keep_programs p e i applies;
      few = nodes;
      tree = new.tree;
      walk = edited.tree;
      most = most;
      first = new.state;
      opens = opens;
      goes = here;
    };
    widths = subst HasWidths (last_of e) (widths_stay p (e ∷ []) 1 i (applies, tt) way.widths);
    rows = λ n. omega (
      arith,
      way.rows n,
      ap (λ (vs : List Version). (version_of vs n).rows) edited.versions,
      rows_behind p e old.state.versions i applies before.versions n (omega (arith, way.rows n, few.items)),
      one_most (touches_rows p e n),
    );
    costs = λ n. omega (
      arith,
      way.costs n,
      ap (λ (vs : List Version). (version_of vs n).costs) edited.versions,
      costs_behind p e old.state.versions i applies before.versions n (omega (arith, way.costs n, few.items)),
      one_most (touches_costs p e n),
    );
    most = omega (arith, way.most, dues_few);
    counted = omega (arith, way.counted, all_same, ap (λ (c : Counts). c.since_report) edited.counts);
  }
    where
      last_of : (e : Edit) → after_edits 1 p (e ∷ []) ≡ after p e
      last_of e = refl

pub edits_keep_way : EditsKeepWay
edits_keep_way budget came p e old new few allowed nodes before behind edited way = goes_on budget came p e old new few allowed nodes before behind edited way
