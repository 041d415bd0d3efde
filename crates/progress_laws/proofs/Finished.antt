-- A report is left open by the number of solves only where they are spent.
use Rattle.std.proofs.Common.{◌≡◌, ◌⊎◌, inl, inr, ℕ, ◌≤◌, leb, is_some, ◌&&◌, Bool, true, false, Option, Some, None, IfSome}
use Rattle.std.proofs.Common.{refl, sym, ap, subst, ◌∙◌}
use Rattle.std.proofs.lemmas.Bool.{leb-true}
use Rattle.rationals.specs.Passes.{Operation, passes}
use Rattle.scen_defs.specs.Program.{content}
use Rattle.scen_defs.specs.declared.program.Program.{Program}
use Rattle.scen_defs.specs.declared.report.Finding.{Finding}
use Rattle.scen_defs.specs.declared.report.Finding.TheVariants as findings
use Rattle.scen_defs.specs.declared.report.Kind.{Kind}
use Rattle.scen_defs.specs.declared.report.Kind.TheVariants.{Feasible, Recession, Cost as CostRun}
use Rattle.scen_defs.specs.declared.report.Place.{Place}
use Rattle.scen_defs.specs.declared.report.Place.TheVariants.{Solve, Cut, Cost, Ground, Dual, Check}
use Rattle.proved_report.specs.declared.open.Open.{Open}
use Rattle.proved_report.specs.declared.open.Open.TheVariants.{Solves, Pivots, Passed}
use Rattle.proved_report.specs.Open.{IsPassing}
use Rattle.claim_laws.specs.Held.{finding_for, TellsTest}
use Rattle.claim_laws.specs.Tells.{IsForSolves, IsFindingOf}
use Rattle.found_ends.specs.declared.ends.Ends.{Ends}
use Rattle.found_ends.specs.declared.settled.Settled.{Settled}
use Rattle.found_ends.specs.declared.settled.Settled.TheVariants.{Infeasible, Unbounded, Optimal, Stopped, Spent}
use Rattle.found_ends.specs.Claims.{IsReason, EndsAssembly}
use Rattle.found_ends.specs.Ends.{meet, falls}
use Rattle.found_ends.specs.Settled.{settled, or_case, where_so, why_open}
use Rattle.found_ends.proofs.Reasons.{closed_reason}
use Rattle.pass_core.specs.declared.state.State.{State}
use Rattle.pass_core.specs.Explained.{IsExplained, PassesInRun}
use Rattle.pass_core.proofs.Desks.{desk_at}
use Rattle.nested_method.specs.Stands.{settled_in, closing}
use Rattle.overflow_laws.specs.Ends.{WalksEndPassing}
use Rattle.overflow_laws.proofs.Ends.{walks_end_passing}
use Rattle.progress_laws.specs.Finished.{IsEndOfRun, EndsAreFinished}
use Rattle.progress_laws.specs.Settled.{finding_shown, ClaimsRightly, TellsAssembly, SettledClaimsHold}
use Rattle.progress_laws.specs.Stuck.{NeverStuck}
use Rattle.progress_laws.proofs.NeverStuck.{never_stuck}
use Rattle.progress_laws.proofs.Openings.{openings_are_made}
use Rattle.progress_laws.proofs.SolvesUsed.{solves_are_used}
use Rattle.progress_laws.proofs.NoDead.{ends_are_settled}
use Rattle.progress_laws.proofs.Rooms.{has_room}
use Rattle.progress_laws.proofs.Claimed.{settled_claims_hold}

-- ---- what ends a run that nothing stops
-- where it isn't settled by what it shows, the solves are spent
by_spent : (shows : Bool) (case : Settled) (spent : Bool) → or_case (where_so shows case) (where_so spent Spent) ≡ Some Spent
    → (case ≡ Spent → ⊥) → spent ≡ true
by_spent true case spent e unlike = absurd (let q : case ≡ Spent = cc in unlike q)
by_spent false case true e unlike = refl
by_spent false case false e unlike = absurd (cc)

by_none : (shows : Bool) (case : Settled) (spent : Bool) → or_case (where_so shows case) (where_so spent Spent) ≡ Some Stopped
    → (case ≡ Stopped → ⊥) → ⊥
by_none true case spent e unlike = let q : case ≡ Stopped = cc in unlike q
by_none false case true e unlike = absurd (cc)
by_none false case false e unlike = absurd (cc)

all_spent : (kind : Kind) (is_closed : Bool) (e : Ends) (counted allowed : ℕ) → settled kind is_closed e None counted allowed ≡ Some Spent
    → leb allowed counted ≡ true
all_spent Feasible is_closed e counted allowed q = by_spent (is_some e.nowhere) Infeasible (leb allowed counted) q (λ z. cc)
all_spent Recession is_closed e counted allowed q = by_spent (is_closed && falls e.direction) Unbounded (leb allowed counted) q (λ z. cc)
all_spent CostRun is_closed e counted allowed q = by_spent (meet e.lower e.upper) Optimal (leb allowed counted) q (λ z. cc)

none_stopped : (kind : Kind) (is_closed : Bool) (e : Ends) (counted allowed : ℕ)
    → settled kind is_closed e None counted allowed ≡ Some Stopped → ⊥
none_stopped Feasible is_closed e counted allowed q = by_none (is_some e.nowhere) Infeasible (leb allowed counted) q (λ z. cc)
none_stopped Recession is_closed e counted allowed q = by_none (is_closed && falls e.direction) Unbounded (leb allowed counted) q (λ z. cc)
none_stopped CostRun is_closed e counted allowed q = by_none (meet e.lower e.upper) Optimal (leb allowed counted) q (λ z. cc)

-- an operation that passes is no reason to tell solves
no_solves : (o : Operation) → IsPassing o → passes o.op o.a o.b ≡ false → ⊥
no_solves o h e = let no : true ≡ false = sym h.holds ∙ e in absurd (cc)

module _ (never : NeverStuck) (claims : SettledClaimsHold) (walks : WalksEndPassing) where
  module _ (program : Program) (s : State) (r : IsEndOfRun program s) (solves n : ℕ) where
    -- ---- what stops the method
    stops_passing : (place : Place) (o : Operation) → PassesInRun (content program) s.frame r.run.tree s.budget.pivots place o → IsPassing o
    stops_passing (Solve k) o h = walks.solve h.task false o h.comes
    stops_passing (Cut k) o (inl h) = walks.solve h.task true o h.comes
    stops_passing (Cut k) o (inr h) = walks.offer h.pool h.cut h.trial o h.passes
    stops_passing (Cost k) o h = walks.cost (content program).nodes r.run.tree.chances.totals h.lasts o h.passes
    stops_passing Ground o (inl h) = walks.assembly h.cut o h.passes
    stops_passing Ground o (inr h) = walks.ground h.datum _ h.dual h.cuts o h.passes
    stops_passing Dual o h = walks.assembly h.cut o h.passes
    stops_passing Check o h = absurd h

    -- it isn't told as a number of solves
    stop_told : (why : Open) → s.stop ≡ Some why → IsForSolves why solves n → ⊥
    stop_told (Solves k) e h =
        never (content program) s k r.run r.numbers e
    stop_told (Pivots k) e h = h
    stop_told (Passed place o) e h =
        let explained : IsExplained (content program) s.frame r.run.tree s.budget (Passed place o) =
        subst (λ (x : Option Open). IfSome x (IsExplained (content program) s.frame r.run.tree s.budget)) e r.explained.0 in
        no_solves o (stops_passing place o explained) h.0

    -- nor is an operation that ends an assembly
    assembly_told : (o : Operation) → EndsAssembly s.ends o → (closing s).why ≡ Passed Dual o → IsForSolves (closing s).why solves n → ⊥
    assembly_told o ends e h =
        let told : IsForSolves (Passed Dual o) solves n = subst (λ (w : Open). IsForSolves w solves n) e h in
        no_solves o (walks.assembly ends.cut o ends.passes) told.0

    stopped : (why : Open) → s.stop ≡ Some why → IsForSolves (closing s).why solves n → ⊥
    stopped why e h = go (closed_reason (settled_in s) s.ends (why_open s.stop s.budget.solves) (closing s) refl)
      where
        go : IsReason s.ends (why_open s.stop s.budget.solves) (closing s).why → ⊥
        go (inl t) = stop_told why e
            (subst (λ (w : Open). IsForSolves w solves n) (t ∙ ap (λ (x : Option Open). why_open x s.budget.solves) e) h)
        go (inr a) = assembly_told a.0 a.2 a.1 h

  pub finished : EndsAreFinished
  finished program s place solves report n r claimed told = by_stop s.stop refl
    where
      reason : IsForSolves (closing s).why solves n
      reason = subst (IsFindingOf program place (closing s).why solves (closing s).claim) told claimed.finding

      -- what a run shows has its finding
      shows : (case : Settled) (finding : Finding) → (finding ≡ findings.OpenSolves n → ⊥) → s.stop ≡ None → settled_in s ≡ Some case
          → finding_shown case ≡ Some finding → ⊥
      shows case finding unlike none e f = go (claims program s case finding r.run none e f)
        where
          by : (report.finding ≡ finding_for (closing s).claim) ⊎ TellsTest program place (closing s).claim report
              → finding_for (closing s).claim ≡ finding → ⊥
          by (inl q) asks = unlike (sym (q ∙ asks) ∙ told)
          by (inr t) asks = let no : findings.OpenPassed t.told t.operation ≡ findings.OpenSolves n = sym t.finding ∙ told in absurd (cc)

          go : ClaimsRightly program finding (closing s) ⊎ TellsAssembly s.ends (closing s) → ⊥
          go (inl c) = by (claimed.holds c.holds) c.asks
          go (inr a) = assembly_told program s r solves n a.operation a.ends a.told reason

      by_case : (case : Option Settled) → s.stop ≡ None → settled_in s ≡ case → s.budget.solves ≤ s.counts.since_report
      by_case None none e =
          absurd (ends_are_settled (content program) s r.tabled.0 r.run r.tabled.1
          (has_room (content program) s r.run r.numbers e r.tabled.0 (desk_at (content program) s r.tabled.0 r.tabled.1)) r.ends e)
      by_case (Some Spent) none e = leb-true s.budget.solves s.counts.since_report
          (all_spent s.kind s.table.closed s.ends s.counts.since_report s.budget.solves
          (subst (λ (x : Option Open). settled s.kind s.table.closed s.ends x s.counts.since_report s.budget.solves ≡ Some Spent) none e))
      by_case (Some Stopped) none e = absurd (none_stopped s.kind s.table.closed s.ends s.counts.since_report s.budget.solves
          (subst (λ (x : Option Open). settled s.kind s.table.closed s.ends x s.counts.since_report s.budget.solves ≡ Some Stopped) none e))
      by_case (Some Infeasible) none e = absurd (shows Infeasible findings.Infeasible (λ q. cc) none e refl)
      by_case (Some Unbounded) none e = absurd (shows Unbounded findings.Unbounded (λ q. cc) none e refl)
      by_case (Some Optimal) none e = absurd (shows Optimal findings.Optimal (λ q. cc) none e refl)

      by_stop : (o : Option Open) → s.stop ≡ o → s.budget.solves ≤ s.counts.since_report
      by_stop None e = by_case (settled_in s) e refl
      by_stop (Some why) e = absurd (stopped program s r solves n why e reason)

pub ends_are_finished : EndsAreFinished
ends_are_finished = finished (never_stuck solves_are_used openings_are_made) settled_claims_hold walks_end_passing
