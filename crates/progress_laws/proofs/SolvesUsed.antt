-- The method is never stuck behind a solve.
use Rattle.std.proofs.Common.{◌≡◌, ℕ, zero, suc, inl, inr, Option, Some, None, refl, sym, ap, subst, ◌∙◌}
use Rattle.scen_defs.specs.Valid.{Lives}
use Rattle.scen_defs.specs.declared.report.Kind.{Kind}
use Rattle.scen_defs.specs.declared.report.Kind.TheVariants as run_kind
use Rattle.cut_defs.specs.Data.{Datum}
use Rattle.cut_defs.specs.Stored.{Stored}
use Rattle.edit_defs.specs.Data.{view_in}
use Rattle.node_lp.specs.declared.solved.Solved.{Solved}
use Rattle.node_lp.specs.declared.solved.Solved.TheVariants as solved
use Rattle.node_lp.specs.Problem.{is_priced}
use Rattle.node_lp.specs.Tested.{IsToldOf}
use Rattle.node_lp.specs.Answers.{LooseAnswer, IsAnswer}
use Rattle.node_data.specs.Frames.{frame_of}
use Rattle.pass_core.specs.Explained.{cut_given}
use Rattle.pass_core.specs.Reasons.{RefusesCut, IsStuck}
use Rattle.answer_laws.proofs.Bounds.{never_loose}
use Rattle.overflow_laws.proofs.Joins.{points_join}
use Rattle.progress_laws.specs.Stuck.{SolvesAreUsed}
use Rattle.progress_laws.proofs.Standing.{known_of, HasFirstCuts, StandsBy}
use Rattle.progress_laws.proofs.Kept.{unstopped, run_stands}
use Rattle.progress_laws.proofs.FirstCutsMade.{has_least}
use Rattle.progress_laws.proofs.Refusals.{never_refuses}

pub solves_are_used : SolvesAreUsed
solves_are_used p s m lasts n new r small table open_yet solve stuck = go solve.all refl solve.answer stuck
  where
    stands : StandsBy p r.tree (known_of s) m
    stands = (run_stands p s r (unstopped s open_yet)).stands m table

    frame : s.frame ≡ frame_of p
    frame = (run_stands p s r (unstopped s open_yet)).frame

    live : Lives p n
    live = subst (Lives p) solve.ends.node (sym (table.machine.live solve.ends.turn.node) ∙ solve.ends.turn.may.live)

    -- the first cuts of the run
    first : (s.kind ≡ run_kind.Feasible → ⊥) → HasFirstCuts p r.tree (known_of (record s { lasts = lasts }))
    first ne = let g : HasFirstCuts p r.tree (known_of s) = stands.grounds ne in
        record { dual = g.dual; cuts = g.cuts; are = g.are; placed = g.placed }

    -- where the children aren't priced the node has no costs
    loose : (k : Kind) → s.kind ≡ k → LooseAnswer solve.task → ⊥
    loose run_kind.Feasible e a = never_loose.costless solve.task (ap is_priced (solve.is_task.kind ∙ e))
        (ap (λ (d : Datum). d.cost) solve.is_task.datum ∙ ap (λ (k : Kind). (view_in k p).cost n) e) a
    loose run_kind.Recession e a =
        has_least p r.tree (record s { lasts = lasts }) n solve.task r.program live frame
        (first (λ q. let z : run_kind.Recession ≡ run_kind.Feasible = sym e ∙ q in absurd (cc))) solve.is_task solve.fits (ap is_priced e) a
    loose run_kind.Cost e a =
        has_least p r.tree (record s { lasts = lasts }) n solve.task r.program live frame
        (first (λ q. let z : run_kind.Cost ≡ run_kind.Feasible = sym e ∙ q in absurd (cc))) solve.is_task solve.fits (ap is_priced e) a

    -- its cut isn't refused, where it gives one
    taken : (j : ℕ) → n ≡ j → (cut : Option Stored) → cut_given solve.all ≡ cut
        → RefusesCut s.kind s.banks j solve.task.trial cut → ⊥
    taken zero e cut given h = h
    taken (suc j) e None given h = h
    taken (suc j) e (Some cut) given h = never_refuses p s m lasts n new cut r small table open_yet solve given
        (subst (λ k. RefusesCut s.kind s.banks k solve.task.trial (Some cut)) (sym e) h)

    go : (all : Solved) → solve.all ≡ all → IsAnswer solve.task all → IsStuck s.kind s.banks n solve.task.trial all → ⊥
    go (solved.Point x value cut) e a (inl (o, passes)) = points_join solve.task x value cut o solve.fits (subst (IsToldOf solve.task) e solve.told) passes
    go (solved.Point x value cut) e a (inr h) = taken n refl cut (ap cut_given e) h
    go (solved.NoPoint cut) e a h = taken n refl (Some cut) (ap cut_given e) h
    go solved.Loose e a h = loose s.kind refl a
    go solved.PivotsEnded e a h = h
    go (solved.Passed in_cut o) e a h = h
    go solved.NotGood e a h = a
