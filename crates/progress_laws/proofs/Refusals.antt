-- A cut that a solve gives is never refused by the pool of its node.
use Rattle.std.proofs.Common.{◌≡◌, ℕ, zero, suc, ◌<◌, ◌≤◌, Some, IfSome, refl, sym, subst, ◌∙◌, arith}
use Rattle.scen_defs.specs.Valid.{Lives}
use Rattle.scen_defs.specs.declared.report.Kind.{Kind}
use Rattle.scen_defs.specs.declared.report.Kind.TheVariants as run_kind
use Rattle.cut_banks.specs.Banks.{pools_of}
use Rattle.pass_core.specs.Reasons.{RefusesCut}
use Rattle.progress_laws.specs.Laws.{NeverRefuses}
use Rattle.kept_cut_laws.specs.Kept.{IsCutNow}
use Rattle.kept_cut_laws.proofs.Solves.{solves_give_cuts}
use Rattle.progress_laws.proofs.Standing.{runs_before}
use Rattle.progress_laws.proofs.Held.{IsHeld}
use Rattle.progress_laws.proofs.Kept.{IsStanding, unstopped, run_stands, run_held}
use Rattle.progress_laws.proofs.PoolSteps.{never_refused, pool_stands}

pub never_refuses : NeverRefuses
never_refuses p s m lasts n new cut r small table open_yet solve given refuses = go n refl refuses
  where
    standing : IsStanding p r.tree s
    standing = run_stands p s r (unstopped s open_yet)

    held : IsHeld p r.most s
    held = run_held p s r

    live : Lives p n
    live = subst (Lives p) solve.ends.node (sym (table.machine.live solve.ends.turn.node) ∙ solve.ends.turn.may.live)

    at_most_two : (k : Kind) → runs_before k ≤ 2
    at_most_two run_kind.Feasible = omega arith
    at_most_two run_kind.Recession = omega arith
    at_most_two run_kind.Cost = omega arith

    now : IsCutNow p s.versions n cut
    now = subst (λ o. IfSome o (IsCutNow p s.versions n)) given
        (solves_give_cuts p (record s { lasts = lasts }) n held.count solve.task solve.all r.program live held.frame solve.is_task solve.fits solve.told solve.answer held.kept)

    few : held.count < 18446744073709551615
    few = omega (arith, held.few (omega (arith, small)), small, at_most_two s.kind)

    go : (j : ℕ) → n ≡ j → RefusesCut s.kind s.banks j solve.task.trial (Some cut) → ⊥
    go zero e h = h
    go (suc j) e h = never_refused p s.versions held.count (pools_of s.kind s.banks) solve.task.trial cut n
        (pool_stands p s held.count standing.frame m table held.kept s.kind n live) now few h
