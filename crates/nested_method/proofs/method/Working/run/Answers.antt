use Rattle.std.proofs.Common.{◌≡◌, inr, None, refl, sym, subst, ◌∙◌, arith}
use Rattle.scen_defs.specs.Program.{content}
use Rattle.pass_core.specs.Tabled.{GoesBySteps}
use Rattle.pass_core.proofs.Tabling.{goes_further, goes_nowhere}
use Rattle.nested_method.specs.declared.method.Working.{Working}
use Rattle.nested_method.specs.Stands.{WorksOn, settled_in, IsAtEnd, SolvesAsAsked, SolvesOnce}
use Rattle.nested_method.proofs.Ending.{ripe_ends, rest_ends, ends_anyhow, leaves_fewer, none_beyond, step_within, rests_within}
use Rattle.nested_method.proofs.StandLemmas.{works_still, step_tabled, steps_points, goes_on, not_ripe, asked_yet, step_in_budget, solves_none, solves_more}
use Rattle.nested_method.specs.Scripted.{IsInHistory}
use Rattle.nested_method.proofs.Histories.{history_stays}
use Rattle.nested_method.specs.Batches.{steps_left}
use Rattle.nested_method.proofs.Running.{beside_keeps, less_then}
use Rattle.nested_method.proofs.method.Working.run.Goals as goal
use Rattle.nested_method.proofs.method.Working.run.Goals.{then-is_ripe-via-then-is_ripe, then-is_ripe-via-else-is_ripe+in_ok-advance+then-not-branch}

pub steps-init : goal.steps-init
steps-init g c = ((λ budget w. w), (λ m f h. (goes_nowhere (content c.args.program.now) m c.args.self.now.state h, f)), (λ budget few w. solves_none (content c.args.program.now) c.args.self.now.state), (λ budget first edits rest came w h. h), none_beyond c.args.work c.args.self.now.state)

pub steps-preserved : goal.steps-preserved
steps-preserved g c =
    let inv = beside_keeps (content c.args.program.now) c.args.work c.args.self.now c.steps.self c.work_beside.new.self
    c.in_ok-work_beside.ensures.stays c.in_ok-work_beside.ensures.steps c.in_ok-work_beside.ensures.solves
    c.in_ok-work_beside.ensures.made c.in_ok-work_beside.ensures.no_more c.steps.invariant in
    let p = content c.args.program.now in
    let i = c.args.program.now.keeps in
    let new : Working = record { state = c.advance.new.self; tree = c.work_beside.new.self.tree } in
    let open_yet : settled_in c.work_beside.new.self.state ≡ None = not_ripe c.args.work _ _ (sym c.is_ripe.ensures ∙ c.if-is_ripe.false) in (
      (λ budget w. works_still p budget c.work_beside.new.self new refl c.in_ok-advance.ensures.explained
          (λ j f. step_tabled p c.work_beside.new.self.state new.state _ (λ m. c.in_ok-advance.ensures.tabled m f))
          (λ j t f. steps_points p c.work_beside.new.self.state new.state _ (λ m. c.in_ok-advance.ensures.solves m t f))
          (λ j t f. step_in_budget p c.work_beside.new.self.state new.state _ c.in_ok-advance.ensures.explained.1 (goes_on c.work_beside.new.self.state open_yet)
          (λ m. c.in_ok-advance.ensures.solves m t f)) (inv.0 budget w)),
      (λ m f h.
          let before = inv.1 m f h in
          (goes_further p m c.work_beside.new.self.state new.state _ before.0 (λ k. c.in_ok-advance.ensures.tabled k before.1), c.in_ok-advance.ensures.explained.0 ∙ before.1)),
      (λ budget few w. solves_more p budget c.args.self.now.state c.work_beside.new.self new.state _ i few (inv.0 budget w) (inv.2 budget few w)
          (λ m. c.in_ok-advance.ensures.solves m) (λ t f b right made. c.in_ok-advance.ensures.made b t f right made) open_yet),
      (λ budget first edits rest came w h.
          let works = inv.0 budget w in
          history_stays first edits came p rest c.work_beside.new.self.state new.state c.in_ok-advance.ensures.explained.2
          (λ b j right made. c.in_ok-advance.ensures.made b works.tree works.frame right made) (inv.3 budget first edits rest came w h)),
      step_within c.args.work c.args.self.now.state c.work_beside.new.self.state new.state
          (asked_yet c.args.work c.work_beside.new.self.state.counts.since_item _ (sym c.is_ripe.ensures ∙ c.if-is_ripe.false))
          (c.in_ok-advance.ensures.progress c.if-not-branch.false),
    )

pub returns-clause-stays : goal.returns-clause-stays
returns-clause-stays g c =
    let inv = beside_keeps (content c.args.program.now) c.args.work c.args.self.now c.steps.self c.work_beside.new.self
    c.in_ok-work_beside.ensures.stays c.in_ok-work_beside.ensures.steps c.in_ok-work_beside.ensures.solves
    c.in_ok-work_beside.ensures.made c.in_ok-work_beside.ensures.no_more c.steps.invariant in
    elim c.then-is_ripe.branch [
      | then-is_ripe-via-then-is_ripe way ↦ λ budget w. subst (λ (working : Working). WorksOn (content c.args.program.now) budget working)
          (sym way.self-is) (inv.0 budget w)
      | then-is_ripe-via-else-is_ripe+in_ok-advance+then-not-branch way ↦ λ budget w.
          let p = content c.args.program.now in
          let new : Working = record { state = way.advance.new.self; tree = c.work_beside.new.self.tree } in
          subst (λ (working : Working). WorksOn p budget working) (sym way.self-is)
          (works_still p budget c.work_beside.new.self new refl way.in_ok-advance.ensures.explained
          (λ i f. step_tabled p c.work_beside.new.self.state new.state _ (λ m. way.in_ok-advance.ensures.tabled m f))
          (λ i t f. steps_points p c.work_beside.new.self.state new.state _ (λ m. way.in_ok-advance.ensures.solves m t f))
          (λ i t f. step_in_budget p c.work_beside.new.self.state new.state _ way.in_ok-advance.ensures.explained.1 (goes_on c.work_beside.new.self.state (not_ripe c.args.work _ _ (sym c.is_ripe.ensures ∙ way.if-is_ripe.false)))
          (λ m. way.in_ok-advance.ensures.solves m t f)) (inv.0 budget w))
    ]

pub returns-clause-steps : goal.returns-clause-steps
returns-clause-steps g c =
    let inv = beside_keeps (content c.args.program.now) c.args.work c.args.self.now c.steps.self c.work_beside.new.self
    c.in_ok-work_beside.ensures.stays c.in_ok-work_beside.ensures.steps c.in_ok-work_beside.ensures.solves
    c.in_ok-work_beside.ensures.made c.in_ok-work_beside.ensures.no_more c.steps.invariant in
    elim c.then-is_ripe.branch [
      | then-is_ripe-via-then-is_ripe way ↦ λ m f h. subst (λ (working : Working). GoesBySteps (content c.args.program.now) m working.state)
          (sym way.self-is) (inv.1 m f h).0
      | then-is_ripe-via-else-is_ripe+in_ok-advance+then-not-branch way ↦ λ m f h.
          let p = content c.args.program.now in
          let new : Working = record { state = way.advance.new.self; tree = c.work_beside.new.self.tree } in
          let before = inv.1 m f h in
          subst (λ (working : Working). GoesBySteps p m working.state) (sym way.self-is)
          (goes_further p m c.work_beside.new.self.state new.state _ before.0 (λ j. way.in_ok-advance.ensures.tabled j before.1))
    ]

pub returns-clause-solves : goal.returns-clause-solves
returns-clause-solves g c =
    let inv = beside_keeps (content c.args.program.now) c.args.work c.args.self.now c.steps.self c.work_beside.new.self
    c.in_ok-work_beside.ensures.stays c.in_ok-work_beside.ensures.steps c.in_ok-work_beside.ensures.solves
    c.in_ok-work_beside.ensures.made c.in_ok-work_beside.ensures.no_more c.steps.invariant in
    elim c.then-is_ripe.branch [
      | then-is_ripe-via-then-is_ripe way ↦ λ budget few w.
          subst (λ (working : Working). SolvesOnce (content c.args.program.now) c.args.self.now.state working.state) (sym way.self-is)
          (inv.2 budget few w)
      | then-is_ripe-via-else-is_ripe+in_ok-advance+then-not-branch way ↦ λ budget few w.
          let p = content c.args.program.now in
          let i = c.args.program.now.keeps in
          let new : Working = record { state = way.advance.new.self; tree = c.work_beside.new.self.tree } in
          subst (λ (working : Working). SolvesOnce p c.args.self.now.state working.state) (sym way.self-is)
          (solves_more p budget c.args.self.now.state c.work_beside.new.self new.state _ i few (inv.0 budget w) (inv.2 budget few w)
          (λ m. way.in_ok-advance.ensures.solves m) (λ t f b right made. way.in_ok-advance.ensures.made b t f right made)
          (not_ripe c.args.work _ _ (sym c.is_ripe.ensures ∙ way.if-is_ripe.false)))
    ]

pub returns-clause-made : goal.returns-clause-made
returns-clause-made g c =
    let inv = beside_keeps (content c.args.program.now) c.args.work c.args.self.now c.steps.self c.work_beside.new.self
    c.in_ok-work_beside.ensures.stays c.in_ok-work_beside.ensures.steps c.in_ok-work_beside.ensures.solves
    c.in_ok-work_beside.ensures.made c.in_ok-work_beside.ensures.no_more c.steps.invariant in
    elim c.then-is_ripe.branch [
      | then-is_ripe-via-then-is_ripe way ↦ λ budget first edits rest came w h.
          subst (λ (working : Working). IsInHistory first edits came (content c.args.program.now) rest working.state) (sym way.self-is) (inv.3 budget first edits rest came w h)
      | then-is_ripe-via-else-is_ripe+in_ok-advance+then-not-branch way ↦ λ budget first edits rest came w h.
          let p = content c.args.program.now in
          let new : Working = record { state = way.advance.new.self; tree = c.work_beside.new.self.tree } in
          let works = inv.0 budget w in
          subst (λ (working : Working). IsInHistory first edits came p rest working.state) (sym way.self-is)
          (history_stays first edits came p rest c.work_beside.new.self.state new.state way.in_ok-advance.ensures.explained.2
          (λ b i right made. way.in_ok-advance.ensures.made b works.tree works.frame right made) (inv.3 budget first edits rest came w h))
    ]

pub returns-clause-amount : goal.returns-clause-amount
returns-clause-amount g c =
    let inv = beside_keeps (content c.args.program.now) c.args.work c.args.self.now c.steps.self c.work_beside.new.self
    c.in_ok-work_beside.ensures.stays c.in_ok-work_beside.ensures.steps c.in_ok-work_beside.ensures.solves
    c.in_ok-work_beside.ensures.made c.in_ok-work_beside.ensures.no_more c.steps.invariant in
    elim c.then-is_ripe.branch [
      | then-is_ripe-via-then-is_ripe way ↦ λ budget few w.
          let p = content c.args.program.now in
          subst (λ (working : Working). SolvesAsAsked p c.args.work c.args.self.now.state working.state) (sym way.self-is) (record {
            enough = ripe_ends p c.args.work c.work_beside.new.self.state (sym c.is_ripe.ensures ∙ way.if-is_ripe.true);
            no_more = inv.4;
          })
      | then-is_ripe-via-else-is_ripe+in_ok-advance+then-not-branch way ↦ λ budget few w.
          let p = content c.args.program.now in
          let i = c.args.program.now.keeps in
          let works = inv.0 budget w in
          subst (λ (working : Working). SolvesAsAsked p c.args.work c.args.self.now.state working.state) (sym way.self-is) (record {
            enough = inr (rest_ends p c.work_beside.new.self.state way.advance.new.self _ way.if-not-branch.true (works.tabled i few)
                (λ m t. way.in_ok-advance.ensures.solves m works.tree works.frame t (works.points i few)));
            no_more = rests_within c.args.work c.args.self.now.state c.work_beside.new.self.state way.advance.new.self
                (way.in_ok-advance.ensures.rests way.if-not-branch.true) inv.4;
          })
    ]

pub steps-smaller : goal.steps-smaller
steps-smaller g c =
    less_then (steps_left c.advance.new.self) (steps_left c.work_beside.new.self.state) (steps_left c.steps.self.state)
    (leaves_fewer c.work_beside.new.self.state c.advance.new.self
    (omega (arith, c.allowed-allowed.ensures, c.allowed-allowed.type_inv))
    (not_ripe c.args.work _ _ (sym c.is_ripe.ensures ∙ c.if-is_ripe.false))
    (c.in_ok-advance.ensures.progress c.if-not-branch.false))
    c.in_ok-work_beside.ensures.fewer.at_most

pub returns-clause-endless : goal.returns-clause-endless
returns-clause-endless g c =
    let inv = beside_keeps (content c.args.program.now) c.args.work c.args.self.now c.steps.self c.work_beside.new.self
    c.in_ok-work_beside.ensures.stays c.in_ok-work_beside.ensures.steps c.in_ok-work_beside.ensures.solves
    c.in_ok-work_beside.ensures.made c.in_ok-work_beside.ensures.no_more c.steps.invariant in
    elim c.then-is_ripe.branch [
      | then-is_ripe-via-then-is_ripe way ↦ λ all budget few w.
          let p = content c.args.program.now in
          let i = c.args.program.now.keeps in
          let s = c.work_beside.new.self.state in
          let ends = ripe_ends p c.args.work s (sym c.is_ripe.ensures ∙ way.if-is_ripe.true) in
          subst (λ (working : Working). IsAtEnd p working.state) (sym way.self-is)
          (ends_anyhow p s c.args.work all (omega (arith, c.allowed-allowed.ensures, c.allowed-allowed.type_inv))
          ((inv.0 budget w).counted i few).item ends)
      | then-is_ripe-via-else-is_ripe+in_ok-advance+then-not-branch way ↦ λ all budget few w.
          let p = content c.args.program.now in
          let i = c.args.program.now.keeps in
          let works = inv.0 budget w in
          subst (λ (working : Working). IsAtEnd p working.state) (sym way.self-is)
          (rest_ends p c.work_beside.new.self.state way.advance.new.self _ way.if-not-branch.true (works.tabled i few)
          (λ m t. way.in_ok-advance.ensures.solves m works.tree works.frame t (works.points i few)))
    ]

pub steps-preserved-then-branch : goal.steps-preserved-then-branch
steps-preserved-then-branch g c = beside_keeps (content c.args.program.now) c.args.work c.args.self.now c.steps.self c.work_beside.new.self
    c.in_ok-work_beside.ensures.stays c.in_ok-work_beside.ensures.steps c.in_ok-work_beside.ensures.solves
    c.in_ok-work_beside.ensures.made c.in_ok-work_beside.ensures.no_more c.steps.invariant
