use Rattle.std.proofs.Common.{inl, inr, refl}
use Rattle.scen_defs.specs.Program.{content}
use Rattle.nested_method.specs.declared.method.Working.{Working}
use Rattle.nested_method.proofs.StandLemmas.{over_stands, same_left, works_still, step_tabled, steps_points, step_in_budget, solves_anew}
use Rattle.nested_method.proofs.Histories.{history_stays, over_history}
use Rattle.nested_method.proofs.method.Working.start_over.Goals as goal

pub returns-clause-stays : goal.returns-clause-stays
returns-clause-stays c = λ budget left w.
    let p = content c.args.program.now in
    let mid : Working = record { state = c.start_over.new.self; tree = c.args.self.now.tree } in
    let new : Working = record { state = c.advance.new.self; tree = c.args.self.now.tree } in
    let over = over_stands p budget mid.tree c.args.self.now.state mid.state c.in_ok-start_over.ensures.over (λ i few. c.in_ok-start_over.ensures.tabled few) w in
    works_still p budget mid new refl c.in_ok-advance.ensures.explained
    (λ i f. step_tabled p mid.state new.state _ (λ m. c.in_ok-advance.ensures.tabled m f))
    (λ i t f. steps_points p mid.state new.state _ (λ m. c.in_ok-advance.ensures.solves m t f))
    (λ i t f. step_in_budget p mid.state new.state _ c.in_ok-advance.ensures.explained.1
    (same_left p c.args.self.now.state mid.state c.in_ok-start_over.ensures.over left) (λ m. c.in_ok-advance.ensures.solves m t f)) over

pub returns-clause-solves : goal.returns-clause-solves
returns-clause-solves c = λ budget few left ends w.
    let p = content c.args.program.now in
    let i = c.args.program.now.keeps in
    let mid : Working = record { state = c.start_over.new.self; tree = c.args.self.now.tree } in
    let starts = c.in_ok-start_over.ensures.starts few in
    let over = over_stands p budget mid.tree c.args.self.now.state mid.state c.in_ok-start_over.ensures.over (λ i few. c.in_ok-start_over.ensures.tabled few) w in
    solves_anew p c.args.self.now.state mid.state c.advance.new.self _ i ends starts (c.in_ok-start_over.ensures.tabled few)
    (same_left p c.args.self.now.state mid.state c.in_ok-start_over.ensures.over left)
    (λ m t. c.in_ok-advance.ensures.solves m over.tree over.frame t (over.points i few))
    (λ b right made. c.in_ok-advance.ensures.made b over.tree over.frame right made)

pub returns-clause-made : goal.returns-clause-made
returns-clause-made c = λ budget first edits rest came w h.
    let p = content c.args.program.now in
    let mid : Working = record { state = c.start_over.new.self; tree = c.args.self.now.tree } in
    let over = c.in_ok-start_over.ensures.over in
    let works = over_stands p budget mid.tree c.args.self.now.state mid.state over (λ i few. c.in_ok-start_over.ensures.tabled few) w in
    elim (over_history first edits came p rest c.args.self.now.state mid.state over h) [
      | inl k ↦ inl (history_stays first edits came p rest mid.state c.advance.new.self c.in_ok-advance.ensures.explained.2
          (λ b i right made. c.in_ok-advance.ensures.made b works.tree works.frame right made) k)
      | inr k ↦ inr (history_stays p rest 0 p rest mid.state c.advance.new.self c.in_ok-advance.ensures.explained.2
          (λ b i right made. c.in_ok-advance.ensures.made b works.tree works.frame right made) k)
    ]
