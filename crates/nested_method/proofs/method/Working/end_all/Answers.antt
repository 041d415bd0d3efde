use Rattle.std.proofs.Common.{◌≡◌, Bool, true, false, List, [], ◌∷◌, ◌++◌, sym, subst, ◌∙◌, arith}
use Rattle.scen_defs.specs.Program.{content}
use Rattle.scen_tree.specs.Trees.{Tree}
use Rattle.pass_core.specs.declared.state.Begun.{Begun}
use Rattle.pass_core.specs.declared.state.State.{State}
use Rattle.nested_method.specs.Batches.{Batch, LeavesFewer}
use Rattle.nested_method.proofs.Batches.{empty_list}
use Rattle.nested_method.proofs.Running.{fewer_then, as_few}
use Rattle.nested_method.proofs.method.Working.end_all.Goals as goal

pub ends-preserved-then-branch : goal.ends-preserved-then-branch
ends-preserved-then-branch g c = record {
  tree = c.end_one.ensures.tree ∙ c.ends.invariant.tree;
  ended = λ start first h.
      let p = content c.args.program.now in
      let s : State = c.ends.self.state in
      let rest : List Begun = c.pop.new.self.items in
      let before : Batch p c.ends.self.tree start first s c.ends.jobs.items =
      subst (λ (t : Tree). Batch p t start first s c.ends.jobs.items) (sym c.ends.invariant.tree) (c.ends.invariant.ended start first h) in
      let split : Batch p c.ends.self.tree start first s (rest ++ c.in-Some.job ∷ []) =
      subst (λ (bs : List Begun). Batch p c.ends.self.tree start first s bs) c.in-Some.ensures.items before in
      let ended = c.in_ok-end_one.ensures.ended start first rest (omega (arith, c.in-Ok.ensures, c.len.ensures, c.pop.new.self.ok)) split in
      subst (λ (t : Tree). Batch p t start first c.end_one.new.self.state rest) c.ends.invariant.tree ended;
  no_more = c.in_ok-end_one.ensures.no_more c.args.self.now.state.counts.since_item c.ends.invariant.no_more;
  fewer = fewer_then c.ends.did c.args.self.now.state c.ends.self.state c.end_one.new.self.state c.ends.invariant.fewer
      (subst (λ (d : Bool). LeavesFewer d c.ends.self.state c.end_one.new.self.state) c.if-branch.true c.in_ok-end_one.ensures.fewer);
}

pub ends-preserved : goal.ends-preserved
ends-preserved g c = record {
  tree = c.end_one.ensures.tree ∙ c.ends.invariant.tree;
  ended = λ start first h.
      let p = content c.args.program.now in
      let s : State = c.ends.self.state in
      let rest : List Begun = c.pop.new.self.items in
      let before : Batch p c.ends.self.tree start first s c.ends.jobs.items =
      subst (λ (t : Tree). Batch p t start first s c.ends.jobs.items) (sym c.ends.invariant.tree) (c.ends.invariant.ended start first h) in
      let split : Batch p c.ends.self.tree start first s (rest ++ c.in-Some.job ∷ []) =
      subst (λ (bs : List Begun). Batch p c.ends.self.tree start first s bs) c.in-Some.ensures.items before in
      let ended = c.in_ok-end_one.ensures.ended start first rest (omega (arith, c.in-Ok.ensures, c.len.ensures, c.pop.new.self.ok)) split in
      subst (λ (t : Tree). Batch p t start first c.end_one.new.self.state rest) c.ends.invariant.tree ended;
  no_more = c.in_ok-end_one.ensures.no_more c.args.self.now.state.counts.since_item c.ends.invariant.no_more;
  fewer = as_few c.ends.did c.args.self.now.state c.ends.self.state c.end_one.new.self.state c.ends.invariant.fewer
      (subst (λ (d : Bool). LeavesFewer d c.ends.self.state c.end_one.new.self.state) c.if-branch.false c.in_ok-end_one.ensures.fewer);
}

pub returns-clause-ended : goal.returns-clause-ended
returns-clause-ended g c = λ start first h.
    subst (λ (bs : List Begun). Batch (content c.args.program.now) c.args.self.now.tree start first c.ends.self.state bs)
    (empty_list c.ends.jobs.items (λ less. let no : false ≡ true = c.in_default.ensures.variant.1 (omega (arith, less, c.ends.jobs.ok)) in absurd (cc)))
    (c.ends.invariant.ended start first h)
