use Rattle.std.proofs.Common.{rules, subst, ap}
use Rattle.scen_defs.specs.Program.{Program, content}
use Rattle.nested_method.specs.declared.method.Working.{Working}
use Rattle.nested_method.specs.Edited.{is_grown, HasNoTree}
use Rattle.edit_defs.specs.After.{after}
use Rattle.nested_method.proofs.EditLemmas.{few_places, no_tree}
use Rattle.nested_method.proofs.StandLemmas.{tabled_behind, cleared_behind}
use Rattle.nested_method.proofs.method.Working.edit.Goals as goal

pub of-requires : goal.of-requires
of-requires c = few_places c.applied.new.program

pub returns-clause-method : goal.returns-clause-method
returns-clause-method c = subst (λ (p : Program). HasNoTree p c.in_ok-treeless-in-Err.field-0) c.in_ok-applied.ensures.after
    (no_tree (content c.applied.new.program) c.in-Err.fault c.in_ok-treeless-in-Err.field-0 c.in-Err.ensures
    c.in_ok-treeless-in-Err.ensures)

pub returns-in-Ok-clause-tabled : goal.returns-in-Ok-clause-tabled
returns-in-Ok-clause-tabled c =
    tabled_behind (after (content c.args.program.now) c.args.edit.now) (content c.applied.new.program) (is_grown c.args.edit.now) c.is_grown.result
    c.args.self.now.state c.dues.new.self.state c.replanted.new.self.state c.in_ok-applied.ensures.after c.is_grown.ensures
    (ap (λ (w : Working). w.state) c.in_ok-dues.ensures.others) c.in_ok-replanted-in-Ok.ensures.tabled

pub returns-in-Ok-clause-method : goal.returns-in-Ok-clause-method
returns-in-Ok-clause-method c = record {
  tree = search rules;
  frame = search rules;
  budget = search rules;
  reasons = search rules;
  stop = cleared_behind (after (content c.args.program.now) c.args.edit.now) (content c.applied.new.program) (is_grown c.args.edit.now)
      c.is_grown.result c.args.self.now.state c.dues.new.self.state c.replanted.new.self.state c.in_ok-applied.ensures.after c.is_grown.ensures
      (ap (λ (w : Working). w.state) c.in_ok-dues.ensures.others) c.in_ok-replanted-in-Ok.ensures.stop;
  kind = search rules;
  is_begun = search rules;
  points = search rules;
  counts = search rules;
  versions = search rules;
  pools = search rules;
}
