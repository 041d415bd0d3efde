use Rattle.std.proofs.Common.{◌∙◌, ap}
use Rattle.scen_defs.specs.Program.{content}
use Rattle.value_programs.specs.Fixed.{held_from}
use Rattle.value_programs.proofs.FixedKeeps.{fixed_is, fixed_parts}
use Rattle.value_programs.proofs.first_period.fixed_program.Goals as goal

pub of_parts-requires : goal.of_parts-requires
of_parts-requires c = fixed_parts (content c.args.program.now) (content c.in_ok-copy.copy) c.args.values.now c.in_ok-columns.columns.items
    c.args.program.now.keeps c.in_ok-copy.ensures (c.in_ok-columns.ensures ∙ ap (held_from c.args.values.now 0) c.deref.ensures.value)

pub returns : goal.returns
returns c = c.of_parts.ensures ∙ fixed_is (content c.args.program.now) (content c.in_ok-copy.copy) c.args.values.now c.in_ok-columns.columns.items
    c.in_ok-copy.ensures (c.in_ok-columns.ensures ∙ ap (held_from c.args.values.now 0) c.deref.ensures.value)
