use Rattle.std.proofs.Common.{ap, ◌∙◌}
use Rattle.scen_defs.specs.Program.{content, view_of}
use Rattle.scen_defs.specs.Values.{at}
use Rattle.scen_model.specs.Gathered.{costs_with}
use Rattle.scen_model.proofs.QuickLemmas.{costs_are}
use Rattle.scen_model.proofs.costs.cost_of.Goals as goal

pub returns-in-Ok : goal.returns-in-Ok
returns-in-Ok c =
    c.add_costs.ensures ∙ ap (λ totals. costs_with (view_of (content c.args.program.now)) totals (at c.args.values.now)) c.as_slice.ensures.value
    ∙ costs_are c.args.program.now c.in-Ok.totals.items c.in-Ok.ensures.length c.in-Ok.ensures.totals (at c.args.values.now)
