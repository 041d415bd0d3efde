use Rattle.scen_model.proofs.duals.zero_value.Goals as goal

pub returns : goal.returns
returns c = c.value_by.ensures
