use Rattle.std.proofs.Common.{arith}
use Rattle.std.proofs.lemmas.Bool.{ltb-true}
use Rattle.scen_defs.specs.Program.{scenarios_content}
use Rattle.edit_chances.proofs.PortionSums.{portions_fit}
use Rattle.edit_chances.proofs.portions.fits_all_trees.Goals as goal

pub returns-in-Some-all_portions : goal.returns-in-Some-all_portions
returns-in-Some-all_portions c small =
    portions_fit c.in-Some.common c.in-Some-all_portions.all (scenarios_content c.args.scenarios.now) (omega arith) (omega arith)
    (ltb-true c.in-Some-all_portions.all 170141183460469231731687303715884105728 small) c.in-Some-all_portions.ensures
