use Rattle.std.proofs.Common.{◌≡◌, drop}
use Rattle.simplex_core.specs.Checks.{forms_below}
use Rattle.simplex_core.proofs.standard.are_forms_below.Given as goal

abbrev pub invariant-loop-form : goal.invariant-loop-form
invariant-loop-form l = forms_below l.columns (drop l.form-index l.forms) ≡ forms_below l.columns l.forms
