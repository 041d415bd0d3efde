use Rattle.std.proofs.Common.{◌≡◌, ◌++◌, length, map, drop}
use Rattle.std.specs.List.{flat_map}
use Rattle.report_text.specs.Text.{value_text}
use Rattle.scen_defs.specs.Fits.{HaveNames}
use Rattle.report_text.proofs.lists.put_values.Given as goal

abbrev pub invariant-loop-value : goal.invariant-loop-value
invariant-loop-value l =
    (l.out.items ++ flat_map (value_text (map (λ name. name.now) l.names)) (drop l.value-index l.values) ≡ l.fn.out.items ++ flat_map (value_text (map (λ name. name.now) l.names)) l.values)
    × HaveNames (length l.names) (drop l.value-index l.values)
