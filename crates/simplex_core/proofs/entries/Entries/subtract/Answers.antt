use Rattle.std.proofs.Common.{rules, ◌≡◌, [], Ok}
use Rattle.lp_defs.specs.Lines.{less_entries}
use Rattle.lp_defs.proofs.Rising.{less_rises}
use Rattle.simplex_core.proofs.entries.Entries.subtract.Goals as goal

pub invariant_of-self-2 : goal.invariant_of-self-2
invariant_of-self-2 c =
    let made : less_entries c.args.factor c.self.inside.terms.items c.other.inside.terms.items [] ≡ Ok c.copy.new.kept.items = search rules in
    less_rises c.args.factor c.other.inside.terms.items c.self.inside.terms.items c.copy.new.kept.items c.other.invariant c.self.invariant made
