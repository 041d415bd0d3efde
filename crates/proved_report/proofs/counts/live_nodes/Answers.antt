use Rattle.std.proofs.Common.{◌≡◌, ℕ, List, Option, drop, length, ap, ◌∙◌, arith}
use Rattle.std.proofs.Math.ListN.{drop_of_length-le}
use Rattle.scen_defs.specs.Lists.{places}
use Rattle.scen_defs.specs.Program.{is_live, nodes_content}
use Rattle.scen_defs.specs.declared.program.Node.{Node}
use Rattle.proved_report.proofs.counts.live_nodes.Goals as goal

pub returns : goal.returns
returns c = λ few.
    let rest : (List (Option Node)) → ℕ = λ nodes. length (places is_live c.loop-place.place (nodes_content nodes)) in
    let none : rest (drop c.loop-place.place c.args.nodes.now) ≡ 0 = ap rest (drop_of_length-le c.args.nodes.now c.loop-place-test.false) in
    c.at_most_u32.ensures (omega arith) ∙ (omega (arith, none, c.loop-place.invariant.0))
