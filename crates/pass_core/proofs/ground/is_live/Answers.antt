use Rattle.std.proofs.Common.{Option, List, ◌<◌, ◌≤◌, ◌≡◌, length, get_or, sym, subst, ◌∙◌}
use Rattle.scen_defs.specs.declared.program.Node.{Node}
use Rattle.scen_defs.proofs.NodeReads.{not_live_past}
use Rattle.pass_core.proofs.Making.{live_there}
use Rattle.pass_core.proofs.ground.is_live.Goals as goal

pub returns-in-Some : goal.returns-in-Some
returns-in-Some c =
    let h = c.in-Some.ensures.lookup in
    let e = c.deref.ensures.value in
    c.is_some.ensures
    ∙ sym (live_there c.args.program.now.nodes.items c.args.node c.in-Some.place.now
    (subst (λ (nodes : List (Option Node)). c.args.node < length nodes) e h.3.0)
    (subst (λ (nodes : List (Option Node)). c.in-Some.place.now ≡ get_or nodes c.args.node c.in-Some.place.now) e h.1))

pub returns-in-None : goal.returns-in-None
returns-in-None c =
    let h = c.in-None.ensures.lookup in
    sym (not_live_past c.args.program.now.nodes.items c.args.node
    (subst (λ (nodes : List (Option Node)). length nodes ≤ c.args.node) c.deref.ensures.value h.3))
