use Rattle.std.proofs.Common.{◌≡◌, ◌-◌, sym, ap, ◌∙◌, arith}
use Rattle.scen_defs.specs.Program.{content, view_of}
use Rattle.scen_defs.specs.Flat.{up}
use Rattle.scen_model.proofs.reduced.on_path.Goals as goal

pub returns-then-stage : goal.returns-then-stage
returns-then-stage c =
    let v = view_of (content c.args.program.now) in
    let far : c.loop-above._above - c.args.stage ≡ v.stage c.args.node - c.args.stage = omega (arith, c.loop-above-test.false, c.requires, c.loop-above.auto._above-end c.if-stage-own-2.false) in
    record {
      above = c.loop-above.invariant ∙ ap (λ k. up v k c.args.node) far;
      stage = sym c.stage.ensures ∙ c.if-stage.true;
    }
