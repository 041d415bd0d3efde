use Rattle.std.proofs.Common.{◌+◌, ◌++◌, ◌∙◌, ℕ, List, Option, Result, ap, drop, get_or, arith}
use Rattle.std.proofs.lemmas.Bool.{eq-eqb, ne_eqb}
use Rattle.rationals.specs.Rational.{ℚ, zero_ℚ}
use Rattle.rationals.specs.Passes.{Operation, then_value}
use Rattle.scen_defs.specs.declared.program.Row.{Row}
use Rattle.scen_defs.specs.declared.program.NodeRow.{NodeRow}
use Rattle.scen_defs.specs.Program.{Node, nodes_content}
use Rattle.value_programs.specs.Mean.{mean_rows}
use Rattle.value_programs.proofs.MeanSteps.{rows_more, rows_skip}
use Rattle.value_programs.proofs.means.mean_rows.Goals as goal
use Rattle.value_programs.proofs.means.mean_rows.Goals.{then-row-stage+in_ok-made+in_ok-push, else-row-stage}

pub loop-number-preserved : goal.loop-number-preserved
loop-number-preserved c =
    let nodes : List (Option Node) = nodes_content c.args.nodes.now in
    let w : ℕ → ℚ = λ n. get_or c.args.tree.now.chances.totals n zero_ℚ in
    let k : ℕ = c.loop-number.number in
    let place : ℕ = c.loop-number.place in
    let row : Row = c.index-rows-number.result in
    let rest : List Row = drop (k + 1) c.args.rows.now in
    let whole : Result (List NodeRow) Operation = mean_rows nodes w c.args.over.now c.args.stage 0 0 c.args.rows.now in
    elim c.if-row-stage.branch [
      | then-row-stage+in_ok-made+in_ok-push x ↦ (
        omega (arith, ap (λ (n : ℕ). n) x.place-is, c.loop-number.invariant.0),
        ap (λ v. then_value (λ l. v.items ++ l) (mean_rows nodes w c.args.over.now c.args.stage (k + 1) c.if-row-stage.place rest)) x.all-is
            ∙ ap (λ m. then_value (λ l. x.push.new.self.items ++ l) (mean_rows nodes w c.args.over.now c.args.stage (k + 1) m rest)) x.place-is
            ∙ rows_more nodes w c.args.over.now c.args.stage c.args.rows.now whole c.loop-number.all.items x.push.new.self.items k place row x.in_ok-made.made
            c.loop-number-test.true c.index-rows-number.is (eq-eqb row.stage c.args.stage x.if-row-stage.true) x.in_ok-made.ensures x.in_ok-push.ensures.items c.loop-number.invariant.1,
      )
      | else-row-stage x ↦ (
        omega (arith, ap (λ (n : ℕ). n) x.place-is, c.loop-number.invariant.0),
        ap (λ v. then_value (λ l. v.items ++ l) (mean_rows nodes w c.args.over.now c.args.stage (k + 1) c.if-row-stage.place rest)) x.all-is
            ∙ ap (λ m. then_value (λ l. c.loop-number.all.items ++ l) (mean_rows nodes w c.args.over.now c.args.stage (k + 1) m rest)) x.place-is
            ∙ rows_skip nodes w c.args.over.now c.args.stage c.args.rows.now whole c.loop-number.all.items k place row
            c.loop-number-test.true c.index-rows-number.is (ne_eqb row.stage c.args.stage x.if-row-stage.false) c.loop-number.invariant.1,
      )
    ]
