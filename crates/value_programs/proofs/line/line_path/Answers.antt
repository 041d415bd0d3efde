use Rattle.std.proofs.Common.{◌∙◌, ◌+◌, ◌-◌, ◌++◌, ◌∷◌, [], ℕ, List, ap, sym, append_assoc}
use Rattle.value_programs.specs.Line.{line_path}
use Rattle.value_programs.proofs.LineKeeps.{line_more}
use Rattle.value_programs.proofs.line.line_path.Goals as goal

pub loop-node-preserved : goal.loop-node-preserved
loop-node-preserved c =
    let k : ℕ = c.loop-node.node in
    let all : List ℕ = c.loop-node.path.items in
    ap (λ (l : List ℕ). l ++ line_path (k + 1) (c.args.count - (k + 1))) c.in_ok-push.ensures.items
    ∙ append_assoc all (k ∷ []) (line_path (k + 1) (c.args.count - (k + 1)))
    ∙ ap (λ (l : List ℕ). all ++ l) (sym (line_more k c.args.count c.loop-node-test.true))
    ∙ c.loop-node.invariant
