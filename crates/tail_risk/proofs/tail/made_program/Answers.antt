use Rattle.std.proofs.Common.{◌∙◌, ◌++◌, ◌∷◌, [], ap, length, sym}
use Rattle.scen_defs.specs.declared.program.Row.{Row}
use Rattle.scen_defs.specs.Program.{content, nodes_content}
use Rattle.scen_defs.proofs.Contents.{nodes_length}
use Rattle.tail_risk.proofs.Steps.{handed}
use Rattle.tail_risk.proofs.Parts.{tail_fails, parts_keep, parts_are, tail_made}
use Rattle.tail_risk.proofs.tail.made_program.Goals as goal

pub returns-in_err-nodes : goal.returns-in_err-nodes
returns-in_err-nodes c =
    handed c.from_residual-in_err-nodes.result _ c.in_err-nodes.field-0.0 _ c.from_residual-in_err-nodes.ensures.1
    (tail_fails (content c.args.program.now) c.args.level c.args.weight c.in_ok-rates.rates (length c.args.program.now.nodes.items) (sym (nodes_length c.args.program.now.nodes.items)) c.in_err-nodes.field-0.0
    c.in_ok-rates.ensures c.in_err-nodes.ensures)

pub of_parts-requires : goal.of_parts-requires
of_parts-requires c = parts_keep (content c.args.program.now) (content c.in_ok-copy.copy) c.in_ok-rates.rates (length c.args.program.now.nodes.items) c.in_ok-columns.columns.items c.push.new.self.items (nodes_content c.in_ok-nodes.nodes.items)
    (sym (nodes_length c.args.program.now.nodes.items)) c.args.program.now.keeps c.requires.columns c.requires.rows c.requires.names c.in_ok-copy.ensures c.in_ok-columns.ensures
    (c.in_ok-push.ensures.items ∙ ap (λ (r : Row). c.in_ok-copy.copy.rows.items ++ r ∷ []) c.in_ok-added.ensures) c.in_ok-nodes.ensures

pub returns : goal.returns
returns c = tail_made (content c.args.program.now) c.args.level c.args.weight c.in_ok-rates.rates (length c.args.program.now.nodes.items) (nodes_content c.in_ok-nodes.nodes.items) (content c.of_parts.result)
    (sym (nodes_length c.args.program.now.nodes.items)) c.in_ok-rates.ensures c.in_ok-nodes.ensures
    (c.of_parts.ensures ∙ parts_are (content c.args.program.now) (content c.in_ok-copy.copy) c.in_ok-columns.columns.items c.push.new.self.items (nodes_content c.in_ok-nodes.nodes.items) c.in_ok-copy.ensures c.in_ok-columns.ensures
    (c.in_ok-push.ensures.items ∙ ap (λ (r : Row). c.in_ok-copy.copy.rows.items ++ r ∷ []) c.in_ok-added.ensures))
