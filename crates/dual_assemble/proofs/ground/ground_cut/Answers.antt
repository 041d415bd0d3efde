use Rattle.std.proofs.Common.{sym, ap, ap₂, ◌∙◌, []}
use Rattle.scen_defs.specs.Values.{at}
use Rattle.cut_defs.specs.declared.kinds.CutKind.TheVariants.{Bound}
use Rattle.cut_defs.specs.Stored.StoredUses.{No_stored}
use Rattle.cut_proof.specs.View.{uses_content}
use Rattle.dual_assemble.specs.Ground.{quotients_from, uses_of_children}
use Rattle.dual_assemble.proofs.Grounds.{ground_ends}
use Rattle.dual_assemble.proofs.ground.ground_cut.Goals as goal

pub returns-clause-made : goal.returns-clause-made
returns-clause-made c h =
    ground_ends c.args.datum.now c.args.total c.args.dual.now c.args.children.now c.in_ok-multipliers.multipliers _ (uses_content c.in_ok-used.used.items) c.in_ok-cut.cut c.in_ok-shared.shared
    c.bounds-rising.ensures.datum
    (λ i. record { node = c.node-2.ensures i; kind = Bound; rows_version = c.rows_version.ensures i; costs_version = c.costs_version.ensures i; multipliers = c.in_ok-multipliers.multipliers })
    (sym (ap₂ (λ n rs. quotients_from c.args.total (at c.args.dual.now n) [] rs) c.node.ensures c.rows.ensures) ∙ c.in_ok-multipliers.ensures)
    (c.in_ok-used.ensures ∙ ap (λ ss. uses_of_children No_stored ss c.args.children.now) c.shares.ensures)
    c.in_ok-cut.ensures.made c.in_ok-cut.ensures.walk c.in_ok-shared.ensures h
