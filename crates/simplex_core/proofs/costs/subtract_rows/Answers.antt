use Rattle.std.proofs.Common.{◌≡◌, ℕ, List, length, sym, ap, ◌∙◌, subst₂, arith}
use Rattle.rationals.specs.Forms.{EndsBelow}
use Rattle.rationals.specs.Sparse.{Entry}
use Rattle.lp_defs.specs.Lines.{Line}
use Rattle.simplex_core.proofs.Sweep.{line_at}
use Rattle.simplex_core.proofs.costs.subtract_rows.Goals as goal

pub subtract-requires : goal.subtract-requires
subtract-requires c =
    let below : EndsBelow (length c.args.values.now) c.row-item.result.line.entries =
    line_at (λ line. EndsBelow (length c.args.values.now) line.entries) c.loop-row.row-index c.args.rows.now c.row-item.result c.requires c.loop-row-test.true c.row-item.is in
    let long : length c.args.values.now ≡ length c.loop-row.values = omega (arith, c.loop-row.auto.values) in
    let read : c.row-item.result.line.entries ≡ c.terms.result.now = sym (c.terms.ensures ∙ c.entries.ensures ∙ ap (λ (l : Line). l.entries) c.line.ensures) in
    subst₂ (λ (n : ℕ) (f : List Entry). EndsBelow n f) long read below
