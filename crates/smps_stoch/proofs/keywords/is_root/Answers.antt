-- The word is one of the text's two.
use Rattle.std.proofs.Common.{◌∙◌, ◌||◌, Bool, ap, sym}
use Rattle.std.specs.Prelude.{codes}
use Rattle.smps_words.specs.Names.{same_name}
use Rattle.smps_stoch.proofs.keywords.is_root.Goals as goal

pub returns-then-eq : goal.returns-then-eq
returns-then-eq c =
    let name = c.args.name.now in
    c.if-eq.true ∙ ap (λ (is_first : Bool). is_first || same_name name (codes "'ROOT'"))
    (sym c.if-eq.true ∙ c.eq.ensures ∙ ap (same_name name) c.as_slice.ensures)

pub returns-else-eq : goal.returns-else-eq
returns-else-eq c =
    let name = c.args.name.now in
    c.eq-else-eq.ensures ∙ ap (same_name name) c.as_slice-else-eq.ensures
    ∙ ap (λ (is_first : Bool). is_first || same_name name (codes "'ROOT'"))
    (sym c.if-eq.false ∙ c.eq.ensures ∙ ap (same_name name) c.as_slice.ensures)
