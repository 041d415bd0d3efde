use Rattle.std.proofs.Common.{◌≡◌, false, ap, ◌∙◌}
use Rattle.scen_defs.specs.Program.{content}
use Rattle.cut_banks.specs.Banks.{swept_banks}
use Rattle.crew_table.specs.Parents.{AreParents}
use Rattle.pass_core.specs.Tabled.{IsTabled, IsUnused}
use Rattle.pass_core.proofs.Explaining.{on_ok}
use Rattle.pass_core.proofs.Parentage.{edited_tabled, parents_behind, each_ok}
use Rattle.pass_core.specs.Explained.{IsUnstopped}
use Rattle.pass_core.specs.Made.{CutsAreMade}
use Rattle.pass_core.proofs.MadeAfterEdits.{all_made_behind}
use Rattle.pass_core.proofs.state.State.edited.Goals as goal

pub returns-clause-tabled : goal.returns-clause-tabled
returns-clause-tabled c = λ q t same few.
    let p = content c.args.program.now in
    let old = c.args.self.now in
    let mid = c.sweep.new.self in
    let new = c.begin_anew.new.self in
    on_ok c.begin_anew.result
    ((mid.is_begun ≡ false → c.args.is_grown ≡ false → IsUnused mid) → AreParents mid.frame.parents → IsUnused new)
    (IsTabled p new)
    (λ unused. edited_tabled p q old mid new c.args.is_grown c.args.dues.now c.args.program.now.keeps t same few
    (c.sweep.ensures.frame ∙ c.in_ok-grow.ensures.frame) (c.sweep.ensures.table ∙ c.grow.ensures.table)
    (c.sweep.ensures.begun ∙ c.grow.ensures.begun) c.begin_anew.ensures.frame
    (c.begin_anew.ensures.banks ∙ c.in_ok-sweep.ensures.banks ∙ ap (swept_banks c.args.dues.now) c.in_ok-grow.ensures.banks)
    (λ parents kept. unused kept parents))
    (each_ok c.begin_anew.result (AreParents mid.frame.parents) (mid.is_begun ≡ false → c.args.is_grown ≡ false → IsUnused mid) (IsUnused new)
    c.begin_anew.ensures.unused)

pub returns-clause-stop : goal.returns-clause-stop
returns-clause-stop c = λ q t same few.
    c.begin_anew.ensures.stop (parents_behind (content c.args.program.now) c.args.self.now c.sweep.new.self c.args.is_grown c.args.program.now.keeps same few
    (c.sweep.ensures.frame ∙ c.in_ok-grow.ensures.frame))

pub returns-clause-made : goal.returns-clause-made
returns-clause-made c = λ b h all.
    let p = content c.args.program.now in
    let new = c.begin_anew.new.self in
    on_ok c.begin_anew.result (IsUnstopped new) (CutsAreMade b new)
    (all_made_behind b c.args.is_grown p.nodes c.args.dues.now c.args.self.now.banks new h all
    (c.begin_anew.ensures.banks ∙ c.in_ok-sweep.ensures.banks ∙ ap (swept_banks c.args.dues.now) c.in_ok-grow.ensures.banks))
    c.begin_anew.ensures.reasons
