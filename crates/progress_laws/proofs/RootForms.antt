-- The numbers of the assembled multipliers of the root's cut are those of its flat dual.
use mathlib.Core.Path.{fun_ext}
use Rattle.std.proofs.Common.{◌≡◌, List, [], Some, None, Ok, IfSome, sym, subst}
use Rattle.rationals.specs.Rational.{one_ℚ}
use Rattle.rationals.specs.Sparse.{Entry}
use Rattle.scen_defs.specs.Program.{Program}
use Rattle.scen_defs.specs.Values.{at}
use Rattle.scen_defs.specs.declared.report.Kind.TheVariants as run_kind
use Rattle.cut_defs.specs.Stored.{Stored}
use Rattle.dual_assemble.specs.Laws.{flat_of}
use Rattle.dual_assemble.specs.Values.{numbers_by_node}
use Rattle.dual_assemble.specs.Walks.{flat_from}
use Rattle.edit_defs.specs.Data.{book}
use Rattle.joined_laws.specs.Rows.{HasForms}
use Rattle.joined_laws.proofs.Forms.{forms_assemble}
use Rattle.joined_laws.proofs.Rows.{made_are_on_rows}
use Rattle.joined_laws.proofs.Multipliers.{multipliers_fit}
use Rattle.pass_core.specs.Made.{IsMadeAbout}
use Rattle.pass_core.specs.declared.state.State.{State}
use Rattle.progress_laws.specs.Courses.{IsRunTo}
use Rattle.progress_laws.proofs.Shown.{IsShowing, run_shows}

pub numbers_are_flat : (p : Program) (s : State) (cut : Stored) (fs : List (List Entry)) → IsRunTo p s → s.stop ≡ None → s.ends.root ≡ Some cut
    → IsMadeAbout (book run_kind.Recession p []) 0 cut → flat_from [] one_ℚ cut ≡ Ok fs → flat_of fs ≡ at (numbers_by_node 0 fs)
numbers_are_flat p s cut fs r stop there made e =
    let show : IsShowing p s = run_shows p s r stop in
    let forms : HasForms cut = subst (λ o. IfSome o HasForms) there show.ends.root in
    let fit = multipliers_fit run_kind.Recession p cut fs r.program (made_are_on_rows run_kind.Recession p cut made.made) e
    (forms_assemble cut fs forms e) in
    fun_ext (λ n. fun_ext (λ j. sym (fit.1 n j)))
