use Rattle.std.proofs.Common.{subst}
use Rattle.std.proofs.lemmas.Result.{IfOk-weaker}
use Rattle.input_files.specs.Unfetched.{texts_view}
use Rattle.scen_defs.specs.Program.{Program, content}
use Rattle.flat_write.specs.declared.limits.FlatLimits.{FlatLimits}
use Rattle.smps_cli.specs.Found.{found_text}
use Rattle.smps_cli.specs.Flat.{FlatComes, IsFlat, flat_end, limits_of}
use Rattle.smps_cli.proofs.flat.edited.Goals as goal

pub returns : goal.returns
returns c = IfOk-weaker c.flat_answer.result _ (λ answer. IsFlat c.args.extent (texts_view c.args.texts.now) answer.status (found_text answer.found))
    (λ answer h. record {
      program = content c.args.input.program;
      means = c.requires.means;
      items = c.args.input.script.items.items;
      script = c.requires.script;
      comes = subst (λ (program : Program). FlatComes (flat_end (limits_of c.args.extent) program) answer.status (found_text answer.found)) c.in_ok-apply_all.ensures.after
          (subst (λ (limits : FlatLimits). FlatComes (flat_end limits (content c.apply_all.new.program)) answer.status (found_text answer.found)) c.limits.ensures h);
    })
    c.flat_answer.ensures
