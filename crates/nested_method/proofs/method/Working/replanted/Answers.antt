use Rattle.std.proofs.Common.{◌≡◌, None}
use Rattle.scen_defs.specs.Program.{content}
use Rattle.pass_core.specs.Tabled.{IsTabled}
use Rattle.nested_method.proofs.StandLemmas.{behind_if_ok}
use Rattle.nested_method.proofs.method.Working.replanted.Goals as goal

pub returns-clause-tabled : goal.returns-clause-tabled
returns-clause-tabled c =
    let p = content c.args.program.now in
    behind_if_ok c.edited.result (IsTabled p c.edited.new.self) p c.args.is_grown c.args.self.now.state c.edited.ensures.tabled

pub returns-clause-stop : goal.returns-clause-stop
returns-clause-stop c =
    behind_if_ok c.edited.result (c.edited.new.self.stop ≡ None) (content c.args.program.now) c.args.is_grown c.args.self.now.state
    c.edited.ensures.stop
