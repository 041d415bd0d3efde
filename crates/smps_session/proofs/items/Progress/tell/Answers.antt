use Rattle.std.proofs.Common.{◌≡◌, ◌+◌, rules}
use Rattle.scen_defs.specs.Program.{content}
use Rattle.smps_session.proofs.ToldLemmas.{tells_one}
use Rattle.smps_session.proofs.items.Progress.tell.Goals as goal

pub returns-clause-told : goal.returns-clause-told
returns-clause-told g c = λ start came way.
    let next : c.in_ok-next.next ≡ c.args.self.now.number + 1 = search rules in
    tells_one c.args.budget c.args.stated start came c.args.self.now.number c.in_ok-next.next (content c.args.program.now) c.args.self.now.method c.told_one.new.method c.in_ok-told.told c.args.tolds.now.items
    c.push.new.self.items (c.in_ok-told.ensures.told start came way) next c.in_ok-push.ensures.items
