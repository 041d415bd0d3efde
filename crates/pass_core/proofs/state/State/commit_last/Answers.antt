use Rattle.std.proofs.Common.{◌≡◌, true, false, refl, sym, ◌∙◌}
use Rattle.pass_core.proofs.Tabling.{commit_fits, commit_given}
use Rattle.pass_core.proofs.state.State.commit_last.Goals as goal

pub returns-then-is_raised-clause-commits : goal.returns-then-is_raised-clause-commits
returns-then-is_raised-clause-commits c = λ m f solving node low.
    commit_fits c.args.worker c.args.is_raised c.args.has_point c.args.node c.args.self.now m f c.args.begun.now.readings.items c.commit.new.self c.raise.new.self solving node low
    (commit_given c.args.worker c.args.has_point c.args.self.now.table c.commit.new.self _ _ _ _ c.numbers-numbers.ensures c.deref.ensures.value c.commit.ensures.fits)
    (λ told. c.raise.ensures.fits)
    (λ told. let no : true ≡ false = sym c.if-is_raised.true ∙ told in absurd (cc))

pub returns-else-is_raised-clause-commits : goal.returns-else-is_raised-clause-commits
returns-else-is_raised-clause-commits c = λ m f solving node low.
    commit_fits c.args.worker c.args.is_raised c.args.has_point c.args.node c.args.self.now m f c.args.begun.now.readings.items c.commit.new.self c.commit.new.self solving node low
    (commit_given c.args.worker c.args.has_point c.args.self.now.table c.commit.new.self _ _ _ _ c.numbers-numbers.ensures c.deref.ensures.value c.commit.ensures.fits)
    (λ told. let no : true ≡ false = sym told ∙ c.if-is_raised.false in absurd (cc))
    (λ told. refl)
