use Rattle.std.proofs.Common.{ap, refl}
use Rattle.cut_pool.specs.Held.{Held}
use Rattle.cut_pool.proofs.FreshTest.{is_fresh, not_fresh}
use Rattle.cut_pool.proofs.pool.Pool.is_fresh.Goals as goal

pub returns-in-Some : goal.returns-in-Some
returns-in-Some c = (
  (λ e. absurd (cc)),
  λ h. absurd (not_fresh c.args.self.now.known c.self.inside.known c.args.cut.now c.support.result.now (ap (λ (p : Held). p.known) c.self.view_is) c.support.ensures c.in-Some.field-0 c.in-Some.ensures h),
)

pub returns-in-None : goal.returns-in-None
returns-in-None c = (
  (λ _. is_fresh c.args.self.now.known c.self.inside.known c.args.cut.now c.support.result.now (ap (λ (p : Held). p.known) c.self.view_is) c.support.ensures c.in-None.ensures),
  λ _. refl,
)
