-- A further step.
use Rattle.std.proofs.Common.{◌≡◌, ℕ, ◌+◌, refl, add-one}
use Rattle.workload_maker.specs.Page.{Page, upto}

pub upto_step : (put_one : ℕ → Page → Page) (n : ℕ) (page : Page) → upto put_one (n + 1) page ≡ put_one (n + 1) (upto put_one n page)
upto_step put_one n page = rw (add-one n) refl
