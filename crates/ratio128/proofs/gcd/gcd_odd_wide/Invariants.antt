use Rattle.std.proofs.Common.{◌≡◌, ◌+◌, ◌%◌, ◌<◌, ◌^◌}
use Rattle.rationals.specs.Gcd.{gcd}
use Rattle.ratio128.proofs.gcd.gcd_odd_wide.Given as goal

abbrev pub invariant-steps : goal.invariant-steps
invariant-steps l = record { same : gcd l.x l.y ≡ gcd l.fn.a l.fn.b; first : l.x % 2 ≡ 1; second : l.y % 2 ≡ 1; x_fits : l.x < 2 ^ 128; y_fits : l.y < 2 ^ 128 }

abbrev pub decreases-steps : goal.decreases-steps
decreases-steps l = l.x + l.y
