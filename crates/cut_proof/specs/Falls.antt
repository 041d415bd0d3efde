-- Each cut that a cut uses is smaller than the cut.
use Rattle.std.specs.Prelude.{◌+◌, ◌≤◌, List, [], ◌∷◌, max}
use Rattle.std.proofs.Common.{arith}
use Rattle.cut_proof.specs.declared.cut.Cut.TheInside.{Inside}
use Rattle.cut_proof.specs.declared.cut.Cut.TheDeep.{deep-Cut, deep-Used}
use Rattle.cut_proof.specs.declared.cut.Used.{Used}
use Rattle.cut_proof.specs.View.{uses_content, uses_size}
use denote.Param.Weighed.{most}

pub most_le-uses : (us : List Used) → most deep-Used us ≤ uses_size (uses_content us) + 1
most_le-uses [] = omega arith
most_le-uses (u ∷ us) = omega (arith, most_le-uses us)

pub cut_falls : (a : Inside) → deep-Cut a ≤ uses_size (uses_content a.source.used.items) + 1
cut_falls a =
    let h : max (max (most deep-Used a.source.used.items) 0) 0 ≤ uses_size (uses_content a.source.used.items) + 1
    = omega (arith, most_le-uses a.source.used.items) in
    h
