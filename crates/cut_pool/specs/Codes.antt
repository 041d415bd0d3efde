-- How a pool is told from others: its code.
use Rattle.std.specs.Prelude.{ℕ, List, refl}
use Rattle.std.specs.Coded.{Coded, code_by, coded×, coded_ℕ, coded_list}
use Rattle.cut_defs.specs.declared.versions.Touch.{Touch}
use Rattle.cut_defs.specs.contracts.Touch as touch
use Rattle.cut_defs.specs.Stored.{Stored}
use Rattle.cut_defs.specs.Codes.{stored_coded}
use Rattle.cut_pool.specs.Held.{Held}

abbrev pub held_coded : Coded Held
held_coded =
    code_by (ℕ × (List Touch × (List Stored × ℕ)))
    (coded× coded_ℕ (coded× (coded_list touch.the_row.coded) (coded× (coded_list stored_coded) coded_ℕ)))
    (λ h. (h.node, (h.known, (h.cuts, h.number))))
    (λ p. record { node = p.0; known = p.1.0; cuts = p.1.1.0; number = p.1.1.1 })
    (λ _. refl)
