-- A worker with a solve in flight has a place in the table.
use Rattle.std.proofs.Common.{◌≡◌, ℕ, zero, suc, ◌<◌, Option, Some, None, List, [], ◌∷◌, length, get_or, arith}
use Rattle.pass_table.specs.declared.table.Table.{Table}
use Rattle.pass_table.specs.Machine.{Flight, Machine, IsLive}
use Rattle.pass_table.specs.Fits.{Fits, IsHeld}
use Rattle.pass_table.proofs.ReadLaws.{held_where}

within : {A : Type 0} (xs : List (Option A)) (n : ℕ) (x : A) → get_or xs n None ≡ Some x → n < length xs
within [] n x e = cc
within (y ∷ xs) zero x e = omega arith
within (y ∷ xs) (suc n) x e = omega (arith, within xs n x e)

pub has_place : (t : Table) (m : Machine) → Fits t m → (w : ℕ) (f : Flight) → m.flight w ≡ Some f → IsLive m f.node
    → (w < length t.flights.items) × IsHeld t.flights.items w (length t.parents.items)
has_place t m fits w f has live = let held = held_where t m fits w f has live in (within t.flights.items w held.0 held.1.0, held)
