-- The form of a program for a run of kind Cost is the program itself.
use Rattle.std.proofs.Common.{◌≡◌, ap, ap₂, refl, List, [], ◌∷◌, map, Option, Some, None}
use Rattle.scen_defs.specs.declared.report.Kind.TheVariants.{Cost}
use Rattle.scen_defs.specs.declared.program.Column.{Column}
use Rattle.scen_defs.specs.declared.program.NodeRow.{NodeRow}
use Rattle.scen_defs.specs.Program.{Node, Program}
use Rattle.scen_nodes.specs.Derived.{derived_column, derived_row, derived_place, derived}

same : {A : Type 0} (f : A → A) → ((x : A) → f x ≡ x) → (xs : List A) → map f xs ≡ xs
same f is [] = refl
same f is (x ∷ xs) = ap₂ (λ y ys. y ∷ ys) (is x) (same f is xs)

place : (n : Option Node) → derived_place Cost n ≡ n
place None = refl
place (Some n) = ap (λ (rows : List NodeRow). Some (record n { rows = rows })) (same (derived_row Cost) (λ r. refl) n.rows)

pub is_copy : (p : Program) → derived Cost p ≡ p
is_copy p = ap₂ (λ (columns : List Column) (nodes : List (Option Node)). record p { columns = columns; nodes = nodes })
    (same (derived_column Cost) (λ c. refl) p.columns) (same (derived_place Cost) place p.nodes)
