-- The program from its parts, and the walk that ends in it.
use Rattle.std.proofs.Common.{◌≡◌, ℕ, ◌+◌, ◌<◌, ◌^◌, false, List, [], ◌∷◌, ◌++◌, length, Option, Result, Ok, Err, refl, sym, ap, ap₂, subst, ◌∙◌}
use Rattle.rationals.specs.Rational.{ℚ, one_ℚ, ◌-ℚ◌, ◌/ℚ◌}
use Rattle.rationals.specs.declared.Op.TheVariants.{Sub, Div}
use Rattle.rationals.specs.Passes.{Operation, sub_walk, div_walk, then_walk, then_value}
use Rattle.rationals.proofs.WalkLaws.{ended, walk_value}
use Rattle.frac128.specs.declared.fault.ArithmeticFault.{ArithmeticFault}
use Rattle.frac128.specs.Faults.{FaultOf}
use Rattle.scen_defs.specs.declared.report.Kind.TheVariants.{Cost}
use Rattle.scen_defs.specs.declared.program.Column.{Column}
use Rattle.scen_defs.specs.declared.program.Row.{Row}
use Rattle.scen_defs.specs.Program.{Node, Program}
use Rattle.scen_defs.specs.Valid.{IsProgram}
use Rattle.scen_nodes.specs.Derived.{derived}
use Rattle.tail_risk.specs.TailNames.{has_tail_names}
use Rattle.tail_risk.specs.TailProgram.{h_added, u_added, r_added, tail_nodes, with_nodes, rates_of, tail_of}
use Rattle.tail_risk.specs.TailWalk.{rates_walk, nodes_walk, tail_walk}
use Rattle.tail_risk.specs.declared.rates.Rates.{Rates}
use Rattle.tail_risk.proofs.Steps.{fault_value}
use Rattle.tail_risk.proofs.TailKeeps.{tail_keeps, nodes_are}

pub tail_fails : (p : Program) (level weight : ℚ) (rates : Rates) (count : ℕ) → count ≡ length p.nodes → (fault : ArithmeticFault) → Ok rates ≡ rates_walk level weight → FaultOf (nodes_walk p rates 0 count) fault → FaultOf (tail_walk p level weight) fault
tail_fails p level weight rates count same fault e h =
    subst (λ r. FaultOf (then_walk r (λ rates. then_value (with_nodes p) (nodes_walk p rates 0 (length p.nodes)))) fault) e
    (fault_value (nodes_walk p rates 0 (length p.nodes)) (with_nodes p) fault (subst (λ n. FaultOf (nodes_walk p rates 0 n) fault) same h))

pub tail_made : (p : Program) (level weight : ℚ) (rates : Rates) (count : ℕ) (nodes : List (Option Node)) (made : Program) → count ≡ length p.nodes → Ok rates ≡ rates_walk level weight → nodes_walk p rates 0 count ≡ Ok nodes
    → made ≡ with_nodes p nodes → tail_walk p level weight ≡ Ok made
tail_made p level weight rates count nodes made same e h is =
    ap (λ r. then_walk r (λ rates. then_value (with_nodes p) (nodes_walk p rates 0 (length p.nodes)))) (sym e)
    ∙ ap (then_value (with_nodes p)) (ap (nodes_walk p rates 0) (sym same) ∙ h) ∙ ap Ok (sym is)

-- a copy with these columns, rows and nodes
pub parts_are : (p copy : Program) (columns : List Column) (rows : List Row) (nodes : List (Option Node)) → copy ≡ derived Cost p → columns ≡ p.columns ++ h_added ∷ u_added p ∷ [] → rows ≡ copy.rows ++ r_added p ∷ []
    → record copy { columns = columns; rows = rows; nodes = nodes } ≡ with_nodes p nodes
parts_are p copy columns rows nodes e a b =
    ap (λ (x : Program). let y : Program = record x { columns = columns; rows = rows; nodes = nodes } in y) e
    ∙ ap₂ (λ (c : List Column) (r : List Row). let y : Program = record p { columns = c; rows = r; nodes = nodes } in y) a (b ∙ ap (λ (x : Program). x.rows ++ r_added p ∷ []) e)

pub parts_keep : (p copy : Program) (rates : Rates) (count : ℕ) (columns : List Column) (rows : List Row) (nodes : List (Option Node)) → count ≡ length p.nodes → IsProgram p → length p.columns + 2 < 2 ^ 32 → length p.rows + 1 < 2 ^ 32
    → has_tail_names p ≡ false → copy ≡ derived Cost p → columns ≡ p.columns ++ h_added ∷ u_added p ∷ [] → rows ≡ copy.rows ++ r_added p ∷ [] → nodes_walk p rates 0 count ≡ Ok nodes
    → IsProgram (record copy { columns = columns; rows = rows; nodes = nodes })
parts_keep p copy rates count columns rows nodes same i few_columns few_rows free e a b h =
    let is : nodes ≡ tail_nodes p rates 0 (length p.nodes) = nodes_are p rates 0 (length p.nodes) nodes (ap (nodes_walk p rates 0) (sym same) ∙ h) in
    subst IsProgram (sym (parts_are p copy columns rows nodes e a b ∙ ap (with_nodes p) is)) (tail_keeps p rates i few_columns few_rows free)

-- ---- the walk ends in the program
record Valued {A B : Type 0} (f : A → B) (walk : Result A Operation) (y : B) : Type 0 where
  value : A
  walk_is_it : walk ≡ Ok value
  is : f value ≡ y

valued : {A B : Type 0} (f : A → B) (walk : Result A Operation) (y : B) → then_value f walk ≡ Ok y → Valued f walk y
valued f (Ok x) y h = record { value = x; walk_is_it = refl; is = (cc) }
valued f (Err o) y h = absurd (cc)

rates_are : (level weight : ℚ) (rates : Rates) → rates_walk level weight ≡ Ok rates → rates ≡ rates_of level weight
rates_are level weight rates e =
    let a = ended (sub_walk one_ℚ level) (λ rest. then_walk (div_walk weight rest) (λ u. then_value (λ old. let r : Rates = record { old = old; h = weight; u = u } in r) (sub_walk one_ℚ weight))) rates e in
    let b = ended (div_walk weight a.result) (λ u. then_value (λ old. let r : Rates = record { old = old; h = weight; u = u } in r) (sub_walk one_ℚ weight)) rates a.next_is in
    let c = valued (λ old. let r : Rates = record { old = old; h = weight; u = b.result } in r) (sub_walk one_ℚ weight) rates b.next_is in
    let rest : a.result ≡ one_ℚ -ℚ level = walk_value Sub one_ℚ level a.result a.first_is in
    let u : b.result ≡ weight /ℚ a.result = walk_value Div weight a.result b.result b.first_is in
    let old : c.value ≡ one_ℚ -ℚ weight = walk_value Sub one_ℚ weight c.value c.walk_is_it in
    sym c.is ∙ ap₂ (λ old u. let r : Rates = record { old = old; h = weight; u = u } in r) old (u ∙ ap (λ d. weight /ℚ d) rest)

pub walk_is : (p : Program) (level weight : ℚ) (made : Program) → tail_walk p level weight ≡ Ok made → made ≡ tail_of p level weight
walk_is p level weight made e =
    let a = ended (rates_walk level weight) (λ rates. then_value (with_nodes p) (nodes_walk p rates 0 (length p.nodes))) made e in
    let b = valued (with_nodes p) (nodes_walk p a.result 0 (length p.nodes)) made a.next_is in
    sym b.is ∙ ap (with_nodes p) (nodes_are p a.result 0 (length p.nodes) b.value b.walk_is_it)
    ∙ ap (λ r. with_nodes p (tail_nodes p r 0 (length p.nodes))) (rates_are level weight a.result a.first_is)
