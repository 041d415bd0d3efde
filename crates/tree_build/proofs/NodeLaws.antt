-- The nodes that are built, one by one.
use Rattle.std.proofs.Common.{◌≡◌, ◌∙◌, ap, sym, refl, subst, ℕ, zero, suc, ◌+◌, ◌<◌, true, List, [], ◌∷◌, ◌++◌, map, length, get_or, append_assoc, append-nil, arith, is_some, Option, Some, Ok}
use Rattle.std.proofs.lemmas.List.{length_push}
use Rattle.rationals.specs.Rational.{ℚ}
use Rattle.rationals.specs.Passes.{then_walk}
use Rattle.smps_words.specs.declared.row_kind.RowKind.{RowKind}
use Rattle.core_defs.specs.declared.parts.RowDef.{RowDef}
use Rattle.scen_defs.specs.declared.program.NodeRow.{NodeRow}
use Rattle.rationals.specs.Intervals.{InOrder}
use Rattle.scen_defs.specs.Lists.{Each, passes_at}
use Rattle.scen_defs.specs.Program.{Node, is_live, node_at}
use Rattle.scen_defs.specs.Valid.{has_low, has_high}
use Rattle.scen_tree.specs.declared.position.Position.{Position}
use Rattle.scen_tree.specs.declared.position.Position.TheVariants.{Root}
use Rattle.stoch_defs.specs.Entries.{no_row}
use Rattle.smps_build.specs.Ends.{Interval, interval_walk}
use Rattle.smps_build.proofs.EndLaws.{IsInterval, interval_is}
use Rattle.build_defs.proofs.ChanceLemmas.{then_is, fine_is}
use Rattle.build_defs.proofs.EachLemmas.{each_append}
use Rattle.time_defs.specs.Means.{Stages}
use Rattle.tree_build.specs.declared.parts.RowValues.{RowValues}
use Rattle.tree_build.specs.declared.numbering.Debut.{Debut}
use Rattle.tree_build.specs.Values.{Values}
use Rattle.tree_build.specs.Nodes.{no_values}
use Rattle.tree_build.specs.Finish.{value_interval, value_row, value_rows, no_debut, value_node, value_nodes}
use Rattle.tree_build.proofs.ValueLaws.{IsUpTo, IsLine}

-- ---- rows

-- the ends of an interval are in order, and those that the kind and the range give
-- a row has entries of columns up to its stage, ends in order, and those that its kind and its range give
pub record IsMadeRow (p : Stages) (stage : ℕ) (defs : List RowDef) (r : NodeRow) : Type 0 where
  pub stage_is : get_or p.rows r.row 0 ≡ stage
  pub entries : Each (IsUpTo p stage) r.entries
  pub in_order : InOrder r.low r.high
  pub low : is_some r.low ≡ has_low (get_or defs r.row no_row).kind (get_or defs r.row no_row).range
  pub high : is_some r.high ≡ has_high (get_or defs r.row no_row).kind (get_or defs r.row no_row).range

pub rows_made : (p : Stages) (stage : ℕ) (defs : List RowDef) (built : List NodeRow) (rows : List RowValues) (made : List NodeRow) →
    Each (IsMadeRow p stage defs) built → Each (IsLine p stage) rows → value_rows defs built rows ≡ Ok made → Each (IsMadeRow p stage defs) made
rows_made p stage defs built [] made before all e = subst (Each (IsMadeRow p stage defs)) (sym (fine_is built made e)) before
rows_made p stage defs built (r ∷ rows) made before all e =
    let here = then_is (value_interval defs r) _ made e in
    let ends = interval_is (get_or defs r.row no_row).kind r.rhs (get_or defs r.row no_row).range here.0 here.1 in
    rows_made p stage defs (built ++ value_row r here.0 ∷ []) rows made
    (each_append (IsMadeRow p stage defs) built (value_row r here.0 ∷ []) before (record { stage_is = all.0.stage_is; entries = all.0.entries; in_order = ends.in_order; low = ends.low; high = ends.high }, tt)) all.1 here.2

abbrev pub number_of_row : NodeRow → ℕ
number_of_row r = r.row

-- the rows keep their numbers
pub numbers_made : (defs : List RowDef) (built : List NodeRow) (rows : List RowValues) (made : List NodeRow) → value_rows defs built rows ≡ Ok made →
    map number_of_row made ≡ map number_of_row built ++ map (λ (r : RowValues). r.row) rows
numbers_made defs built [] made e = ap (map number_of_row) (fine_is built made e) ∙ sym (append-nil (map number_of_row built))
numbers_made defs built (r ∷ rows) made e =
    let here = then_is (value_interval defs r) _ made e in
    numbers_made defs (built ++ value_row r here.0 ∷ []) rows made here.2
    ∙ ap (λ (xs : List ℕ). xs ++ map (λ (r : RowValues). r.row) rows) (pushed built (value_row r here.0)) ∙ append_assoc (map number_of_row built) (r.row ∷ []) (map (λ (r : RowValues). r.row) rows)
  where
    pushed : (xs : List NodeRow) (x : NodeRow) → map number_of_row (xs ++ x ∷ []) ≡ map number_of_row xs ++ x.row ∷ []
    pushed [] x = refl
    pushed (y ∷ xs) x = ap (λ (rest : List ℕ). y.row ∷ rest) (pushed xs x)

-- ---- nodes

pub record IsMade (defs : List RowDef) (debut : Debut) (position : Position) (d : Values) (place : Option Node) : Type 0 where
  pub rows : List NodeRow
  pub walk : value_rows defs [] d.rows ≡ Ok rows
  pub is : place ≡ Some (value_node debut position d rows)

-- the nodes of these values, of which the first has the number i
abbrev pub AreMade : List RowDef → List Debut → List Position → ℕ → List Values → List (Option Node) → Type 0
AreMade defs debuts positions i [] [] = Unit {0}
AreMade defs debuts positions i [] (_ ∷ _) = ⊥
AreMade defs debuts positions i (_ ∷ _) [] = ⊥
AreMade defs debuts positions i (d ∷ all) (place ∷ nodes) = IsMade defs (get_or debuts i no_debut) (get_or positions i Root) d place × AreMade defs debuts positions (suc i) all nodes

record Behind (defs : List RowDef) (debuts : List Debut) (positions : List Position) (built : List (Option Node)) (all : List Values) (nodes : List (Option Node)) : Type 0 where
  more : List (Option Node)
  nodes_are : nodes ≡ built ++ more
  made : AreMade defs debuts positions (length built) all more

behind : (defs : List RowDef) (debuts : List Debut) (positions : List Position) (built : List (Option Node)) (all : List Values) (nodes : List (Option Node)) →
    value_nodes defs debuts positions built all ≡ Ok nodes → Behind defs debuts positions built all nodes
behind defs debuts positions built [] nodes e = record { more = []; nodes_are = fine_is built nodes e ∙ sym (append-nil built); made = tt }
behind defs debuts positions built (d ∷ all) nodes e =
    let here = then_is (value_rows defs [] d.rows) _ nodes e in
    let node : Option Node = Some (value_node (get_or debuts (length built) no_debut) (get_or positions (length built) Root) d here.0) in
    let rest = behind defs debuts positions (built ++ node ∷ []) all nodes here.2 in
    let next : length (built ++ node ∷ []) ≡ suc (length built) = omega (arith, length_push built node) in
    record {
      more = node ∷ rest.more;
      nodes_are = rest.nodes_are ∙ append_assoc built (node ∷ []) rest.more;
      made = (record { rows = here.0; walk = here.1; is = refl }, subst (λ (n : ℕ). AreMade defs debuts positions n all rest.more) next rest.made);
    }

pub nodes_made : (defs : List RowDef) (debuts : List Debut) (positions : List Position) (all : List Values) (nodes : List (Option Node)) →
    value_nodes defs debuts positions [] all ≡ Ok nodes → AreMade defs debuts positions 0 all nodes
nodes_made defs debuts positions all nodes e =
    let h = behind defs debuts positions [] all nodes e in
    subst (λ (xs : List (Option Node)). AreMade defs debuts positions 0 all xs) (sym h.nodes_are) h.made

pub live_within : (defs : List RowDef) (debuts : List Debut) (positions : List Position) (i : ℕ) (all : List Values) (nodes : List (Option Node)) (n : ℕ) →
    AreMade defs debuts positions i all nodes → passes_at is_live n nodes ≡ true → n < length all
live_within defs debuts positions i [] [] n made live = cc
live_within defs debuts positions i [] (place ∷ nodes) n made live = absurd made
live_within defs debuts positions i (d ∷ all) [] n made live = absurd made
live_within defs debuts positions i (d ∷ all) (place ∷ nodes) zero made live = omega arith
live_within defs debuts positions i (d ∷ all) (place ∷ nodes) (suc n) made live = omega (arith, live_within defs debuts positions (suc i) all nodes n made.1 live)

-- node n is live, and made of its values
pub record IsThere (defs : List RowDef) (debut : Debut) (position : Position) (d : Values) (nodes : List (Option Node)) (n : ℕ) : Type 0 where
  pub live : passes_at is_live n nodes ≡ true
  pub rows : List NodeRow
  pub walk : value_rows defs [] d.rows ≡ Ok rows
  pub is : node_at nodes n ≡ value_node debut position d rows

pub made_at : (defs : List RowDef) (debuts : List Debut) (positions : List Position) (i : ℕ) (all : List Values) (nodes : List (Option Node)) (n : ℕ) →
    AreMade defs debuts positions i all nodes → n < length all →
    IsThere defs (get_or debuts (i + n) no_debut) (get_or positions (i + n) Root) (get_or all n no_values) nodes n
made_at defs debuts positions i [] nodes n made below = absurd (omega (arith, below))
made_at defs debuts positions i (d ∷ all) [] n made below = absurd made
made_at defs debuts positions i (d ∷ all) (place ∷ nodes) zero made below =
    subst (λ (k : ℕ). IsThere defs (get_or debuts k no_debut) (get_or positions k Root) d (place ∷ nodes) 0) (let e : i ≡ i + 0 = omega arith in e)
    (record { live = ap is_live made.0.is; rows = made.0.rows; walk = made.0.walk; is = ap (λ (x : Option Node). node_at (x ∷ nodes) 0) made.0.is })
made_at defs debuts positions i (d ∷ all) (place ∷ nodes) (suc n) made below =
    let rest = made_at defs debuts positions (suc i) all nodes n made.1 (omega (arith, below)) in
    subst (λ (k : ℕ). IsThere defs (get_or debuts k no_debut) (get_or positions k Root) (get_or all n no_values) (place ∷ nodes) (suc n)) (let e : suc i + n ≡ i + suc n = omega arith in e)
    (record { live = rest.live; rows = rest.rows; walk = rest.walk; is = ap (λ (x : Option Node). node_at (x ∷ nodes) (suc n)) made.0.is ∙ rest.is })

pub made_length : (defs : List RowDef) (debuts : List Debut) (positions : List Position) (i : ℕ) (all : List Values) (nodes : List (Option Node)) → AreMade defs debuts positions i all nodes → length nodes ≡ length all
made_length defs debuts positions i [] [] made = refl
made_length defs debuts positions i [] (place ∷ nodes) made = absurd made
made_length defs debuts positions i (d ∷ all) [] made = absurd made
made_length defs debuts positions i (d ∷ all) (place ∷ nodes) made = ap suc (made_length defs debuts positions (suc i) all nodes made.1)
