-- The program of the means keeps what programs keep.
use Rattle.std.proofs.Common.{◌≡◌, ℕ, zero, suc, ◌+◌, ◌<◌, Bool, true, false, eqb, leb, is_some, List, [], ◌∷◌, length, get_or, drop, map, Option, Some, None, Result, Ok, Err}
use Rattle.std.proofs.Common.{refl, sym, ap, ap₂, subst, ◌∙◌, arith, eqb-true}
use Rattle.rationals.specs.Rational.{ℚ, zero_ℚ, ◌≤ℚ◌}
use Rattle.rationals.specs.Choices.{pick}
use Rattle.rationals.specs.Intervals.{InOrder}
use Rattle.rationals.specs.Sparse.{Entry}
use Rattle.rationals.specs.Passes.{Operation, then_walk, then_value}
use Rattle.rationals.proofs.WalkLaws.{ended}
use Rattle.smps_words.specs.Field.{IsField}
use Rattle.scen_defs.specs.declared.program.Column.{Column}
use Rattle.scen_defs.specs.declared.program.Row.{Row}
use Rattle.scen_defs.specs.declared.program.NodeRow.{NodeRow}
use Rattle.scen_defs.specs.Ends.{number}
use Rattle.scen_defs.specs.Lists.{Each, passes_at, places}
use Rattle.scen_defs.specs.Program.{Node, Scenario, Program, is_live, node_at}
use Rattle.scen_defs.specs.Valid.{IsProgram, FitsNode, FitsRow, FitsScenario, has_low, has_high, row_at}
use Rattle.scen_defs.proofs.SumLaws.{each-map}
use Rattle.scen_defs.proofs.Valid.{each-place}
use Rattle.scen_tree.specs.Trees.{Tree, tree_walk}
use Rattle.edit_defs.specs.Shifts.{no_row}
use Rattle.value_programs.specs.Line.{in_line, stage_before}
use Rattle.value_programs.specs.Mean.{row_end, node_form, is_of_stage, mean_end, mean_form, mean_name, mean_node, mean_nodes, mean_number, mean_row, mean_rows, nodes_of_stage}
use Rattle.value_programs.specs.declared.parts.NodeForm.TheVariants.{Cost, Entries}
use Rattle.value_programs.specs.declared.parts.RowEnd.TheVariants.{Low, High}
use Rattle.value_programs.proofs.LineKeeps.{IsOfStage, line_keeps}
use Rattle.value_programs.proofs.MeanSums.{mean_within, means_ordered, totals_nonneg}

-- a value's parts
record Has {X Y : Type 0} (r : Result X Operation) (f : X → Y) (y : Y) : Type 0 where
  x : X
  walk : r ≡ Ok x
  is : f x ≡ y

has : {X Y : Type 0} (r : Result X Operation) (f : X → Y) (y : Y) → then_value f r ≡ Ok y → Has r f y
has (Ok x) f y e = record { x = x; walk = refl; is = cc }
has (Err p) f y e = absurd (cc)

-- ---- a row among a node's rows
each_get : {A : Type 0} (P : A → Type 0) (xs : List A) (i : ℕ) (d : A) → Each P xs → P d → P (get_or xs i d)
each_get P [] i d h k = k
each_get P (x ∷ xs) zero d h k = h.0
each_get P (x ∷ xs) (suc i) d h k = each_get P xs i d h.1 k

get_map : {A B : Type 0} (f : A → B) (xs : List A) (i : ℕ) (d : A) (e : B) → i < length xs → f (get_or xs i d) ≡ get_or (map f xs) i e
get_map f [] i d e h = absurd (omega (arith, h))
get_map f (x ∷ xs) zero d e h = refl
get_map f (x ∷ xs) (suc i) d e h = get_map f xs i d e (omega (arith, h))

map_long : {A B : Type 0} (f : A → B) (xs : List A) → length (map f xs) ≡ length xs
map_long f [] = refl
map_long f (x ∷ xs) = ap suc (map_long f xs)

of_stage_is : (s n : ℕ) (nodes : List (Option Node)) → passes_at (is_of_stage s) n nodes ≡ true → (passes_at is_live n nodes ≡ true) × ((node_at nodes n).stage ≡ s)
of_stage_is s n [] h = absurd (cc)
of_stage_is s zero (None ∷ nodes) h = absurd (cc)
of_stage_is s zero (Some x ∷ nodes) h = (refl, eqb-true x.stage s h)
of_stage_is s (suc n) (None ∷ nodes) h = of_stage_is s n nodes h
of_stage_is s (suc n) (Some x ∷ nodes) h = of_stage_is s n nodes h

module _ (p : Program) (i : IsProgram p) (w : ℕ → ℚ) (nonneg : (n : ℕ) → zero_ℚ ≤ℚ w n) (s : ℕ) where
  abbrev over : List ℕ
  over = nodes_of_stage p.nodes s

  abbrev node : ℕ → Node
  node n = node_at p.nodes n

  abbrev numbers : List ℕ
  numbers = places (λ (r : Row). eqb r.stage s) 0 p.rows

  -- the nodes of the stage fit
  record Stands (n : ℕ) : Type 0 where
    fits : FitsNode p n (node n)
    stage : (node n).stage ≡ s

  all_stand : Each Stands over
  all_stand = each-place Stands (is_of_stage s) p.nodes (λ n h. let is = of_stage_is s n p.nodes h in record { fits = i.nodes n is.0; stage = is.1 })

  -- ---- forms
  abbrev IsCost : ℕ → Type 0
  IsCost j = passes_at (λ (c : Column). eqb c.stage s) j p.columns ≡ true

  abbrev IsEarlier : ℕ → Type 0
  IsEarlier j = passes_at (λ (c : Column). leb c.stage s) j p.columns ≡ true

  costs_fit : (cost : List Entry) → mean_form w (λ n. node_form Cost (node n)) over ≡ Ok cost → Each (λ (e : Entry). passes_at (λ (c : Column). eqb c.stage s) e.column p.columns ≡ true) cost
  costs_fit cost e = mean_within IsCost w (λ n. node_form Cost (node n)) over cost
      (each-map (λ n (h : Stands n). subst (λ m. Each (λ (e : Entry). passes_at (λ (c : Column). eqb c.stage m) e.column p.columns ≡ true) (node n).cost) h.stage h.fits.cost) over all_stand) e

  entries_fit : (k : ℕ) (entries : List Entry) → mean_form w (λ n. node_form (Entries k) (node n)) over ≡ Ok entries → Each (λ (e : Entry). passes_at (λ (c : Column). leb c.stage s) e.column p.columns ≡ true) entries
  entries_fit k entries e = mean_within IsEarlier w (λ n. node_form (Entries k) (node n)) over entries
      (each-map (λ n (h : Stands n). subst (λ m. Each (λ (e : Entry). passes_at (λ (c : Column). leb c.stage m) e.column p.columns ≡ true) (get_or (node n).rows k no_row).entries) h.stage
      (each_get (λ (r : NodeRow). Each (λ (e : Entry). passes_at (λ (c : Column). leb c.stage (node n).stage) e.column p.columns ≡ true) r.entries) (node n).rows k no_row
      (each-map (λ (r : NodeRow) (f : FitsRow p (node n).stage r). f.entries) (node n).rows h.fits.rows) tt)) over all_stand) e

  -- ---- ends
  both_ordered : (low high : Option ℚ) → InOrder low high → is_some low ≡ true → is_some high ≡ true → number low ≤ℚ number high
  both_ordered (Some l) (Some h) o a b = o
  both_ordered None high o a b = absurd (cc)
  both_ordered (Some l) None o a b = absurd (cc)

  -- the k-th row of the stage is row j
  module _ (k j : ℕ) (within : k < length numbers) (is : get_or numbers k 0 ≡ j) where
    fitting : (n : ℕ) → Stands n → FitsRow p (node n).stage (get_or (node n).rows k no_row)
    fitting n h =
        let long : length (node n).rows ≡ length numbers = sym (map_long (λ (r : NodeRow). r.row) (node n).rows) ∙ ap length h.fits.numbers ∙ ap (λ m. length (places (λ (r : Row). eqb r.stage m) 0 p.rows)) h.stage in
        each_index (node n).rows k (omega (arith, within, long)) h.fits.rows
      where
        each_index : (rows : List NodeRow) (k : ℕ) → k < length rows → Each (FitsRow p (node n).stage) rows → FitsRow p (node n).stage (get_or rows k no_row)
        each_index [] k l f = absurd (omega (arith, l))
        each_index (r ∷ rows) zero l f = f.0
        each_index (r ∷ rows) (suc k) l f = each_index rows k (omega (arith, l)) f.1

    is_row : (n : ℕ) → Stands n → (get_or (node n).rows k no_row).row ≡ j
    is_row n h =
        let long : length (node n).rows ≡ length numbers = sym (map_long (λ (r : NodeRow). r.row) (node n).rows) ∙ ap length h.fits.numbers ∙ ap (λ m. length (places (λ (r : Row). eqb r.stage m) 0 p.rows)) h.stage in
        get_map (λ (r : NodeRow). r.row) (node n).rows k no_row 0 (omega (arith, within, long))
        ∙ ap (λ (l : List ℕ). get_or l k 0) (h.fits.numbers ∙ ap (λ m. places (λ (r : Row). eqb r.stage m) 0 p.rows) h.stage) ∙ is

    ends_ordered : (l h : ℚ) → has_low (row_at p.rows j).kind (row_at p.rows j).range ≡ true → has_high (row_at p.rows j).kind (row_at p.rows j).range ≡ true
        → mean_number w (λ n. number (row_end Low k (node n))) over ≡ Ok l → mean_number w (λ n. number (row_end High k (node n))) over ≡ Ok h → l ≤ℚ h
    ends_ordered l h a b e f = means_ordered w (λ n. number (row_end Low k (node n))) (λ n. number (row_end High k (node n))) over l h
        (each-map (λ n (x : Stands n). let r = fitting n x in (
          nonneg n,
          both_ordered (get_or (node n).rows k no_row).low (get_or (node n).rows k no_row).high r.in_order
              (r.ends.low ∙ ap (λ m. has_low (row_at p.rows m).kind (row_at p.rows m).range) (is_row n x) ∙ a)
              (r.ends.high ∙ ap (λ m. has_high (row_at p.rows m).kind (row_at p.rows m).range) (is_row n x) ∙ b),
        )) over all_stand) e f

    in_order : (a b : Bool) (low high : Option ℚ) → has_low (row_at p.rows j).kind (row_at p.rows j).range ≡ a → has_high (row_at p.rows j).kind (row_at p.rows j).range ≡ b
        → mean_end a (mean_number w (λ n. number (row_end Low k (node n))) over) ≡ Ok low → mean_end b (mean_number w (λ n. number (row_end High k (node n))) over) ≡ Ok high
        → InOrder low high × ((is_some low ≡ a) × (is_some high ≡ b))
    in_order false false low high x y e f = let l : None ≡ low = cc in let h : None ≡ high = cc in
        subst (λ o. InOrder o high × ((is_some o ≡ false) × (is_some high ≡ false))) l (tt, (refl, ap is_some (sym h)))
    in_order false true low high x y e f = let l : None ≡ low = cc in let h = has (mean_number w (λ n. number (row_end High k (node n))) over) Some high f in
        subst (λ o. InOrder o high × ((is_some o ≡ false) × (is_some high ≡ true))) l (tt, (refl, ap is_some (sym h.is)))
    in_order true false low high x y e f = let h : None ≡ high = cc in let l = has (mean_number w (λ n. number (row_end Low k (node n))) over) Some low e in
        subst (λ o. InOrder low o × ((is_some low ≡ true) × (is_some o ≡ false))) h
        (subst (λ o. InOrder o None × ((is_some o ≡ true) × (false ≡ false))) l.is (tt, (refl, refl)))
    in_order true true low high x y e f =
        let l = has (mean_number w (λ n. number (row_end Low k (node n))) over) Some low e in
        let h = has (mean_number w (λ n. number (row_end High k (node n))) over) Some high f in
        subst (λ o. InOrder o high × ((is_some o ≡ true) × (is_some high ≡ true))) l.is
        (subst (λ o. InOrder (Some l.x) o × ((true ≡ true) × (is_some o ≡ true))) h.is (ends_ordered l.x h.x x y l.walk h.walk, (refl, refl)))

    row_fits : (r : NodeRow) → mean_row p.nodes w over j k (row_at p.rows j) ≡ Ok r → FitsRow p s r × (r.row ≡ j)
    row_fits r e =
        let row : Row = row_at p.rows j in
        let a = ended (mean_end (has_low row.kind row.range) (mean_number w (λ n. number (row_end Low k (node n))) over)) _ r e in
        let b = ended (mean_end (has_high row.kind row.range) (mean_number w (λ n. number (row_end High k (node n))) over)) _ r a.next_is in
        let c = has (mean_form w (λ n. node_form (Entries k) (node n)) over) (λ entries. let x : NodeRow = record { row = j; entries = entries; low = a.result; high = b.result } in x) r b.next_is in
        let o = in_order (has_low row.kind row.range) (has_high row.kind row.range) a.result b.result refl refl a.first_is b.first_is in
        subst (λ (x : NodeRow). FitsRow p s x × (x.row ≡ j)) c.is
        (record { entries = entries_fit k c.x c.walk; in_order = o.0; ends = record { low = o.1.0; high = o.1.1 } }, refl)

  -- ---- the rows of the stage
  row_here : (rows : List Row) (j : ℕ) (row : Row) (rest : List Row) → drop j rows ≡ row ∷ rest → row_at rows j ≡ row
  row_here [] j row rest e = absurd (none j e)
    where
      none : (j : ℕ) → drop j [] ≡ row ∷ rest → ⊥
      none zero e = absurd (cc)
      none (suc j) e = absurd (cc)
  row_here (r ∷ rows) zero row rest e = cc
  row_here (r ∷ rows) (suc j) row rest e = row_here rows j row rest e

  next_row : (rows : List Row) (j : ℕ) (row : Row) (rest : List Row) → drop j rows ≡ row ∷ rest → drop (suc j) rows ≡ rest
  next_row [] zero row rest e = absurd (cc)
  next_row [] (suc j) row rest e = absurd (cc)
  next_row (r ∷ rows) zero row rest e = cc
  next_row (r ∷ rows) (suc j) row rest e = next_row rows j row rest e

  -- the numbers from place k on are those of the rows from row j on
  behind_get : (xs : List ℕ) (k j : ℕ) (rest : List ℕ) → drop k xs ≡ j ∷ rest → (k < length xs) × ((get_or xs k 0 ≡ j) × (drop (suc k) xs ≡ rest))
  behind_get [] zero j rest e = absurd (cc)
  behind_get [] (suc k) j rest e = absurd (cc)
  behind_get (x ∷ xs) zero j rest e = (omega arith, (cc, cc))
  behind_get (x ∷ xs) (suc k) j rest e = let h = behind_get xs k j rest e in (omega (arith, h.0), h.1)

  rows_fit : (j k : ℕ) (rows : List Row) (made : List NodeRow) → drop j p.rows ≡ rows → drop k numbers ≡ places (λ (r : Row). eqb r.stage s) j rows
      → mean_rows p.nodes w over s j k rows ≡ Ok made → Each (FitsRow p s) made × (map (λ (r : NodeRow). r.row) made ≡ places (λ (r : Row). eqb r.stage s) j rows)
  rows_fit j k [] made e n h = let same : [] ≡ made = cc in subst (λ l. Each (FitsRow p s) l × (map (λ (r : NodeRow). r.row) l ≡ [])) same (tt, refl)
  rows_fit j k (row ∷ rows) made e n h =
      go (eqb row.stage s) (λ rest m g q. rows_fit (suc j) m rows rest (next_row p.rows j row rows e) g q) n h
    where
      go : (b : Bool) → ((rest : List NodeRow) → (k : ℕ) → drop k numbers ≡ places (λ (r : Row). eqb r.stage s) (suc j) rows → mean_rows p.nodes w over s (suc j) k rows ≡ Ok rest
          → Each (FitsRow p s) rest × (map (λ (r : NodeRow). r.row) rest ≡ places (λ (r : Row). eqb r.stage s) (suc j) rows))
          → drop k numbers ≡ elim b [ true ↦ j ∷ places (λ (r : Row). eqb r.stage s) (suc j) rows | false ↦ places (λ (r : Row). eqb r.stage s) (suc j) rows ]
          → pick b (then_walk (mean_row p.nodes w over j k row) (λ r. then_value (λ rs. r ∷ rs) (mean_rows p.nodes w over s (suc j) (suc k) rows))) (mean_rows p.nodes w over s (suc j) k rows) ≡ Ok made
          → Each (FitsRow p s) made × (map (λ (r : NodeRow). r.row) made ≡ elim b [ true ↦ j ∷ places (λ (r : Row). eqb r.stage s) (suc j) rows | false ↦ places (λ (r : Row). eqb r.stage s) (suc j) rows ])
      go true again n h =
          let x = ended (mean_row p.nodes w over j k row) (λ r. then_value (λ rs. r ∷ rs) (mean_rows p.nodes w over s (suc j) (suc k) rows)) made h in
          let y = has (mean_rows p.nodes w over s (suc j) (suc k) rows) (λ rs. x.result ∷ rs) made x.next_is in
          let place = behind_get numbers k j (places (λ (r : Row). eqb r.stage s) (suc j) rows) n in
          let first = row_fits k j place.0 place.1.0 x.result (ap (λ (r : Row). mean_row p.nodes w over j k r) (row_here p.rows j row rows e) ∙ x.first_is) in
          let later = again y.x (suc k) place.1.1 y.walk in
          subst (λ (l : List NodeRow). Each (FitsRow p s) l × (map (λ (r : NodeRow). r.row) l ≡ j ∷ places (λ (r : Row). eqb r.stage s) (suc j) rows)) y.is
          ((first.0, later.0), ap₂ (λ a b. a ∷ b) first.1 later.1)
      go false again n h = again made k n h

  node_fits : (x : Node) → mean_node p w s ≡ Ok x → IsOfStage p s x
  node_fits x e =
      let a = ended (mean_form w (λ n. node_form Cost (node n)) over) _ x e in
      let b = ended (mean_rows p.nodes w over s 0 0 p.rows) _ x a.next_is in
      let is : (let y : Node = record { stage = s; parent = stage_before s; cost = a.result; rows = b.result } in y) ≡ x = cc in
      let rows = rows_fit 0 0 p.rows b.result refl refl b.first_is in
      subst (IsOfStage p s) is (record { stage = refl; parent = refl; cost = costs_fit a.result a.first_is; numbers = rows.1; rows = rows.0 })

-- ---- the nodes of all stages
record HasStages (p : Program) (s count : ℕ) (made : List (Option Node)) : Type 0 where
  long : length made ≡ count
  live : (k : ℕ) → k < count → passes_at is_live k made ≡ true
  stages : (k : ℕ) → k < count → IsOfStage p (s + k) (node_at made k)

module _ (p : Program) (i : IsProgram p) (w : ℕ → ℚ) (nonneg : (n : ℕ) → zero_ℚ ≤ℚ w n) where
  stages_fit : (s count : ℕ) (made : List (Option Node)) → mean_nodes p w s count ≡ Ok made → HasStages p s count made
  stages_fit s zero made e = let same : [] ≡ made = cc in
      subst (HasStages p s 0) same (record { long = refl; live = λ k h. absurd (omega (arith, h)); stages = λ k h. absurd (omega (arith, h)) })
  stages_fit s (suc count) made e =
      let x = ended (mean_node p w s) (λ n. then_value (λ ns. Some n ∷ ns) (mean_nodes p w (suc s) count)) made e in
      let y = has (mean_nodes p w (suc s) count) (λ (ns : List (Option Node)). Some x.result ∷ ns) made x.next_is in
      let later = stages_fit (suc s) count y.x y.walk in
      let first = node_fits p i w nonneg s x.result x.first_is in
      subst (HasStages p s (suc count)) y.is
      (record { long = ap suc later.long; live = live x.result y.x later.live; stages = stages x.result y.x later.stages first })
    where
      live : (x : Node) (rest : List (Option Node)) → ((k : ℕ) → k < count → passes_at is_live k rest ≡ true) → (k : ℕ) → k < suc count → passes_at is_live k (Some x ∷ rest) ≡ true
      live x rest h zero l = refl
      live x rest h (suc k) l = h k (omega (arith, l))

      stages : (x : Node) (rest : List (Option Node)) → ((k : ℕ) → k < count → IsOfStage p (suc s + k) (node_at rest k)) → IsOfStage p s x → (k : ℕ) → k < suc count → IsOfStage p (s + k) (node_at (Some x ∷ rest) k)
      stages x rest h f zero l = subst (λ m. IsOfStage p m x) (omega arith) f
      stages x rest h f (suc k) l = subst (λ m. IsOfStage p m (node_at rest k)) (omega arith) (h k (omega (arith, l)))

named : IsField mean_name
named = record { some = omega arith; unbroken = (refl, (refl, (refl, (refl, tt)))) }

pub mean_keeps : (p : Program) (tree : Tree) (made : List (Option Node)) → IsProgram p → tree_walk p ≡ Ok tree → mean_nodes p (λ n. get_or tree.chances.totals n zero_ℚ) 0 (length p.periods) ≡ Ok made → IsProgram (in_line p mean_name made)
mean_keeps p tree made i t e =
    let all = stages_fit p i (λ n. get_or tree.chances.totals n zero_ℚ) (totals_nonneg p tree t (each-map (λ (c : Scenario) (h : FitsScenario p c). h.positive) p.scenarios i.scenarios)) 0 (length p.periods) made e in
    line_keeps p mean_name made i named (record {
      long = all.long;
      live = λ k h. all.live k (subst (λ n. k < n) all.long h);
      stages = λ k h. subst (λ m. IsOfStage p m (node_at made k)) (omega arith) (all.stages k (subst (λ n. k < n) all.long h));
    })
