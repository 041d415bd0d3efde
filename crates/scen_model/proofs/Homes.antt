-- Passes over the numbers of columns at nodes.
use Rattle.std.proofs.Common.{◌≡◌, ◌≢◌, ℕ, zero, suc, ◌+◌, ◌-◌, ◌<◌, ◌≤◌, ◌⊎◌, inl, inr, Bool, true, false, ◌&&◌, eqb, leb, List, [], ◌∷◌, ◌++◌, Vec, Option, Result, Ok, length, get_or, refl, sym, ap, ap₂, subst, ◌∙◌, arith, eqb-true}
use Rattle.std.specs.declared.alloc.Global.{Global}
use Rattle.std.proofs.Math.ListN.{set}
use Rattle.std.proofs.lemmas.List.{map-set, get_or-set_same, get_or-set_other, get_or-map, length-map, length-append, map-append, get_or_at, get_or_append_left}
use Rattle.std.proofs.lemmas.Bool.{eq-eqb, ne_eqb, eqb-false, and_parts, leb-false}
use Rattle.std.proofs.lemmas.Bool.Decides.{eqb_tells}
use Rattle.rationals.specs.Rational.{ℚ, zero_ℚ, ◌*ℚ◌, mul_zero_ℚ}
use Rattle.rationals.specs.Sparse.{Entry, coefficient, Ascending}
use Rattle.rationals.specs.Passes.{Operation, mul_walk, less_product_walk, then_walk, IsNarrow}
use Rattle.rationals.specs.Choices.{pick}
use Rattle.scen_defs.specs.declared.program.Column.{Column}
use Rattle.scen_defs.specs.declared.program.NodeRow.{NodeRow}
use Rattle.scen_defs.specs.declared.program.Program.{Program as ProgramOf}
use Rattle.scen_defs.specs.declared.program.Node.{Node as NodeOf}
use Rattle.scen_defs.specs.Lists.{passes_at}
use Rattle.scen_defs.specs.Program.{View, Node, Program, content, nodes_content, is_live, view_of, column_at}
use Rattle.scen_defs.specs.Flat.{up, home, is_above}
use Rattle.scen_defs.specs.Walks.{less_from}
use Rattle.scen_model.specs.Walks.{less_step, less_all, reduced_walk}
use Rattle.scen_model.specs.Gathered.{lists_in, is_of, IsSeated, AreSeated, AreApart, column_number, if_home, entry_from, entries_from, AreTotals, LessAt, LessIn, AllMove, IsOnPath, AreStages, ArePriced, IsPriced, AllPriced, AreAll}
use Rattle.rationals.proofs.WalkLaws.{less_zero_product, product_fits}
use Rattle.scen_model.proofs.Reduces.{entries_sum}

-- ---- what is left to do from the numbers now is what there was to do from those at the start
abbrev pub AllSame : {A P : Type 0} → View → List Column → List ℕ → (ℕ → ℕ → ℚ → List A → Result ℚ P) → List (List ℚ) → List A → List (List ℚ) → List A → Type 0
AllSame v columns seats walk now rest start all =
    (k j : ℕ) → is_of columns (v.stage k) j ≡ true → IsNarrow (column_number start seats k j)
    → (walk k j (column_number now seats k j) rest ≡ walk k j (column_number start seats k j) all) × IsNarrow (column_number now seats k j)

module _ (v : View) (columns : List Column) (seats : List ℕ) where
  pub all_start : {A P : Type 0} (walk : ℕ → ℕ → ℚ → List A → Result ℚ P) (start : List (List ℚ)) (all : List A) → AllSame v columns seats walk start all start all
  all_start walk start all k j o f = (refl, f)

  pub all_end : {A P : Type 0} (walk : ℕ → ℕ → ℚ → List A → Result ℚ P) (now start : List (List ℚ)) (rest all : List A) → rest ≡ [] → ((k j : ℕ) (s : ℚ) → walk k j s [] ≡ Ok s)
      → AllSame v columns seats walk now rest start all → AllMove v columns seats (λ k j s. walk k j s all) start now
  all_end walk now start rest all none ends same k j o f =
      let p = same k j o f in
      (sym p.0 ∙ ap (walk k j (column_number now seats k j)) none ∙ ends k j (column_number now seats k j), p.1)

  pub all_next : {A P : Type 0} (walk : ℕ → ℕ → ℚ → List A → Result ℚ P) (step : ℕ → ℕ → ℚ → Result ℚ P) (now new start : List (List ℚ)) (x : A) (left rest all : List A)
      → left ≡ x ∷ rest → ((k j : ℕ) (s : ℚ) → is_of columns (v.stage k) j ≡ true → walk k j s (x ∷ rest) ≡ then_walk (step k j s) (λ t. walk k j t rest))
      → AllSame v columns seats walk now left start all → AllMove v columns seats step now new → AllSame v columns seats walk new rest start all
  all_next walk step now new start x left rest all read law same moves k j o f =
      let p = same k j o f in
      let m = moves k j o p.1 in
      (sym (ap (λ r. then_walk r (λ u. walk k j u rest)) m.0) ∙ sym (law k j (column_number now seats k j) o) ∙ sym (ap (walk k j (column_number now seats k j)) read) ∙ p.0, m.1)

-- ---- at the nodes above one node alone
pick_same : {X : Type 0} (b : Bool) (x : X) → pick b x x ≡ x
pick_same true x = refl
pick_same false x = refl

pick_then : {P : Type 0} (b : Bool) (s : ℚ) (w one : Result ℚ P) (next : ℚ → Result ℚ P) → w ≡ then_walk one next → pick b w (Ok s) ≡ then_walk (pick b one (Ok s)) (λ t. pick b (next t) (Ok t))
pick_then true s w one next e = e
pick_then false s w one next e = refl

abbrev pub home_walk : {A P : Type 0} → View → ℕ → (ℕ → ℚ → List A → Result ℚ P) → ℕ → ℕ → ℚ → List A → Result ℚ P
home_walk v n walk k j s xs = if_home v n k j s (walk j s xs)

module _ (v : View) (columns : List Column) (seats : List ℕ) (n : ℕ) where
  pub home_end : {A P : Type 0} (walk : ℕ → ℚ → List A → Result ℚ P) (now start : List (List ℚ)) (rest all : List A) → rest ≡ [] → ((j : ℕ) (s : ℚ) → walk j s [] ≡ Ok s)
      → AllSame v columns seats (home_walk v n walk) now rest start all → AllMove v columns seats (λ k j s. if_home v n k j s (walk j s all)) start now
  home_end walk now start rest all none ends same =
      all_end v columns seats (home_walk v n walk) now start rest all none
      (λ k j s. ap (λ r. pick (eqb (home v n j) k) r (Ok s)) (ends j s) ∙ pick_same (eqb (home v n j) k) (Ok s)) same

  pub home_next : {A P : Type 0} (walk : ℕ → ℚ → List A → Result ℚ P) (step : ℕ → ℚ → Result ℚ P) (now new start : List (List ℚ)) (x : A) (left rest all : List A)
      → left ≡ x ∷ rest → ((j : ℕ) (s : ℚ) → walk j s (x ∷ rest) ≡ then_walk (step j s) (λ t. walk j t rest))
      → AllSame v columns seats (home_walk v n walk) now left start all → AllMove v columns seats (λ k j s. if_home v n k j s (step j s)) now new
      → AllSame v columns seats (home_walk v n walk) new rest start all
  home_next walk step now new start x left rest all read law same moves =
      all_next v columns seats (home_walk v n walk) (λ k j s. if_home v n k j s (step j s)) now new start x left rest all read
      (λ k j s o. pick_then (eqb (home v n j) k) s (walk j s (x ∷ rest)) (step j s) (λ t. walk j t rest) (law j s)) same moves

-- ---- a node is above another one where it decides its columns there
pub stage_is : (columns : List Column) (s j : ℕ) → is_of columns s j ≡ true → (column_at columns j).stage ≡ s
stage_is [] s j e = absurd (cc)
stage_is (c ∷ columns) s zero e = eqb-true c.stage s e
stage_is (c ∷ columns) s (suc j) e = stage_is columns s j e

pub home_above : (v : View) (k n j : ℕ) → v.stage_of j ≡ v.stage k → eqb (home v n j) k ≡ is_above v k n
home_above v k n j same = ap (λ s. eqb (up v (v.stage n - s) n) k) same ∙ go (leb (v.stage k) (v.stage n)) refl
  where
    go : (b : Bool) → leb (v.stage k) (v.stage n) ≡ b → eqb (up v (v.stage n - v.stage k) n) k ≡ (b && eqb (up v (v.stage n - v.stage k) n) k)
    go true e = refl
    go false e =
        let low = leb-false (v.stage k) (v.stage n) e in
        let none : v.stage n - v.stage k ≡ 0 = omega (arith, low) in
        ap (λ d. eqb (up v d n) k) none ∙ ne_eqb n k (λ q. let h : v.stage n ≡ v.stage k = ap v.stage q in omega (arith, low, h))

-- the rows of a node are taken away at the nodes above it
pub node_moves : (p : ProgramOf) (seats : List ℕ) (y : ℕ → ℕ → ℚ) (n : ℕ) (rows : List NodeRow) (old new : List (List ℚ)) → rows ≡ (view_of (content p)).rows n
    → AllMove (view_of (content p)) p.columns.items seats (λ k j s. if_home (view_of (content p)) n k j s (less_from j (y n) s rows)) old new
    → AllMove (view_of (content p)) p.columns.items seats (λ k j s. less_step (view_of (content p)) y k j s n) old new
node_moves p seats y n rows old new read moves k j o f =
    let v = view_of (content p) in
    let m = moves k j o f in
    let s = column_number old seats k j in (
      ap (λ b. pick b (less_from j (y n) s (v.rows n)) (Ok s)) (sym (home_above v k n j (stage_is p.columns.items (v.stage k) j o)))
          ∙ ap (λ r. pick (eqb (home v n j) k) (less_from j (y n) s r) (Ok s)) (sym read) ∙ m.0,
      m.1,
    )

-- ---- seats
of_read : (columns : List Column) (s i : ℕ) (c : Column) → i < length columns → c ≡ get_or columns i c → is_of columns s i ≡ eqb c.stage s
of_read [] s i c h e = absurd (omega arith)
of_read (d ∷ columns) s zero c h e = ap (λ (x : Column). eqb x.stage s) (sym e)
of_read (d ∷ columns) s (suc i) c h e = of_read columns s i c (omega arith) e

of_within : (columns : List Column) (s j : ℕ) → is_of columns s j ≡ true → j < length columns
of_within [] s j e = absurd (cc)
of_within (c ∷ columns) s zero e = omega arith
of_within (c ∷ columns) s (suc j) e = let h = of_within columns s j e in omega (arith, h)

pub stages_next : (columns : List Column) (place : ℕ) (c : Column) (old new : List ℕ) → place < length columns → c ≡ get_or columns place c → length old ≡ place → new ≡ old ++ c.stage ∷ [] → AreStages columns old → AreStages columns new
stages_next columns place c old new h e long pushed kept j below = go (eqb_tells j place)
  where
    go : (((eqb j place ≡ true) × (j ≡ place)) ⊎ ((eqb j place ≡ false) × (j ≢ place))) → is_of columns (get_or new j 0) j ≡ true
    go (inl q) =
        let at : get_or new j 0 ≡ c.stage = ap (λ (l : List ℕ). get_or l j 0) pushed ∙ get_or_at old c.stage [] 0 j (long ∙ sym q.1) in
        ap₂ (λ s k. is_of columns s k) at q.1 ∙ of_read columns c.stage place c h e ∙ eq-eqb c.stage c.stage refl
    go (inr q) =
        let apart : j ≢ place = q.1 in
        let grown : length new ≡ length old + 1 = ap length pushed ∙ length-append old (c.stage ∷ []) in
        let within : j < length old = omega (arith, below, apart, long, grown) in
        ap (λ s. is_of columns s j) (ap (λ (l : List ℕ). get_or l j 0) pushed ∙ get_or_append_left old (c.stage ∷ []) 0 j within) ∙ kept j within

-- the columns before a place are seated
abbrev pub SeatedTo : List Column → List (List ℕ) → List ℕ → ℕ → Type 0
SeatedTo columns own seats place = (s j : ℕ) → j < place → is_of columns s j ≡ true → IsSeated own seats s j

pub seated_next : (columns : List Column) (own : List (List ℕ)) (seats : List ℕ) (place : ℕ) (c : Column) → place < length columns → c ≡ get_or columns place c → SeatedTo columns own seats place
    → IsSeated own seats c.stage place → SeatedTo columns own seats (place + 1)
seated_next columns own seats place c h e kept here s j below o = go (eqb_tells j place)
  where
    go : (((eqb j place ≡ true) × (j ≡ place)) ⊎ ((eqb j place ≡ false) × (j ≢ place))) → IsSeated own seats s j
    go (inl q) =
        let stage : c.stage ≡ s = eqb-true c.stage s (sym (of_read columns s place c h e) ∙ ap (is_of columns s) (sym q.1) ∙ o) in
        subst (λ k. IsSeated own seats s k) (sym q.1) (subst (λ t. IsSeated own seats t place) stage here)
    go (inr q) = kept s j (let apart : j ≢ place = q.1 in omega (arith, below, apart)) o

pub all_seated : (columns : List Column) (own : List (List ℕ)) (seats : List ℕ) (place : ℕ) → length columns ≤ place → SeatedTo columns own seats place → AreSeated columns own seats
all_seated columns own seats place h kept s j o = kept s j (let w = of_within columns s j o in omega (arith, w, h)) o

pub seats_apart : (columns : List Column) (own : List (List ℕ)) (seats : List ℕ) → AreSeated columns own seats → AreApart columns seats
seats_apart columns own seats seated s i j p q same = sym (seated s i p).there ∙ ap (λ t. get_or (get_or own s []) t 0) same ∙ (seated s j q).there

and_true : (b c : Bool) → c ≡ true → b ≡ (b && c)
and_true true c e = sym e
and_true false c e = refl

-- what is taken from the number at a seat is taken from that of the entry's column
moves_at : (v : View) (columns : List Column) (seats : List ℕ) (n at seat : ℕ) (e : Entry) (y : ℚ) (old new : List (List ℚ)) → AreApart columns seats → at ≡ home v n e.column
    → is_of columns (v.stage at) e.column ≡ true → seat ≡ get_or seats e.column 0 → LessIn at seat e.value y old new → AllMove v columns seats (λ k j s. if_home v n k j s (entry_from e y j s)) old new
moves_at v columns seats n at seat e y old new apart is own sits less k j o f =
    let m = less k (get_or seats j 0) f in (go (eqb e.column j) refl ∙ m.0, m.1)
  where
    s : ℚ
    s = column_number old seats k j

    one : Result ℚ Operation
    one = less_product_walk s e.value y

    apart_there : (eqb e.column j ≡ false) → (b : Bool) → (eqb at k && eqb seat (get_or seats j 0)) ≡ b → b ≡ false
    apart_there p false q = refl
    apart_there p true q =
        let parts = and_parts (eqb at k) (eqb seat (get_or seats j 0)) q in
        let here : at ≡ k = eqb-true at k parts.0 in
        let sat : seat ≡ get_or seats j 0 = eqb-true seat (get_or seats j 0) parts.1 in
        absurd (eqb-false e.column j p (apart (v.stage k) e.column j (subst (λ m. is_of columns (v.stage m) e.column ≡ true) here own) o (sym sits ∙ sat)))

    go : (b : Bool) → eqb e.column j ≡ b → pick (eqb (home v n j) k) (pick b one (Ok s)) (Ok s) ≡ pick (eqb at k && eqb seat (get_or seats j 0)) one (Ok s)
    go true p =
        let same = eqb-true e.column j p in
        let there : home v n j ≡ at = ap (home v n) (sym same) ∙ sym is in
        let sat : eqb seat (get_or seats j 0) ≡ true = eq-eqb seat (get_or seats j 0) (sits ∙ ap (λ c. get_or seats c 0) same) in
        ap (λ b. pick b one (Ok s)) (ap (λ m. eqb m k) there ∙ and_true (eqb at k) (eqb seat (get_or seats j 0)) sat)
    go false p = pick_same (eqb (home v n j) k) (Ok s) ∙ sym (ap (λ b. pick b one (Ok s)) (apart_there p (eqb at k && eqb seat (get_or seats j 0)) refl))

pub entry_moves : (p : ProgramOf) (seats : List ℕ) (n stage at seat : ℕ) (e : Entry) (y : ℚ) (old new : List (List ℚ)) → AreApart p.columns.items seats → is_of p.columns.items stage e.column ≡ true
    → IsOnPath (view_of (content p)) n stage at → seat ≡ get_or seats e.column 0 → LessIn at seat e.value y old new
    → AllMove (view_of (content p)) p.columns.items seats (λ k j s. if_home (view_of (content p)) n k j s (entry_from e y j s)) old new
entry_moves p seats n stage at seat e y old new apart of_stage path sits =
    let v = view_of (content p) in
    moves_at v p.columns.items seats n at seat e y old new apart (path.above ∙ ap (λ t. up v (v.stage n - t) n) (sym (stage_is p.columns.items stage e.column of_stage)))
    (subst (λ t. is_of p.columns.items t e.column ≡ true) (sym path.stage) of_stage) sits

-- the list of one node is changed at one place
abbrev Step : ℕ → ℕ → ℚ → ℚ → Bool → List ℚ → List ℚ → Type 0
Step seat i value y b from to =
    (pick (b && eqb seat i) (less_product_walk (get_or from i zero_ℚ) value y) (Ok (get_or from i zero_ℚ)) ≡ Ok (get_or to i zero_ℚ)) × IsNarrow (get_or to i zero_ℚ)

pub in_list : (old : List (Vec ℚ Global)) (place seat : ℕ) (was list : Vec ℚ Global) (value y : ℚ) (own after : List ℚ) → place < length old → own ≡ (get_or old place was).items → list.items ≡ after → LessAt seat value y own after
    → LessIn place seat value y (lists_in old) (lists_in (set old place list))
in_list old place seat was list value y own after within read written given k i f =
    go (eqb_tells place k)
  where
    is : own ≡ get_or (lists_in old) place []
    is = read ∙ sym (get_or-map (λ (l : Vec ℚ Global). l.items) old place was [] within)

    less : LessAt seat value y own list.items
    less = subst (λ (l : List ℚ). LessAt seat value y own l) (sym written) given

    new_list : get_or (lists_in (set old place list)) k [] ≡ get_or (set (lists_in old) place list.items) k []
    new_list = ap (λ l. get_or l k []) (map-set (λ (l : Vec ℚ Global). l.items) old place list)

    long : place < length (lists_in old)
    long = omega (arith, within, length-map old (λ (l : Vec ℚ Global). l.items))

    go : (((eqb place k ≡ true) × (place ≡ k)) ⊎ ((eqb place k ≡ false) × (place ≢ k))) → Step seat i value y (eqb place k) (get_or (lists_in old) k []) (get_or (lists_in (set old place list)) k [])
    go (inl h) =
        let from : own ≡ get_or (lists_in old) k [] = is ∙ ap (λ m. get_or (lists_in old) m []) h.1 in
        let to : list.items ≡ get_or (lists_in (set old place list)) k [] = sym (get_or-set_same (lists_in old) place list.items [] long) ∙ ap (λ m. get_or (set (lists_in old) place list.items) m []) h.1 ∙ sym new_list in
        subst (λ b. Step seat i value y b (get_or (lists_in old) k []) (get_or (lists_in (set old place list)) k [])) (sym h.0)
        (subst (λ (t : List ℚ). Step seat i value y true (get_or (lists_in old) k []) t) to
        (subst (λ (l : List ℚ). Step seat i value y true l list.items) from (less i (subst (λ (l : List ℚ). IsNarrow (get_or l i zero_ℚ)) (sym from) f))))
    go (inr h) =
        let to : get_or (lists_in old) k [] ≡ get_or (lists_in (set old place list)) k [] = sym (get_or-set_other (lists_in old) place k list.items [] (λ e. h.1 (sym e))) ∙ sym new_list in
        subst (λ b. Step seat i value y b (get_or (lists_in old) k []) (get_or (lists_in (set old place list)) k [])) (sym h.0)
        (subst (λ (t : List ℚ). Step seat i value y false (get_or (lists_in old) k []) t) to (refl, f))

-- numbers from which the entries are taken are numbers from which the row is taken
pub row_moves : (v : View) (columns : List Column) (seats : List ℕ) (n : ℕ) (y : ℚ) (es : List Entry) (old new : List (List ℚ)) → Ascending 0 es
    → AllMove v columns seats (λ k j s. if_home v n k j s (entries_from y j s es)) old new → AllMove v columns seats (λ k j s. if_home v n k j s (less_product_walk s (coefficient es j) y)) old new
row_moves v columns seats n y es old new a moves k j o f =
    let m = moves k j o f in (go (eqb (home v n j) k) m.0, m.1)
  where
    go : (b : Bool) → pick b (entries_from y j (column_number old seats k j) es) (Ok (column_number old seats k j)) ≡ Ok (column_number new seats k j)
        → pick b (less_product_walk (column_number old seats k j) (coefficient es j) y) (Ok (column_number old seats k j)) ≡ Ok (column_number new seats k j)
    go true e = entries_sum 0 j y (column_number old seats k j) (column_number new seats k j) es a f e
    go false e = e

-- a multiplier of 0 takes nothing away
pub row_stays : (v : View) (columns : List Column) (seats : List ℕ) (n : ℕ) (y : ℚ) (es : List Entry) (old : List (List ℚ)) → y ≡ zero_ℚ
    → AllMove v columns seats (λ k j s. if_home v n k j s (less_product_walk s (coefficient es j) y)) old old
row_stays v columns seats n y es old e k j o f = (
  ap (λ r. pick (eqb (home v n j) k) r (Ok (column_number old seats k j))) (less_zero_product (column_number old seats k j) (coefficient es j) y f (ap (λ q. coefficient es j *ℚ q) e ∙ mul_zero_ℚ (coefficient es j)))
      ∙ pick_same (eqb (home v n j) k) (Ok (column_number old seats k j)),
  f,
)

-- ---- the numbers from which all rows are taken are the reduced costs
-- one more number of a list
pub number_next : (total : ℚ) (costs : List Entry) (own : List ℕ) (place : ℕ) (old new : List ℚ) (cost number : ℚ) → length old ≡ place → new ≡ old ++ number ∷ [] → cost ≡ coefficient costs (get_or own place 0)
    → mul_walk total cost ≡ Ok number → ArePriced total costs own old → ArePriced total costs own new
number_next total costs own place old new cost number long pushed is product kept i below = go (eqb_tells i place)
  where
    Priced : List ℚ → Type 0
    Priced numbers = (mul_walk total (coefficient costs (get_or own i 0)) ≡ Ok (get_or numbers i zero_ℚ)) × IsNarrow (get_or numbers i zero_ℚ)

    go : (((eqb i place ≡ true) × (i ≡ place)) ⊎ ((eqb i place ≡ false) × (i ≢ place))) → Priced new
    go (inl q) =
        let at : number ≡ get_or new i zero_ℚ = sym (ap (λ (l : List ℚ). get_or l i zero_ℚ) pushed ∙ get_or_at old number [] zero_ℚ i (long ∙ sym q.1)) in
        let priced : mul_walk total (coefficient costs (get_or own i 0)) ≡ Ok number = ap (λ k. mul_walk total (coefficient costs (get_or own k 0))) q.1 ∙ ap (mul_walk total) (sym is) ∙ product in
        (priced ∙ ap Ok at, subst IsNarrow at (product_fits total cost number product))
    go (inr q) =
        let apart : i ≢ place = q.1 in
        let grown : length new ≡ length old + 1 = ap length pushed ∙ length-append old (number ∷ []) in
        let within : i < length old = omega (arith, below, apart, long, grown) in
        subst Priced (sym pushed) (subst (λ n. (mul_walk total (coefficient costs (get_or own i 0)) ≡ Ok n) × IsNarrow n) (sym (get_or_append_left old (number ∷ []) zero_ℚ i within)) (kept i within))

-- one more list
pub priced_next : (p : Program) (costs : ℕ → List Entry) (totals : List ℚ) (own : List (List ℕ)) (place : ℕ) (old new : List (Vec ℚ Global)) (list : Vec ℚ Global) → length old ≡ place → new ≡ old ++ list ∷ []
    → AllPriced p costs totals own place (lists_in old) → (passes_at is_live place p.nodes ≡ true → IsPriced (view_of p) costs totals own place list.items) → AllPriced p costs totals own (place + 1) (lists_in new)
priced_next p costs totals own place old new list long pushed kept here k below live = go (eqb_tells k place)
  where
    all : lists_in new ≡ lists_in old ++ list.items ∷ []
    all = ap lists_in pushed ∙ map-append (λ (l : Vec ℚ Global). l.items) old (list ∷ [])

    go : (((eqb k place ≡ true) × (k ≡ place)) ⊎ ((eqb k place ≡ false) × (k ≢ place))) → IsPriced (view_of p) costs totals own k (get_or (lists_in new) k [])
    go (inl q) =
        let at : list.items ≡ get_or (lists_in new) k [] = sym (ap (λ (l : List (List ℚ)). get_or l k []) all ∙ get_or_at (lists_in old) list.items [] [] k (length-map old (λ (l : Vec ℚ Global). l.items) ∙ long ∙ sym q.1)) in
        subst (λ (l : List ℚ). IsPriced (view_of p) costs totals own k l) at
        (subst (λ n. IsPriced (view_of p) costs totals own n list.items) (sym q.1) (here (subst (λ n. passes_at is_live n p.nodes ≡ true) q.1 live)))
    go (inr q) =
        let apart : k ≢ place = q.1 in
        let within : k < length (lists_in old) = omega (arith, below, apart, long, length-map old (λ (l : Vec ℚ Global). l.items)) in
        subst (λ (l : List ℚ). IsPriced (view_of p) costs totals own k l) (sym (ap (λ (l : List (List ℚ)). get_or l k []) all ∙ get_or_append_left (lists_in old) (list.items ∷ []) [] k within))
        (kept k (omega (arith, below, apart)) live)

live_within : (nodes : List (Option Node)) (k : ℕ) → passes_at is_live k nodes ≡ true → k < length nodes
live_within [] k e = absurd (cc)
live_within (slot ∷ nodes) zero e = omega arith
live_within (slot ∷ nodes) (suc k) e = let h = live_within nodes k e in omega (arith, h)

pub content_long : (nodes : List (Option NodeOf)) → length (nodes_content nodes) ≡ length nodes
content_long [] = refl
content_long (place ∷ nodes) = ap suc (content_long nodes)

pub reduced_all : (p : ProgramOf) (costs : ℕ → List Entry) (y : ℕ → ℕ → ℚ) (own : List (List ℕ)) (seats : List ℕ) (totals : List ℚ) (old new : List (List ℚ))
    → AreTotals (view_of (content p)) totals → length totals ≡ length p.nodes.items → AreSeated p.columns.items own seats → AllPriced (content p) costs totals own (length (nodes_content p.nodes.items)) old
    → AllMove (view_of (content p)) p.columns.items seats (λ k j s. less_all (view_of (content p)) y k j s) old new → AreAll (content p) seats (reduced_walk costs (view_of (content p)) y) new
reduced_all p costs y own seats totals old new are long seated priced moves k j live o =
    let v = view_of (content p) in
    let h = live_within (nodes_content p.nodes.items) k live in
    let seat = seated (v.stage k) j o in
    let list = priced k h live in
    let q = list.priced (get_or seats j 0) (omega (arith, seat.within, list.long)) in
    let price : mul_walk (get_or totals k zero_ℚ) (coefficient (costs k) j) ≡ Ok (column_number old seats k j) = ap (λ c. mul_walk (get_or totals k zero_ℚ) (coefficient (costs k) c)) (sym seat.there) ∙ q.0 in
    let m = moves k j o q.1 in (
      ap (λ w. then_walk w (λ t. then_walk (mul_walk t (coefficient (costs k) j)) (λ c. less_all v y k j c))) (are k zero_ℚ (omega (arith, h, long, content_long p.nodes.items)))
          ∙ ap (λ w. then_walk w (λ c. less_all v y k j c)) price ∙ m.0,
      m.1,
    )
